-- A tree whose tokens are proper is so.
use Rattle.std.proofs.Common.{◌≡◌, subst, ℕ, List, [], ◌∷◌, ◌++◌, Option, IsUtf8, false}
use Rattle.json_grammar.specs.Proper.{IsProper, AreProper, ArePairsProper}
use Rattle.json_grammar.specs.Tree.{Tree, null, boolean, num, text, list, pairs, Trees, no_trees, tree_and, Pairs, no_pairs, pair_and, Token, end, tokens, trees_tokens, pairs_tokens}
use Rattle.json_grammar.specs.declared.Kind.TheVariants.{Array as array, Object as object}
use Rattle.json_grammar.proofs.TextUtf8.{text_utf8}
use Rattle.json_model.specs.Print.{shown, IsIndent}
use Rattle.json_model.proofs.Printing.{shown_text}
use Rattle.json_print.specs.Given.{TokenOrInteger, given_tokens}
use Rattle.json_write.specs.Writing.{IsTokenProper, AreTokensProper}

abbrev AreProperTokens : List Token → Type 0
AreProperTokens [] = Unit {0}
AreProperTokens (t ∷ ts) = IsTokenProper t × AreProperTokens ts

front_proper : (a b : List Token) → AreProperTokens (a ++ b) → AreProperTokens a
front_proper [] b h = tt
front_proper (t ∷ a) b h = (h.0, front_proper a b h.1)

back_proper : (a b : List Token) → AreProperTokens (a ++ b) → AreProperTokens b
back_proper [] b h = h
back_proper (t ∷ a) b h = back_proper a b h.1

mutual
  pub tree_proper : (t : Tree) → AreProperTokens (tokens t) → IsProper t
  tree_proper null h = tt
  tree_proper (boolean b) h = tt
  tree_proper (num l) h = h.0
  tree_proper (text s) h = h.0
  tree_proper (list ts) h = trees_proper ts (front_proper (trees_tokens ts) (end array ∷ []) h.1)
  tree_proper (pairs ps) h = pairs_proper ps (front_proper (pairs_tokens ps) (end object ∷ []) h.1)

  trees_proper : (ts : Trees) → AreProperTokens (trees_tokens ts) → AreProper ts
  trees_proper no_trees h = tt
  trees_proper (tree_and t ts) h = (tree_proper t (front_proper (tokens t) (trees_tokens ts) h), trees_proper ts (back_proper (tokens t) (trees_tokens ts) h))

  pairs_proper : (ps : Pairs) → AreProperTokens (pairs_tokens ps) → ArePairsProper ps
  pairs_proper no_pairs h = tt
  pairs_proper (pair_and k t ps) h = (h.0, tree_proper t (front_proper (tokens t) (pairs_tokens ps) h.1), pairs_proper ps (back_proper (tokens t) (pairs_tokens ps) h.1))

given_proper : (gs : List TokenOrInteger) → AreTokensProper gs → AreProperTokens (given_tokens gs)
given_proper [] h = tt
given_proper (g ∷ gs) h = (h.0, given_proper gs h.1)

-- so its text is UTF-8
pub shown_utf8 : (i : Option (List ℕ)) (t : Tree) (gs : List TokenOrInteger) → IsIndent i → given_tokens gs ≡ tokens t → AreTokensProper gs → IsUtf8 (shown i 0 t)
shown_utf8 i t gs n e h = text_utf8 false t (shown i 0 t) (shown_text false i t n (tree_proper t (subst AreProperTokens e (given_proper gs h))))
