-- What is given of a tree, and its tokens.
use Rattle.std.proofs.Common.{◌≡◌, ◌^◌, ℕ, ℤ, pos, negsuc, List, [], ◌∷◌, ◌++◌, Option, Some, None, refl, ap, ap₂, ◌∙◌, ◌<◌, SFits, w64, arith}
use Rattle.json_grammar.specs.declared.Kind.TheVariants.{Array as array, Object as object}
use Rattle.json_grammar.specs.Grammar.{number}
use Rattle.json_grammar.specs.Proper.{IsProper, AreProper, ArePairsProper}
use Rattle.json_grammar.specs.Tree.{Tree, null, boolean, num, text, list, pairs, Trees, no_trees, tree_and, Pairs, no_pairs, pair_and, num_token, begin, end, key_token, tokens, trees_tokens, pairs_tokens}
use Rattle.json_number.specs.Integers.{integer_in}
use Rattle.json_number.specs.Numbers.{value_of, text_of_number}
use Rattle.json_number.specs.declared.number.Number.{Number}
use Rattle.json_number.proofs.Forms.{reads}
use Rattle.json_number.proofs.Integers.{prints_its_literal}
use Rattle.json_print.specs.Given.{given, given_integer, token_of, given_tokens}
use Rattle.json_print.proofs.Taking.{tokens_append}
use Rattle.json_doc_print.specs.Emitting.{number_given, tree_given, trees_given, pairs_given}
use Rattle.std.specs.Int.{w128}

-- ---- numbers by value

pub number_is : (x : Number) → tree_given (num (text_of_number x)) ≡ given_integer (value_of x) ∷ []
number_is x = ap (λ o. number_given o (text_of_number x) ∷ []) (reads x).1

-- `i128` has room for each integer of `i64`
pub widened : (z : ℤ) → SFits w64 z → SFits w128 z
widened (pos n) f = let k : n < 2 ^ 63 = f.sfits in record { sfits = omega (arith, k) }
widened (negsuc n) f = let k : n < 2 ^ 63 = f.sfits in record { sfits = omega (arith, k) }

-- ---- the tokens of what is given

number_token : (o : Option ℤ) (l : List ℕ) → number l → integer_in l ≡ o → token_of (number_given o l) ≡ num_token l
number_token (Some n) l h e = ap num_token (prints_its_literal l n h e)
number_token None l h e = refl

mutual
  -- they are those of the tree
  pub tokens_given : (t : Tree) → IsProper t → given_tokens (tree_given t) ≡ tokens t
  tokens_given null h = refl
  tokens_given (boolean b) h = refl
  tokens_given (num l) h = ap (λ t. t ∷ []) (number_token (integer_in l) l h refl)
  tokens_given (text s) h = refl
  tokens_given (list ts) h = ap (λ o. begin array ∷ o) (tokens_append (trees_given ts) (given (end array) ∷ []) ∙ ap (λ o. o ++ end array ∷ []) (trees_tokens_given ts h))
  tokens_given (pairs ps) h = ap (λ o. begin object ∷ o) (tokens_append (pairs_given ps) (given (end object) ∷ []) ∙ ap (λ o. o ++ end object ∷ []) (pairs_tokens_given ps h))

  trees_tokens_given : (ts : Trees) → AreProper ts → given_tokens (trees_given ts) ≡ trees_tokens ts
  trees_tokens_given no_trees h = refl
  trees_tokens_given (tree_and t ts) h = tokens_append (tree_given t) (trees_given ts) ∙ ap₂ (λ a b. a ++ b) (tokens_given t h.0) (trees_tokens_given ts h.1)

  pairs_tokens_given : (ps : Pairs) → ArePairsProper ps → given_tokens (pairs_given ps) ≡ pairs_tokens ps
  pairs_tokens_given no_pairs h = refl
  pairs_tokens_given (pair_and k t ps) h = ap (λ o. key_token k ∷ o) (tokens_append (tree_given t) (pairs_given ps) ∙ ap₂ (λ a b. a ++ b) (tokens_given t h.1) (pairs_tokens_given ps h.2))
