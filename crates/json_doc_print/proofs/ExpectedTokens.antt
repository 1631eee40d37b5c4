-- What may follow what is given of trees.
use Rattle.std.proofs.Common.{◌≡◌, List, [], ◌∷◌, ◌++◌, ℕ, ℤ, Option, Some, None, refl, ap, ◌∙◌}
use Rattle.json_grammar.specs.declared.Kind.{Kind}
use Rattle.json_grammar.specs.declared.Kind.TheVariants.{Array as array, Object as object}
use Rattle.json_grammar.specs.Tree.{Tree, null, boolean, num, text, list, pairs, Trees, no_trees, tree_and, Pairs, no_pairs, pair_and, end, key_token}
use Rattle.json_grammar.specs.TokenStates.{TokenState, state_in, state_after_value, after_token, after_tokens}
use Rattle.json_grammar.proofs.TokenStates as states
use Rattle.json_print.specs.Given.{TokenOrInteger, given, given_tokens}
use Rattle.json_print.specs.Taking.{after_all}
use Rattle.json_print.proofs.Taking.{tokens_append}
use Rattle.json_number.specs.Integers.{integer_in}
use Rattle.json_doc_print.specs.Emitting.{number_given, tree_given, trees_given, pairs_given}

pub after_append : {S : Type 0} (after : S → TokenOrInteger → S) (s : S) (a b : List TokenOrInteger) → after_all after s (a ++ b) ≡ after_all after (after_all after s a) b
after_append after s [] b = refl
after_append after s (x ∷ a) b = after_append after (after s x) a b

two : (s : TokenState) (a b : List TokenOrInteger) → after_tokens s (given_tokens (a ++ b)) ≡ after_tokens (after_tokens s (given_tokens a)) (given_tokens b)
two s a b = ap (after_tokens s) (tokens_append a b) ∙ states.after_append s (given_tokens a) (given_tokens b)

-- one after another, where the first leads to z
then_to : (s z : TokenState) (a b : List TokenOrInteger) → after_tokens s (given_tokens a) ≡ z → after_tokens s (given_tokens (a ++ b)) ≡ after_tokens z (given_tokens b)
then_to s z a b e = two s a b ∙ ap (λ (y : TokenState). after_tokens y (given_tokens b)) e

number_state : (s : TokenState) (o : Option ℤ) (l : List ℕ) → after_tokens s (given_tokens (number_given o l ∷ [])) ≡ state_after_value s
number_state s (Some n) l = refl
number_state s None l = refl

mutual
  -- a tree leads to the state after a value
  pub tree_stand : (s : TokenState) (t : Tree) → after_tokens s (given_tokens (tree_given t)) ≡ state_after_value s
  tree_stand s null = refl
  tree_stand s (boolean b) = refl
  tree_stand s (num l) = number_state s (integer_in l) l
  tree_stand s (text c) = refl
  tree_stand s (list ts) = then_to (state_in (array ∷ s.opened)) (state_in (array ∷ s.opened)) (trees_given ts) (given (end array) ∷ []) (trees_stand s.opened ts)
  tree_stand s (pairs ps) = then_to (state_in (object ∷ s.opened)) (state_in (object ∷ s.opened)) (pairs_given ps) (given (end object) ∷ []) (pairs_stand s.opened ps)

  trees_stand : (c : List Kind) (ts : Trees) → after_tokens (state_in (array ∷ c)) (given_tokens (trees_given ts)) ≡ state_in (array ∷ c)
  trees_stand c no_trees = refl
  trees_stand c (tree_and t ts) = then_to (state_in (array ∷ c)) (state_in (array ∷ c)) (tree_given t) (trees_given ts) (tree_stand (state_in (array ∷ c)) t) ∙ trees_stand c ts

  pairs_stand : (c : List Kind) (ps : Pairs) → after_tokens (state_in (object ∷ c)) (given_tokens (pairs_given ps)) ≡ state_in (object ∷ c)
  pairs_stand c no_pairs = refl
  pairs_stand c (pair_and k t ps) =
      let s = after_token (state_in (object ∷ c)) (key_token k) in then_to s (state_in (object ∷ c)) (tree_given t) (pairs_given ps) (tree_stand s t) ∙ pairs_stand c ps

-- ---- within an array

-- what is given of trees in turn
abbrev pub all_given : List Tree → List TokenOrInteger
all_given [] = []
all_given (t ∷ ts) = tree_given t ++ all_given ts

-- an element or the end may follow
pub elements_state : (c : List Kind) (ts : List Tree) → after_tokens (state_in (array ∷ c)) (given_tokens (all_given ts)) ≡ state_in (array ∷ c)
elements_state c [] = refl
elements_state c (t ∷ ts) = then_to (state_in (array ∷ c)) (state_in (array ∷ c)) (tree_given t) (all_given ts) (tree_stand (state_in (array ∷ c)) t) ∙ elements_state c ts

-- ---- within an object

-- what is given of pairs in turn
abbrev pub all_pairs : List (List ℕ × Tree) → List TokenOrInteger
all_pairs [] = []
all_pairs (p ∷ ps) = given (key_token p.0) ∷ (tree_given p.1 ++ all_pairs ps)

-- a name or the end may follow
pub members_state : (c : List Kind) (ps : List (List ℕ × Tree)) → after_tokens (state_in (object ∷ c)) (given_tokens (all_pairs ps)) ≡ state_in (object ∷ c)
members_state c [] = refl
members_state c (p ∷ ps) =
    let s = after_token (state_in (object ∷ c)) (key_token p.0) in then_to s (state_in (object ∷ c)) (tree_given p.1) (all_pairs ps) (tree_stand s p.1) ∙ members_state c ps
