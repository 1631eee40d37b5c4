-- Arrays of a fixed number of elements, each of a type of its own: tuples.
use Rattle.std.specs.Prelude.{◌≡◌, List, [], ◌∷◌, ◌++◌, true, false}
use Rattle.json_grammar.specs.declared.Kind.TheVariants.{Array as array}
use Rattle.json_grammar.specs.Tree.{Tree, Trees, list, no_trees, tree_and, Token as Tok, trees_tokens, end}
use Rattle.json_io.specs.declared.error.Error.{Error}
use Rattle.json_io.specs.declared.error.ErrorCode.TheVariants.{TypeUnmatched}
use Rattle.json_tokens.specs.Refusals.{is_refusal, error_without_place}
use Rattle.json_tokens.specs.ExpectedTokens.{around}
use Rattle.json_tokens.specs.TokensStates.{TokensState, TakesTokens, Moves}
use Rattle.json_data.specs.Reading.{Reading, Series, gives_all, stops, prepend_reading, as_list, refuses}
use Rattle.json_data.specs.Reader.{GivesUp}

-- each element by its own reading: the elements' refusals first, then that of another length
abbrev pub elements_by : List (Tree → Reading) → Trees → Series
elements_by [] no_trees = gives_all []
elements_by [] (tree_and t ts) = stops TypeUnmatched
elements_by (f ∷ fs) no_trees = stops TypeUnmatched
elements_by (f ∷ fs) (tree_and t ts) = prepend_reading (f t) (elements_by fs ts)

abbrev pub read_tuple : List (Tree → Reading) → Tree → Reading
read_tuple fs (list ts) = as_list (elements_by fs ts)
read_tuple fs _ = refuses TypeUnmatched

-- ---- from within an array

-- the elements that were left of the innermost array were taken, and its end
pub record TakesElements {S : Type 0} (taken : S → List Tok → Type 0) (state : S → TokensState) (a b : S) (ts : Trees) : Type 0 where
  pub takes : TakesTokens taken a (trees_tokens ts ++ end array ∷ []) b
  pub moves : Moves (state a) (state b) (around (state a).expected)

-- and s is what is read of them
pub record ReadsElements {S : Type 0} (taken : S → List Tok → Type 0) (state : S → TokensState) (fs : List (Tree → Reading)) (a b : S) (s : Series) : Type 0 where
  pub elements : Trees
  pub takes : TakesElements taken state a b elements
  pub series : elements_by fs elements ≡ s

-- e is a refusal of the elements that were taken, or none
pub record StopsElements {S : Type 0} (taken : S → List Tok → Type 0) (state : S → TokensState) (fs : List (Tree → Reading)) (a b : S) (e : Error) : Type 0 where
  pub refused : is_refusal e.code ≡ true → (e ≡ error_without_place e.code) × ReadsElements taken state fs a b (stops e.code)
  pub gave_up : is_refusal e.code ≡ false → GivesUp (state a) (state b) e
