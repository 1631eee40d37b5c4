-- What it is to give a tree to events.
use Rattle.std.specs.Prelude.{◌≡◌, ℕ, ℤ, List, [], ◌∷◌, ◌++◌, Option, None, Some, Result, Ok, Err, OnOk, IfErr, IfSome}
use Rattle.json_grammar.specs.declared.Kind.TheVariants.{Array as array, Object as object}
use Rattle.json_grammar.specs.Tree.{Tree, null, boolean, num, text, list, pairs, Trees, no_trees, tree_and, Pairs, no_pairs, pair_and, null_token, boolean_token, num_token, text_token, begin, end, key_token}
use Rattle.json_io.specs.declared.error.Error.{Error}
use Rattle.json_number.specs.Integers.{integer_in}
use Rattle.json_print.specs.Given.{TokenOrInteger, given, given_integer}
use Rattle.json_print.specs.Taking.{after_all, StopsAmong}
use Rattle.json_doc_print.specs.declared.walk.EventsFailed.{EventsFailed}

-- a number is given as its integer, where that lies in i64 or u64, else by its literal
abbrev pub number_given : Option ℤ → List ℕ → TokenOrInteger
number_given (Some n) l = given_integer n
number_given None l = given (num_token l)

abbrev mutual
  -- what is given of a tree, from left to right: its tokens, and in place of some the integers that they spell
  pub tree_given : Tree → List TokenOrInteger
  tree_given null = given null_token ∷ []
  tree_given (boolean b) = given (boolean_token b) ∷ []
  tree_given (num l) = number_given (integer_in l) l ∷ []
  tree_given (text s) = given (text_token s) ∷ []
  tree_given (list ts) = given (begin array) ∷ (trees_given ts ++ given (end array) ∷ [])
  tree_given (pairs ps) = given (begin object) ∷ (pairs_given ps ++ given (end object) ∷ [])

  pub trees_given : Trees → List TokenOrInteger
  trees_given no_trees = []
  trees_given (tree_and t ts) = tree_given t ++ trees_given ts

  pub pairs_given : Pairs → List TokenOrInteger
  pairs_given no_pairs = []
  pairs_given (pair_and k t ps) = given (key_token k) ∷ (tree_given t ++ pairs_given ps)

-- these were given in turn, up to the first that met an error; where an error was answered before, it is answered again
pub record Emits {S : Type 0} (after : S → TokenOrInteger → S) (stopped : S → TokenOrInteger → S → Error → Type 0) (old new : S) (err err' : Option Error) (gs : List TokenOrInteger) (result : Result (Unit {0}) Error) : Type 0 where
  pub all : OnOk result (new ≡ after_all after old gs)
  pub fresh : OnOk result (err' ≡ None)
  -- an error is that of the events
  pub failed : IfErr result (λ e. err' ≡ Some e)
  pub stops : err ≡ None → IfErr result (StopsAmong after stopped old new gs)
  pub again : IfSome err (λ e. (result ≡ Err e) × (new ≡ old))

-- a walk that went on has given them all; one that stopped has met an error, which the events keep
abbrev pub Walks : {S : Type 0} → (S → TokenOrInteger → S) → (S → TokenOrInteger → S → Error → Type 0) → S → S → Option Error → Option Error → List TokenOrInteger → Result (Unit {0}) EventsFailed → Type 0
Walks after stopped old new err err' gs (Ok u) = Emits after stopped old new err err' gs (Ok u)
Walks after stopped old new err err' gs (Err s) = (e : Error) × Emits after stopped old new err err' gs (Err e)
