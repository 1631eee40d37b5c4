use Rattle.std.proofs.Common.{◌≡◌, ◌++◌, ℕ, List, length}
use Rattle.json_grammar.specs.Tree.{Tree, Token as Tok}
use Rattle.json_explain.specs.Paths.{OnTheWay}
use Rattle.json_explain.proofs.Walking.{elements_tokens}
use Rattle.json_explain.proofs.place.skip_elements.Given as goal

-- how many elements are left
abbrev pub invariant-each : goal.invariant-each
invariant-each l =
    (limit : ℕ) (b : List ℕ) (t : Tree) (us : List Tree) (xs ys : List Tok) → length us ≡ l.count → OnTheWay limit b t l.fn.parser xs (elements_tokens us ++ ys)
    → (vs : List Tree) × (zs : List Tok) × (length vs ≡ l.left) × OnTheWay limit b t l.parser zs (elements_tokens vs ++ ys)

abbrev pub decreases-each : goal.decreases-each
decreases-each l = l.left
