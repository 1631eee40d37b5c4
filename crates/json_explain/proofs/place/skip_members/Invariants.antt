use Rattle.std.proofs.Common.{◌≡◌, ◌++◌, ℕ, List, length}
use Rattle.json_grammar.specs.Tree.{Tree, Token as Tok}
use Rattle.json_explain.specs.Paths.{OnTheWay}
use Rattle.json_explain.proofs.Walking.{members_tokens}
use Rattle.json_explain.proofs.place.skip_members.Given as goal

-- how many members are left
abbrev pub invariant-each : goal.invariant-each
invariant-each l =
    (limit : ℕ) (b : List ℕ) (t : Tree) (us : List (List ℕ × Tree)) (xs ys : List Tok) → length us ≡ l.count → OnTheWay limit b t l.fn.parser xs (members_tokens us ++ ys)
    → (vs : List (List ℕ × Tree)) × (zs : List Tok) × (length vs ≡ l.left) × OnTheWay limit b t l.parser zs (members_tokens vs ++ ys)

abbrev pub decreases-each : goal.decreases-each
decreases-each l = l.left
