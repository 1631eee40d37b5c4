use Rattle.std.proofs.Common.{◌≡◌, ◌≤◌, ◌-◌, ℕ, List, Some, length}
use Rattle.json_grammar.specs.Tree.{Tree, Token as Tok}
use Rattle.json_text.specs.Parsing.{SameInput}
use Rattle.json_explain.specs.Paths.{OnTheWay}
use Rattle.json_explain.proofs.Walking.{ahead}
use Rattle.json_explain.proofs.place.skip_value.Given as goal

-- how many containers of a value are open, and its other tokens follow
abbrev pub invariant-each : goal.invariant-each
invariant-each l = record {
  same : SameInput l.fn.parser l.parser;
  most : l.levels ≤ l.parser.index;
  goes : (limit : ℕ) (b : List ℕ) (t : Tree) (xs ys rest : List Tok) → OnTheWay limit b t l.fn.parser xs ys → ahead 0 ys ≡ Some rest
      → (zs ws : List Tok) × OnTheWay limit b t l.parser zs ws × (ahead l.levels ws ≡ Some rest);
}

abbrev pub decreases-each : goal.decreases-each
decreases-each l = length l.parser.text - l.parser.index
