use Rattle.std.proofs.Common.{false, ◌≡◌, ◌≤◌, ◌-◌, ◌++◌, List, length, map, drop}
use Rattle.json_grammar.specs.Grammar.{is_text}
use Rattle.json_grammar.specs.Tree.{Tree, Token as Tok, tokens, depth}
use Rattle.json_explain.specs.Explaining.{explained_step}
use Rattle.json_explain.specs.Paths.{PathLeadsTo, OnTheWay}
use Rattle.json_explain.proofs.place.offset_at_path.Given as goal

-- the steps from `index` on are left
abbrev pub invariant-each : goal.invariant-each
invariant-each l = record {
  within : l.index ≤ length l.steps;
  goes : (t v : Tree) (xs : List Tok) → is_text false t l.text → depth t ≤ l.depth → PathLeadsTo t (map explained_step l.steps) v xs
      → (u : Tree) × (ys zs ws : List Tok) × OnTheWay l.depth l.text t l.parser ys (tokens u ++ ws) × PathLeadsTo u (map explained_step (drop l.index l.steps)) v zs × (xs ≡ ys ++ zs);
}

abbrev pub decreases-each : goal.decreases-each
decreases-each l = length l.steps - l.index
