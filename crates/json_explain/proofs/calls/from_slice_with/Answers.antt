use Rattle.std.proofs.Common.{◌≤◌, ℕ, refl, sym, subst}
use Rattle.json_grammar.specs.Tree.{depth}
use Rattle.json_text.specs.Ruled.{rules_of}
use Rattle.json_explain.proofs.Texts.{explained_of, refused_by_rules}
use Rattle.json_explain.proofs.calls.from_slice_with.Goals as goal

pub returns-in-Err-clause-explained : goal.returns-in-Err-clause-explained
returns-in-Err-clause-explained g c =
    explained_of c.depth.ensures.depth refl
    (c.explained_bytes.ensures.explained (λ p.
    let r = refused_by_rules (rules_of c.args.rules) g.T.DeserializeFrom.from_tree c.args.json.now c.in-Err.error.code c.in-Err.error.place p c.in-Err.ensures.err in
    (r.0, r.1, subst (λ (n : ℕ). depth r.0 ≤ n) (sym c.depth.ensures.depth) r.2)))
