use Rattle.std.proofs.Common.{◌≤◌, ℕ, List, false, refl, sym, subst}
use Rattle.json_grammar.specs.Grammar.{is_text}
use Rattle.json_grammar.specs.Tree.{Tree, depth}
use Rattle.json_explain.proofs.Texts.{explained_of, plain_explained, no_utf8_fault}
use Rattle.json_explain.proofs.calls.explained_bytes.Goals as goal

pub returns-in-Ok-clause-explained : goal.returns-in-Ok-clause-explained
returns-in-Ok-clause-explained g c = λ h.
    explained_of refl c.in-Ok.ensures.same
    (c.explained.ensures.explained (λ p. subst (λ (b : List ℕ). (t : Tree) × is_text false t b × (depth t ≤ c.args.depth)) (sym c.in-Ok.ensures.same) (h p)))

pub returns-in-Err-clause-explained : goal.returns-in-Err-clause-explained
returns-in-Err-clause-explained g c = λ h.
    let e = c.plain.ensures in
    plain_explained c.args.depth g.T.Explain.refused c.args.json.now c.plain.result c.args.error e.error e.refusal e.place
    (λ p. let t = h p in absurd (no_utf8_fault c.args.json.now _ _ c.in-Err.ensures.cause t.0 t.1))
