use Rattle.std.proofs.Common.{◌≡◌, ◌∙◌, Some, None, List, ℕ, length, map, sym, ap, subst, arith}
use Rattle.json_io.specs.Positions.{place_at}
use Rattle.json_explain.specs.Explaining.{explained_step}
use Rattle.json_explain.specs.Paths.{PathLeadsTo, BeginsAt}
use Rattle.json_explain.specs.declared.refusal.Step.{Step}
use Rattle.json_explain.proofs.calls.explained_at.Goals as goal

pub returns-in-Some-clause-place : goal.returns-in-Some-clause-place
returns-in-Some-clause-place c = λ t h d w.
    let b = c.args.text.now in
    let l = subst (λ (s : List Step). PathLeadsTo t (map explained_step s) w.0 w.1) (sym c.steps.ensures) w.2 in
    let o = c.offset_at_path.ensures t w.0 w.1 h d l in
    let e : Some o.0 ≡ Some c.in-Some.offset = sym o.1 ∙ c.in-Some.is in
    let i : o.0 ≡ c.in-Some.offset = cc in
    let n : length c.as_bytes-bytes.result.now ≡ length b = ap length c.as_bytes-bytes.ensures.value in
    let j : o.0 ≡ c.min-within.result = omega (arith, o.2.order, n) in
    (w.0, w.1, w.2, w.3, c.min-within.result, subst (λ (k : ℕ). BeginsAt c.args.depth b w.1 w.0 k) j o.2, c.place_of.ensures ∙ ap (λ (y : List ℕ). place_at y c.min-within.result) c.as_bytes-bytes.ensures.value)

pub returns-in-None-clause-place : goal.returns-in-None-clause-place
returns-in-None-clause-place c = λ t h d w.
    let l = subst (λ (s : List Step). PathLeadsTo t (map explained_step s) w.0 w.1) (sym c.steps.ensures) w.2 in
    let o = c.offset_at_path.ensures t w.0 w.1 h d l in
    let e : Some o.0 ≡ None = sym o.1 ∙ c.in-None.is in
    absurd (cc)
