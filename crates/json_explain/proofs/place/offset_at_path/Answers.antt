use Rattle.std.proofs.Common.{◌≡◌, ◌∙◌, ◌+◌, ◌++◌, List, true, false, Some, length, sym, ap, subst, append_assoc, append-nil, arith}
use Rattle.json_grammar.specs.Tree.{Tree, Token as Tok, tokens}
use Rattle.json_text.specs.declared.event.Event.{Event}
use Rattle.json_text.specs.Events.{event_bytes}
use Rattle.json_explain.specs.Paths.{PathLeadsTo, BeginsAt}
use Rattle.json_explain.specs.Refused.{RefusedStep}
use Rattle.json_explain.proofs.Walking.{ahead_is, begins_at, event_start, first_token, steps_next, steps_over, was_taken}
use Rattle.json_explain.proofs.place.offset_at_path.Goals as goal

pub returns-then-not-enter : goal.returns-then-not-enter
returns-then-not-enter c = λ t v xs h d l.
    let g = c.each.invariant.goes t v xs h d l in
    let x = c.index-steps-index.result in
    let k = subst (λ (p : List RefusedStep). PathLeadsTo g.0 p v g.2) (steps_next c.args.steps.now c.each.index x (omega arith) c.index-steps-index.is) g.5 in
    let r : false ≡ true = sym c.if-not-enter.true ∙ (c.enter.ensures.next c.args.depth c.args.text.now t g.0 k.0 g.1 k.1 g.3 g.4 k.3).0 in
    absurd (cc)

pub each-preserved : goal.each-preserved
each-preserved c = record {
  within = omega arith;
  goes = λ t v xs h d l.
      let g = c.each.invariant.goes t v xs h d l in
      let x = c.index-steps-index.result in
      let k = subst (λ (p : List RefusedStep). PathLeadsTo g.0 p v g.2) (steps_next c.args.steps.now c.each.index x (omega arith) c.index-steps-index.is) g.5 in
      let r = c.enter.ensures.next c.args.depth c.args.text.now t g.0 k.0 g.1 k.1 g.3 g.4 k.3 in
      (k.0, g.1 ++ k.1, k.2, r.1.0, r.1.1, k.4, g.6 ∙ ap (λ (us : List Tok). g.1 ++ us) k.5 ∙ sym (append_assoc g.1 k.1 k.2));
}

pub returns-in-Some : goal.returns-in-Some
returns-in-Some c = λ t v xs h d l.
    let g = c.each.invariant.goes t v xs h d l in
    let n : c.each.index ≡ length c.args.steps.now = omega (arith, c.each.invariant.within) in
    let k = subst (λ (p : List RefusedStep). PathLeadsTo g.0 p v g.2) (steps_over c.args.steps.now c.each.index n) g.5 in
    let f = first_token v in
    let e : tokens g.0 ++ g.3 ≡ tokens v ++ g.3 = ap (λ (u : Tree). tokens u ++ g.3) k.0 in
    let w = ahead_is e g.4 in
    let q = c.take.ensures.next c.args.depth c.args.text.now t g.1 (f.1 ++ g.3) f.0 (ahead_is (ap (λ (us : List Tok). us ++ g.3) f.2) w) in
    let same : Some q.event ≡ Some c.in-Some.event = sym q.some ∙ c.in-Some.is in
    let event : q.event ≡ c.in-Some.event = cc in
    let end : q.takes.begins + length (event_bytes c.in-Some.event) ≡ c.index.result =
    subst (λ (y : Event). q.takes.begins + length (event_bytes y) ≡ c.take.new.parser.index) event (event_start q.takes) ∙ sym c.index.ensures in
    let row : g.1 ≡ xs = sym (append-nil g.1) ∙ ap (λ (us : List Tok). g.1 ++ us) (sym k.1) ∙ sym g.6 in
    (q.takes.begins, c.value_start.ensures q.takes.begins end, subst (λ (us : List Tok). BeginsAt c.args.depth c.args.text.now us v q.takes.begins) row (begins_at g.3 w f.2 q))

pub returns-in-None : goal.returns-in-None
returns-in-None c = λ t v xs h d l.
    let g = c.each.invariant.goes t v xs h d l in
    let f = first_token g.0 in
    absurd (was_taken (c.take.ensures.next c.args.depth c.args.text.now t g.1 (f.1 ++ g.3) f.0 (ahead_is (ap (λ (us : List Tok). us ++ g.3) f.2) g.4)) c.in-None.is)
