use Rattle.std.proofs.Common.{◌≡◌, ◌+◌, ◌-◌, None, false, refl, sym, subst, arith}
use Rattle.json_text.specs.declared.event.Event.{Event}
use Rattle.json_text.specs.Events.{Means}
use Rattle.json_text.specs.Parsing.{state_of}
use Rattle.json_text.specs.Readers.{ReaderAt}
use Rattle.json_text.proofs.Going.{is_lent}
use Rattle.json_doc.specs.Lent.{EventIsLentBy}
use Rattle.json_doc.proofs.Keeping.{next_token, next_number, next_begins, next_behind, goes_forward}
use Rattle.json_doc.proofs.Stepping.{stepped, lent_in}
use Rattle.json_doc.proofs.advance.advance.Goals as goal

pub step-requires-clause-given : goal.step-requires-clause-given
step-requires-clause-given g c =
    let k = c.requires.kept in
    let index : (0 + c.args.cursor.at) - 0 ≡ c.args.cursor.at = omega arith in
    (k.so_far, subst (λ i. ReaderAt false c.args.limit c.args.text.now i c.args.kinds.now c.args.cursor.expected k.so_far) index k.kept.gave)

pub start_offset-from-requires : goal.start_offset-from-requires
start_offset-from-requires g c =
    let r = c.in-Ok.read in let s = stepped c.args.text.now c.args.limit c.args.cursor.at r.end c.args.kinds.now c.step.new.kinds c.args.cursor.expected r.expected r.event c.in-Ok.ensures.ok c.in-Ok.ensures.tight in
    let behind = next_behind c.requires.kept.kept c.in_default.not-End s.goes s.tight s.same in
    omega (arith, behind)

pub record_event-recorded-requires-clause-lent : goal.record_event-recorded-requires-clause-lent
record_event-recorded-requires-clause-lent g c =
    let r = c.in-Ok.read in let s = stepped c.args.text.now c.args.limit c.args.cursor.at r.end c.args.kinds.now c.step.new.kinds c.args.cursor.expected r.expected r.event c.in-Ok.ensures.ok c.in-Ok.ensures.tight in
    let k = c.requires.kept.kept in
    let behind = next_behind k c.in_default.not-End s.goes s.tight s.same in
    let on = goes_forward k c.in_default.not-End s.goes s.tight s.same in
    let b = c.args.text.now in
    let zeroth : 0 + r.end ≡ r.end = omega arith in
    subst (λ y. EventIsLentBy r.event y c.start_offset-from.result) (sym c.as_bytes.ensures.value)
    (subst (λ i. EventIsLentBy r.event b i) (sym c.start_offset-from.ensures)
    (lent_in b (state_of b 0 false c.args.limit r.end c.step.new.kinds r.expected None) r.event r.end refl zeroth (omega (arith, behind)) (omega (arith, on.1)) (is_lent _ _ r.event s.tight)))

pub record_event-recorded-requires-clause-number : goal.record_event-recorded-requires-clause-number
record_event-recorded-requires-clause-number g c =
    let r = c.in-Ok.read in let s = stepped c.args.text.now c.args.limit c.args.cursor.at r.end c.args.kinds.now c.step.new.kinds c.args.cursor.expected r.expected r.event c.in-Ok.ensures.ok c.in-Ok.ensures.tight in
    next_number c.requires.kept.kept c.in_default.not-End s.goes s.tight s.same

pub record_event-recorded-requires-clause-come : goal.record_event-recorded-requires-clause-come
record_event-recorded-requires-clause-come g c full =
    let r = c.in-Ok.read in let s = stepped c.args.text.now c.args.limit c.args.cursor.at r.end c.args.kinds.now c.step.new.kinds c.args.cursor.expected r.expected r.event c.in-Ok.ensures.ok c.in-Ok.ensures.tight in
    let k = c.requires.kept in
    let next = next_token k.kept c.in_default.not-End s.goes s.tight s.same in
    (next.0, next.1, (k.so_far, k.kept.follows.held full, next_begins k.kept c.in_default.not-End s.goes s.tight s.same))

pub returns-in-End-clause-recorded : goal.returns-in-End-clause-recorded
returns-in-End-clause-recorded g c = λ x ts m f b h. absurd (subst (λ (e : Event). Means e x) c.in-End.is m)

pub returns-in-End-clause-room : goal.returns-in-End-clause-room
returns-in-End-clause-room g c = λ x m. absurd (subst (λ (e : Event). Means e x) c.in-End.is m)

pub returns-in_default-clause-at_end : goal.returns-in_default-clause-at_end
returns-in_default-clause-at_end g c = λ is. absurd (c.in_default.not-End is)
