use Rattle.std.proofs.Common.{◌≡◌, ◌≤◌, Result, Ok, Err, sym, subst, inr}
use Rattle.std.specs.Result.{IsErrAnd, IfErr}
use Rattle.json_io.specs.declared.error.Error.{Error}
use Rattle.json_text.specs.Parsing.{IsWhole}
use Rattle.json_doc.specs.Recorded.{visitor_state}
use Rattle.json_doc.proofs.ValueRecording.{begins_here, number_here, here_recorded, records_end, still_open, goes_forward, records_on, refuses_value}
use Rattle.json_doc.proofs.value_reader.record_value.Goals as goal

pub record_event-recorded-requires-clause-number : goal.record_event-recorded-requires-clause-number
record_event-recorded-requires-clause-number c = number_here c.events.invariant

pub record_event-recorded-requires-clause-come : goal.record_event-recorded-requires-clause-come
record_event-recorded-requires-clause-come c full = let k = c.events.invariant in (k.token, k.means, (k.us, c.in_ok-make_room.ensures.held k.us k.held, begins_here k))

pub returns-then-levels-eq0-clause-ok : goal.returns-then-levels-eq0-clause-ok
returns-then-levels-eq0-clause-ok c =
    let k = c.events.invariant in
    let m = c.in_ok-make_room.ensures in
    let r = c.record_event-recorded.ensures in
    let w = c.record_event-recorded.new.visitor in
    let h = here_recorded k c.make_room.new.self w c.lent_len.result m.held m.full m.nodes c.lent_len.ensures m.bytes (r.room k.token k.means) r.follows in
    records_end k (c.open_levels_after-levels.ensures k.token k.means) w h.0 c.if-levels-eq0.true

err_is : {X : Type 0} (r : Result X Error) (e : Error) (P : Error → Type 0) → IsErrAnd r (λ x. x ≡ e) → P e → IfErr r P
err_is (Ok x) e P h p = tt
err_is (Err x) e P h p = subst P (sym h) p

pub returns-in_err-event-clause-err : goal.returns-in_err-event-clause-err
returns-in_err-event-clause-err c =
    let k = c.events.invariant in
    let n = c.in_err-event.ensures in
    let e = c.in_err-event.field-0.0 in
    err_is c.from_residual-in_err-event.result e _ c.from_residual-in_err-event.ensures.1
    (inr (refuses_value c.events.parser c.next_by.new.self e n.err.kept (n.needs k.unfailed) (n.inside (still_open k (c.open_levels_after-levels.ensures k.token k.means) c.if-levels-eq0.false))))

pub events-smaller : goal.events-smaller
events-smaller c =
    let k = c.events.invariant in
    let n = c.in_ok-event.ensures in
    goes_forward k (c.open_levels_after-levels.ensures k.token k.means) c.next_by.new.self c.in_ok-event.event c.if-levels-eq0.false n.whole n.tight n.same

pub events-preserved : goal.events-preserved
events-preserved c =
    let k = c.events.invariant in
    let m = c.in_ok-make_room.ensures in
    let r = c.record_event-recorded.ensures in
    let w = c.record_event-recorded.new.visitor in
    let n = c.in_ok-event.ensures in
    let b = c.open_levels_after-levels.ensures k.token k.means in
    let h = here_recorded k c.make_room.new.self w c.lent_len.result m.held m.full m.nodes c.lent_len.ensures m.bytes (r.room k.token k.means) r.follows in
    records_on k b w h.0 h.1 (subst (λ n. n ≤ (visitor_state w).nodes) (sym b) h.2) c.next_by.new.self c.in_ok-event.event c.if-levels-eq0.false n.whole n.ok.2 n.tight n.same n.ok.1 n.reads

pub returns-in_err-event-clause-whole : goal.returns-in_err-event-clause-whole
returns-in_err-event-clause-whole c = λ before w.
    let k = c.events.invariant in
    let n = c.in_err-event.ensures in
    absurd (still_open k (c.open_levels_after-levels.ensures k.token k.means) c.if-levels-eq0.false (subst IsWhole n.err.kept w))
