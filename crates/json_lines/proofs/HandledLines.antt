-- What the loop over the lines keeps.
use Rattle.std.proofs.Common.{◌≡◌, ℕ, ◌+◌, ◌-◌, ◌<◌, inl, inr, Bool, true, false, ◌||◌, List, [], ◌∷◌, ◌++◌, length, Option, None, Some, Ok, Err, Result, IfSome, refl, sym, ap, ◌∙◌, subst, arith, append_assoc, append-nil}
use Rattle.std.proofs.lemmas.List.{length-append}
use Rattle.json_io.specs.Outside.{SinkState}
use Rattle.json_layout.specs.TextWriting.{StopCause, WritesText}
use Rattle.json_io.specs.declared.error.Error.{Error}
use Rattle.json_io.specs.declared.error.ErrorCode.{ErrorCode}
use Rattle.json_io.specs.declared.error.ErrorCode.TheVariants.{NoMemory, Io}
use Rattle.json_io.specs.declared.error.Place.{Place}
use Rattle.json_io.specs.declared.error.Place.TheVariants.{None as nowhere, Writing}
use Rattle.json_io.specs.Errors.{writing_failed}
use Rattle.json_io.proofs.Putting.{Puts-nil}
use Rattle.json_lines.specs.declared.line_reader.Line.{Line}
use Rattle.json_lines.specs.declared.line_reader.Line.TheVariants.{Whole, TooLong}
use Rattle.json_lines.specs.declared.run.LineTally.{LineTally}
use Rattle.json_lines.specs.Lines.{lines}
use Rattle.json_lines.specs.Reading.{IsLineOf}
use Rattle.json_command.specs.Reporting.{ReportsUnlessMuted}
use Rattle.json_lines.specs.Rows.{Outcome, outcome_row, is_bad, some_bad, error_bytes, rows_of, errors_from, HasWithin, AreHandledFirst, AreHandledAlone}
use Rattle.json_lines.specs.LineHandling.{LineHas}
use Rattle.json_lines.specs.Steps.{RunState, TakesLine, FindsNoLine, ReadingLineFails, HandlingLineFails}
use Rattle.json_lines.specs.Running.{IsFreshRun, HandlesLines, HandlesAll, FinishesLines, FailsEarly, StopsEarly, RowErrorCause}
use Rattle.json_lines.proofs.HandledOutcomes.{AreGood, good_first, one_first, good_alone, bad_alone}
use Rattle.json_lines.proofs.ReadingLines.{ReadsLines, ReadsLines-start, ReadsLines-more, ReadsLines-end, ReadsLines-fail, ReadsLines-parted, ReadsLines-known}
use Rattle.json_lines.proofs.TextWriting.{WritesText-nil, WritesText-then, Begins-part}
use Rattle.json_lines.proofs.Totals.{rows_of-more, errors_from-more, some_bad-more, AllHave-append, AllHave-length, ReportsUnlessMuted-then}

-- these lines were read and handled
pub record HandledLines (has : List ℕ → Outcome → Type 0) (old new : RunState) : Type 0 where
  pub done : List (List ℕ)
  pub read : ReadsLines old.reader new.reader old.source new.source done
  pub number : new.tally.number ≡ length done
  pub handled : HandlesLines (HasWithin old.reader.limit has) done old.sink new.sink old.errs new.errs new.tally

pub HandledLines-start : (has : List ℕ → Outcome → Type 0) (a : RunState) → IsFreshRun a → HandledLines has a a
HandledLines-start has a fresh =
    record {
      done = [];
      read = ReadsLines-start a.reader a.source fresh.held fresh.received fresh.going;
      number = fresh.number;
      handled = record {
        outcomes = [];
        have = tt;
        rows = WritesText-nil a.sink;
        reports = subst (λ t. ReportsUnlessMuted false t a.errs a.errs []) (sym fresh.unmuted) (Puts-nil a.errs);
        bad = fresh.good;
      };
    }

-- the outcome of the line that was read is that of its bytes
has_within : (limit : ℕ) (has : List ℕ → Outcome → Type 0) (bytes : List ℕ) (line : Line) (o : Outcome) → IsLineOf limit bytes line → LineHas has line o → HasWithin limit has bytes o
has_within limit has bytes (Whole line) o is h = inr (is.1, subst (λ l. has l o) is.0 h)
has_within limit has bytes TooLong o is h = inl (is, h)

-- one line more is handled, and its outcome comes after the others
handles_one : (has : List ℕ → Outcome → Type 0) (done : List (List ℕ)) (x : List ℕ) (o : Outcome) (s t u e f g : SinkState) (old new : LineTally) → (h : HandlesLines has done s t e f old) → has x o → WritesText t u (outcome_row o) (Ok tt)
    → ReportsUnlessMuted old.muted new.muted f g (error_bytes new.number o) → new.number ≡ 1 + length done → new.bad ≡ (old.bad || is_bad o) → (k : HandlesLines has (done ++ x ∷ []) s u e g new) × (k.outcomes ≡ h.outcomes ++ o ∷ [])
handles_one has done x o s t u e f g old new h is row report number bad =
    let os = h.outcomes in
    let same : 1 + length os ≡ new.number = omega (arith, number, AllHave-length has done os h.have) in (
      record {
        outcomes = os ++ o ∷ [];
        have = AllHave-append has done (x ∷ []) os (o ∷ []) h.have (is, tt);
        rows = subst (λ l. WritesText s u l (Ok tt)) (sym (rows_of-more os o)) (WritesText-then s t u _ _ tt (Ok tt) h.rows row);
        reports = subst (ReportsUnlessMuted false new.muted e g) (ap (λ n. errors_from 1 os ++ error_bytes n o) (sym same) ∙ sym (errors_from-more 1 os o)) (ReportsUnlessMuted-then old.muted new.muted e f g _ _ h.reports report);
        bad = bad ∙ ap (λ t. t || is_bad o) h.bad ∙ sym (some_bad-more os o);
      },
      refl,
    )

-- the line that was read is handled
handles_next : (has : List ℕ → Outcome → Type 0) (a b c : RunState) → (so_far : HandledLines has a b) → (takes : TakesLine has b c) → (bytes : List ℕ) → IsLineOf a.reader.limit bytes takes.line
    → (k : HandlesLines (HasWithin a.reader.limit has) (so_far.done ++ bytes ∷ []) a.sink c.sink a.errs c.errs c.tally) × (k.outcomes ≡ so_far.handled.outcomes ++ takes.handled.outcome ∷ [])
handles_next has a b c so_far takes bytes is =
    let new = takes.handled in
    handles_one (HasWithin a.reader.limit has) so_far.done bytes new.outcome a.sink b.sink c.sink a.errs b.errs c.errs b.tally c.tally so_far.handled (has_within a.reader.limit has bytes takes.line new.outcome is new.has_it) new.row new.report
    (omega (arith, new.number, so_far.number)) new.bad

pub HandledLines-more : (has : List ℕ → Outcome → Type 0) (a b c : RunState) → HandledLines has a b → TakesLine has b c → HandledLines has a c
HandledLines-more has a b c so_far takes =
    let more = ReadsLines-more a.reader b.reader c.reader a.source b.source c.source so_far.done takes.line so_far.read takes.read in
    let new = takes.handled in
    record {
      done = so_far.done ++ more.bytes ∷ [];
      read = more.reads;
      number = omega (arith, new.number, so_far.number, length-append so_far.done (more.bytes ∷ []));
      handled = (handles_next has a b c so_far takes more.bytes more.is).0;
    }

-- the rows so far were sent
pub HandledLines-sent : (has : List ℕ → Outcome → Type 0) (a b : RunState) (sink : SinkState) (u : Unit {0}) → HandledLines has a b → WritesText b.sink sink [] (Ok u) → HandledLines has a (record b { sink = sink })
HandledLines-sent has a b sink u so_far sent =
    let h = so_far.handled in
    record {
      done = so_far.done;
      read = so_far.read;
      number = so_far.number;
      handled = record {
        outcomes = h.outcomes;
        have = h.have;
        rows = subst (λ l. WritesText a.sink sink l (Ok tt)) (append-nil (rows_of h.outcomes)) (WritesText-then a.sink b.sink sink (rows_of h.outcomes) [] tt (Ok u) h.rows sent);
        reports = h.reports;
        bad = h.bad;
      };
    }

-- what is left to do gets smaller
pub HandledLines-smaller : (has : List ℕ → Outcome → Type 0) (a b c : RunState) → HandledLines has a b → TakesLine has b c
    → 4294967295 - c.reader.received + length c.reader.held < 4294967295 - b.reader.received + length b.reader.held
HandledLines-smaller has a b c so_far takes = (ReadsLines-more a.reader b.reader c.reader a.source b.source c.source so_far.done takes.line so_far.read takes.read).smaller

-- ---- the end

pub IfSome-map : (o : Option (List ℕ)) (P Q : List ℕ → Type 0) → ((x : List ℕ) → P x → Q x) → IfSome o P → IfSome o Q
IfSome-map None P Q f h = tt
IfSome-map (Some x) P Q f h = f x h

-- the same lines, sinks and tally
handles_same : (has : List ℕ → Outcome → Type 0) (xs ys : List (List ℕ)) (s t u e f g : SinkState) (old new : LineTally) → xs ≡ ys → u ≡ t → g ≡ f → new ≡ old → HandlesLines has xs s t e f old → HandlesLines has ys s u e g new
handles_same has xs ys s t u e f g old new p q r w h = rw (sym p, q, r, w) h

IfSome-both : (o : Option (List ℕ)) (P Q R : List ℕ → Type 0) → ((x : List ℕ) → P x → Q x → R x) → IfSome o P → IfSome o Q → IfSome o R
IfSome-both None P Q R f h k = tt
IfSome-both (Some x) P Q R f h k = f x h k

-- where the run is strict, no line was bad so far
abbrev pub IsCalm : Bool → RunState → Type 0
IsCalm strict s = strict ≡ true → s.tally.bad ≡ false

-- the same of the outcomes
good_outcomes : (has : List ℕ → Outcome → Type 0) (done : List (List ℕ)) (strict : Bool) (s t e f : SinkState) (tally : LineTally) → (h : HandlesLines has done s t e f tally) → (strict ≡ true → tally.bad ≡ false) → AreGood strict h.outcomes
good_outcomes has done strict s t e f tally h calm = λ is. sym h.bad ∙ calm is

-- some lines of these bytes were handled, and none is begun
stops_between : (has : List ℕ → Outcome → Type 0) (strict : Bool) (bytes : List ℕ) (done later : List (List ℕ)) (s t e f : SinkState) (tally : LineTally) → lines bytes ≡ done ++ later → (h : HandlesLines has done s t e f tally)
    → AreHandledFirst strict h.outcomes → StopsEarly has strict [] s t e f tally.muted bytes
stops_between has strict bytes done later s t e f tally parted h first =
    record {
      done = done;
      begun = [];
      later = later;
      parted = parted;
      outcomes = h.outcomes;
      have = h.have;
      next = [];
      next_have = tt;
      first = first;
      first_next = subst (AreHandledFirst strict) (sym (append-nil h.outcomes)) first;
      rows = Begins-part s.gained t.gained (rows_of h.outcomes) [] h.rows.ok;
      reports = h.reports;
    }

pub FinishesLines-from : (has : List ℕ → Outcome → Type 0) (strict : Bool) (a b c : RunState) → HandledLines has a b → IsCalm strict b → FindsNoLine b c → FinishesLines (HasWithin a.reader.limit has) strict a c
FinishesLines-from has strict a b c so_far calm none =
    let all = ReadsLines-end a.reader b.reader c.reader a.source b.source c.source so_far.done so_far.read none.read in
    let within = HasWithin a.reader.limit has in
    let h = handles_same within so_far.done so_far.done a.sink b.sink c.sink a.errs b.errs c.errs b.tally c.tally refl none.sink none.errs none.tally so_far.handled in
    let good = good_outcomes within so_far.done strict a.sink c.sink a.errs c.errs c.tally h (λ is. ap (λ (t : LineTally). t.bad) none.tally ∙ calm is) in
    record {
      bytes = all.bytes;
      reads = all.reads;
      ends = inl all.drained;
      few = all.few;
      no_fault = all.no_fault;
      no_sink_fault = ap (λ s. s.faults) none.sink ∙ so_far.handled.rows.calm;
      same_loan = ap (λ s. s.loan) none.sink ∙ so_far.handled.rows.same_loan;
      handled = IfSome-map a.source.left (λ x. so_far.done ≡ lines x) (λ x. HandlesAll within strict x a.sink c.sink a.errs c.errs c.tally)
          (λ x is. record { done = so_far.done; later = []; parted = sym is ∙ sym (append-nil so_far.done); handled = h; alone = good_alone strict h.outcomes good }) all.done_all;
      stops = IfSome-both a.source.left (λ x. x ≡ all.bytes) (λ x. so_far.done ≡ lines x) (λ _. StopsEarly within strict [] a.sink c.sink a.errs c.errs c.tally.muted all.bytes)
          (λ x same is. stops_between within strict all.bytes so_far.done [] a.sink c.sink a.errs c.errs c.tally (ap lines (sym same) ∙ sym is ∙ sym (append-nil so_far.done)) h (good_first strict h.outcomes good)) all.all all.done_all;
    }

-- the run is strict, and the last line that was handled is bad
pub FinishesLines-stopped : (has : List ℕ → Outcome → Type 0) (strict : Bool) (a b c : RunState) → HandledLines has a b → IsCalm strict b → TakesLine has b c → strict ≡ true → c.tally.bad ≡ true → FinishesLines (HasWithin a.reader.limit has) strict a c
FinishesLines-stopped has strict a b c so_far calm takes is_strict bad =
    let more = ReadsLines-more a.reader b.reader c.reader a.source b.source c.source so_far.done takes.line so_far.read takes.read in
    let within = HasWithin a.reader.limit has in
    let done = so_far.done ++ more.bytes ∷ [] in
    let now = more.reads in
    let k = handles_next has a b c so_far takes more.bytes more.is in
    let h = k.0 in
    let os = so_far.handled.outcomes in
    let o = takes.handled.outcome in
    let good : some_bad os ≡ false = sym so_far.handled.bad ∙ calm is_strict in
    let last : is_bad o ≡ true = sym (ap (λ t. t || is_bad o) (calm is_strict)) ∙ sym takes.handled.bad ∙ bad in
    record {
      bytes = now.bytes;
      reads = now.reads;
      ends = inr (is_strict, bad);
      few = now.few;
      no_fault = now.no_fault;
      no_sink_fault = h.rows.calm;
      same_loan = h.rows.same_loan;
      handled = IfSome-map a.source.left (λ x. (later : List (List ℕ)) × (lines x ≡ done ++ later)) (λ x. HandlesAll within strict x a.sink c.sink a.errs c.errs c.tally) (λ x p. record {
        done = done;
        later = p.0;
        parted = p.1;
        handled = h;
        alone = subst (λ t. AreHandledAlone t h.outcomes (length p.0)) (sym is_strict) (subst (λ l. AreHandledAlone true l (length p.0)) (sym k.1) (bad_alone os o (length p.0) good last));
      }) (ReadsLines-known a.reader c.reader a.source c.source done now);
      stops = IfSome-map a.source.left (λ _. lines now.bytes ≡ done ++ lines c.reader.held) (λ _. StopsEarly within strict [] a.sink c.sink a.errs c.errs c.tally.muted now.bytes)
          (λ _ is. stops_between within strict now.bytes done (lines c.reader.held) a.sink c.sink a.errs c.errs c.tally is h (subst (AreHandledFirst strict) (sym k.1) (one_first strict os o (λ _. good))))
          (ReadsLines-parted a.reader c.reader a.source c.source done now);
    }

-- ---- where it fails

pub FailsEarly-reading : (has : List ℕ → Outcome → Type 0) (strict : Bool) (a b c : RunState) (e : Error) → HandledLines has a b → IsCalm strict b → ReadingLineFails b c e → FailsEarly (HasWithin a.reader.limit has) strict a c e
FailsEarly-reading has strict a b c e so_far calm fails =
    let stop = ReadsLines-fail a.reader b.reader c.reader a.source b.source c.source so_far.done e so_far.read fails.read in
    let within = HasWithin a.reader.limit has in
    let h = handles_same within so_far.done so_far.done a.sink b.sink c.sink a.errs b.errs c.errs b.tally c.tally refl fails.sink fails.errs fails.tally so_far.handled in
    let good = good_outcomes within so_far.done strict a.sink c.sink a.errs c.errs c.tally h (λ is. ap (λ (t : LineTally). t.bad) fails.tally ∙ calm is) in
    record {
      bytes = stop.bytes;
      reads = stop.reads;
      stops = IfSome-map a.source.left (λ _. lines stop.bytes ≡ so_far.done ++ stop.later) (λ _. StopsEarly within strict [] a.sink c.sink a.errs c.errs c.tally.muted stop.bytes)
          (λ _ is. stops_between within strict stop.bytes so_far.done stop.later a.sink c.sink a.errs c.errs c.tally is h (good_first strict h.outcomes good)) stop.parted;
      cause = inl stop.cause;
      reading_reported = stop.reported;
      writing_told = λ l. absurd (omega (arith, l, h.rows.calm));
      same_loan = h.rows.same_loan;
    }

row-cause : (code : ErrorCode) (place : Place) (a c : SinkState) → StopCause a.faults c.faults code place → RowErrorCause a c code place
row-cause NoMemory nowhere a c h = tt
row-cause Io Writing a c h = h
row-cause code place a c h = absurd h

err_same : (e f : Error) (r : Result (Unit {0}) Error) → r ≡ Err e → r ≡ Err f → e ≡ f
err_same e f r g h = cc

pub FailsEarly-handling : (has : List ℕ → Outcome → Type 0) (strict : Bool) (a b c : RunState) (e : Error) → HandledLines has a b → IsCalm strict b → HandlingLineFails has b c e → FailsEarly (HasWithin a.reader.limit has) strict a c e
FailsEarly-handling has strict a b c e so_far calm fails =
    let more = ReadsLines-more a.reader b.reader c.reader a.source b.source c.source so_far.done fails.line so_far.read fails.read in
    let within = HasWithin a.reader.limit has in
    let failed = fails.failed in
    let os = so_far.handled.outcomes in
    let o = failed.row.outcome in
    let now = more.reads in
    let good = good_outcomes within so_far.done strict a.sink b.sink a.errs b.errs b.tally so_far.handled calm in
    let writes : WritesText a.sink c.sink (rows_of os ++ rows_of (o ∷ [])) (Err e) = WritesText-then a.sink b.sink c.sink (rows_of os) (rows_of (o ∷ [])) tt (Err e) so_far.handled.rows
    (subst (λ l. WritesText b.sink c.sink l (Err e)) (sym (append-nil (outcome_row o))) failed.row.row) in
    record {
      bytes = now.bytes;
      reads = now.reads;
      stops = IfSome-map a.source.left (λ _. lines now.bytes ≡ so_far.done ++ more.bytes ∷ [] ++ lines c.reader.held) (λ _. StopsEarly within strict [] a.sink c.sink a.errs c.errs c.tally.muted now.bytes) (λ _ is. record {
        done = so_far.done;
        begun = more.bytes ∷ [];
        later = lines c.reader.held;
        parted = is ∙ append_assoc so_far.done (more.bytes ∷ []) (lines c.reader.held);
        outcomes = os;
        have = so_far.handled.have;
        next = o ∷ [];
        next_have = (has_within a.reader.limit has more.bytes fails.line o more.is failed.row.has_it, tt);
        first = good_first strict os good;
        first_next = one_first strict os o good;
        rows = writes.prefix;
        reports = subst (λ d. ReportsUnlessMuted false d a.errs c.errs (errors_from 1 os)) (sym failed.muted) (subst (λ s. ReportsUnlessMuted false b.tally.muted a.errs s (errors_from 1 os)) (sym failed.silent) so_far.handled.reports);
      }) (ReadsLines-parted a.reader c.reader a.source c.source (so_far.done ++ more.bytes ∷ []) now);
      cause = inr (row-cause e.code e.place a.sink c.sink writes.cause, now.no_fault, now.few);
      reading_reported = λ l. absurd (omega (arith, l, now.no_fault));
      writing_told = λ l. err_same e writing_failed (Err e) refl (writes.reported l);
      same_loan = writes.same_loan;
    }

pub FailsEarly-sending : (has : List ℕ → Outcome → Type 0) (strict : Bool) (a b : RunState) (sink : SinkState) (e : Error) → HandledLines has a b → IsCalm strict b → WritesText b.sink sink [] (Err e)
    → FailsEarly (HasWithin a.reader.limit has) strict a (record b { sink = sink }) e
FailsEarly-sending has strict a b sink e so_far calm failed =
    let within = HasWithin a.reader.limit has in
    let h = so_far.handled in
    let now = so_far.read in
    let good = good_outcomes within so_far.done strict a.sink b.sink a.errs b.errs b.tally h calm in
    let writes : WritesText a.sink sink (rows_of h.outcomes ++ []) (Err e) = WritesText-then a.sink b.sink sink (rows_of h.outcomes) [] tt (Err e) h.rows failed in
    record {
      bytes = now.bytes;
      reads = now.reads;
      stops = IfSome-map a.source.left (λ _. lines now.bytes ≡ so_far.done ++ lines b.reader.held) (λ _. StopsEarly within strict [] a.sink sink a.errs b.errs b.tally.muted now.bytes) (λ _ is. record {
        done = so_far.done;
        begun = [];
        later = lines b.reader.held;
        parted = is;
        outcomes = h.outcomes;
        have = h.have;
        next = [];
        next_have = tt;
        first = good_first strict h.outcomes good;
        first_next = subst (AreHandledFirst strict) (sym (append-nil h.outcomes)) (good_first strict h.outcomes good);
        rows = writes.prefix;
        reports = h.reports;
      }) (ReadsLines-parted a.reader b.reader a.source b.source so_far.done now);
      cause = inr (row-cause e.code e.place a.sink sink writes.cause, now.no_fault, now.few);
      reading_reported = λ l. absurd (omega (arith, l, now.no_fault));
      writing_told = λ l. err_same e writing_failed (Err e) refl (writes.reported l);
      same_loan = writes.same_loan;
    }
