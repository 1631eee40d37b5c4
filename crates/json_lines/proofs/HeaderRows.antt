-- The header, and the rows after it.
use Rattle.std.proofs.Common.{◌≡◌, ℕ, Bool, false, List, [], ◌++◌, Option, None, Some, Ok, Err, Result, OnOk, IfErr, IfSome, refl, sym, ap, ◌∙◌, subst, arith, append-nil}
use Rattle.json_io.specs.Errors.{writing_failed}
use Rattle.json_io.specs.Known.{append_known}
use Rattle.json_io.specs.Outside.{SinkState, SourceState, Rose}
use Rattle.json_io.specs.declared.error.Error.{Error}
use Rattle.json_io.specs.declared.error.ErrorCode.{ErrorCode}
use Rattle.json_io.specs.declared.error.ErrorCode.TheVariants.{NoMemory, Io, TooLarge}
use Rattle.json_io.specs.declared.error.Place.{Place}
use Rattle.json_io.specs.declared.error.Place.TheVariants.{None as nowhere, Reading, Writing}
use Rattle.json_io.proofs.Known.{Appends-trans, known-append}
use Rattle.json_io.proofs.Putting.{Puts-nil}
use Rattle.json_layout.specs.TextWriting.{Begins, StopCause, WritesText}
use Rattle.json_command.specs.Reporting.{ReportsUnlessMuted}
use Rattle.json_lines.specs.declared.run.LineTally.{LineTally}
use Rattle.json_lines.specs.Rows.{Outcome, rows_of}
use Rattle.json_lines.specs.Running.{StopsEarly}
use Rattle.json_lines.specs.TopCall.{streams, GainsRows, WritesAllRows, WritesFewerRows, ErrorCause}
use Rattle.json_lines.proofs.HandledLines.{IfSome-map}
use Rattle.json_lines.proofs.HandledOutcomes.{good_first}
use Rattle.json_lines.proofs.ReaderSteps.{gives_nothing}
use Rattle.json_lines.proofs.SinkEnds.{err_same}

cause_after : (code : ErrorCode) (place : Place) (bytes : List ℕ) (s u : SourceState) (sink mid sink' : SinkState) → mid.faults ≡ sink.faults → ErrorCause bytes s u mid sink' code place → ErrorCause bytes s u sink sink' code place
cause_after NoMemory nowhere bytes s u sink mid sink' same h = tt
cause_after Io Reading bytes s u sink mid sink' same h = h
cause_after Io Writing bytes s u sink mid sink' same h = subst (λ n. Rose n sink'.faults) same h
cause_after TooLarge nowhere bytes s u sink mid sink' same h = h
cause_after code place bytes s u sink mid sink' same h = absurd h

-- the header was written
module _ (has : List ℕ → Outcome → Type 0) (strict : Bool) (header : List ℕ) (s u : SourceState) (sink mid sink' errs errs' : SinkState) (t : LineTally) (v : Unit {0}) (wrote : WritesText sink mid header (Ok v)) where
  gains_after : (bytes : List ℕ) → GainsRows has strict [] bytes mid sink' errs errs' t → GainsRows has strict header bytes sink sink' errs errs' t
  gains_after bytes g =
      record {
        done = g.done;
        later = g.later;
        parted = g.parted;
        outcomes = g.outcomes;
        have = g.have;
        alone = g.alone;
        rows = Appends-trans sink.gained mid.gained sink'.gained header (rows_of g.outcomes) wrote.ok g.rows;
        reports = g.reports;
        bad = g.bad;
      }

  all_after : WritesAllRows has strict [] (streams s mid errs) (streams u sink' errs') t → WritesAllRows has strict header (streams s sink errs) (streams u sink' errs') t
  all_after all =
      record {
        bytes = all.bytes;
        gives = all.gives;
        few = all.few;
        ends = all.ends;
        no_fault = all.no_fault;
        no_sink_fault = all.no_sink_fault ∙ wrote.calm;
        flushed = all.flushed;
        handled = IfSome-map s.left (λ b. GainsRows has strict [] b mid sink' errs errs' t) (λ b. GainsRows has strict header b sink sink' errs errs' t) gains_after all.handled;
      }

  stops_after : (bytes : List ℕ) → StopsEarly has strict [] mid sink' errs errs' t.muted bytes → StopsEarly has strict header sink sink' errs errs' t.muted bytes
  stops_after bytes h =
      let text = rows_of h.outcomes ++ rows_of h.next in
      record {
        done = h.done;
        begun = h.begun;
        later = h.later;
        parted = h.parted;
        outcomes = h.outcomes;
        have = h.have;
        next = h.next;
        next_have = h.next_have;
        first = h.first;
        first_next = h.first_next;
        rows = record { back = h.rows.back; whole = sym (known-append sink.gained header text) ∙ ap (λ k. append_known k text) (sym wrote.ok) ∙ h.rows.whole };
        reports = h.reports;
      }

  fewer_after : (e : Error) → WritesFewerRows has strict [] (streams s mid errs) (streams u sink' errs') t e → WritesFewerRows has strict header (streams s sink errs) (streams u sink' errs') t e
  fewer_after e h =
      record {
        bytes = h.bytes;
        gives = h.gives;
        stops = IfSome-map s.left (λ _. StopsEarly has strict [] mid sink' errs errs' t.muted h.bytes) (λ _. StopsEarly has strict header sink sink' errs errs' t.muted h.bytes) (λ _ k. stops_after h.bytes k) h.stops;
        cause = cause_after e.code e.place h.bytes s u sink mid sink' wrote.calm h.cause;
        reading_reported = h.reading_reported;
        writing_told = λ l. h.writing_told (omega (arith, l, wrote.calm));
      }

  pub rows_after : (r : Result (Unit {0}) Error) → OnOk r (WritesAllRows has strict [] (streams s mid errs) (streams u sink' errs') t) → OnOk r (WritesAllRows has strict header (streams s sink errs) (streams u sink' errs') t)
  rows_after (Ok w) h = all_after h
  rows_after (Err e) h = tt

  pub rows_failed : (r : Result (Unit {0}) Error) → IfErr r (λ e. WritesFewerRows has strict [] (streams s mid errs) (streams u sink' errs') t e) → IfErr r (λ e. WritesFewerRows has strict header (streams s sink errs) (streams u sink' errs') t e)
  rows_failed (Ok w) h = tt
  rows_failed (Err e) h = fewer_after e h

-- ---- the header was not written, or only a prefix of it

header_cause : (code : ErrorCode) (place : Place) (s : SourceState) (sink mid : SinkState) → StopCause sink.faults mid.faults code place → ErrorCause [] s s sink mid code place
header_cause NoMemory nowhere s sink mid h = tt
header_cause Io Writing s sink mid h = h
header_cause code place s sink mid h = absurd h

pub header_failed : (has : List ℕ → Outcome → Type 0) (strict : Bool) (header : List ℕ) (s : SourceState) (sink mid errs : SinkState) (t : LineTally) (e : Error) → t.muted ≡ false → WritesText sink mid header (Err e)
    → WritesFewerRows has strict header (streams s sink errs) (streams s mid errs) t e
header_failed has strict header s sink mid errs t e unmuted wrote =
    record {
      bytes = [];
      gives = gives_nothing s;
      stops = some_stops s.left;
      cause = header_cause e.code e.place s sink mid wrote.cause;
      reading_reported = λ l. absurd (omega (arith, l));
      writing_told = λ l. err_same e writing_failed (wrote.reported l);
    }
  where
    nothing : StopsEarly has strict header sink mid errs errs t.muted []
    nothing = record {
      done = [];
      begun = [];
      later = [];
      parted = refl;
      outcomes = [];
      have = tt;
      next = [];
      next_have = tt;
      first = good_first strict [] (λ _. refl);
      first_next = good_first strict [] (λ _. refl);
      rows = subst (λ l. Begins mid.gained (append_known sink.gained l)) (sym (append-nil header)) wrote.prefix;
      reports = subst (λ d. ReportsUnlessMuted false d errs errs []) (sym unmuted) (Puts-nil errs);
    }

    some_stops : (o : Option (List ℕ)) → IfSome o (λ _. StopsEarly has strict header sink mid errs errs t.muted [])
    some_stops None = tt
    some_stops (Some x) = nothing
