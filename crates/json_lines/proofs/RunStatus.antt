-- From the loop over the lines to the call that writes all rows.
use Rattle.std.proofs.Common.{◌≡◌, ℕ, ◌⊎◌, inl, inr, Bool, true, false, List, [], ◌++◌, length, Option, None, Some, Ok, Err, IfSome, refl, sym, ◌∙◌, subst, arith}
use Rattle.json_io.specs.Known.{Keeps}
use Rattle.json_io.specs.Outside.{SinkState, Rose}
use Rattle.json_io.specs.Transfer.{FlushesAll, Puts, WritingCause}
use Rattle.json_io.specs.declared.error.Error.{Error}
use Rattle.json_io.specs.declared.error.ErrorCode.{ErrorCode}
use Rattle.json_io.specs.declared.error.ErrorCode.TheVariants.{NoMemory, Io}
use Rattle.json_io.specs.declared.error.Place.{Place}
use Rattle.json_io.specs.declared.error.Place.TheVariants.{None as nowhere, Writing}
use Rattle.json_io.specs.Errors.{no_memory, writing_failed}
use Rattle.json_io.specs.Known.{append_known}
use Rattle.json_layout.specs.TextWriting.{Begins}
use Rattle.json_io.proofs.Known.{Appends-nil, Appends-kept, Appends-trans}
use Rattle.json_io.proofs.Putting.{AppendsFront-first, AppendsFront-then, Puts-nil}
use Rattle.json_command.specs.Reporting.{Reports, ReportsUnlessMuted}
use Rattle.json_lines.specs.declared.run.LineTally.{LineTally}
use Rattle.json_lines.specs.Rows.{Outcome, rows_of}
use Rattle.json_lines.proofs.HandledOutcomes.{good_first}
use Rattle.json_lines.specs.Steps.{RunState}
use Rattle.json_lines.specs.Running.{IsFreshRun, HandlesAll, FinishesLines, StopsEarly}
use Rattle.json_lines.specs.TopCall.{Streams, GainsRows, WritesAllRows, WritesFewerRows}
use Rattle.json_lines.proofs.TextWriting.{Begins-part}
use Rattle.json_lines.proofs.HandledLines.{IfSome-map}
use Rattle.json_lines.proofs.ReaderSteps.{gives_bytes, gives_nothing, few_bytes}
use Rattle.json_lines.proofs.SinkEnds.{same_faults, ok_no_error, err_same}
use Rattle.json_lines.proofs.Statuses.{cause-flush}

abbrev pub streams_of : RunState → Streams
streams_of s = record { source = s.source; sink = s.sink; errs = s.errs }

-- memory ran out for the reader
pub WritesFewerRows-none : (has : List ℕ → Outcome → Type 0) (strict : Bool) (a : Streams) (t : LineTally) → t.muted ≡ false → WritesFewerRows has strict [] a a t no_memory
WritesFewerRows-none has strict a t unmuted =
    record {
      bytes = [];
      gives = gives_nothing a.source;
      stops = some_stops a.source.left;
      cause = tt;
      reading_reported = λ l. absurd (omega (arith, l));
      writing_told = λ l. absurd (omega (arith, l));
    }
  where
    nothing : StopsEarly has strict [] a.sink a.sink a.errs a.errs t.muted []
    nothing = record {
      done = [];
      begun = [];
      later = [];
      parted = refl;
      outcomes = [];
      have = tt;
      next = [];
      next_have = tt;
      first = good_first strict [] (λ _. refl);
      first_next = good_first strict [] (λ _. refl);
      rows = Begins-part a.sink.gained a.sink.gained [] [] (Appends-nil a.sink.gained);
      reports = subst (λ d. ReportsUnlessMuted false d a.errs a.errs []) (sym unmuted) (Puts-nil a.errs);
    }

    some_stops : (o : Option (List ℕ)) → IfSome o (λ _. StopsEarly has strict [] a.sink a.sink a.errs a.errs t.muted [])
    some_stops None = tt
    some_stops (Some x) = nothing

-- the flush after all lines
abbrev pub with_sink : RunState → SinkState → Streams
with_sink s sink = record { source = s.source; sink = sink; errs = s.errs }

gains_flushed : (has : List ℕ → Outcome → Type 0) (strict : Bool) (bytes : List ℕ) (a c sink errs errs' : SinkState) (t : LineTally) → Keeps c.gained sink.gained → HandlesAll has strict bytes a c errs errs' t → GainsRows has strict [] bytes a sink errs errs' t
gains_flushed has strict bytes a c sink errs errs' t keeps all =
    let h = all.handled in
    record {
      done = all.done;
      later = all.later;
      parted = all.parted;
      outcomes = h.outcomes;
      have = h.have;
      alone = all.alone;
      rows = Appends-kept a.gained c.gained sink.gained (rows_of h.outcomes) h.rows.ok keeps;
      reports = h.reports;
      bad = h.bad;
    }

pub WritesAllRows-flushed : (has : List ℕ → Outcome → Type 0) (strict : Bool) (a c : RunState) (sink : SinkState) (u : Unit {0}) → IsFreshRun a → FinishesLines has strict a c → FlushesAll c.sink sink (Ok u) → WritesAllRows has strict [] (streams_of a) (with_sink c sink) c.tally
WritesAllRows-flushed has strict a c sink u fresh run flush =
    record {
      bytes = run.bytes;
      gives = gives_bytes a.reader c.reader a.source c.source run.bytes run.reads;
      few = few_bytes a.reader.received c.reader.received (length run.bytes) fresh.received run.reads.received_so run.few;
      ends = run.ends;
      no_fault = run.no_fault;
      no_sink_fault = same_faults c.sink.faults sink.faults flush.later.faults (λ l. ok_no_error u writing_failed (flush.reported l)) ∙ run.no_sink_fault;
      flushed = flush.ok;
      handled = IfSome-map a.source.left (λ b. HandlesAll has strict b a.sink c.sink a.errs c.errs c.tally) (λ b. GainsRows has strict [] b a.sink sink a.errs c.errs c.tally)
          (λ b h. gains_flushed has strict b a.sink c.sink sink a.errs c.errs c.tally flush.keeps h) run.handled;
    }

stops_flushed : (has : List ℕ → Outcome → Type 0) (strict : Bool) (bytes : List ℕ) (a c sink errs errs' : SinkState) (muted : Bool) → Keeps c.gained sink.gained → StopsEarly has strict [] a c errs errs' muted bytes → StopsEarly has strict [] a sink errs errs' muted bytes
stops_flushed has strict bytes a c sink errs errs' muted keeps h =
    record {
      done = h.done;
      begun = h.begun;
      later = h.later;
      parted = h.parted;
      outcomes = h.outcomes;
      have = h.have;
      next = h.next;
      next_have = h.next_have;
      first = h.first;
      first_next = h.first_next;
      rows = subst (λ g. Begins g (append_known a.gained (rows_of h.outcomes ++ rows_of h.next))) (sym keeps) h.rows;
      reports = h.reports;
    }

pub WritesFewerRows-flush : (has : List ℕ → Outcome → Type 0) (strict : Bool) (a c : RunState) (sink : SinkState) (e : Error) → FinishesLines has strict a c → FlushesAll c.sink sink (Err e) → WritesFewerRows has strict [] (streams_of a) (with_sink c sink) c.tally e
WritesFewerRows-flush has strict a c sink e run flush =
    record {
      bytes = run.bytes;
      gives = gives_bytes a.reader c.reader a.source c.source run.bytes run.reads;
      stops = IfSome-map a.source.left (λ _. StopsEarly has strict [] a.sink c.sink a.errs c.errs c.tally.muted run.bytes) (λ _. StopsEarly has strict [] a.sink sink a.errs c.errs c.tally.muted run.bytes)
          (λ _ h. stops_flushed has strict run.bytes a.sink c.sink sink a.errs c.errs c.tally.muted flush.keeps h) run.stops;
      cause = cause-flush run.bytes a.source c.source a.sink sink e.code e.place c.sink run.no_sink_fault flush.cause;
      reading_reported = λ l. absurd (omega (arith, l, run.no_fault));
      writing_told = λ l. err_same e writing_failed (flush.reported (omega (arith, l, run.no_sink_fault)));
    }

-- ---- what was reported

told-row : (code : ErrorCode) (place : Place) (a c : SinkState) → WritingCause a c code place → Rose a.faults c.faults ⊎ Rose a.lacks c.lacks
told-row NoMemory nowhere a c h = inr h
told-row Io Writing a c h = inl h
told-row code place a c h = absurd h

pub Reports-from : (muted : Bool) (a c : SinkState) (text : List ℕ) → ReportsUnlessMuted false muted a c text → Reports text a c
Reports-from false a c text h = inl h.ok
Reports-from true a c text h = inr (h.1.err, told-row h.0.code h.0.place a c h.1.cause)

-- all was reported, and then one text more
last_text : (a b c : SinkState) (xs text : List ℕ) → Puts a b xs (Ok tt) → Reports text b c → Reports (xs ++ text) a c
last_text a b c xs text h (inl k) = inl (Appends-trans a.gained b.gained c.gained xs text h.ok k)
last_text a b c xs text h (inr (front, inl rose)) = inr (AppendsFront-then a.gained b.gained c.gained xs text h.ok front, inl (subst (λ n. Rose n c.faults) h.faults_ok rose))
last_text a b c xs text h (inr (front, inr rose)) = inr (AppendsFront-then a.gained b.gained c.gained xs text h.ok front, inr (subst (λ n. Rose n c.lacks) h.lacks_ok rose))

pub Reports-last : (muted : Bool) (a b c : SinkState) (xs text : List ℕ) → ReportsUnlessMuted false muted a b xs → (muted ≡ false → Reports text b c) → (muted ≡ true → c ≡ b) → Reports (xs ++ text) a c
Reports-last false a b c xs text h reported silent = last_text a b c xs text h (reported refl)
Reports-last true a b c xs text h reported silent =
    subst (Reports (xs ++ text) a) (sym (silent refl)) (inr (AppendsFront-first a.gained b.gained xs text h.1.err, told-row h.0.code h.0.place a b h.1.cause))
