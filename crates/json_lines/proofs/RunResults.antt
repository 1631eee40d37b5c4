-- What the top call does, for each status.
use Rattle.std.proofs.Common.{◌≡◌, ◌⊎◌, inl, inr, ℕ, List, [], ◌++◌, length, refl, sym, ap, subst, ◌∙◌, Bool, true, false, Option, IfSome, arith, append_assoc}
use Rattle.std.specs.Prelude.{if◌then◌else◌}
use Rattle.json_io.specs.Errors.{no_memory, bad_words}
use Rattle.json_io.specs.FaultText.{text_of}
use Rattle.json_io.specs.Known.{Appends}
use Rattle.json_io.specs.Outside.{SinkState, SourceState}
use Rattle.json_io.specs.Transfer.{AppendsFront}
use Rattle.json_io.specs.declared.error.Error.{Error}
use Rattle.json_io.specs.declared.error.ErrorCode.{ErrorCode}
use Rattle.json_io.specs.declared.error.ErrorCode.TheVariants.{NoMemory, Io, TooLarge}
use Rattle.json_io.specs.declared.error.Place.{Place}
use Rattle.json_io.specs.declared.error.Place.TheVariants.{None as nowhere, Reading, Writing}
use Rattle.json_io.proofs.Putting.{AppendsFront-first}
use Rattle.json_command.specs.Reporting.{Reports}
use Rattle.json_lines.specs.Cells.{LinesCommand, table_header}
use Rattle.json_lines.specs.Lines.{lines}
use Rattle.json_lines.specs.Outcomes.{HasOutcome, HaveOutcomes, handled, table_text}
use Rattle.json_lines.specs.Rows.{Outcome, HasWithin, handled_by, rows_of, errors_from, some_bad}
use Rattle.json_lines.specs.RunResults.{OfOutcomes, ReadsWell, ReadsAll, StopsAtBad, Completes, AppendsRowsPrefix, TellsErrorsPrefix, FailsRun, RunResult}
use Rattle.json_lines.specs.TopCall.{Streams, GainsRows, WritesAllRows, EndsInput, WritesPartOfTable, WritesPrefixes, RunErrorCause, run_status}
use Rattle.json_lines.specs.Words.{AsksForColumns, IsLinesRequest}
use Rattle.json_lines.specs.declared.run.LineTally.{LineTally}
use Rattle.json_lines.proofs.HandledLines.{IfSome-map}
use Rattle.json_lines.proofs.OneOutcome.{some_outcomes, all_within}
use Rattle.json_lines.proofs.ReaderSteps.{gives_nothing}
use Rattle.json_lines.proofs.RunStatus.{Reports-from, Reports-last}
use Rattle.json_lines.proofs.HandledOutcomes.{some_bad-handled}
use Rattle.json_lines.proofs.Totals.{rows_of-append, AllHave-append, AllHave-length}

abbrev within : LinesCommand → List ℕ → Outcome → Type 0
within command = HasWithin 1048576 (HasOutcome command)

-- ---- the run is complete

-- the sink gained what the command makes of the lines of these bytes
abbrev Gains : LinesCommand → List ℕ → SinkState → SinkState → SinkState → SinkState → LineTally → Type 0
Gains command bytes a c errs errs' t = GainsRows (within command) command.strict (table_header command) bytes a c errs errs' t

-- the outcomes of all lines, where those of the lines that were not handled are any
with_others : (command : LinesCommand) (bytes : List ℕ) (a c errs errs' : SinkState) (t : LineTally) (Q : LinesCommand → List Outcome → Type 0)
    → (g : Gains command bytes a c errs errs' t) → ((others : List Outcome) → length others ≡ length g.later → Q command (g.outcomes ++ others))
    → (outcomes : List Outcome) × HaveOutcomes command (lines bytes) outcomes × Q command outcomes
with_others command bytes a c errs errs' t Q g f =
    let some = some_outcomes command g.later in (
      g.outcomes ++ some.0,
      subst (λ l. HaveOutcomes command l (g.outcomes ++ some.0)) (sym g.parted) (AllHave-append (HasOutcome command) g.done g.later g.outcomes some.0 (all_within command g.done g.outcomes g.have) some.1),
      f some.0 (AllHave-length (HasOutcome command) g.later some.0 some.1),
    )

-- of the outcomes of all lines
of_lines : (arguments : List (List ℕ)) (command : LinesCommand) (known : Option (List ℕ)) (a c errs errs' : SinkState) (t : LineTally) (Q : LinesCommand → List Outcome → Type 0) → AsksForColumns arguments command
    → ((b : List ℕ) → (h : Gains command b a c errs errs' t) → (others : List Outcome) → length others ≡ length h.later → Q command (h.outcomes ++ others)) → IfSome known (λ b. Gains command b a c errs errs' t) → OfOutcomes arguments known Q
of_lines arguments command known a c errs errs' t Q asked f h =
    record {
      command = command;
      asked = asked;
      so = IfSome-map known (λ b. Gains command b a c errs errs' t) (λ b. (outcomes : List Outcome) × HaveOutcomes command (lines b) outcomes × Q command outcomes)
          (λ b g. with_others command b a c errs errs' t Q g (f b g)) h;
    }

-- how reading ended
ends_by : (arguments : List (List ℕ)) (command : LinesCommand) (a c : Streams) (t : Bool) (n : ℕ) → AsksForColumns arguments command → ReadsWell a c → n ≡ (if t then 1 else 0) → EndsInput command.strict a c t → ReadsAll a c ⊎ StopsAtBad arguments a c n
ends_by arguments command a c t n asked well is (inl drained) = inl (record { well = well; drained = drained })
ends_by arguments command a c t n asked well is (inr (strict, bad)) = inr (record { strict = (command, asked, strict); well = well; bad = is ∙ ap (λ t. if t then 1 else 0) bad })

status_bool : (t : Bool) (n : ℕ) → n ≡ (if t then 1 else 0) → (n ≡ 0) ⊎ (n ≡ 1)
status_bool true n h = inr h
status_bool false n h = inl h

pub completes-from : (arguments : List (List ℕ)) (command : LinesCommand) (a c : Streams) (t : LineTally) (n : ℕ) → AsksForColumns arguments command → WritesAllRows (within command) command.strict (table_header command) a c t → n ≡ (if t.bad then 1 else 0) → Completes arguments a c n
completes-from arguments command a c t n asked all is =
    record {
      known = status_bool t.bad n is;
      all = ends_by arguments command a c t.bad n asked (record { bytes = all.bytes; gives = all.gives; few = all.few; read = all.no_fault; written = all.no_sink_fault; flushed = all.flushed }) is all.ends;
      rows = of_lines arguments command a.source.left a.sink c.sink a.errs c.errs t (λ k os. Appends a.sink.gained c.sink.gained (table_text k os)) asked
          (λ b h others m. subst (λ l. Appends a.sink.gained c.sink.gained (table_header command ++ rows_of l)) (sym (h.alone others m)) h.rows) all.handled;
      errors = of_lines arguments command a.source.left a.sink c.sink a.errs c.errs t (λ k os. Reports (errors_from 1 (handled k os)) a.errs c.errs) asked
          (λ b h others m. subst (λ l. Reports (errors_from 1 l) a.errs c.errs) (sym (h.alone others m)) (Reports-from t.muted a.errs c.errs (errors_from 1 h.outcomes) h.reports)) all.handled;
      bad = of_lines arguments command a.source.left a.sink c.sink a.errs c.errs t (λ k os. n ≡ (if some_bad os then 1 else 0)) asked
          (λ b h others m. is ∙ ap (λ t. if t then 1 else 0) (h.bad ∙ ap some_bad (sym (h.alone others m)) ∙ some_bad-handled command.strict (h.outcomes ++ others))) all.handled;
    }

-- ---- the run failed

-- the outcomes of all lines, where those of the later ones are any
module _ (command : LinesCommand) (a c : Streams) (errs : SinkState) (muted : Bool) (bytes : List ℕ) (h : WritesPrefixes (within command) command.strict (table_header command) a.sink c.sink a.errs c.errs muted bytes) where
  abbrev later_outcomes : List Outcome
  later_outcomes = (some_outcomes command h.later).0

  abbrev all_outcomes : List Outcome
  all_outcomes = h.outcomes ++ (h.next ++ later_outcomes)

  all_have : HaveOutcomes command (lines bytes) all_outcomes
  all_have =
      subst (λ l. HaveOutcomes command l all_outcomes) (sym h.parted)
      (AllHave-append (HasOutcome command) h.done (h.begun ++ h.later) h.outcomes (h.next ++ later_outcomes) (all_within command h.done h.outcomes h.have)
      (AllHave-append (HasOutcome command) h.begun h.later h.next later_outcomes (all_within command h.begun h.next h.next_have) (some_outcomes command h.later).1))

  -- the outcomes that are handled and of which nothing was written
  abbrev more_outcomes : List Outcome
  more_outcomes = (h.first_next later_outcomes).0

  abbrev part_text : List ℕ
  part_text = table_header command ++ (rows_of h.outcomes ++ rows_of h.next)

  all_rows : part_text ++ rows_of more_outcomes ≡ table_text command all_outcomes
  all_rows =
      append_assoc (table_header command) (rows_of h.outcomes ++ rows_of h.next) (rows_of more_outcomes)
      ∙ ap (λ l. table_header command ++ l) (ap (λ l. l ++ rows_of more_outcomes) (sym (rows_of-append h.outcomes h.next)) ∙ sym (rows_of-append (h.outcomes ++ h.next) more_outcomes)
      ∙ ap rows_of (sym (h.first_next later_outcomes).1 ∙ ap (handled_by command.strict) (append_assoc h.outcomes h.next later_outcomes)))

  rows_prefix : AppendsRowsPrefix command bytes a (record { source = c.source; sink = c.sink; errs = errs })
  rows_prefix =
      record { outcomes = all_outcomes; have = all_have; gained = subst (AppendsFront a.sink.gained c.sink.gained) all_rows (AppendsFront-first a.sink.gained c.sink.gained part_text (rows_of more_outcomes) h.rows) }

  errors_prefix : (e : Error) → (muted ≡ false → Reports (text_of e) c.errs errs) → (muted ≡ true → errs ≡ c.errs) → TellsErrorsPrefix command bytes e a (record { source = c.source; sink = c.sink; errs = errs })
  errors_prefix e reported silent =
      let rest = h.first (h.next ++ later_outcomes) in
      record {
        outcomes = all_outcomes;
        have = all_have;
        first = h.outcomes;
        later = rest.0;
        parted = rest.1;
        reported = Reports-last muted a.errs c.errs errs (errors_from 1 h.outcomes) (text_of e) h.reports reported silent;
      }

cause_errs : (code : ErrorCode) (place : Place) (bytes : List ℕ) (a c : Streams) (errs : SinkState) → RunErrorCause bytes a c code place → RunErrorCause bytes a (record { source = c.source; sink = c.sink; errs = errs }) code place
cause_errs NoMemory nowhere bytes a c errs h = tt
cause_errs Io Reading bytes a c errs h = h
cause_errs Io Writing bytes a c errs h = h
cause_errs TooLarge nowhere bytes a c errs h = h
cause_errs code place bytes a c errs h = absurd h

pub fails-from : (arguments : List (List ℕ)) (command : LinesCommand) (a c : Streams) (errs : SinkState) (t : LineTally) (e : Error) (n : ℕ) → AsksForColumns arguments command → WritesPartOfTable (within command) command.strict (table_header command) a c t e → (t.muted ≡ false → Reports (text_of e) c.errs errs) → (t.muted ≡ true → errs ≡ c.errs)
    → n ≡ run_status e.code e.place → FailsRun arguments a (record { source = c.source; sink = c.sink; errs = errs }) n
fails-from arguments command a c errs t e n asked part reported silent is =
    record {
      error = e;
      status_is = is;
      bytes = part.bytes;
      gives = part.gives;
      cause = cause_errs e.code e.place part.bytes a c errs part.cause;
      did = inr (record {
        command = command;
        asked = asked;
        rows = IfSome-map a.source.left (λ _. WritesPrefixes (within command) command.strict (table_header command) a.sink c.sink a.errs c.errs t.muted part.bytes) (λ _. AppendsRowsPrefix command part.bytes a (record { source = c.source; sink = c.sink; errs = errs }))
            (λ _ h. rows_prefix command a c errs t.muted part.bytes h) part.prefixes;
        errors = IfSome-map a.source.left (λ _. WritesPrefixes (within command) command.strict (table_header command) a.sink c.sink a.errs c.errs t.muted part.bytes) (λ _. TellsErrorsPrefix command part.bytes e a (record { source = c.source; sink = c.sink; errs = errs }))
            (λ _ h. errors_prefix command a c errs t.muted part.bytes h e reported silent) part.prefixes;
      });
      read_error = λ l. is ∙ ap (λ e. run_status e.code e.place) (part.reading_reported l);
      write_error = λ l. is ∙ ap (λ e. run_status e.code e.place) (part.writing_told l);
    }

-- ---- the words alone

pub memory_ran_out : (arguments : List (List ℕ)) (s : SourceState) (sink errs errs' : SinkState) (e : Error) (n : ℕ) → e ≡ no_memory → Reports (text_of e) errs errs' → n ≡ run_status e.code e.place
    → FailsRun arguments (record { source = s; sink = sink; errs = errs }) (record { source = s; sink = sink; errs = errs' }) n
memory_ran_out arguments s sink errs errs' e n is told status =
    record {
      error = e;
      status_is = status;
      bytes = [];
      gives = gives_nothing s;
      cause = subst (λ (x : Error). RunErrorCause [] (record { source = s; sink = sink; errs = errs }) (record { source = s; sink = sink; errs = errs' }) x.code x.place) (sym is) tt;
      did = inl (record { lacks = is; unread = refl; unwritten = refl; reported = told });
      read_error = λ l. absurd (omega (arith, l));
      write_error = λ l. absurd (omega (arith, l));
    }

pub unasked-from : (arguments : List (List ℕ)) (s : SourceState) (sink errs errs' : SinkState) (e : Error) (n : ℕ) → Reports (text_of e) errs errs' → n ≡ run_status e.code e.place → (e ≡ no_memory) ⊎ ((e ≡ bad_words) × ¬ (IsLinesRequest arguments))
    → RunResult arguments (record { source = s; sink = sink; errs = errs }) (record { source = s; sink = sink; errs = errs' }) n
unasked-from arguments s sink errs errs' e n reports status (inl is) = inr (inr (memory_ran_out arguments s sink errs errs' e n is reports status))
unasked-from arguments s sink errs errs' e n reports status (inr (is, unasked)) =
    inr (inl (
      status ∙ ap (λ (x : Error). run_status x.code x.place) is,
      record { unasked = unasked; unread = refl; unwritten = refl; reported = subst (λ x. Reports (text_of x) errs errs') is reports },
    ))
