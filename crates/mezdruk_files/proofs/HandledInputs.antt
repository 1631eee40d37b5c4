-- What is done with the lines of an input, block after block.
use Rattle.std.proofs.Common.{◌≡◌, ◌⊎◌, inl, inr, ℕ, ◌+◌, ◌<◌, ◌≤◌, ◌^◌, Bool, true, false, List, [], ◌∷◌, ◌++◌, length, take, None, Some, Ok, Err, Option, refl, sym, ap, ◌∙◌, subst, append-nil, append_assoc, length-append, length-take, arith, lit<}
use Rattle.std.specs.Prelude.{Result, OnOk}
use Rattle.json_io.specs.Errors.{no_memory}
use Rattle.json_io.specs.FaultText.{text_of}
use Rattle.json_io.specs.Known.{Consumes, Keeps, prepend_known, if_known}
use Rattle.json_io.specs.Outside.{SinkState, SourceState, Reads, Rose}
use Rattle.json_io.specs.declared.error.Error.{Error}
use Rattle.json_io.specs.declared.error.ErrorCode.{ErrorCode}
use Rattle.json_io.specs.declared.error.ErrorCode.TheVariants.{NoMemory, Io, TooLarge}
use Rattle.json_io.specs.declared.error.Place.{Place}
use Rattle.json_io.specs.declared.error.Place.TheVariants.{None as nowhere, Reading}
use Rattle.json_io.proofs.Known.{Consumes-nil, Consumes-trans}
use Rattle.json_text.specs.Faults.{ValueFaultFrom}
use Rattle.json_command.specs.declared.output.Printer.{Printer}
use Rattle.json_command.specs.Input.{max_bytes}
use Rattle.json_command.specs.Reporting.{Reports}
use Rattle.json_command.specs.Statuses.{status_of}
use Rattle.mezdruk_files.specs.declared.document_error.DocumentError.TheVariants.{Input}
use Rattle.mezdruk_files.specs.declared.run.DocumentTally.{DocumentTally}
use Rattle.mezdruk_files.specs.Inputs.{AreWholeLines, has_newline, ReadsMore, ReadingStops, InputFails, InputEnds, EndedLines, LinesHave, FirstLinesHave, HandlesInput, StopsInput, PrintsInput, PrintsPartOfInput}
use Rattle.mezdruk_files.specs.Outcomes.{Task, PartOutcome, Refused, LineOutcome, PartsHave, output_of, reports_of, greatest_status}
use Rattle.mezdruk_files.specs.Parts.{DocumentPart, whole_part, line_part, line_parts, lines_of, parts_of_lines, HasFewLines}
use Rattle.mezdruk_files.specs.Reports.{IsReport}
use Rattle.mezdruk_files.specs.Running.{ReportsError, ReportingFails, Handles, StopsRunning}
use Rattle.mezdruk_files.specs.Streams.{ValueFails}
use Rattle.mezdruk_files.proofs.Handled.{Handles-none, Handles-then, StopsRunning-then, Handles-as, StopsRunning-as, handles_error, stops_none}
use Rattle.mezdruk_files.proofs.SmallStatuses.{line_small, max_small, parts_small, stops_high}
use Rattle.mezdruk_files.proofs.TextWriting.{Reports-from, Reports-last}
use Rattle.mezdruk_files.proofs.Totals.{greatest_status-append}
use Rattle.mezdruk_files.proofs.WholeLines.{lines_of-whole, whole_lines-append, few_lines, lines_then, lines_first, lines_begin}

-- ---- the lines so far

abbrev AllLines : Task → List ℕ → List ℕ → List PartOutcome → Type 0
AllLines task name b outcomes = PartsHave true (LineOutcome task) (line_parts name 0 (lines_of b)) outcomes

abbrev NoOutcome : List PartOutcome → Type 0
NoOutcome outcomes = outcomes ≡ []

-- the lines that ended were handled, and these bytes after them are held
pub record LinesSoFar (task : Task) (name : List ℕ) (old now : SourceState) (held : List ℕ) (number received : ℕ) (t u : DocumentTally) (s s' e e' : SinkState) : Type 0 where
  pub before : List ℕ
  pub whole : AreWholeLines before
  pub consumed : Consumes old.left now.left (before ++ held)
  pub no_fault : now.faults ≡ old.faults
  pub handled : Handles (PartsHave true (LineOutcome task) (line_parts name 0 (lines_of before))) t u s s' e e'
  pub numbered : number ≡ length (lines_of before)
  pub counted : received ≡ length (before ++ held)

module _ (task : Task) (name : List ℕ) (old : SourceState) (t : DocumentTally) (s e : SinkState) where
  pub so_far_none : LinesSoFar task name old old [] 0 0 t t s s e e
  so_far_none =
      record { before = []; whole = inl refl; consumed = Consumes-nil old.left; no_fault = refl; handled = Handles-none (AllLines task name []) t s e tt; numbered = refl; counted = refl }

module _ (task : Task) (name : List ℕ) (old now : SourceState) (held : List ℕ) (number received : ℕ) (t u : DocumentTally) (s s' e e' : SinkState) (so_far : LinesSoFar task name old now held number received t u s s' e e') where
  -- the bytes that were held and more
  more_consumed : (next : SourceState) (bytes : List ℕ) → Consumes now.left next.left bytes → Consumes old.left next.left (so_far.before ++ (held ++ bytes))
  more_consumed next bytes c = subst (Consumes old.left next.left) (append_assoc so_far.before held bytes) (Consumes-trans old.left now.left next.left (so_far.before ++ held) bytes so_far.consumed c)

  -- one read more
  pub so_far_read : (next : SourceState) (held' : List ℕ) (n : ℕ) → ReadsMore now next held held' n → LinesSoFar task name old next held' number (received + n) t u s s' e e'
  so_far_read next held' n r =
      record {
        before = so_far.before;
        whole = so_far.whole;
        consumed = subst (λ h. Consumes old.left next.left (so_far.before ++ h)) (sym r.appended) (more_consumed next r.bytes r.consumed);
        no_fault = r.no_fault ∙ so_far.no_fault;
        handled = so_far.handled;
        numbered = so_far.numbered;
        counted = omega (arith, so_far.counted, length-append so_far.before held, length-append so_far.before held', length-append held r.bytes, r.size, ap length r.appended);
      }

  -- all lines can be counted
  pub few_held : (lines rest : List ℕ) → held ≡ lines ++ rest → received < 2 ^ 63 → HasFewLines (line_part name number lines)
  few_held lines rest is low =
      omega (arith, low, so_far.numbered, so_far.counted, few_lines so_far.before, length-append so_far.before held, length-append lines rest, ap length is)

  -- lines of those that are held were handled
  pub so_far_more : (lines rest : List ℕ) (n : ℕ) (v : DocumentTally) (s'' e'' : SinkState) → held ≡ lines ++ rest → AreWholeLines lines → n ≡ number + length (lines_of lines)
      → Handles (PartsHave true (LineOutcome task) (line_parts name number (lines_of lines))) u v s' s'' e' e'' → LinesSoFar task name old now rest n received t v s s'' e e''
  so_far_more lines rest n v s'' e'' is ended count h =
      let moved : so_far.before ++ held ≡ (so_far.before ++ lines) ++ rest = ap (λ x. so_far.before ++ x) is ∙ sym (append_assoc so_far.before lines rest) in
      record {
        before = so_far.before ++ lines;
        whole = whole_lines-append so_far.before lines so_far.whole ended;
        consumed = subst (Consumes old.left now.left) moved so_far.consumed;
        no_fault = so_far.no_fault;
        handled = Handles-then (AllLines task name so_far.before) (PartsHave true (LineOutcome task) (line_parts name number (lines_of lines))) (AllLines task name (so_far.before ++ lines)) t u v s s' s'' e e' e'' so_far.handled h
            (λ os xs. lines_then (LineOutcome task) name so_far.before so_far.whole true lines number os xs so_far.numbered);
        numbered = omega (arith, count, so_far.numbered, ap length (lines_of-whole so_far.before lines so_far.whole), length-append (lines_of so_far.before) (lines_of lines));
        counted = so_far.counted ∙ ap length moved;
      }

  -- the last lines were handled at the end of the input
  pub input_done : (next : SourceState) (held' : List ℕ) (n : ℕ) (v : DocumentTally) (s'' e'' : SinkState) → n ≡ 0 → ReadsMore now next held held' n
      → Handles (PartsHave true (LineOutcome task) (line_parts name number (lines_of held'))) u v s' s'' e' e'' → HandlesInput task name old next t v s s'' e e''
  input_done next held' n v s'' e'' none r h =
      record {
        bytes = so_far.before ++ held';
        consumed = subst (λ x. Consumes old.left next.left (so_far.before ++ x)) (sym r.appended) (more_consumed next r.bytes r.consumed);
        end = None;
        ends = (r.ends none ∙ left_known old.left now.left (so_far.before ++ held) so_far.consumed, r.no_fault ∙ so_far.no_fault);
        handled = Handles-then (AllLines task name so_far.before) (PartsHave true (LineOutcome task) (line_parts name number (lines_of held'))) (AllLines task name (so_far.before ++ held')) t u v s s' s'' e e' e'' so_far.handled h
            (λ os xs. lines_then (LineOutcome task) name so_far.before so_far.whole true held' number os xs so_far.numbered);
      }
    where
      -- what is known of the bytes left stays known
      left_known : (a b : Option (List ℕ)) (p : List ℕ) → Consumes a b p → if_known b [] ≡ if_known a []
      left_known a None p c = ap (λ x. if_known x []) (sym c)
      left_known a (Some x) p c = ap (λ y. if_known y []) (sym c)

  -- the run stopped at the last lines, or at lines that ended
  pub input_stops : (next : SourceState) (held' lines rest : List ℕ) (n : ℕ) (v : DocumentTally) (s'' e'' : SinkState) (error : Error) → ReadsMore now next held held' n → held' ≡ lines ++ rest → AreWholeLines lines ⊎ (rest ≡ [])
      → StopsRunning (PartsHave false (LineOutcome task) (line_parts name number (lines_of lines))) u v s' s'' e' e'' error → StopsInput task name old next t v s s'' e e'' error
  input_stops next held' lines rest n v s'' e'' error r is ended h =
      record {
        bytes = so_far.before ++ held';
        consumed = subst (λ x. Consumes old.left next.left (so_far.before ++ x)) (sym r.appended) (more_consumed next r.bytes r.consumed);
        stopped = StopsRunning-then (AllLines task name so_far.before) (PartsHave false (LineOutcome task) (line_parts name number (lines_of lines))) (FirstLinesHave task name (so_far.before ++ held')) t u v s s' s'' e e' e'' error so_far.handled h
            (λ os xs g k. by ended (os ++ xs) (lines_then (LineOutcome task) name so_far.before so_far.whole false lines number os xs so_far.numbered g k));
      }
    where
      by : AreWholeLines lines ⊎ (rest ≡ []) → (os : List PartOutcome) → FirstLinesHave task name (so_far.before ++ lines) os → FirstLinesHave task name (so_far.before ++ held') os
      by (inl whole) os k =
          subst (λ b. FirstLinesHave task name b os) (append_assoc so_far.before lines rest ∙ ap (λ x. so_far.before ++ x) (sym is))
          (lines_begin (LineOutcome task) name (so_far.before ++ lines) (whole_lines-append so_far.before lines so_far.whole whole) rest os k)
      by (inr none) os k = subst (λ x. FirstLinesHave task name (so_far.before ++ x) os) (sym (is ∙ ap (λ y. lines ++ y) none ∙ append-nil lines)) k

  -- memory ran out before more was handled
  pub input_none : (next : SourceState) (bytes : List ℕ) (v : DocumentTally) (s'' e'' : SinkState) (error : Error) → Consumes now.left next.left bytes → error ≡ no_memory → v ≡ u → s'' ≡ s' → e'' ≡ e' → StopsInput task name old next t v s s'' e e'' error
  input_none next bytes v s'' e'' error c only kept same silent =
      record {
        bytes = so_far.before ++ (held ++ bytes);
        consumed = more_consumed next bytes c;
        stopped = StopsRunning-then (AllLines task name so_far.before) NoOutcome (FirstLinesHave task name (so_far.before ++ (held ++ bytes))) t u v s s' s'' e e' e'' error so_far.handled (stops_none NoOutcome u v s' s'' e' e'' error refl only same kept silent)
            (λ os xs g k. subst (FirstLinesHave task name (so_far.before ++ (held ++ bytes))) (sym (ap (λ x. os ++ x) k ∙ append-nil os)) (lines_first (LineOutcome task) name so_far.before so_far.whole (held ++ bytes) os g));
      }

  -- an error ended the input, and was reported
  pub input_fails : (next : SourceState) (v : DocumentTally) (e'' : SinkState) (error : Error) → Keeps now.left next.left → has_newline held ≡ false → InputFails old next (so_far.before ++ held) error.code error.place → ReportsError (whole_part name []) (Input error) u v e' e''
      → HandlesInput task name old next t v s s' e e''
  input_fails next v e'' error kept unended fails h =
      record {
        bytes = so_far.before ++ held;
        consumed = subst (λ x. Consumes old.left x (so_far.before ++ held)) (sym kept) so_far.consumed;
        end = Some error;
        ends = fails;
        handled = Handles-then (AllLines task name so_far.before) (λ os. os ≡ Refused (Input error) h.report ∷ []) (EndedLines task name (so_far.before ++ held) error) t u v s s' s' e e' e'' so_far.handled
            (handles_error (λ os. os ≡ Refused (Input error) h.report ∷ []) (whole_part name []) (Input error) u v s' s' e' e'' h refl refl)
            (λ os xs g k. record { before = so_far.before; rest = held; parted = refl; whole = so_far.whole; unended = unended; first = os; have = g; report = h.report; is_report = h.is_report; outcomes_are = ap (λ x. os ++ x) k });
      }

-- ---- lines as a part

module _ (task : Task) (p : DocumentPart) (name b : List ℕ) (n : ℕ) (is : p ≡ line_part name n b) (t u : DocumentTally) (s s' e e' : SinkState) where
  pub as_lines : Handles (PartsHave true (LineOutcome task) (parts_of_lines p)) t u s s' e e' → Handles (PartsHave true (LineOutcome task) (line_parts name n (lines_of b))) t u s s' e e'
  as_lines h = subst (λ (q : DocumentPart). Handles (PartsHave true (LineOutcome task) (parts_of_lines q)) t u s s' e e') is h

  pub as_first_lines : (error : Error) → StopsRunning (PartsHave false (LineOutcome task) (parts_of_lines p)) t u s s' e e' error → StopsRunning (PartsHave false (LineOutcome task) (line_parts name n (lines_of b))) t u s s' e e' error
  as_first_lines error h = subst (λ (q : DocumentPart). StopsRunning (PartsHave false (LineOutcome task) (parts_of_lines q)) t u s s' e e' error) is h

  pub as_number : (m : ℕ) → m ≡ p.before + length (lines_of p.bytes) → m ≡ n + length (lines_of b)
  as_number m h = subst (λ (q : DocumentPart). m ≡ q.before + length (lines_of q.bytes)) is h

-- ---- one read

pub reads_more : (old new : SourceState) (block held held' : List ℕ) (n : ℕ) → Reads old new block (Ok n) → n ≤ length block → 0 < length block → held' ≡ held ++ take n block → ReadsMore old new held held' n
reads_more old new block held held' n r few some is =
    record { bytes = take n block; size = omega (arith, few, length-take n block); appended = is; consumed = r.gives; no_fault = r.faults_ok; ends = λ none. r.ends none some }

-- ---- the error of a read

pub on_ok_both : {A E P Q R : Type 0} (r : Result A E) → (P → Q → R) → OnOk r P → OnOk r Q → OnOk r R
on_ok_both (Ok x) f p q = f p q
on_ok_both (Err x) f p q = tt

-- it is not that memory ran out
source_fails : (code : ErrorCode) (place : Place) → ((b : List ℕ) (i : ℕ) → ValueFails b i code place → ValueFaultFrom false 254 i b code place) → (a b : SourceState) (bytes : List ℕ) → ReadingStops a b code place → Keeps a.left b.left × InputFails a b bytes code place
source_fails NoMemory nowhere fault a b bytes h = absurd (fault [] 0 tt).2
source_fails Io Reading fault a b bytes h = h
source_fails code place fault a b bytes h = absurd h

-- what was lost where memory ran out
pub lost_bytes : (code : ErrorCode) (place : Place) (a b : SourceState) → ReadingStops a b code place → (bytes : List ℕ) × Consumes a.left b.left bytes
lost_bytes NoMemory nowhere a b h = h
lost_bytes Io Reading a b h = ([], subst (λ x. Consumes x b.left []) h.0 (Consumes-nil b.left))
lost_bytes code place a b h = absurd h

module _ (task : Task) (name : List ℕ) (old now next : SourceState) (held : List ℕ) (number received : ℕ) (t u v : DocumentTally) (s s' e e' e'' : SinkState) (so_far : LinesSoFar task name old now held number received t u s s' e e') (error : Error) (stops : ReadingStops now next error.code error.place) where
  -- it was reported
  pub read_failed : has_newline held ≡ false → (part : DocumentPart) → part ≡ whole_part name [] → ((b : List ℕ) (i : ℕ) → ValueFails b i error.code error.place → ValueFaultFrom false 254 i b error.code error.place) → ReportsError part (Input error) u v e' e'' → HandlesInput task name old next t v s s' e e''
  read_failed unended part is fault h =
      let f = source_fails error.code error.place fault now next (so_far.before ++ held) stops in
      input_fails task name old now held number received t u s s' e e' so_far next v e'' error f.0 unended (fails_from_start error.code error.place f.1) (subst (λ (p : DocumentPart). ReportsError p (Input error) u v e' e'') is h)
    where
      fails_from_start : (code : ErrorCode) (place : Place) → InputFails now next (so_far.before ++ held) code place → InputFails old next (so_far.before ++ held) code place
      fails_from_start Io Reading h = subst (λ n. Rose n next.faults) so_far.no_fault h
      fails_from_start TooLarge nowhere h = h
      fails_from_start code place h = absurd h

-- ---- the input has too many bytes

module _ (task : Task) (name : List ℕ) (old now : SourceState) (held : List ℕ) (number received : ℕ) (t u v : DocumentTally) (s s' e e' e'' : SinkState) (so_far : LinesSoFar task name old now held number received t u s s' e e') (error : Error) where
  pub too_many : has_newline held ≡ false → (part : DocumentPart) → part ≡ whole_part name [] → error.code ≡ TooLarge → error.place ≡ nowhere → max_bytes < received → ReportsError part (Input error) u v e' e'' → HandlesInput task name old now t v s s' e e''
  too_many unended part is code place many h =
      let large : max_bytes < length (so_far.before ++ held) = subst (λ n. max_bytes < n) so_far.counted many in
      input_fails task name old now held number received t u s s' e e' so_far now v e'' error refl unended
      (subst (λ c. InputFails old now (so_far.before ++ held) c error.place) (sym code) (subst (λ p. InputFails old now (so_far.before ++ held) TooLarge p) (sym place) large)) (subst (λ (p : DocumentPart). ReportsError p (Input error) u v e' e'') is h)

  pub too_many_stopped : ReportingFails u v e' e'' error → StopsInput task name old now t v s s' e e'' error
  too_many_stopped k = input_none task name old now held number received t u s s' e e' so_far now [] v s' e'' error (Consumes-nil now.left) k.only k.kept refl k.silent

-- ---- the top call

end_small : (source source' : SourceState) (b : List ℕ) (code : ErrorCode) (place : Place) → InputFails source source' b code place → status_of code place < 5
end_small source source' b Io Reading h = lit< tt
end_small source source' b TooLarge nowhere h = lit< tt
end_small source source' b code place h = absurd h

input_small : (task : Task) (name b : List ℕ) (source source' : SourceState) (end : Option Error) (os : List PartOutcome) → InputEnds source source' b end → LinesHave task name b end os → greatest_status os < 5
input_small task name b source source' None os ends h = parts_small true (LineOutcome task) (line_parts name 0 (lines_of b)) os (line_small task) h
input_small task name b source source' (Some error) os ends h =
    subst (λ n. n < 5) (sym (ap greatest_status h.outcomes_are ∙ greatest_status-append h.first (Refused (Input error) h.report ∷ [])))
    (max_small (greatest_status h.first) (greatest_status (Refused (Input error) h.report ∷ [])) (parts_small true (LineOutcome task) (line_parts name 0 (lines_of h.before)) h.first (line_small task) h.have)
    (max_small (status_of error.code error.place) 0 (end_small source source' b error.code error.place ends) (lit< tt)))

module _ (printer : Printer) (task : Task) (name : List ℕ) (source source' : SourceState) (t : DocumentTally) (a u b f : SinkState) where
  pub prints_input : (n : ℕ) → n ≡ t.status → HandlesInput task name source source' (record { printer = printer; status = 0; muted = false }) t a u b f → PrintsInput task name source source' a u b f n
  prints_input n is h =
      let k = h.handled in
      record {
        bytes = h.bytes;
        consumed = h.consumed;
        end = h.end;
        ends = h.ends;
        outcomes = k.outcomes;
        have = k.have;
        output = k.output.ok;
        flushed = k.output.flushed;
        reports = Reports-from t.muted b f (reports_of k.outcomes) k.reports;
        status_is = omega (arith, is, k.status);
      }

  pub input_status : HandlesInput task name source source' (record { printer = printer; status = 0; muted = false }) t a u b f → t.status < 5
  input_status h = omega (arith, h.handled.status, input_small task name h.bytes source source' h.end h.handled.outcomes h.ends h.handled.have)

  pub prints_part : (g : SinkState) (error : Error) (n : ℕ) → n ≡ status_of error.code error.place → StopsInput task name source source' (record { printer = printer; status = 0; muted = false }) t a u b f error → (t.muted ≡ false → Reports (text_of error) f g) → (t.muted ≡ true → g ≡ f)
      → PrintsPartOfInput task name source source' a u b g n
  prints_part g error n is h reported silent =
      let k = h.stopped in
      record {
        error = error;
        status_is = is;
        bytes = h.bytes;
        consumed = h.consumed;
        outcomes = k.outcomes;
        have = k.have;
        output = k.output;
        reports = Reports-last t.muted b f g (reports_of k.outcomes) (text_of error) k.reports reported silent;
      }

  pub part_status : (error : Error) (n : ℕ) → n ≡ status_of error.code error.place → StopsInput task name source source' (record { printer = printer; status = 0; muted = false }) t a u b f error → (n ≡ 5) ⊎ (n ≡ 6)
  part_status error n is h = subst (λ m. (m ≡ 5) ⊎ (m ≡ 6)) (sym is) (stops_high a u (output_of h.stopped.outcomes) error.code error.place h.stopped.output)
