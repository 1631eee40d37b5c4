-- What is done with documents, one after another.
use Rattle.std.proofs.Common.{◌≡◌, ◌⊎◌, inl, inr, ℕ, ◌+◌, ◌<◌, ◌≤◌, Bool, true, false, List, [], ◌∷◌, ◌++◌, length, drop, None, Some, Ok, Err, refl, sym, ap, ◌∙◌, subst, append-nil, append_assoc, arith}
use Rattle.std.specs.Prelude.{max, slice_index_or, string_bytes, option_map}
use Rattle.std.proofs.lemmas.List.{drop_more, drop_all, nil_from_length}
use Rattle.std.proofs.lemmas.List.Concat.{flat_map-append}
use Rattle.json_grammar.specs.Grammar.{ws}
use Rattle.json_io.specs.Errors.{no_memory, reading_failed}
use Rattle.json_io.specs.FaultText.{text_of}
use Rattle.json_io.specs.Outside.{SinkState}
use Rattle.json_io.specs.declared.error.Error.{Error}
use Rattle.json_command.specs.declared.output.Printer.{Printer}
use Rattle.json_command.specs.Reporting.{Reports, ReportsUnlessMuted}
use Rattle.json_command.specs.Statuses.{status_of}
use Rattle.mezdruk_files.specs.declared.document.NamedDocument.{NamedDocument}
use Rattle.mezdruk_files.specs.declared.document_error.DocumentError.{DocumentError}
use Rattle.mezdruk_files.specs.declared.document_error.DocumentError.TheVariants.{Input, Change}
use Rattle.mezdruk_files.specs.declared.run.DocumentTally.{DocumentTally}
use Rattle.mezdruk_files.specs.Documents.{document_bytes, BytesHave, DocumentHas, DocumentsHave}
use Rattle.mezdruk_files.specs.Outcomes.{Task, PartOutcome, Printed, Refused, HasPartOutcome, LineOutcome, IsUnread, PartsHave, outcome_line, outcome_report, output_of, reports_of, greatest_status}
use Rattle.mezdruk_files.specs.Parts.{DocumentPart, whole_part, line_part, line_parts, lines_of}
use Rattle.mezdruk_files.specs.Running.{PrintsBytes, PrintingStops, BytesStop, ReportsError, ReportingFails, Handles, StopsRunning, PrintsAll, PrintsSome}
use Rattle.mezdruk_files.specs.Writing.{WritesOutput, WritingFails}
use Rattle.mezdruk_files.proofs.SmallStatuses.{greatest_small, stops_high}
use Rattle.mezdruk_files.proofs.TextWriting.{WritesOutput-nil, WritesOutput-then, fails_then, written_then_none, muted_nil, ReportsUnlessMuted-then, Reports-from, Reports-last}
use Rattle.mezdruk_files.proofs.Totals.{max_assoc, greatest_status-append}

-- ---- one after another

pub Handles-none : (P : List PartOutcome → Type 0) (t : DocumentTally) (s e : SinkState) → P [] → Handles P t t s s e e
Handles-none P t s e h = record { outcomes = []; have = h; output = WritesOutput-nil s; reports = muted_nil t.muted e; status = omega arith }

pub Handles-then : (P Q R : List PartOutcome → Type 0) (t u v : DocumentTally) (a b c d e f : SinkState) → Handles P t u a b d e → Handles Q u v b c e f → ((xs ys : List PartOutcome) → P xs → Q ys → R (xs ++ ys)) → Handles R t v a c d f
Handles-then P Q R t u v a b c d e f h k join =
    let os = h.outcomes in
    let ps = k.outcomes in
    record {
      outcomes = os ++ ps;
      have = join os ps h.have k.have;
      output = subst (λ l. WritesOutput a c l (Ok tt)) (sym (flat_map-append outcome_line os ps)) (WritesOutput-then a b c (output_of os) (output_of ps) tt (Ok tt) h.output k.output);
      reports = subst (ReportsUnlessMuted t.muted v.muted d f) (sym (flat_map-append outcome_report os ps)) (ReportsUnlessMuted-then t.muted u.muted v.muted d e f (reports_of os) (reports_of ps) h.reports k.reports);
      status = k.status ∙ ap (λ n. max n (greatest_status ps)) h.status ∙ sym (max_assoc t.status (greatest_status os) (greatest_status ps)) ∙ ap (max t.status) (sym (greatest_status-append os ps));
    }

pub StopsRunning-then : (P Q R : List PartOutcome → Type 0) (t u v : DocumentTally) (a b c d e f : SinkState) (error : Error) → Handles P t u a b d e → StopsRunning Q u v b c e f error → ((xs ys : List PartOutcome) → P xs → Q ys → R (xs ++ ys)) → StopsRunning R t v a c d f error
StopsRunning-then P Q R t u v a b c d e f error h k join =
    let os = h.outcomes in
    let ps = k.outcomes in
    record {
      outcomes = os ++ ps;
      have = join os ps h.have k.have;
      output = subst (λ l. WritingFails a c l error.code error.place) (sym (flat_map-append outcome_line os ps)) (fails_then a b c (output_of os) (output_of ps) error.code error.place h.output.ok k.output);
      reports = subst (ReportsUnlessMuted t.muted v.muted d f) (sym (flat_map-append outcome_report os ps)) (ReportsUnlessMuted-then t.muted u.muted v.muted d e f (reports_of os) (reports_of ps) h.reports k.reports);
    }

pub Handles-as : (P Q : List PartOutcome → Type 0) (t u : DocumentTally) (a b d e : SinkState) → Handles P t u a b d e → ((xs : List PartOutcome) → P xs → Q xs) → Handles Q t u a b d e
Handles-as P Q t u a b d e h f = record { outcomes = h.outcomes; have = f h.outcomes h.have; output = h.output; reports = h.reports; status = h.status }

pub StopsRunning-as : (P Q : List PartOutcome → Type 0) (t u : DocumentTally) (a b d e : SinkState) (error : Error) → StopsRunning P t u a b d e error → ((xs : List PartOutcome) → P xs → Q xs) → StopsRunning Q t u a b d e error
StopsRunning-as P Q t u a b d e error h f = record { outcomes = h.outcomes; have = f h.outcomes h.have; output = h.output; reports = h.reports }

-- nothing was done, and memory ran out
pub stops_none : (P : List PartOutcome → Type 0) (t v : DocumentTally) (s u e f : SinkState) (error : Error) → P [] → error ≡ no_memory → u ≡ s → v ≡ t → f ≡ e → StopsRunning P t v s u e f error
stops_none P t v s u e f error h only same kept silent =
    record {
      outcomes = [];
      have = h;
      output = written_then_none s s u [] tt error (WritesOutput-nil s) only same;
      reports = subst (λ (w : DocumentTally). ReportsUnlessMuted t.muted w.muted e f []) (sym kept) (subst (λ x. ReportsUnlessMuted t.muted t.muted e x []) (sym silent) (muted_nil t.muted e));
    }

-- ---- one part

-- a line was written
pub handles_line : (P : List PartOutcome → Type 0) (t : DocumentTally) (s u e : SinkState) (line : List ℕ) → P (Printed line ∷ []) → WritesOutput s u line (Ok tt) → Handles P t t s u e e
handles_line P t s u e line h writes =
    record { outcomes = Printed line ∷ []; have = h; output = subst (λ l. WritesOutput s u l (Ok tt)) (sym (append-nil line)) writes; reports = muted_nil t.muted e; status = omega arith }

-- an error was reported
pub handles_error : (P : List PartOutcome → Type 0) (part : DocumentPart) (error : DocumentError) (t v : DocumentTally) (s u e f : SinkState) → (h : ReportsError part error t v e f) → P (Refused error h.report ∷ []) → u ≡ s → Handles P t v s u e f
handles_error P part error t v s u e f h have same =
    record {
      outcomes = Refused error h.report ∷ [];
      have = have;
      output = subst (λ x. WritesOutput s x [] (Ok tt)) (sym same) (WritesOutput-nil s);
      reports = subst (ReportsUnlessMuted t.muted v.muted e f) (sym (append-nil h.report)) h.reported;
      status = omega (arith, h.status);
    }

module _ (task : Task) (part : DocumentPart) where
  abbrev Whole : List PartOutcome → Type 0
  Whole os = PartsHave true (HasPartOutcome task) (part ∷ []) os

  abbrev First : List PartOutcome → Type 0
  First os = PartsHave false (HasPartOutcome task) (part ∷ []) os

  -- its line was written
  pub handles_printed : (t : DocumentTally) (s u e : SinkState) → PrintsBytes task part.bytes s u None → Handles (PartsHave true (HasPartOutcome task) (part ∷ [])) t t s u e e
  handles_printed t s u e (tree, input, (changed, applied, writes)) = handles_line Whole t s u e (task.line changed) ((tree, input, (changed, applied, refl)), tt) writes

  -- its error was reported
  pub handles_refused : (error : DocumentError) (t v : DocumentTally) (s u e f : SinkState) → PrintsBytes task part.bytes s u (Some error) → ReportsError part error t v e f → Handles (PartsHave true (HasPartOutcome task) (part ∷ [])) t v s u e f
  handles_refused (Input error) t v s u e f h k = handles_error Whole part (Input error) t v s u e f k ((h.0, k.is_report), tt) h.1
  handles_refused (Change error) t v s u e f (tree, input, (fails, same)) k = handles_error Whole part (Change error) t v s u e f k ((tree, input, (fails, k.is_report)), tt) same

  -- nothing was written of it
  pub silent_refused : (error : DocumentError) (s u : SinkState) → PrintsBytes task part.bytes s u (Some error) → u ≡ s
  silent_refused (Input error) s u h = h.1
  silent_refused (Change error) s u (tree, input, (fails, same)) = same

  -- memory ran out for its report
  pub reporting_stops : (error : Error) (d : DocumentError) (t v : DocumentTally) (s u e f : SinkState) → PrintsBytes task part.bytes s u (Some d) → ReportingFails t v e f error → StopsRunning (PartsHave false (HasPartOutcome task) (part ∷ [])) t v s u e f error
  reporting_stops error d t v s u e f h k = stops_none First t v s u e f error refl k.only (silent_refused d s u h) k.kept k.silent

  -- its line was not written
  pub printing_stops : (t : DocumentTally) (s u e : SinkState) (error : Error) → BytesStop task part.bytes s u error → StopsRunning (PartsHave false (HasPartOutcome task) (part ∷ [])) t t s u e e error
  printing_stops t s u e error (inl (only, same)) = stops_none First t t s u e e error refl only same refl refl
  printing_stops t s u e error (inr (tree, input, inl (only, same))) = stops_none First t t s u e e error refl only same refl refl
  printing_stops t s u e error (inr (tree, input, inr (changed, applied, writes))) =
      record {
        outcomes = Printed (task.line changed) ∷ [];
        have = ((tree, input, (changed, applied, refl)), tt);
        output = subst (λ l. WritingFails s u l error.code error.place) (sym (append-nil (task.line changed))) writes.err;
        reports = muted_nil t.muted e;
      }

-- a document that could not be read
unread_is : (whole : Bool) (task : Task) (d : NamedDocument) (os : List PartOutcome) → d.bytes ≡ None → PartsHave whole IsUnread (whole_part (string_bytes d.name) [] ∷ []) os → DocumentHas whole task d os
unread_is whole task d os is h = subst (λ b. BytesHave whole task (string_bytes d.name) b task.form os) (sym (ap (option_map (λ v. v.items)) is)) h

pub handles_unread : (task : Task) (d : NamedDocument) (part : DocumentPart) (t v : DocumentTally) (s e f : SinkState) → d.bytes ≡ None → part ≡ whole_part (string_bytes d.name) [] → ReportsError part (Input reading_failed) t v e f → Handles (DocumentHas true task d) t v s s e f
handles_unread task d part t v s e f is whole k =
    let h : ReportsError (whole_part (string_bytes d.name) []) (Input reading_failed) t v e f = subst (λ (p : DocumentPart). ReportsError p (Input reading_failed) t v e f) whole k in
    handles_error (DocumentHas true task d) (whole_part (string_bytes d.name) []) (Input reading_failed) t v s s e f h (unread_is true task d (Refused (Input reading_failed) h.report ∷ []) is ((refl, h.is_report), tt)) refl

pub unread_stops : (task : Task) (d : NamedDocument) (t v : DocumentTally) (s e f : SinkState) (error : Error) → d.bytes ≡ None → ReportingFails t v e f error → StopsRunning (DocumentHas false task d) t v s s e f error
unread_stops task d t v s e f error is k = stops_none (DocumentHas false task d) t v s s e f error (unread_is false task d [] is refl) k.only refl k.kept k.silent

-- a document whose bytes were read
bytes_are : (whole : Bool) (task : Task) (d : NamedDocument) (part : DocumentPart) (b : List ℕ) (os : List PartOutcome) → part ≡ whole_part (string_bytes d.name) b → document_bytes d ≡ Some b → BytesHave whole task part.name (Some part.bytes) task.form os → DocumentHas whole task d os
bytes_are whole task d part b os is read h =
    subst (λ o. BytesHave whole task (string_bytes d.name) o task.form os) (sym read) (subst (λ (p : DocumentPart). BytesHave whole task p.name (Some p.bytes) task.form os) is h)

module _ (task : Task) (d : NamedDocument) (part : DocumentPart) (b : List ℕ) (t v : DocumentTally) (s u e f : SinkState) (is : part ≡ whole_part (string_bytes d.name) b) (read : document_bytes d ≡ Some b) where
  pub handles_bytes : Handles (BytesHave true task part.name (Some part.bytes) task.form) t v s u e f → Handles (DocumentHas true task d) t v s u e f
  handles_bytes h = Handles-as (BytesHave true task part.name (Some part.bytes) task.form) (DocumentHas true task d) t v s u e f h (λ os. bytes_are true task d part b os is read)

  pub bytes_stop : (error : Error) → StopsRunning (BytesHave false task part.name (Some part.bytes) task.form) t v s u e f error → StopsRunning (DocumentHas false task d) t v s u e f error
  bytes_stop error h = StopsRunning-as (BytesHave false task part.name (Some part.bytes) task.form) (DocumentHas false task d) t v s u e f error h (λ os. bytes_are false task d part b os is read)

-- ---- lines

pub handles_blank : (task : Task) (part : DocumentPart) (t : DocumentTally) (s e : SinkState) → ws part.bytes → Handles (PartsHave true (LineOutcome task) (part ∷ [])) t t s s e e
handles_blank task part t s e blank = handles_line (PartsHave true (LineOutcome task) (part ∷ [])) t s s e [] (inl (blank, refl), tt) (WritesOutput-nil s)

full_line : (task : Task) (part : DocumentPart) (whole : Bool) (os : List PartOutcome) → ¬ (ws part.bytes) → PartsHave whole (HasPartOutcome task) (part ∷ []) os → PartsHave whole (LineOutcome task) (part ∷ []) os
full_line task part whole [] full h = h
full_line task part whole (o ∷ []) full h = (inr (full, h.0), tt)
full_line task part whole (o ∷ p ∷ os) full h = absurd h.1

pub handles_full : (task : Task) (part : DocumentPart) (t v : DocumentTally) (s u e f : SinkState) → ¬ (ws part.bytes) → Handles (PartsHave true (HasPartOutcome task) (part ∷ [])) t v s u e f → Handles (PartsHave true (LineOutcome task) (part ∷ [])) t v s u e f
handles_full task part t v s u e f full h = Handles-as (PartsHave true (HasPartOutcome task) (part ∷ [])) (PartsHave true (LineOutcome task) (part ∷ [])) t v s u e f h (λ os. full_line task part true os full)

pub full_stops : (task : Task) (part : DocumentPart) (t v : DocumentTally) (s u e f : SinkState) (error : Error) → ¬ (ws part.bytes) → StopsRunning (PartsHave false (HasPartOutcome task) (part ∷ [])) t v s u e f error → StopsRunning (PartsHave false (LineOutcome task) (part ∷ [])) t v s u e f error
full_stops task part t v s u e f error full h = StopsRunning-as (PartsHave false (HasPartOutcome task) (part ∷ [])) (PartsHave false (LineOutcome task) (part ∷ [])) t v s u e f error h (λ os. full_line task part false os full)

-- the outcomes of a part, and of those after it
part_then : (whole : Bool) (Has : DocumentPart → PartOutcome → Type 0) (p : DocumentPart) (ps : List DocumentPart) (xs ys : List PartOutcome) → PartsHave true Has (p ∷ []) xs → PartsHave whole Has ps ys → PartsHave whole Has (p ∷ ps) (xs ++ ys)
part_then whole Has p ps [] ys h k = absurd (true_false h)
  where
    true_false : true ≡ false → ⊥
    true_false e = cc
part_then whole Has p ps (o ∷ []) ys h k = (h.0, k)
part_then whole Has p ps (o ∷ x ∷ xs) ys h k = absurd h.1

pub none_first : (Has : DocumentPart → PartOutcome → Type 0) (ps : List DocumentPart) → PartsHave false Has ps []
none_first Has [] = tt
none_first Has (p ∷ ps) = refl

part_first : (Has : DocumentPart → PartOutcome → Type 0) (p : DocumentPart) (ps : List DocumentPart) (xs : List PartOutcome) → PartsHave false Has (p ∷ []) xs → PartsHave false Has (p ∷ ps) xs
part_first Has p ps [] h = refl
part_first Has p ps (o ∷ []) h = (h.0, none_first Has ps)
part_first Has p ps (o ∷ x ∷ xs) h = absurd h.1

-- with any outcomes of the lines that are left, the outcomes so far are outcomes of all lines, before which m precede
abbrev pub LinesLeft : Task → List ℕ → ℕ → List ℕ → ℕ → List ℕ → List PartOutcome → Type 0
LinesLeft task name m bytes n rest os =
    (whole : Bool) (ps : List PartOutcome) → PartsHave whole (LineOutcome task) (line_parts name n (lines_of rest)) ps → PartsHave whole (LineOutcome task) (line_parts name m (lines_of bytes)) (os ++ ps)

module _ (task : Task) (name : List ℕ) (m : ℕ) (bytes : List ℕ) where
  pub lines_none : LinesLeft task name m bytes m bytes []
  lines_none whole ps h = h

  pub lines_more : (n : ℕ) (rest line later : List ℕ) → lines_of rest ≡ line ∷ lines_of later → (os qs : List PartOutcome) → LinesLeft task name m bytes n rest os → PartsHave true (LineOutcome task) (line_part name n line ∷ []) qs → LinesLeft task name m bytes (n + 1) later (os ++ qs)
  lines_more n rest line later is os qs left h whole ps k =
      subst (PartsHave whole (LineOutcome task) (line_parts name m (lines_of bytes))) (sym (append_assoc os qs ps))
      (left whole (qs ++ ps) (subst (λ ls. PartsHave whole (LineOutcome task) (line_parts name n ls) (qs ++ ps)) (sym is)
      (part_then whole (LineOutcome task) (line_part name n line) (line_parts name (n + 1) (lines_of later)) qs ps h k)))

  pub lines_stop : (n : ℕ) (rest line later : List ℕ) → lines_of rest ≡ line ∷ lines_of later → (os qs : List PartOutcome) → LinesLeft task name m bytes n rest os → PartsHave false (LineOutcome task) (line_part name n line ∷ []) qs → PartsHave false (LineOutcome task) (line_parts name m (lines_of bytes)) (os ++ qs)
  lines_stop n rest line later is os qs left h =
      left false qs (subst (λ ls. PartsHave false (LineOutcome task) (line_parts name n ls) qs) (sym is) (part_first (LineOutcome task) (line_part name n line) (line_parts name (n + 1) (lines_of later)) qs h))

  pub lines_all : (n : ℕ) (rest : List ℕ) → length rest ≡ 0 → (os : List PartOutcome) → LinesLeft task name m bytes n rest os → PartsHave true (LineOutcome task) (line_parts name m (lines_of bytes)) os
  lines_all n rest is os left =
      subst (PartsHave true (LineOutcome task) (line_parts name m (lines_of bytes))) (append-nil os) (left true [] (subst (λ r. PartsHave true (LineOutcome task) (line_parts name n (lines_of r)) []) (sym (nil_from_length rest is)) tt))

-- ---- documents

-- with any outcomes of the documents that are left, the outcomes so far are outcomes of all documents
abbrev pub DocumentsLeft : Task → List NamedDocument → ℕ → List PartOutcome → Type 0
DocumentsLeft task ds i os = (whole : Bool) (ps : List PartOutcome) → DocumentsHave whole task (drop i ds) ps → DocumentsHave whole task ds (os ++ ps)

document_then : (task : Task) (whole : Bool) (d : NamedDocument) (ds : List NamedDocument) (xs ys : List PartOutcome) → DocumentHas true task d xs → DocumentsHave whole task ds ys → DocumentsHave whole task (d ∷ ds) (xs ++ ys)
document_then task true d ds xs ys h k = (xs, ys, h, k, refl)
document_then task false d ds xs ys h k = inr (xs, ys, h, k, refl)

module _ (task : Task) (ds : List NamedDocument) where
  pub documents_none : DocumentsLeft task ds 0 []
  documents_none whole ps h = h

  next_is : (i : ℕ) (d : NamedDocument) → i < length ds → d ≡ slice_index_or ds i d → drop i ds ≡ d ∷ drop (i + 1) ds
  next_is i d l is = drop_more ds i d l ∙ ap (λ x. x ∷ drop (i + 1) ds) (sym is)

  pub documents_more : (i : ℕ) (d : NamedDocument) → i < length ds → d ≡ slice_index_or ds i d → (os qs : List PartOutcome) → DocumentsLeft task ds i os → DocumentHas true task d qs → DocumentsLeft task ds (i + 1) (os ++ qs)
  documents_more i d l is os qs left h whole ps k =
      subst (DocumentsHave whole task ds) (sym (append_assoc os qs ps))
      (left whole (qs ++ ps) (subst (λ xs. DocumentsHave whole task xs (qs ++ ps)) (sym (next_is i d l is)) (document_then task whole d (drop (i + 1) ds) qs ps h k)))

  pub documents_stop : (i : ℕ) (d : NamedDocument) → i < length ds → d ≡ slice_index_or ds i d → (os qs : List PartOutcome) → DocumentsLeft task ds i os → DocumentHas false task d qs → DocumentsHave false task ds (os ++ qs)
  documents_stop i d l is os qs left h = left false qs (subst (λ xs. DocumentsHave false task xs qs) (sym (next_is i d l is)) (inl h))

  pub documents_all : (i : ℕ) → length ds ≤ i → (os : List PartOutcome) → DocumentsLeft task ds i os → DocumentsHave true task ds os
  documents_all i l os left = subst (DocumentsHave true task ds) (append-nil os) (left true [] (subst (λ xs. DocumentsHave true task xs []) (sym (drop_all i ds l)) refl))

-- ---- the top call

module _ (printer : Printer) (task : Task) (ds : List NamedDocument) (t : DocumentTally) (a u b f : SinkState) where
  pub prints_all : (n : ℕ) → n ≡ t.status → Handles (DocumentsHave true task ds) (record { printer = printer; status = 0; muted = false }) t a u b f → PrintsAll task ds a u b f n
  prints_all n is h =
      record { outcomes = h.outcomes; have = h.have; output = h.output.ok; flushed = h.output.flushed; reports = Reports-from t.muted b f (reports_of h.outcomes) h.reports; status_is = omega (arith, is, h.status) }

  pub small : Handles (DocumentsHave true task ds) (record { printer = printer; status = 0; muted = false }) t a u b f → t.status < 5
  small h = omega (arith, h.status, greatest_small task ds h.outcomes h.have)

  pub prints_some : (g : SinkState) (error : Error) (n : ℕ) → n ≡ status_of error.code error.place → StopsRunning (DocumentsHave false task ds) (record { printer = printer; status = 0; muted = false }) t a u b f error → (t.muted ≡ false → Reports (text_of error) f g) → (t.muted ≡ true → g ≡ f)
      → PrintsSome task ds a u b g n
  prints_some g error n is h reported silent =
      record {
        error = error;
        status_is = is;
        outcomes = h.outcomes;
        have = h.have;
        output = h.output;
        reports = Reports-last t.muted b f g (reports_of h.outcomes) (text_of error) h.reports reported silent;
      }

  pub high : (error : Error) (n : ℕ) → n ≡ status_of error.code error.place → StopsRunning (DocumentsHave false task ds) (record { printer = printer; status = 0; muted = false }) t a u b f error → (n ≡ 5) ⊎ (n ≡ 6)
  high error n is h = subst (λ m. (m ≡ 5) ⊎ (m ≡ 6)) (sym is) (stops_high a u (output_of h.outcomes) error.code error.place h.output)

pub not_high : (n : ℕ) → n < 5 → (n ≡ 5) ⊎ (n ≡ 6) → ⊥
not_high n l (inl e) = omega (arith, l, e)
not_high n l (inr e) = omega (arith, l, e)

pub not_small : (n : ℕ) → n < 5 → 5 ≤ n → ⊥
not_small n l k = omega (arith, l, k)
