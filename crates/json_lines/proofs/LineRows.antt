-- The outcome of one line.
use Rattle.std.proofs.Common.{◌≡◌, ◌≢◌, ℕ, zero, suc, ◌-◌, ◌<◌, ◌≤◌, Bool, true, false, List, [], ◌∷◌, length, take, Option, None, Some, Ok, Err, Result, refl, sym, ap, ◌∙◌, subst, arith, IsUtf8, ◌==◌, inl, inr, IfOk, IfErr}
use Rattle.std.specs.Prelude.{get_or}
use Rattle.std.proofs.lemmas.Bool.{eqb-true, eqb-false, cases_lt}
use Rattle.std.proofs.lemmas.List.{take_all}
use Rattle.json_grammar.specs.Grammar.{IsWhitespace, ws, is_text}
use Rattle.json_grammar.specs.Given.{piece}
use Rattle.json_grammar.specs.Rules.{Rules, fits}
use Rattle.json_grammar.specs.Tree.{Tree}
use Rattle.json_io.specs.Errors.{no_memory}
use Rattle.json_io.specs.FaultText.{text_of}
use Rattle.json_io.specs.Outside.{SinkState}
use Rattle.json_text.specs.Ruled.{usual_rules}
use Rattle.json_io.specs.Utf8.{Utf8Cause}
use Rattle.json_io.specs.declared.error.Error.{Error}
use Rattle.json_io.specs.declared.error.ErrorCode.{ErrorCode}
use Rattle.json_io.specs.declared.error.ErrorCode.TheVariants.{NoMemory}
use Rattle.json_io.specs.declared.error.Place.{Place}
use Rattle.json_doc.specs.Docs.{IsDocOf, doc_root, doc_tree}
use Rattle.json_doc.specs.Reading.{ReadingFailsWith}
use Rattle.json_doc.specs.declared.doc.Doc.{Doc}
use Rattle.json_command.proofs.Documents.{root_is}
use Rattle.json_layout.specs.TextWriting.{WritesText}
use Rattle.json_command.specs.Input.{InputFault, not_utf8, no_text, BlankTest}
use Rattle.json_lines.specs.Cells.{LinesCommand, table_row}
use Rattle.json_lines.specs.Outcomes.{max_line, HasOutcome, blank, good, faulty}
use Rattle.json_lines.specs.Rows.{Row, Bad, outcome_row}
use Rattle.json_lines.specs.LineHandling.{WritesRow, RowFails, ReturnsOutcome}
use Rattle.json_lines.proofs.OneOutcome.{some_outcome}
use Rattle.json_lines.proofs.TextWriting.{WritesText-nil, WritesText-no-memory}

-- ---- whitespace

ws_at : (b : List ℕ) (k : ℕ) → ws b → k < length b → IsWhitespace (get_or b k 0)
ws_at [] k w l = absurd (omega (arith, l))
ws_at (x ∷ b) zero w l = w.0
ws_at (x ∷ b) (suc k) w l = ws_at b k w.1 (omega (arith, l))

pub blank-known : (b : List ℕ) (k : ℕ) (t : Bool) → (k == length b) ≡ t → k ≤ length b → ws (piece b 0 k) → (k < length b → ¬ (IsWhitespace (get_or b k 0))) → BlankTest b t
blank-known b k true is short space stop = subst ws (ap (λ n. take n b) {x = k - 0} {y = length b} (omega (arith, eqb-true k (length b) is)) ∙ take_all (length b) b (omega arith)) space
blank-known b k false is short space stop = λ w. let l = below b k short (eqb-false k (length b) is) in stop l (ws_at b k w l)
  where
    below : (b : List ℕ) (k : ℕ) → k ≤ length b → (k ≡ length b → ⊥) → k < length b
    below b k short n = elim (cases_lt k (length b)) [ inl l ↦ l | inr m ↦ absurd (n (omega (arith, m, short))) ]

-- ---- the outcome

module _ (command : LinesCommand) (line : List ℕ) (short : length line ≤ max_line) where
  -- it is skipped
  pub skips_blank : (s : SinkState) → ws line → WritesRow (HasOutcome command line) s s None
  skips_blank s space = record { outcome = Row []; has_it = blank short space; returned = tt; row = WritesText-nil s }

  -- it is bad
  is_bad_line : (s : SinkState) (error : Error) (fault : Option (List ℕ)) → ¬ (ws line) → InputFault usual_rules line error.code error.place → fault ≡ Some (text_of error) → WritesRow (HasOutcome command line) s s fault
  is_bad_line s error fault full h is = record {
    outcome = Bad (text_of error);
    has_it = faulty error.code error.place short full h;
    returned = subst (ReturnsOutcome (Bad (text_of error))) (sym is) refl;
    row = WritesText-nil s;
  }

  -- it is not UTF-8
  pub returns_utf8_error : (s : SinkState) (error : Error) (fault : Option (List ℕ)) → Utf8Cause line error.code error.place → ¬ (ws line) → fault ≡ Some (text_of error) → WritesRow (HasOutcome command line) s s fault
  returns_utf8_error s error fault h full is = is_bad_line s error fault full (not_utf8 (omega (arith, short)) h) is

  grammar_fault : (code : ErrorCode) (place : Place) → code ≢ NoMemory → IsUtf8 line → ReadingFailsWith usual_rules line code place → InputFault usual_rules line code place
  grammar_fault NoMemory place n u h = absurd (n refl)
  grammar_fault code place n u h = no_text (omega (arith, short)) u h

  -- it has a fault of the grammar
  pub returns_fault : (s : SinkState) (error : Error) (rules : Rules) (fault : Option (List ℕ)) → rules ≡ usual_rules → error.code ≢ NoMemory → ¬ (ws line) → IsUtf8 line → ReadingFailsWith rules line error.code error.place → fault ≡ Some (text_of error)
      → WritesRow (HasOutcome command line) s s fault
  returns_fault s error rules fault usual n full u h is = is_bad_line s error fault full (grammar_fault error.code error.place n u (subst (λ r. ReadingFailsWith r line error.code error.place) usual h)) is

  read_usual : (d : Doc) (t : Tree) → ¬ (ws line) → is_text false t line → fits t usual_rules → IsDocOf d t → HasOutcome command line (Row (table_row command (doc_tree d (doc_root d))))
  read_usual d t full text fit doc = subst (λ u. HasOutcome command line (Row (table_row command u))) (sym (root_is d t doc)) (good t short full text fit.0)

  -- it is a text
  pub has_row : (d : Doc) (rules : Rules) → rules ≡ usual_rules → ¬ (ws line) → (t : Tree) × is_text false t line × fits t rules × IsDocOf d t → HasOutcome command line (Row (table_row command (doc_tree d (doc_root d))))
  has_row d rules usual full (t, text, fit, doc) = read_usual d t full text (subst (fits t) usual fit) doc

  pub row_written : (bytes : List ℕ) (s u : SinkState) (r : Result (Option (List ℕ)) Error) → HasOutcome command line (Row bytes) → IfOk r (λ fault. (fault ≡ None) × WritesText s u bytes (Ok tt)) → IfOk r (λ fault. WritesRow (HasOutcome command line) s u fault)
  row_written bytes s u (Err e) has h = tt
  row_written bytes s u (Ok fault) has h = record { outcome = Row bytes; has_it = has; returned = subst (ReturnsOutcome (Row bytes)) (sym h.0) tt; row = h.1 }

  pub row_failed : (bytes : List ℕ) (s u : SinkState) (r : Result (Option (List ℕ)) Error) → HasOutcome command line (Row bytes) → IfErr r (λ e. WritesText s u bytes (Err e)) → IfErr r (λ e. RowFails (HasOutcome command line) s u e)
  row_failed bytes s u (Ok fault) has h = tt
  row_failed bytes s u (Err e) has h = record { outcome = Row bytes; has_it = has; row = h }

  -- memory ran out, and nothing was written
  pub row_unread : (s : SinkState) (e : Error) → e ≡ no_memory → RowFails (HasOutcome command line) s s e
  row_unread s e is = let some = some_outcome command line in record { outcome = some.0; has_it = some.1; row = WritesText-no-memory s (outcome_row some.0) e is }

-- ---- the line that was read

pub said_blank : (line : List ℕ) (t u : Bool) → t ≡ u → BlankTest line t → BlankTest line u
said_blank line t u e h = subst (BlankTest line) e h
