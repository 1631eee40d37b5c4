-- What filtering the lines of a text comes to.
use Rattle.std.proofs.Common.{◌≡◌, ◌⊎◌, inl, inr, ℕ, ◌+◌, ◌<◌, ◌≤◌, Bool, true, false, cond, not, ◌||◌, List, [], ◌∷◌, ◌++◌, length, Option, Some, None, is_some, refl, sym, subst, ap, ◌∙◌, arith, length-append}
use Rattle.std.specs.List.{cons_option}
use Rattle.json_command.specs.Input.{max_bytes}
use Rattle.json_command.specs.Reporting.{Reports}
use Rattle.json_io.specs.Known.{Appends, append_known, prepend_known}
use Rattle.json_io.specs.Outside.{SourceState, SinkState, Rose}
use Rattle.json_io.specs.Errors.{no_memory}
use Rattle.json_lines.specs.Cells.{LinesCommand, tabbed_rows, header_of}
use Rattle.json_lines.specs.Lines.{lines}
use Rattle.json_lines.specs.Outcomes.{HaveOutcomes, handled, table_text}
use Rattle.json_lines.specs.Reading.{GivesBytes}
use Rattle.json_lines.specs.Rows.{Outcome, handled_by, rows_of, errors_from}
use Rattle.json_lines.specs.RunResults.{AppendsRows, TellsErrors, OfOutcomes}
use Rattle.json_lines.specs.TopCall.{Streams}
use Rattle.json_lines.specs.Words.{has_in, is_strict, is_csv, is_columns_word, HoldsWords, AsksForColumns, IsLinesRequest, SpellsCommand}
use Rattle.json_lines.proofs.GatheredWords.{spelled_by, asks_for, is_columns}
use Rattle.json_lines.proofs.OneOutcome.{one_outcome}
use Rattle.json_lines.proofs.WordsSpelled.{one_command}
use Rattle.mezdruk_c.specs.declared.failure.Failure.{Failure}
use Rattle.mezdruk_c.specs.declared.failure.Failure.TheVariants.{Options as bad_options, Argument, Text, Patch, NoMergePatch}
use Rattle.mezdruk_c.proofs.Printed.{text_gained}
use Rattle.mezdruk_c.specs.Lines.{FiltersBy, FiltersLines, FilteringFails, LinesFail, lines_words}

-- ---- one list of outcomes

-- the lines have these outcomes and no others
same_outcomes : (command : LinesCommand) (ls : List (List ℕ)) (os os' : List Outcome) → HaveOutcomes command ls os → HaveOutcomes command ls os' → os ≡ os'
same_outcomes command [] [] [] h k = refl
same_outcomes command (l ∷ ls) (o ∷ os) (o' ∷ os') h k = let e = one_outcome command l o o' h.0 k.0 in let f = same_outcomes command ls os os' h.1 k.1 in rw (e, f) refl
same_outcomes command [] (o ∷ os) os' h k = absurd h
same_outcomes command [] [] (o ∷ os') h k = absurd k
same_outcomes command (l ∷ ls) [] os' h k = absurd h
same_outcomes command (l ∷ ls) (o ∷ os) [] h k = absurd k

-- ---- the rows and the errors

same_some : {A : Type 0} {x y : A} → Some x ≡ Some y → x ≡ y
same_some e = cc

-- all was reported, where no call failed and memory did not run out
all_reported : (text : List ℕ) (old new : SinkState) → Reports text old new → ¬ (Rose old.faults new.faults) → ¬ (Rose old.lacks new.lacks) → Appends old.gained new.gained text
all_reported text old new (inl h) f l = h
all_reported text old new (inr (front, inl rose)) f l = absurd (f rose)
all_reported text old new (inr (front, inr rose)) f l = absurd (l rose)

-- of the outcomes of the lines that are known
known_lines : (words : List (List ℕ)) (known : Option (List ℕ)) (b : List ℕ) (holds : LinesCommand → List Outcome → Type 0) (h : OfOutcomes words known holds) → known ≡ Some b → (os : List Outcome) × HaveOutcomes h.command (lines b) os × holds h.command os
known_lines words (Some a) b holds h e = let s = h.so in subst (λ a. (os : List Outcome) × HaveOutcomes h.command (lines a) os × holds h.command os) (same_some e) s
known_lines words None b holds h e = absurd cc

module _ (words : List (List ℕ)) (b : List ℕ) (old new : Streams) (known : old.source.left ≡ Some b) where
  filters : (command command' : LinesCommand) (os os' : List Outcome) (output errors : List ℕ) → AsksForColumns words command → AsksForColumns words command' → HaveOutcomes command (lines b) os → HaveOutcomes command' (lines b) os'
      → output ≡ table_text command os → errors ≡ errors_from 1 (handled command' os') → FiltersBy (AsksForColumns words) b output errors
  filters command command' os os' output errors asked asked' have have' rows told =
      let same_command : command' ≡ command = one_command words command' command asked' asked in
      let same : os' ≡ os = same_outcomes command (lines b) os' os (subst (λ c. HaveOutcomes c (lines b) os') same_command have') have in
      record { command = command; asked = asked; outcomes = os; have = have; rows = rows; reported = told ∙ ap (λ k. errors_from 1 (handled k os')) same_command ∙ ap (λ l. errors_from 1 (handled command l)) same }

  pub filters_lines : (output errors : List ℕ) → AppendsRows words old new → TellsErrors words old new → old.sink.gained ≡ Some [] → old.errs.gained ≡ Some []
      → ¬ (Rose old.errs.faults new.errs.faults) → ¬ (Rose old.errs.lacks new.errs.lacks) → new.sink.gained ≡ Some output → new.errs.gained ≡ Some errors → FiltersBy (AsksForColumns words) b output errors
  filters_lines output errors rows told empty empty' faults lacks is is' =
      let k : (os : List Outcome) × HaveOutcomes rows.command (lines b) os × Appends old.sink.gained new.sink.gained (table_text rows.command os) = known_lines words old.source.left b (λ c os. Appends old.sink.gained new.sink.gained (table_text c os)) rows known in
      let r : (os : List Outcome) × HaveOutcomes told.command (lines b) os × Reports (errors_from 1 (handled told.command os)) old.errs new.errs =
      known_lines words old.source.left b (λ c os. Reports (errors_from 1 (handled c os)) old.errs new.errs) told known in
      let text = errors_from 1 (handled told.command r.0) in
      filters rows.command told.command k.0 r.0 output errors rows.asked told.asked k.1 r.1 (text_gained old.sink.gained new.sink.gained (table_text rows.command k.0) output k.2 empty is)
      (text_gained old.errs.gained new.errs.gained text errors (all_reported text old.errs new.errs r.2 faults lacks) empty' is')

  -- a source gives no more than it has
  given_of : (rest : Option (List ℕ)) (bytes : List ℕ) → Some b ≡ prepend_known bytes rest → length bytes ≤ length b
  given_of (Some rest) bytes e = omega (arith, ap length (same_some e), length-append bytes rest)
  given_of None bytes e = absurd cc

  pub too_long : (bytes : List ℕ) × GivesBytes old.source new.source bytes × (max_bytes < length bytes) → max_bytes < length b
  too_long (bytes, gives, h) = omega (arith, h, given_of new.source.left bytes (sym known ∙ gives.consumed))

-- ---- words and columns

-- a word that is no option
no_option : {A : Type 0} (o : Option A) (s v : Bool) → not (is_some o || (s || v)) ≡ true → (o ≡ None) × (s ≡ false) × (v ≡ false)
no_option None false false h = (refl, refl, refl)
no_option None true v h = absurd cc
no_option None false true h = absurd cc
no_option (Some x) s v h = absurd cc

module _ (columns has : List ℕ) where
  -- what the words hold, where the columns are no option
  words_hold : is_columns_word columns ≡ true → HoldsWords (lines_words columns has) (Some columns) (Some has) false false
  words_hold is =
      let none = no_option (has_in columns) (is_strict columns) (is_csv columns) is in
      record {
        columns_is = ap (λ b. cond b (columns ∷ []) []) is;
        has_is = ap (λ o. has ∷ cons_option o []) none.0;
        strict_is = ap (λ b. length (cond b (columns ∷ []) [])) none.1;
        csv_is = ap (λ b. length (cond b (columns ∷ []) [])) none.2;
      }

  no_columns : (c : List ℕ) → is_columns_word columns ≡ false → cond (is_columns_word columns) (columns ∷ []) [] ≡ c ∷ [] → ⊥
  no_columns c is e = nothing (sym (ap (λ b. cond b (columns ∷ []) []) is) ∙ e)
    where
      nothing : [] ≡ c ∷ [] → ⊥
      nothing e = cc

  words_spell : (command : LinesCommand) → AsksForColumns (lines_words columns has) command → SpellsCommand columns (Some has) false tabbed_rows command
  words_spell command a = by (is_columns_word columns) refl
    where
      by : (b : Bool) → is_columns_word columns ≡ b → SpellsCommand columns (Some has) false tabbed_rows command
      by true is = spelled_by (lines_words columns has) columns (Some has) false false command (words_hold is) a
      by false is = absurd (no_columns a.columns is a.words.columns_is)

module _ (columns has text : List ℕ) where
  pub filters_columns : (output errors : List ℕ) → FiltersBy (AsksForColumns (lines_words columns has)) text output errors → FiltersLines columns has text output errors
  filters_columns output errors h =
      let k = h.command in
      let spelled = words_spell columns has k h.asked in
      record {
        command = k;
        asked = spelled;
        outcomes = h.outcomes;
        have = h.have;
        rows = h.rows ∙ ap (λ f. header_of f k.columns ++ rows_of (handled_by k.strict h.outcomes)) spelled.format_so ∙ ap (λ s. rows_of (handled_by s h.outcomes)) spelled.strict_so;
        reported = h.reported ∙ ap (λ s. errors_from 1 (handled_by s h.outcomes)) spelled.strict_so;
      }

  pub lines_fail : (f : Failure) → FilteringFails (lines_words columns has) text f → LinesFail columns has text f
  lines_fail bad_options h = λ command spelled. h (command, asks_for (lines_words columns has) columns (Some has) false false command (words_hold columns has (is_columns columns command.columns spelled.columns)) spelled)
  lines_fail (Text e) h = h
  lines_fail (Argument e) h = absurd h
  lines_fail (Patch e) h = absurd h
  lines_fail NoMergePatch h = absurd h
