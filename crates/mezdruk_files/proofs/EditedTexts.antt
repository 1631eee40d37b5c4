-- The text of a document that was edited in its layout.
use Rattle.std.proofs.Common.{◌≡◌, ℕ, ◌+◌, ◌-◌, ◌<◌, ◌==◌, Bool, true, false, cond, List, [], ◌∷◌, ◌++◌, length, take, get_or, Option, Some, None, option_map, Result, Ok, Err, refl, sym, ap, subst, ◌∙◌, arith, lit<, append-nil, length-append}
use Rattle.std.specs.Prelude.{max, unwrap_or, string_bytes}
use Rattle.std.specs.List.{flat_map}
use Rattle.std.proofs.lemmas.List.{take-append-le, take_all}
use Rattle.json_grammar.specs.Tree.{Tree}
use Rattle.json_io.specs.declared.error.Error.{Error}
use Rattle.json_io.specs.declared.error.ErrorCode.{ErrorCode}
use Rattle.json_io.specs.declared.error.ErrorCode.TheVariants.{NoMemory, Io, BadWords, NotFound, TypeUnmatched}
use Rattle.json_io.specs.declared.error.Place.{Place}
use Rattle.json_io.specs.declared.error.Place.TheVariants.{Writing}
use Rattle.json_io.specs.Outside.{SinkState}
use Rattle.json_command.specs.Input.{IsInput}
use Rattle.json_command.specs.Statuses.{status_of}
use Rattle.json_layout.specs.Shown.{shown_as}
use Rattle.json_layout.specs.Styles.{indent_of, is_sorted}
use Rattle.json_layout.specs.declared.style.Style.{Style}
use Rattle.json_text.specs.Ruled.{rules_of}
use Rattle.mezdruk_files.specs.declared.change_error.ChangeError.{ChangeError}
use Rattle.mezdruk_files.specs.declared.document.NamedDocument.{NamedDocument}
use Rattle.mezdruk_files.specs.declared.document_error.DocumentError.TheVariants.{Input, Change}
use Rattle.mezdruk_files.specs.declared.job.InputForm.{InputForm}
use Rattle.mezdruk_files.specs.declared.job.InputForm.TheVariants.{One, Lines, Stream}
use Rattle.mezdruk_files.specs.declared.job.Job.{Job}
use Rattle.mezdruk_files.specs.Documents.{BytesHave, DocumentsHave, document_bytes}
use Rattle.mezdruk_files.specs.EditedTexts.{bytes_or_none, in_style, with_end_of, EditsDocument, FailsToEdit, KeepsLayout}
use Rattle.mezdruk_files.specs.FoundLayouts.{found_indent, ends_line, line_end, IsFoundStyle}
use Rattle.mezdruk_files.specs.Running.{PrintsAll, PrintsSome}
use Rattle.mezdruk_files.specs.Outcomes.{Task, PartOutcome, Printed, Refused, task_of, output_of, greatest_status, outcome_line}

-- ---- the outcome of one text

status_positive : (code : ErrorCode) (place : Place) → 0 < status_of code place
status_positive NoMemory place = lit< tt
status_positive Io Writing = lit< tt
status_positive Io place = lit< tt
status_positive BadWords place = lit< tt
status_positive NotFound place = lit< tt
status_positive TypeUnmatched place = lit< tt
status_positive code place = lit< tt

not_zero : (m n : ℕ) → 0 < m → max m n ≡ 0 → ⊥
not_zero m n l e = grind arith

-- the output is the line of the changed tree of the bytes
record PrintsLine (task : Task) (b : List ℕ) (os : List PartOutcome) : Type 0 where
  pub tree : Tree
  pub input : IsInput task.rules b tree
  pub edited : Tree
  pub edited_is : task.changed tree ≡ Ok edited
  pub output : output_of os ≡ task.line edited

line_of_bytes : (task : Task) (name : List ℕ) (o : Option (List ℕ)) (form : InputForm) (os : List PartOutcome) → BytesHave true task name o form os → form ≡ One → greatest_status os ≡ 0 → PrintsLine task (unwrap_or o []) os
line_of_bytes task name None form [] h one zero = absurd (cc)
line_of_bytes task name None form (Printed line ∷ os) h one zero = absurd h.0
line_of_bytes task name None form (Refused (Change e) report ∷ os) h one zero = absurd h.0
line_of_bytes task name None form (Refused (Input e) report ∷ os) h one zero = absurd (not_zero (status_of e.code e.place) (greatest_status os) (status_positive e.code e.place) zero)
line_of_bytes task name (Some b) Lines os h one zero = absurd (cc)
line_of_bytes task name (Some b) Stream os h one zero = absurd (cc)
line_of_bytes task name (Some b) One [] h one zero = absurd (cc)
line_of_bytes task name (Some b) One (Refused (Change e) report ∷ os) h one zero = absurd (not_zero 3 (greatest_status os) (lit< tt) zero)
line_of_bytes task name (Some b) One (Refused (Input e) report ∷ os) h one zero = absurd (not_zero (status_of e.code e.place) (greatest_status os) (status_positive e.code e.place) zero)
line_of_bytes task name (Some b) One (Printed line ∷ o ∷ os) h one zero = absurd h.1
line_of_bytes task name (Some b) One (Printed line ∷ []) ((tree, input, (edited, edited_is, is)), rest) one zero =
    record { tree = tree; input = input; edited = edited; edited_is = edited_is; output = append-nil line ∙ is }

line_of_document : (task : Task) (d : NamedDocument) (os : List PartOutcome) → DocumentsHave true task (d ∷ []) os → task.form ≡ One → greatest_status os ≡ 0 → PrintsLine task (bytes_or_none d) os
line_of_document task d os (first, later, have, none, is) one zero =
    let same : first ≡ os = sym (append-nil first) ∙ ap (λ ps. first ++ ps) (sym none) ∙ sym is in
    line_of_bytes task (string_bytes d.name) (document_bytes d) task.form os (subst (BytesHave true task (string_bytes d.name) (document_bytes d) task.form) same have) one zero

-- ---- its end

without_last : (s : List ℕ) → take (length (s ++ 10 ∷ []) - 1) (s ++ 10 ∷ []) ≡ s
without_last s =
    let n : length (s ++ 10 ∷ []) - 1 ≡ length s = omega (arith, length-append s (10 ∷ [])) in
    ap (λ k. take k (s ++ 10 ∷ [])) n ∙ take-append-le (length s) s (10 ∷ []) (omega arith) ∙ take_all (length s) s (omega arith)

end_kept : (b s : List ℕ) → with_end_of b (s ++ 10 ∷ []) ≡ s ++ line_end b
end_kept b s = by (ends_line b)
  where
    by : (t : Bool) → cond t (s ++ 10 ∷ []) (take (length (s ++ 10 ∷ []) - 1) (s ++ 10 ∷ [])) ≡ s ++ cond t (10 ∷ []) []
    by true = refl
    by false = without_last s ∙ sym (append-nil s)

-- ---- the text

pub kept : {C : Type 0} (changed : C → Tree → Result Tree ChangeError) (job : Job C) (sorts : Bool) (style : Style) (d : NamedDocument) (errs errs' : SinkState) (text : List ℕ) (status : ℕ) → IsFoundStyle (bytes_or_none d) sorts style
    → EditsDocument (task_of changed (in_style job style)) d errs errs' text status → status ≡ 0 → job.input ≡ One → KeepsLayout (rules_of job.rules) (changed job.change) sorts (bytes_or_none d) text
kept changed job sorts style d errs errs' text status found h zero one =
    let b = bytes_or_none d in
    let p = line_of_document (task_of changed (in_style job style)) d h.outcomes h.have one (sym h.status_is ∙ zero) in
    record {
      tree = p.tree;
      input = p.input;
      edited = p.edited;
      edited_is = p.edited_is;
      whole = h.whole ∙ ap (with_end_of b) p.output ∙ end_kept b (shown_as (indent_of style) (is_sorted style) p.edited)
          ∙ ap (λ i. shown_as i (is_sorted style) p.edited ++ line_end b) found.indent ∙ ap (λ s. shown_as (found_indent b) s p.edited ++ line_end b) found.sorted;
    }

-- ---- in memory

some_same : (x y : List ℕ) → Some x ≡ Some y → x ≡ y
some_same x y e = cc

-- what a run over one document writes to a new sink in memory
pub edits_from : (task : Task) (d : NamedDocument) (ds : List NamedDocument) (s s' e e' : SinkState) (output text b : List ℕ) (status : ℕ) → ds ≡ d ∷ [] → s.gained ≡ Some [] → s'.gained ≡ Some output → b ≡ bytes_or_none d → text ≡ with_end_of b output
    → PrintsAll task ds s s' e e' status → EditsDocument task d e e' text status
edits_from task d ds s s' e e' output text b status one new gained is end h =
    let same : output ≡ output_of h.outcomes = some_same output (output_of h.outcomes) (sym gained ∙ h.output ∙ ap (λ (o : Option (List ℕ)). option_map (λ xs. xs ++ output_of h.outcomes) o) new) in
    record {
      outcomes = h.outcomes;
      have = subst (λ xs. DocumentsHave true task xs h.outcomes) one h.have;
      whole = end ∙ ap (λ x. with_end_of x output) is ∙ ap (with_end_of (bytes_or_none d)) same;
      reports = h.reports;
      status_is = h.status_is;
    }

pub found_for : (b b' : List ℕ) (s s' : Bool) (style : Style) → b ≡ b' → s ≡ s' → IsFoundStyle b s style → IsFoundStyle b' s' style
found_for b b' s s' style e f h = record { indent = h.indent ∙ ap found_indent e; sorted = h.sorted ∙ f }

pub fails_as : (task : Task) (d : NamedDocument) (ds : List NamedDocument) (s s' e e' : SinkState) (status : ℕ) → ds ≡ d ∷ [] → PrintsSome task ds s s' e e' status → FailsToEdit task d e e' status
fails_as task d ds s s' e e' status one h = (s, s', subst (λ xs. PrintsSome task xs s s' e e' status) one h)
