-- What the arguments and the bytes of a source lead to.
use Rattle.std.proofs.Common.{◌≡◌, ◌⊎◌, inl, inr, ℕ, ◌<◌, ◌≤◌, List, [], ◌∷◌, ◌++◌, codes, Result, Ok, Err, OnOk, IfErr, Option, arith, length, false, refl, sym, subst, ap, ◌∙◌}
use Rattle.json_doc.specs.Readings.{elements}
use Rattle.json_grammar.proofs.Sizes.{text_fits, nodes_some}
use Rattle.json_grammar.proofs.Values.{one_tree}
use Rattle.json_grammar.specs.Sizes.{nodes, trees_nodes}
use Rattle.json_grammar.specs.Grammar.{is_text}
use Rattle.json_grammar.specs.Tree.{Tree, null, boolean, num, text, list, pairs, Trees, no_trees, tree_and, trees_list}
use Rattle.json_model.specs.Edit.{not_found, type_unmatched}
use Rattle.json_io.specs.Errors.{no_memory, bad_words}
use Rattle.json_io.specs.FaultText.{text_of}
use Rattle.json_io.specs.Outside.{SourceState, SinkState}
use Rattle.json_text.specs.Ruled.{usual_rules}
use Rattle.json_io.specs.declared.error.Error.{Error}
use Rattle.json_io.specs.declared.error.ErrorCode.{ErrorCode}
use Rattle.json_io.specs.declared.error.ErrorCode.TheVariants.{NoMemory, Io, TooLarge, NotFound, TypeUnmatched, BadWords}
use Rattle.json_io.specs.declared.error.Place.{Place}
use Rattle.json_io.specs.declared.error.Place.TheVariants.{None as nowhere, Reading, Writing}
use Rattle.json_command.specs.Input.{InputFault}
use Rattle.json_command.specs.Reading.{ReadsInput, InputFails, KnownFault}
use Rattle.json_command.specs.Reporting.{Reports, StatusReports}
use Rattle.json_command.specs.Statuses.{status_of}
use Rattle.json_command.proofs.Inputs.{no_want, no_io, no_words, no_not_found, no_type_unmatched}
use Rattle.json_command.proofs.KnownBytes.{no_fault, same_fault, same_made, fault_known, large_known, fault_not_read}
use Rattle.json_patch.specs.Patch.{PatchFailure, lookup_failed, bad_patch, test_failed}
use Rattle.json_patch.specs.Errors.{PatchFails}
use Rattle.json_patch.specs.Commands.{PatchRequest, patch_by, merge_by, outcome_of, HasFewOperations, AsksForPatch, IsRequest, WithRequest, WritesOutcome, ReadsUnpatchable, TransferFails, RequestFails, PatchRunFails, ReportsPatchError, ReportsOr, KnownPatchable, KnownUnpatchable, IsFit, IsUnpatchable, IsFaulty, StatusReportsText, patch_status, patch_text, code_of_failure, status_of_error}
use Rattle.json_patch.specs.declared.command.CommandError.{CommandError}
use Rattle.json_patch.specs.declared.command.CommandError.TheVariants as failed
use Rattle.json_patch.specs.declared.error.PatchCode.{PatchCode}
use Rattle.json_patch.specs.declared.error.PatchCode.TheVariants as patch
use Rattle.json_patch.specs.declared.error.PatchError.{PatchError}

abbrev error : ErrorCode → Place → Error
error code place = record { code = code; place = place }

-- ---- a request that fails

module _ (r : PatchRequest) (source source' : SourceState) where
  -- reading failed, and nothing was written
  pub reading_fails : (sink : SinkState) (code : ErrorCode) (place : Place) → InputFails usual_rules source source' code place → TransferFails r source source' sink sink code place
  reading_fails sink NoMemory nowhere h = inl refl
  reading_fails sink Io Reading h = (h, refl)
  reading_fails sink TooLarge nowhere h = (h.0, h.1, refl)
  reading_fails sink Io Writing h = absurd (no_io usual_rules h.bytes Writing h.fault)
  reading_fails sink code place h = (h, refl)

-- ---- what the arguments ask for

few_trees : (ts : Trees) → length (trees_list ts) ≤ trees_nodes ts
few_trees no_trees = omega arith
few_trees (tree_and t ts) = omega (arith, nodes_some t, few_trees ts)

few_elements : (t : Tree) → length (elements t) < nodes t
few_elements (list ts) = omega (arith, few_trees ts)
few_elements null = omega arith
few_elements (boolean b) = omega arith
few_elements (num l) = omega arith
few_elements (text s) = omega arith
few_elements (pairs ps) = omega arith

-- a patch that an argument spells has few operations
pub asked_few : (arguments : List (List ℕ)) (r : PatchRequest) → AsksForPatch arguments r → HasFewOperations r
asked_few (a ∷ []) (patch_by p) h = omega (arith, few_elements p, (text_fits false p h.text h.input.text).0, h.input.short)
asked_few (a ∷ []) (merge_by p) h = tt
asked_few [] r h = absurd h
asked_few (a ∷ b ∷ more) r h = absurd h

same_rest : (name a b w : List ℕ) → w ≡ name ++ a → w ≡ name ++ b → a ≡ b
same_rest [] a b w e f = sym e ∙ f
same_rest (x ∷ name) a b [] e f = absurd (nil_cons x (name ++ a) e)
  where
    nil_cons : (x : ℕ) (s : List ℕ) → [] ≡ x ∷ s → ⊥
    nil_cons x s e = cc
same_rest (x ∷ name) a b (y ∷ w) e f = same_rest name a b w (tails y x w (name ++ a) e) (tails y x w (name ++ b) f)
  where
    tails : (y x : ℕ) (s t : List ℕ) → y ∷ s ≡ x ∷ t → s ≡ t
    tails y x s t e = cc

abbrev third : List ℕ → ℕ
third (x ∷ y ∷ z ∷ s) = z
third s = 0

-- a patch and a merge patch are asked for by other options
apart : (w a b : List ℕ) → w ≡ codes "--patch=" ++ a → w ≡ codes "--merge=" ++ b → ⊥
apart w a b e f = let h : 112 ≡ 109 = sym (ap third e) ∙ ap third f in omega (arith, h)

-- arguments ask for one request
pub one_request : (arguments : List (List ℕ)) (r s : PatchRequest) → AsksForPatch arguments r → AsksForPatch arguments s → r ≡ s
one_request (w ∷ []) (patch_by p) (patch_by q) g h =
    ap patch_by (one_tree false p q h.text (subst (is_text false p) (same_rest (codes "--patch=") g.text h.text w g.is h.is) g.input.text) h.input.text)
one_request (w ∷ []) (merge_by p) (merge_by q) g h =
    ap merge_by (one_tree false p q h.text (subst (is_text false p) (same_rest (codes "--merge=") g.text h.text w g.is h.is) g.input.text) h.input.text)
one_request (w ∷ []) (patch_by p) (merge_by q) g h = absurd (apart w g.text h.text g.is h.is)
one_request (w ∷ []) (merge_by p) (patch_by q) g h = absurd (apart w h.text g.text h.is g.is)
one_request [] r s g h = absurd g
one_request (w ∷ v ∷ ws) r s g h = absurd g

-- what holds of the request that the arguments ask for holds of each that they ask for
so_of : (arguments : List (List ℕ)) (r : PatchRequest) (P : PatchRequest → Type 0) → AsksForPatch arguments r → WithRequest arguments P → P r
so_of arguments r P asked h = subst P (one_request arguments h.request r h.asked asked) h.so

-- ---- what was done, and why not, for the request that the arguments ask for

pub done_for : {E : Type 0} (o : Result (Unit {0}) E) (arguments : List (List ℕ)) (r : PatchRequest) (P : PatchRequest → Type 0) → AsksForPatch arguments r → OnOk o (P r) → OnOk o (WithRequest arguments P)
done_for (Ok u) arguments r P asked h = record { request = r; asked = asked; so = h }
done_for (Err e) arguments r P asked h = tt

pub fails_for : (o : Result (Unit {0}) CommandError) (arguments : List (List ℕ)) (r : PatchRequest) (source source' : SourceState) (sink sink' : SinkState) → AsksForPatch arguments r → IfErr o (RequestFails r source source' sink sink')
    → IfErr o (PatchRunFails arguments source source' sink sink')
fails_for (Ok u) arguments r source source' sink sink' asked h = tt
fails_for (Err e) arguments r source source' sink sink' asked h = inr (record { request = r; asked = asked; so = h })

-- where memory runs out for the text of an error, that is reported
pub patch_reported : (n : ℕ) (arguments : List (List ℕ)) (source source' : SourceState) (sink sink' errs errs' : SinkState) (e : PatchError) → PatchRunFails arguments source source' sink sink' (failed.Patch e)
    → ReportsOr (patch_status e.code) (patch_text e.code e.op) errs errs' n → ReportsPatchError n arguments source source' sink sink' errs errs'
patch_reported n arguments source source' sink sink' errs errs' e cause (inl h) = record { error = failed.Patch e; status_is = h.0; cause = cause; reports = h.1 }
patch_reported n arguments source source' sink sink' errs errs' e (inl h) (inr t) = absurd h
patch_reported n arguments source source' sink sink' errs errs' e (inr h) (inr t) =
    record { error = failed.Transfer no_memory; status_is = t.0; cause = inr (record { request = h.request; asked = h.asked; so = inl h.so.1 }); reports = t.1 }

-- ---- known bytes to which the request applies

ok_err : {A E : Type 0} (x : A) (e : E) → ◌≡◌ {A = Result A E} (Ok x) (Err e) → ⊥
ok_err x e h = cc

abbrev Outcome : Type 0
Outcome = Result Tree (PatchFailure × Option ℕ)

-- a patch that applies fails only for want of memory
applied_fails : (o : Outcome) (t : Tree) (code : PatchCode) (op : Option ℕ) → o ≡ Ok t → PatchFails o code op → patch_status code ≡ 6
applied_fails o t patch.NoMemory op e h = refl
applied_fails o t patch.NotFound op e h = absurd (ok_err t (lookup_failed not_found, op) (sym e ∙ h))
applied_fails o t patch.TypeUnmatched op e h = absurd (ok_err t (lookup_failed type_unmatched, op) (sym e ∙ h))
applied_fails o t patch.BadPointer op e h = absurd h
applied_fails o t patch.BadPatch op e h = absurd (ok_err t (bad_patch, op) (sym e ∙ h))
applied_fails o t patch.TestFailed op e h = absurd (ok_err t (test_failed, op) (sym e ∙ h))

module _ (r : PatchRequest) (source source' : SourceState) (sink sink' : SinkState) where
  fit_transfer : (code : ErrorCode) (place : Place) → TransferFails r source source' sink sink' code place → KnownPatchable r source source' sink sink' → error code place ≡ no_memory
  fit_transfer NoMemory nowhere h good = refl
  fit_transfer Io Reading h good = absurd (good.input.read h.0)
  fit_transfer TooLarge nowhere h good = absurd (no_fault usual_rules good.input.bytes good.tree TooLarge nowhere good.input.input (large_known usual_rules source good.input.bytes h.1 good.input.known))
  fit_transfer Io Writing h good = absurd (good.written h.0)
  fit_transfer code place h good = absurd (no_fault usual_rules good.input.bytes good.tree code place good.input.input (fault_known usual_rules source source' good.input.bytes code place h.0 good.input.known))

  fit_status : (e : CommandError) → RequestFails r source source' sink sink' e → KnownPatchable r source source' sink sink' → status_of_error e ≡ 6
  fit_status (failed.Transfer e) h good = ap (λ (d : Error). status_of d.code d.place) (fit_transfer e.code e.place h good)
  fit_status (failed.Patch e) h good =
      applied_fails (outcome_of r h.0.tree) good.changed e.code e.op (same_made usual_rules (outcome_of r) source source' h.0.tree good.tree good.input.bytes h.0.reads good.input.known good.input.input ∙ good.applies) h.0.fails

  -- ---- known bytes with a fault

  fault_transfer : (code code' : ErrorCode) (place place' : Place) → TransferFails r source source' sink sink' code' place' → KnownFault usual_rules source source' code place → (error code' place' ≡ error code place) ⊎ (error code' place' ≡ no_memory)
  fault_transfer code NoMemory place nowhere h bad = inr refl
  fault_transfer code Io place Reading h bad = absurd (bad.read h.0)
  fault_transfer code TooLarge place nowhere h bad = inl (same_fault usual_rules bad.bytes code TooLarge place nowhere bad.fault (large_known usual_rules source bad.bytes h.1 bad.known))
  fault_transfer code Io place Writing h bad = absurd (fault_not_read usual_rules source source' h.1.tree code place h.1.reads bad)
  fault_transfer code code' place place' h bad = inl (same_fault usual_rules bad.bytes code code' place place' bad.fault (fault_known usual_rules source source' bad.bytes code' place' h.0 bad.known))

  -- ---- known bytes on which the patch fails

  abbrev Same : Tree → PatchFailure → Option ℕ → Type 0
  Same tree failure op = outcome_of r tree ≡ Err (failure, op)

  unfit_made : (tree : Tree) (failure : PatchFailure) (op : Option ℕ) → ReadsInput usual_rules source source' tree → KnownUnpatchable r source source' failure op → Same tree failure op
  unfit_made tree failure op reads unfit = same_made usual_rules (outcome_of r) source source' tree unfit.tree unfit.input.bytes reads unfit.input.known unfit.input.input ∙ unfit.fails

  unfit_transfer : (failure : PatchFailure) (op : Option ℕ) (code : ErrorCode) (place : Place) → TransferFails r source source' sink sink' code place → KnownUnpatchable r source source' failure op → error code place ≡ no_memory
  unfit_transfer failure op NoMemory nowhere h unfit = refl
  unfit_transfer failure op Io Reading h unfit = absurd (unfit.input.read h.0)
  unfit_transfer failure op TooLarge nowhere h unfit = absurd (no_fault usual_rules unfit.input.bytes unfit.tree TooLarge nowhere unfit.input.input (large_known usual_rules source unfit.input.bytes h.1 unfit.input.known))
  unfit_transfer failure op Io Writing h unfit = absurd (ok_err h.1.changed (failure, op) (sym h.1.applied ∙ unfit_made h.1.tree failure op h.1.reads unfit))
  unfit_transfer failure op code place h unfit = absurd (no_fault usual_rules unfit.input.bytes unfit.tree code place unfit.input.input (fault_known usual_rules source source' unfit.input.bytes code place h.0 unfit.input.known))

-- the code and the operation of a failure
same_failure : (o : Outcome) (failure known : PatchFailure) (op op' : Option ℕ) → o ≡ Err (failure, op) → o ≡ Err (known, op') → (failure ≡ known) × (op ≡ op')
same_failure o failure known op op' e f = let h = err_same (failure, op) (known, op') (sym e ∙ f) in (ap (λ (p : PatchFailure × Option ℕ). p.0) h, ap (λ (p : PatchFailure × Option ℕ). p.1) h)
  where
    err_same : (x y : PatchFailure × Option ℕ) → ◌≡◌ {A = Outcome} (Err x) (Err y) → x ≡ y
    err_same x y h = cc

abbrev CodeIs : PatchFailure → Option ℕ → PatchCode → Option ℕ → Type 0
CodeIs known op' code op = ((code ≡ code_of_failure known) × (op ≡ op')) ⊎ (code ≡ patch.NoMemory)

failed_so : (o : Outcome) (known : PatchFailure) (op op' : Option ℕ) (code : PatchCode) → o ≡ Err (known, op') → PatchFails o code op → CodeIs known op' code op
failed_so o known op op' patch.NoMemory e h = inr refl
failed_so o known op op' patch.NotFound e h = let s = same_failure o (lookup_failed not_found) known op op' h e in inl (ap code_of_failure s.0, s.1)
failed_so o known op op' patch.TypeUnmatched e h = let s = same_failure o (lookup_failed type_unmatched) known op op' h e in inl (ap code_of_failure s.0, s.1)
failed_so o known op op' patch.BadPointer e h = absurd h
failed_so o known op op' patch.BadPatch e h = let s = same_failure o bad_patch known op op' h e in inl (ap code_of_failure s.0, s.1)
failed_so o known op op' patch.TestFailed e h = let s = same_failure o test_failed known op op' h e in inl (ap code_of_failure s.0, s.1)

failure_status : (f : PatchFailure) → patch_status (code_of_failure f) ≡ 3
failure_status (lookup_failed not_found) = refl
failure_status (lookup_failed type_unmatched) = refl
failure_status bad_patch = refl
failure_status test_failed = refl

-- ---- the top call

fault_status : (b : List ℕ) (code : ErrorCode) (place : Place) → InputFault usual_rules b code place → status_of code place ≡ 1
fault_status b NoMemory place h = absurd (no_want usual_rules b place h)
fault_status b Io place h = absurd (no_io usual_rules b place h)
fault_status b BadWords place h = absurd (no_words usual_rules b place h)
fault_status b NotFound place h = absurd (no_not_found usual_rules b place h)
fault_status b TypeUnmatched place h = absurd (no_type_unmatched usual_rules b place h)
fault_status b code place h = refl

module _ (arguments : List (List ℕ)) (source source' : SourceState) (sink sink' : SinkState) where
  -- why a request failed, of the request that the arguments ask for
  cause_of : (r : PatchRequest) (e : CommandError) → AsksForPatch arguments r → PatchRunFails arguments source source' sink sink' e → RequestFails r source source' sink sink' e
  cause_of r (failed.Transfer e) asked (inl h) = by h.0
    where
      by : (e ≡ no_memory) ⊎ ((e ≡ bad_words) × ¬ (IsRequest arguments)) → TransferFails r source source' sink sink' e.code e.place
      by (inl lacks) = subst (λ (d : Error). TransferFails r source source' sink sink' d.code d.place) (sym lacks) (inl h.2)
      by (inr bad) = absurd (bad.1 (r, asked))
  cause_of r (failed.Patch e) asked (inl h) = absurd h
  cause_of r e asked (inr h) = so_of arguments r (λ s. RequestFails s source source' sink sink' e) asked h

  -- ---- a request that was done

  done_of : (r : PatchRequest) → AsksForPatch arguments r → WithRequest arguments (λ s. WritesOutcome s source source' sink sink') → WritesOutcome r source source' sink sink'
  done_of r asked h = so_of arguments r (λ s. WritesOutcome s source source' sink sink') asked h

  pub faulty_done : (code : ErrorCode) (place : Place) → WithRequest arguments (λ s. WritesOutcome s source source' sink sink') → IsFaulty arguments source source' code place → ⊥
  faulty_done code place did bad = let d = done_of bad.request bad.asked did in fault_not_read usual_rules source source' d.tree code place d.reads bad.so

  pub unfit_done : (failure : PatchFailure) (op : Option ℕ) → WithRequest arguments (λ s. WritesOutcome s source source' sink sink') → IsUnpatchable arguments source source' failure op → ⊥
  unfit_done failure op did unfit =
      let d = done_of unfit.request unfit.asked did in
      ok_err d.changed (failure, op) (sym d.applied ∙ unfit_made unfit.request source source' sink sink' d.tree failure op d.reads unfit.so)

  -- ---- an error of a transfer

  abbrev StatusIs : ErrorCode → Place → ℕ → Type 0
  StatusIs code place n = status_of code place ≡ n

  pub fit_fails : (code : ErrorCode) (place : Place) → PatchRunFails arguments source source' sink sink' (failed.Transfer (error code place)) → IsFit arguments source source' sink sink' → StatusIs code place 6
  fit_fails code place cause good = fit_status good.request source source' sink sink' (failed.Transfer (error code place)) (cause_of good.request (failed.Transfer (error code place)) good.asked cause) good.so

  pub faulty_fails : (errs errs' : SinkState) (code code' : ErrorCode) (place place' : Place) → PatchRunFails arguments source source' sink sink' (failed.Transfer (error code' place')) → Reports (text_of (error code' place')) errs errs'
      → IsFaulty arguments source source' code place → StatusReports 1 (error code place) errs errs' (status_of code' place')
  faulty_fails errs errs' code code' place place' cause reports bad =
      by (fault_transfer bad.request source source' sink sink' code code' place place' (cause_of bad.request (failed.Transfer (error code' place')) bad.asked cause) bad.so)
    where
      by : (error code' place' ≡ error code place) ⊎ (error code' place' ≡ no_memory) → StatusReports 1 (error code place) errs errs' (status_of code' place')
      by (inl same) = inl (ap (λ (d : Error). status_of d.code d.place) same ∙ fault_status bad.so.bytes code place bad.so.fault, subst (λ (d : Error). Reports (text_of d) errs errs') same reports)
      by (inr lacks) = inr (ap (λ (d : Error). status_of d.code d.place) lacks)

  pub unfit_fails : (errs errs' : SinkState) (failure : PatchFailure) (op : Option ℕ) (code : ErrorCode) (place : Place) → PatchRunFails arguments source source' sink sink' (failed.Transfer (error code place)) → IsUnpatchable arguments source source' failure op
      → StatusReportsText 3 (patch_text (code_of_failure failure) op) errs errs' (status_of code place)
  unfit_fails errs errs' failure op code place cause unfit =
      inr
      (ap (λ (d : Error). status_of d.code d.place)
      (unfit_transfer unfit.request source source' sink sink' failure op code place (cause_of unfit.request (failed.Transfer (error code place)) unfit.asked cause) unfit.so))

  pub words_fail : (code : ErrorCode) (place : Place) → PatchRunFails arguments source source' sink sink' (failed.Transfer (error code place)) → ¬ (IsRequest arguments) → (StatusIs code place 2) ⊎ (StatusIs code place 6)
  words_fail code place (inl h) none = by h.0
    where
      by : (error code place ≡ no_memory) ⊎ ((error code place ≡ bad_words) × ¬ (IsRequest arguments)) → (StatusIs code place 2) ⊎ (StatusIs code place 6)
      by (inl lacks) = inr (ap (λ (d : Error). status_of d.code d.place) lacks)
      by (inr bad) = inl (ap (λ (d : Error). status_of d.code d.place) bad.0)
  words_fail code place (inr h) none = absurd (none (h.request, h.asked))

  -- ---- an error of a patch

  module _ (e : PatchError) (cause : PatchRunFails arguments source source' sink sink' (failed.Patch e)) (errs errs' : SinkState) (n : ℕ) (reports : ReportsOr (patch_status e.code) (patch_text e.code e.op) errs errs' n) where
    unfit_of : (r : PatchRequest) → AsksForPatch arguments r → ReadsUnpatchable r source source' e.code e.op
    unfit_of r asked = (cause_of r (failed.Patch e) asked cause).0

    pub patch_fit : IsFit arguments source source' sink sink' → n ≡ 6
    patch_fit good = by reports
      where
        by : ReportsOr (patch_status e.code) (patch_text e.code e.op) errs errs' n → n ≡ 6
        by (inl h) = h.0 ∙ fit_status good.request source source' sink sink' (failed.Patch e) (cause_of good.request (failed.Patch e) good.asked cause) good.so
        by (inr h) = h.0

    pub patch_faulty : (code : ErrorCode) (place : Place) → IsFaulty arguments source source' code place → ⊥
    patch_faulty code place bad = let u = unfit_of bad.request bad.asked in fault_not_read usual_rules source source' u.tree code place u.reads bad.so

    pub patch_unfit : (failure : PatchFailure) (op : Option ℕ) → IsUnpatchable arguments source source' failure op → StatusReportsText 3 (patch_text (code_of_failure failure) op) errs errs' n
    patch_unfit failure op unfit =
        let u = unfit_of unfit.request unfit.asked in
        by reports (failed_so (outcome_of unfit.request u.tree) failure e.op op e.code (unfit_made unfit.request source source' sink sink' u.tree failure op u.reads unfit.so) u.fails)
      where
        by : ReportsOr (patch_status e.code) (patch_text e.code e.op) errs errs' n → CodeIs failure op e.code e.op → StatusReportsText 3 (patch_text (code_of_failure failure) op) errs errs' n
        by (inr h) c = inr h.0
        by (inl h) (inr lacks) = inr (h.0 ∙ ap patch_status lacks)
        by (inl h) (inl c) = inl (h.0 ∙ ap patch_status c.0 ∙ failure_status failure, subst (λ (o : Option ℕ). Reports (patch_text (code_of_failure failure) o) errs errs') c.1 (subst (λ (d : PatchCode). Reports (patch_text d e.op) errs errs') c.0 h.1))

    pub patch_words : ¬ (IsRequest arguments) → ⊥
    patch_words none = by cause
      where
        by : PatchRunFails arguments source source' sink sink' (failed.Patch e) → ⊥
        by (inl h) = h
        by (inr h) = none (h.request, h.asked)
