-- What a status and a fault tell of an outcome.
use Rattle.std.proofs.Common.{◌≡◌, ◌≢◌, ◌⊎◌, inl, inr, ℕ, List, Result, Ok, Err, OnOk, IfErr, refl, sym, subst, ap, ◌∙◌, arith}
use Rattle.json_grammar.specs.Rules.{Rules}
use Rattle.json_patch.specs.declared.error.PatchCode.{PatchCode}
use Rattle.json_patch.specs.declared.error.PatchCode.TheVariants as patch
use Rattle.json_io.specs.Errors.{number_of}
use Rattle.json_io.specs.declared.error.ErrorCode.{ErrorCode}
use Rattle.json_io.specs.declared.error.ErrorCode.TheVariants.{NoMemory, NotFound, TypeUnmatched}
use Rattle.json_io.specs.declared.error.Place.{Place}
use Rattle.json_io.specs.declared.error.Place.TheVariants.{None as nowhere}
use Rattle.mezdruk_c.specs.declared.failure.Failure.{Failure}
use Rattle.mezdruk_c.specs.declared.failure.Failure.TheVariants.{Options as bad_options, Argument, Text, Patch, NoMergePatch}
use Rattle.mezdruk_c.specs.declared.fault.FaultReport.{FaultReport}
use Rattle.mezdruk_c.specs.declared.options.Options.{Options}
use Rattle.mezdruk_c.specs.Asked.{HasRules, rules_of_options}
use Rattle.mezdruk_c.specs.Checking.{CheckFails}
use Rattle.mezdruk_c.specs.Failures.{argument_status_of, text_status_of, patch_status_of, status_of_failure}
use Rattle.mezdruk_c.specs.Faults.{CallFailsFor, TellsOutcome, fault_at}
use Rattle.json_command.specs.Input.{IsValid, InputFault}
use Rattle.mezdruk_c.specs.Texts.{ReadingTextFails}
use Rattle.json_command.proofs.Inputs.{one_input_fault, valid_no_fault, no_want, no_not_found, no_type_unmatched}

-- ---- a failure has a status other than 0

argument_some : (c : ErrorCode) → argument_status_of c ≢ 0
argument_some NoMemory e = omega (arith, e)
argument_some c e = omega (arith, e)

text_some : (c : ErrorCode) → text_status_of c ≢ 0
text_some NoMemory e = omega (arith, e)
text_some NotFound e = omega (arith, e)
text_some TypeUnmatched e = omega (arith, e)
text_some c e = omega (arith, e)

patch_some : (c : PatchCode) → patch_status_of c ≢ 0
patch_some patch.NoMemory e = omega (arith, e)
patch_some c e = omega (arith, e)

pub status_some : (f : Failure) → status_of_failure f ≢ 0
status_some bad_options e = omega (arith, e)
status_some (Argument x) e = argument_some x.code e
status_some (Text x) e = text_some x.code e
status_some (Patch x) e = patch_some x.code e
status_some NoMergePatch e = omega (arith, e)

-- ---- a success and a failure

pub settled_done : (r : Result (Unit {0}) Failure) (n : ℕ) (fault : FaultReport) (Done : Type 0) → TellsOutcome r n fault → OnOk r Done → n ≡ 0 → Done
settled_done (Ok x) n fault Done s done e = done
settled_done (Err f) n fault Done s done e = absurd (status_some f (sym s.0 ∙ e))

pub settled_failed : (r : Result (Unit {0}) Failure) (n : ℕ) (fault : FaultReport) (Why : Failure → Type 0) → TellsOutcome r n fault → IfErr r Why → n ≢ 0 → CallFailsFor Why n fault
settled_failed (Ok x) n fault Why s why h = absurd (h s)
settled_failed (Err f) n fault Why s why h = record { failure = f; why = why; status_is = s.0; fault_is = s.1 }

-- ---- a check

-- a valid text fails only for want of memory
valid_fails : (rules : Rules) (b : List ℕ) (code : ErrorCode) (place : Place) → IsValid rules b → ReadingTextFails rules b code place → text_status_of code ≡ 6
valid_fails rules b NoMemory nowhere valid h = refl
valid_fails rules b code place valid h = absurd (valid_no_fault rules b code place valid h)

valid_check : (o : Options) (b : List ℕ) (f : Failure) → HasRules o → IsValid (rules_of_options o) b → CheckFails o b f → status_of_failure f ≡ 6
valid_check o b bad_options has valid why = absurd (why has)
valid_check o b (Text e) has valid why = valid_fails (rules_of_options o) b e.code e.place valid why.1
valid_check o b (Argument e) has valid why = absurd why
valid_check o b (Patch e) has valid why = absurd why
valid_check o b NoMergePatch has valid why = absurd why

pub check_complete : (r : Result (Unit {0}) Failure) (n : ℕ) (fault : FaultReport) (o : Options) (b : List ℕ) → TellsOutcome r n fault → IfErr r (CheckFails o b) → HasRules o → IsValid (rules_of_options o) b → (n ≡ 0) ⊎ (n ≡ 6)
check_complete (Ok x) n fault o b s why has valid = inl s
check_complete (Err f) n fault o b s why has valid = inr (s.0 ∙ valid_check o b f has valid why)

-- a fault of a text has status 1
fault_status : (rules : Rules) (b : List ℕ) (code : ErrorCode) (place : Place) → InputFault rules b code place → text_status_of code ≡ 1
fault_status rules b NoMemory place h = absurd (no_want rules b place h)
fault_status rules b NotFound place h = absurd (no_not_found rules b place h)
fault_status rules b TypeUnmatched place h = absurd (no_type_unmatched rules b place h)
fault_status rules b code place h = refl

abbrev Told : ErrorCode → Place → ℕ → FaultReport → Type 0
Told code place n fault = ((n ≡ 1) × (fault ≡ fault_at (number_of code) place)) ⊎ (n ≡ 6)

reported_fault : (rules : Rules) (b : List ℕ) (n : ℕ) (fault : FaultReport) (code code' : ErrorCode) (place place' : Place) → n ≡ text_status_of code' → fault ≡ fault_at (number_of code') place' → InputFault rules b code place → InputFault rules b code' place'
    → Told code place n fault
reported_fault rules b n fault code code' place place' status told h h' = by (one_input_fault rules b code' code place' place h' h)
  where
    by : (code' ≡ code) × (place' ≡ place) → Told code place n fault
    by (e, f) = inl (status ∙ fault_status rules b code' place' h', rw (← e, ← f) told)

reported_text : (rules : Rules) (b : List ℕ) (n : ℕ) (fault : FaultReport) (code code' : ErrorCode) (place place' : Place) → n ≡ text_status_of code' → fault ≡ fault_at (number_of code') place' → InputFault rules b code place → ReadingTextFails rules b code' place'
    → Told code place n fault
reported_text rules b n fault code NoMemory place nowhere status told h why = inr status
reported_text rules b n fault code code' place place' status told h why = reported_fault rules b n fault code code' place place' status told h why

reported_check : (o : Options) (b : List ℕ) (f : Failure) (n : ℕ) (fault : FaultReport) (code : ErrorCode) (place : Place) → HasRules o → TellsOutcome (Err f) n fault → CheckFails o b f → InputFault (rules_of_options o) b code place → Told code place n fault
reported_check o b bad_options n fault code place has s why h = absurd (why has)
reported_check o b (Text e) n fault code place has s why h = reported_text (rules_of_options o) b n fault code e.code place e.place s.0 s.1 h why.1
reported_check o b (Argument e) n fault code place has s why h = absurd why
reported_check o b (Patch e) n fault code place has s why h = absurd why
reported_check o b NoMergePatch n fault code place has s why h = absurd why

pub check_exact : (r : Result (Unit {0}) Failure) (n : ℕ) (fault : FaultReport) (o : Options) (b : List ℕ) (code : ErrorCode) (place : Place) → TellsOutcome r n fault → OnOk r (HasRules o × IsValid (rules_of_options o) b) → IfErr r (CheckFails o b) → HasRules o
    → InputFault (rules_of_options o) b code place → Told code place n fault
check_exact (Ok x) n fault o b code place s valid why has h = absurd (valid_no_fault (rules_of_options o) b code place valid.1 h)
check_exact (Err f) n fault o b code place s valid why has h = reported_check o b f n fault code place has s why h
