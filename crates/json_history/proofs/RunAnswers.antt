-- The status and the text of a run, where the bytes of the source are known.
use Rattle.std.proofs.Common.{◌≡◌, ◌⊎◌, inl, inr, ℕ, List, [], ◌∷◌, Some, Ok, Err, Result, refl, sym, subst, ap, ◌∙◌, false}
use Rattle.json_grammar.specs.Tree.{Tree}
use Rattle.json_grammar.proofs.Values.{one_tree}
use Rattle.json_model.specs.Edit.{EditRefusal, not_found, type_unmatched}
use Rattle.json_io.specs.Errors.{no_memory}
use Rattle.json_io.specs.FaultText.{text_of}
use Rattle.json_text.specs.Ruled.{usual_rules}
use Rattle.json_io.specs.declared.error.Error.{Error}
use Rattle.json_io.specs.declared.error.ErrorCode.{ErrorCode}
use Rattle.json_io.specs.declared.error.ErrorCode.TheVariants.{NoMemory, Io, TooLarge, NotFound, TypeUnmatched, BadWords}
use Rattle.json_io.specs.declared.error.Place.{Place}
use Rattle.json_io.specs.declared.error.Place.TheVariants.{None as nowhere, Reading, Writing, Edit as in_edit}
use Rattle.json_io.specs.Outside.{SourceState, SinkState}
use Rattle.json_command.specs.Input.{InputFault}
use Rattle.json_command.specs.Reading.{ReadsInput, KnownInput, KnownFault}
use Rattle.json_command.specs.Reporting.{Reports}
use Rattle.json_command.specs.Statuses.{status_of}
use Rattle.json_command.proofs.Inputs.{no_want, no_io, no_words, no_not_found, no_type_unmatched}
use Rattle.json_command.proofs.KnownBytes.{large_known, fault_known, no_fault, same_fault, same_made, fault_not_read}
use Rattle.json_history.specs.Calls.{edit_error}
use Rattle.json_history.specs.History.{TreeHistory, TreeCall, run_calls}
use Rattle.json_history.specs.Replay.{Replays, ReadsInapplicable, GainsPrefix, ReplayFails}
use Rattle.json_history.specs.Spelling.{AsksForCalls, calls_in}
use Rattle.json_history.specs.Run.{WithCalls, RunFails, KnownApplicable, KnownInapplicable, IsApplicable, IsInapplicable, IsInvalid}

-- ---- the calls that the words ask for

some_injective : {A : Type 0} {x y : A} → Some x ≡ Some y → x ≡ y
some_injective e = cc

asks_once : (arguments : List (List ℕ)) (cs ds : List TreeCall) → AsksForCalls arguments cs → AsksForCalls arguments ds → cs ≡ ds
asks_once [] cs ds h k = absurd h
asks_once (w ∷ []) cs ds h k = some_injective (sym h.calls ∙ ap calls_in (one_tree false h.tree k.tree w h.input.text k.input.text) ∙ k.calls)
asks_once (w ∷ v ∷ ws) cs ds h k = absurd h

of_asked_calls : (arguments : List (List ℕ)) (cs : List TreeCall) (P : List TreeCall → Type 0) → AsksForCalls arguments cs → WithCalls arguments P → P cs
of_asked_calls arguments cs P asked h = subst P (asks_once arguments h.calls cs h.asked asked) h.so

-- why a run failed, of the calls that the words ask for
replay_fails : (arguments : List (List ℕ)) (cs : List TreeCall) (source source' : SourceState) (sink sink' : SinkState) (code : ErrorCode) (place : Place) → AsksForCalls arguments cs → RunFails arguments source source' sink sink' code place
    → ReplayFails cs source source' sink sink' code place
replay_fails arguments cs source source' sink sink' NoMemory nowhere asked (inl same) = inl same
replay_fails arguments cs source source' sink sink' NoMemory nowhere asked (inr h) = inr (of_asked_calls arguments cs (λ cs. GainsPrefix cs source source' sink sink') asked h)
replay_fails arguments cs source source' sink sink' BadWords nowhere asked cause = absurd (cause.0 cs asked)
replay_fails arguments cs source source' sink sink' code place asked cause = of_asked_calls arguments cs (λ cs. ReplayFails cs source source' sink sink' code place) asked cause

-- ---- one error, or want of memory

abbrev error : ErrorCode → Place → Error
error code place = record { code = code; place = place }

abbrev Exact : ℕ → Error → SinkState → SinkState → ℕ → Type 0
Exact answer e errs errs' status = ((status ≡ answer) × Reports (text_of e) errs errs') ⊎ (status ≡ 6)

exact_of : (answer : ℕ) (e found : Error) (errs errs' : SinkState) → status_of e.code e.place ≡ answer → Reports (text_of found) errs errs' → (found ≡ e) ⊎ (found ≡ no_memory)
    → Exact answer e errs errs' (status_of found.code found.place)
exact_of answer e found errs errs' is reports (inl same) = inl (ap (λ (e : Error). status_of e.code e.place) same ∙ is, subst (λ (e : Error). Reports (text_of e) errs errs') same reports)
exact_of answer e found errs errs' is reports (inr same) = inr (ap (λ (e : Error). status_of e.code e.place) same)

-- ---- words of another form

pub bad_words_status : (arguments : List (List ℕ)) (source source' : SourceState) (sink sink' : SinkState) (code : ErrorCode) (place : Place) → RunFails arguments source source' sink sink' code place → ((cs : List TreeCall) → ¬ (AsksForCalls arguments cs))
    → (status_of code place ≡ 2) ⊎ (status_of code place ≡ 6)
bad_words_status arguments source source' sink sink' NoMemory nowhere cause none = inr refl
bad_words_status arguments source source' sink sink' BadWords nowhere cause none = inl refl
bad_words_status arguments source source' sink sink' code place cause none = absurd (none cause.calls cause.asked)

-- ---- a text to which the calls apply

abbrev Answer : Type 0
Answer = Result TreeHistory (ℕ × EditRefusal)

ok_not_err : (x : TreeHistory) (e : ℕ × EditRefusal) → ◌≡◌ {A = Answer} (Ok x) (Err e) → ⊥
ok_not_err x e h = cc

err_injective : (x y : ℕ × EditRefusal) → ◌≡◌ {A = Answer} (Err x) (Err y) → x ≡ y
err_injective x y h = cc

-- the calls on the tree that was read are those on the tree of the known bytes
same_run_calls : (source source' : SourceState) (cs : List TreeCall) (tree other : Tree) → ReadsInput usual_rules source source' tree → KnownInput usual_rules source source' other → run_calls tree cs ≡ run_calls other cs
same_run_calls source source' cs tree other reads known = same_made usual_rules (λ t. run_calls t cs) source source' tree other known.bytes reads known.known known.input

known_no_fault : (source source' : SourceState) (tree : Tree) (code : ErrorCode) (place : Place) (known : KnownInput usual_rules source source' tree) → InputFault usual_rules known.bytes code place → ⊥
known_no_fault source source' tree code place known fault = no_fault usual_rules known.bytes tree code place known.input fault

module _ (cs : List TreeCall) (source source' : SourceState) (sink sink' : SinkState) (good : KnownApplicable cs source source' sink sink') where
  not_inapplicable : (n : ℕ) (why : EditRefusal) → ReadsInapplicable cs source source' n why → ⊥
  not_inapplicable n why h = ok_not_err good.left (n, why) (sym good.made ∙ sym (same_run_calls source source' cs h.tree good.tree h.reads good.input) ∙ h.refused)

  -- only for want of memory
  applicable_fails : (code : ErrorCode) (place : Place) → ReplayFails cs source source' sink sink' code place → error code place ≡ no_memory
  applicable_fails NoMemory nowhere cause = refl
  applicable_fails Io Reading cause = absurd (good.input.read cause.0)
  applicable_fails Io Writing cause = absurd (good.written cause.0)
  applicable_fails TooLarge nowhere cause = absurd (known_no_fault source source' good.tree TooLarge nowhere good.input (large_known usual_rules source good.input.bytes cause.1 good.input.known))
  applicable_fails NotFound (in_edit n) cause = absurd (not_inapplicable n not_found cause.0)
  applicable_fails TypeUnmatched (in_edit n) cause = absurd (not_inapplicable n type_unmatched cause.0)
  applicable_fails code place cause = absurd (known_no_fault source source' good.tree code place good.input (fault_known usual_rules source source' good.input.bytes code place cause.0 good.input.known))

pub applicable_status : (arguments : List (List ℕ)) (source source' : SourceState) (sink sink' : SinkState) (code : ErrorCode) (place : Place) → RunFails arguments source source' sink sink' code place
    → IsApplicable arguments source source' sink sink' → (status_of code place ≡ 0) ⊎ (status_of code place ≡ 6)
applicable_status arguments source source' sink sink' code place cause good =
    inr (ap (λ (e : Error). status_of e.code e.place) (applicable_fails good.calls source source' sink sink' good.so code place (replay_fails arguments good.calls source source' sink sink' code place good.asked cause)))

-- ---- bytes with a fault

fault_status : (b : List ℕ) (code : ErrorCode) (place : Place) → InputFault usual_rules b code place → status_of code place ≡ 1
fault_status b NoMemory place h = absurd (no_want usual_rules b place h)
fault_status b Io place h = absurd (no_io usual_rules b place h)
fault_status b BadWords place h = absurd (no_words usual_rules b place h)
fault_status b NotFound place h = absurd (no_not_found usual_rules b place h)
fault_status b TypeUnmatched place h = absurd (no_type_unmatched usual_rules b place h)
fault_status b code place h = refl

module _ (cs : List TreeCall) (source source' : SourceState) (sink sink' : SinkState) (code : ErrorCode) (place : Place) (bad : KnownFault usual_rules source source' code place) where
  -- with that fault, or for want of memory
  invalid_fails : (found : ErrorCode) (at : Place) → ReplayFails cs source source' sink sink' found at → (error found at ≡ error code place) ⊎ (error found at ≡ no_memory)
  invalid_fails NoMemory nowhere cause = inr refl
  invalid_fails Io Reading cause = absurd (bad.read cause.0)
  invalid_fails Io Writing cause = absurd (fault_not_read usual_rules source source' cause.1.tree code place cause.1.reads bad)
  invalid_fails TooLarge nowhere cause = inl (same_fault usual_rules bad.bytes code TooLarge place nowhere bad.fault (large_known usual_rules source bad.bytes cause.1 bad.known))
  invalid_fails NotFound (in_edit n) cause = absurd (fault_not_read usual_rules source source' cause.0.tree code place cause.0.reads bad)
  invalid_fails TypeUnmatched (in_edit n) cause = absurd (fault_not_read usual_rules source source' cause.0.tree code place cause.0.reads bad)
  invalid_fails found at cause = inl (same_fault usual_rules bad.bytes code found place at bad.fault (fault_known usual_rules source source' bad.bytes found at cause.0 bad.known))

module _ (arguments : List (List ℕ)) (source source' : SourceState) (sink sink' : SinkState) (code : ErrorCode) (place : Place) (bad : IsInvalid arguments source source' code place) where
  pub invalid_status : (errs errs' : SinkState) (found : ErrorCode) (at : Place) → RunFails arguments source source' sink sink' found at → Reports (text_of (error found at)) errs errs' → Exact 1 (error code place) errs errs' (status_of found at)
  invalid_status errs errs' found at cause reports =
      exact_of 1 (error code place) (error found at) errs errs' (fault_status bad.so.bytes code place bad.so.fault) reports
      (invalid_fails bad.calls source source' sink sink' code place bad.so found at (replay_fails arguments bad.calls source source' sink sink' found at bad.asked cause))

  pub invalid_not_done : WithCalls arguments (λ cs. Replays cs source source' sink sink') → ⊥
  invalid_not_done did = fault_not_read usual_rules source source' did.so.tree code place did.so.reads bad.so

-- ---- a text to which a call does not apply

edit_error_status : (n : ℕ) (why : EditRefusal) → status_of (edit_error n why).code (edit_error n why).place ≡ 3
edit_error_status n not_found = refl
edit_error_status n type_unmatched = refl

module _ (cs : List TreeCall) (source source' : SourceState) (n : ℕ) (why : EditRefusal) (unfit : KnownInapplicable cs source source' n why) where
  inapplicable_not_made : (tree : Tree) (left : TreeHistory) → ReadsInput usual_rules source source' tree → run_calls tree cs ≡ Ok left → ⊥
  inapplicable_not_made tree left reads made = ok_not_err left (n, why) (sym made ∙ same_run_calls source source' cs tree unfit.tree reads unfit.input ∙ unfit.refused)

  inapplicable_same : (m : ℕ) (other : EditRefusal) → ReadsInapplicable cs source source' m other → edit_error m other ≡ edit_error n why
  inapplicable_same m other h =
      let same : ◌≡◌ {A = ℕ × EditRefusal} (m, other) (n, why) = err_injective (m, other) (n, why) (sym h.refused ∙ same_run_calls source source' cs h.tree unfit.tree h.reads unfit.input ∙ unfit.refused) in
      ap (λ (p : ℕ × EditRefusal). edit_error p.0 p.1) same

  -- with that edit, or for want of memory
  inapplicable_fails : (sink sink' : SinkState) (code : ErrorCode) (place : Place) → ReplayFails cs source source' sink sink' code place → (error code place ≡ edit_error n why) ⊎ (error code place ≡ no_memory)
  inapplicable_fails sink sink' NoMemory nowhere cause = inr refl
  inapplicable_fails sink sink' Io Reading cause = absurd (unfit.input.read cause.0)
  inapplicable_fails sink sink' Io Writing cause = absurd (inapplicable_not_made cause.1.tree cause.1.left cause.1.reads cause.1.made)
  inapplicable_fails sink sink' TooLarge nowhere cause = absurd (known_no_fault source source' unfit.tree TooLarge nowhere unfit.input (large_known usual_rules source unfit.input.bytes cause.1 unfit.input.known))
  inapplicable_fails sink sink' NotFound (in_edit m) cause = inl (inapplicable_same m not_found cause.0)
  inapplicable_fails sink sink' TypeUnmatched (in_edit m) cause = inl (inapplicable_same m type_unmatched cause.0)
  inapplicable_fails sink sink' code place cause = absurd (known_no_fault source source' unfit.tree code place unfit.input (fault_known usual_rules source source' unfit.input.bytes code place cause.0 unfit.input.known))

module _ (arguments : List (List ℕ)) (source source' : SourceState) (sink sink' : SinkState) (n : ℕ) (why : EditRefusal) (unfit : IsInapplicable arguments source source' n why) where
  pub inapplicable_status : (errs errs' : SinkState) (code : ErrorCode) (place : Place) → RunFails arguments source source' sink sink' code place → Reports (text_of (error code place)) errs errs' → Exact 3 (edit_error n why) errs errs' (status_of code place)
  inapplicable_status errs errs' code place cause reports =
      exact_of 3 (edit_error n why) (error code place) errs errs' (edit_error_status n why) reports
      (inapplicable_fails unfit.calls source source' n why unfit.so sink sink' code place (replay_fails arguments unfit.calls source source' sink sink' code place unfit.asked cause))

  pub inapplicable_not_done : WithCalls arguments (λ cs. Replays cs source source' sink sink') → ⊥
  inapplicable_not_done did =
      let r = of_asked_calls arguments unfit.calls (λ cs. Replays cs source source' sink sink') unfit.asked did in
      inapplicable_not_made unfit.calls source source' n why unfit.so r.tree r.left r.reads r.made
