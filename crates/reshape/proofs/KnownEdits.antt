-- What the known bytes of a source lead to after edits.
use Rattle.std.proofs.Common.{◌≡◌, ◌⊎◌, inl, inr, ℕ, List, Ok, Err, Result, OnOk, IfErr, IsErrOf, refl, sym, ap, ◌∙◌}
use Rattle.std.specs.Result.{IsOkUnless}
use Rattle.json_grammar.specs.Tree.{Tree}
use Rattle.json_grammar.specs.Rules.{Rules}
use Rattle.json_model.specs.Edit.{Edit, edited, EditRefusal, not_found, type_unmatched}
use Rattle.json_io.specs.declared.error.Error.{Error}
use Rattle.json_io.specs.declared.error.ErrorCode.{ErrorCode}
use Rattle.json_io.specs.declared.error.ErrorCode.TheVariants.{NoMemory, Io, TooLarge, NotFound, TypeUnmatched}
use Rattle.json_io.specs.declared.error.Place.{Place}
use Rattle.json_io.specs.declared.error.Place.TheVariants.{None as nowhere, Reading, Writing, Edit as in_edit}
use Rattle.json_io.specs.Errors.{no_memory}
use Rattle.json_io.specs.Outside.{SourceState, SinkState}
use Rattle.json_command.specs.Reading.{ReadsInput, KnownFault}
use Rattle.reshape.specs.Reshape.{TextLayout, Reshapes, ReadsUnfit, ReshapingRefuses}
use Rattle.reshape.specs.Known.{KnownFit, KnownUnfit, edit_refused}
use Rattle.json_command.proofs.KnownBytes.{large_known, fault_known, no_fault, same_fault, same_made, fault_not_read, one_of}

module _ (rules : Rules) where
  abbrev Answer : Type 0
  Answer = Result Tree (ℕ × EditRefusal)

  ok_err : (x : Tree) (e : ℕ × EditRefusal) → ◌≡◌ {A = Answer} (Ok x) (Err e) → ⊥
  ok_err x e h = cc

  err_is : (x y : ℕ × EditRefusal) → ◌≡◌ {A = Answer} (Err x) (Err y) → x ≡ y
  err_is x y h = cc

  abbrev error : ErrorCode → Place → Error
  error code place = record { code = code; place = place }

  abbrev Outcome : Type 0
  Outcome = Result (Unit {0}) Error

  -- ---- a text to which the edits apply

  fit_not_unfit : (es : List Edit) (source source' : SourceState) (sink sink' : SinkState) (n : ℕ) (why : EditRefusal) → ReadsUnfit rules es source source' n why → KnownFit rules es source source' sink sink' → ⊥
  fit_not_unfit es source source' sink sink' n why h fit = ok_err fit.changed (n, why) (sym fit.applies ∙ sym (same_made rules (edited es) source source' h.tree fit.tree fit.input.bytes h.reads fit.input.known fit.input.input) ∙ h.refused)

  -- nothing but want of memory refuses it
  pub fit_refused : (es : List Edit) (l : TextLayout) (source source' : SourceState) (sink sink' : SinkState) (code : ErrorCode) (place : Place) → ReshapingRefuses rules es l source source' sink sink' code place
      → KnownFit rules es source source' sink sink' → error code place ≡ no_memory
  fit_refused es l source source' sink sink' NoMemory nowhere cause fit = refl
  fit_refused es l source source' sink sink' Io Reading cause fit = absurd (fit.input.read cause.0)
  fit_refused es l source source' sink sink' Io Writing cause fit = absurd (fit.written cause.0)
  fit_refused es l source source' sink sink' TooLarge nowhere cause fit = absurd (no_fault rules fit.input.bytes fit.tree TooLarge nowhere fit.input.input (large_known rules source fit.input.bytes cause.1 fit.input.known))
  fit_refused es l source source' sink sink' NotFound (in_edit n) cause fit = absurd (fit_not_unfit es source source' sink sink' n not_found cause.0 fit)
  fit_refused es l source source' sink sink' TypeUnmatched (in_edit n) cause fit = absurd (fit_not_unfit es source source' sink sink' n type_unmatched cause.0 fit)
  fit_refused es l source source' sink sink' code place cause fit = absurd (no_fault rules fit.input.bytes fit.tree code place fit.input.input (fault_known rules source source' fit.input.bytes code place cause.0 fit.input.known))

  pub fit_outcome : (r : Outcome) (es : List Edit) (l : TextLayout) (source source' : SourceState) (sink sink' : SinkState) → IfErr r (λ e. ReshapingRefuses rules es l source source' sink sink' e.code e.place)
      → KnownFit rules es source source' sink sink' → IsOkUnless r no_memory
  fit_outcome (Ok x) es l source source' sink sink' h fit = tt
  fit_outcome (Err e) es l source source' sink sink' h fit = fit_refused es l source source' sink sink' e.code e.place h fit

  -- ---- bytes with a fault

  -- they are refused for it, or for want of memory
  pub fault_refused : (es : List Edit) (l : TextLayout) (source source' : SourceState) (sink sink' : SinkState) (code code' : ErrorCode) (place place' : Place) → ReshapingRefuses rules es l source source' sink sink' code' place'
      → KnownFault rules source source' code place → (error code' place' ≡ error code place) ⊎ (error code' place' ≡ no_memory)
  fault_refused es l source source' sink sink' code NoMemory place nowhere cause bad = inr refl
  fault_refused es l source source' sink sink' code Io place Reading cause bad = absurd (bad.read cause.0)
  fault_refused es l source source' sink sink' code Io place Writing cause bad = absurd (fault_not_read rules source source' cause.1.tree code place cause.1.reads bad)
  fault_refused es l source source' sink sink' code TooLarge place nowhere cause bad = inl (same_fault rules bad.bytes code TooLarge place nowhere bad.fault (large_known rules source bad.bytes cause.1 bad.known))
  fault_refused es l source source' sink sink' code NotFound place (in_edit n) cause bad = absurd (fault_not_read rules source source' cause.0.tree code place cause.0.reads bad)
  fault_refused es l source source' sink sink' code TypeUnmatched place (in_edit n) cause bad = absurd (fault_not_read rules source source' cause.0.tree code place cause.0.reads bad)
  fault_refused es l source source' sink sink' code code' place place' cause bad = inl (same_fault rules bad.bytes code code' place place' bad.fault (fault_known rules source source' bad.bytes code' place' cause.0 bad.known))

  pub fault_not_done : (es : List Edit) (l : TextLayout) (source source' : SourceState) (sink sink' : SinkState) (code : ErrorCode) (place : Place) → Reshapes rules es l source source' sink sink' → KnownFault rules source source' code place → ⊥
  fault_not_done es l source source' sink sink' code place r bad = fault_not_read rules source source' r.tree code place r.reads bad

  pub fault_outcome : (r : Outcome) (es : List Edit) (l : TextLayout) (source source' : SourceState) (sink sink' : SinkState) (code : ErrorCode) (place : Place) → OnOk r (Reshapes rules es l source source' sink sink')
      → IfErr r (λ e. ReshapingRefuses rules es l source source' sink sink' e.code e.place) → KnownFault rules source source' code place → IsErrOf r (error code place) ⊎ IsErrOf r no_memory
  fault_outcome (Ok x) es l source source' sink sink' code place d h bad = absurd (fault_not_done es l source source' sink sink' code place d bad)
  fault_outcome (Err e) es l source source' sink sink' code place d h bad = one_of e (error code place) no_memory (fault_refused es l source source' sink sink' code e.code place e.place h bad)

  -- ---- a text to which an edit does not apply

  -- where all edits applied, none was unfit
  unfit_applied : (es : List Edit) (source source' : SourceState) (tree changed : Tree) (n : ℕ) (why : EditRefusal) → ReadsInput rules source source' tree → edited es tree ≡ Ok changed → KnownUnfit rules es source source' n why → ⊥
  unfit_applied es source source' tree changed n why reads applied unfit = ok_err changed (n, why) (sym applied ∙ same_made rules (edited es) source source' tree unfit.tree unfit.input.bytes reads unfit.input.known unfit.input.input ∙ unfit.refused)

  -- the edit that was returned is the one that does not apply
  unfit_same : (es : List Edit) (source source' : SourceState) (n n' : ℕ) (why why' : EditRefusal) → ReadsUnfit rules es source source' n' why' → KnownUnfit rules es source source' n why → edit_refused n' why' ≡ edit_refused n why
  unfit_same es source source' n n' why why' h unfit =
      let same : ◌≡◌ {A = ℕ × EditRefusal} (n', why') (n, why) = err_is (n', why') (n, why) (sym h.refused ∙ same_made rules (edited es) source source' h.tree unfit.tree unfit.input.bytes h.reads unfit.input.known unfit.input.input ∙ unfit.refused) in
      ap (λ p. edit_refused p.0 p.1) same

  -- it is refused for that edit, or for want of memory
  pub unfit_refused : (es : List Edit) (l : TextLayout) (source source' : SourceState) (sink sink' : SinkState) (n : ℕ) (why : EditRefusal) (code : ErrorCode) (place : Place) → ReshapingRefuses rules es l source source' sink sink' code place
      → KnownUnfit rules es source source' n why → (error code place ≡ edit_refused n why) ⊎ (error code place ≡ no_memory)
  unfit_refused es l source source' sink sink' n why NoMemory nowhere cause unfit = inr refl
  unfit_refused es l source source' sink sink' n why Io Reading cause unfit = absurd (unfit.input.read cause.0)
  unfit_refused es l source source' sink sink' n why Io Writing cause unfit = absurd (unfit_applied es source source' cause.1.tree cause.1.changed n why cause.1.reads cause.1.applied unfit)
  unfit_refused es l source source' sink sink' n why TooLarge nowhere cause unfit = absurd (no_fault rules unfit.input.bytes unfit.tree TooLarge nowhere unfit.input.input (large_known rules source unfit.input.bytes cause.1 unfit.input.known))
  unfit_refused es l source source' sink sink' n why NotFound (in_edit m) cause unfit = inl (unfit_same es source source' n m why not_found cause.0 unfit)
  unfit_refused es l source source' sink sink' n why TypeUnmatched (in_edit m) cause unfit = inl (unfit_same es source source' n m why type_unmatched cause.0 unfit)
  unfit_refused es l source source' sink sink' n why code place cause unfit = absurd (no_fault rules unfit.input.bytes unfit.tree code place unfit.input.input (fault_known rules source source' unfit.input.bytes code place cause.0 unfit.input.known))

  pub unfit_not_done : (es : List Edit) (l : TextLayout) (source source' : SourceState) (sink sink' : SinkState) (n : ℕ) (why : EditRefusal) → Reshapes rules es l source source' sink sink' → KnownUnfit rules es source source' n why → ⊥
  unfit_not_done es l source source' sink sink' n why r unfit = unfit_applied es source source' r.tree r.changed n why r.reads r.applied unfit

  pub unfit_outcome : (r : Outcome) (es : List Edit) (l : TextLayout) (source source' : SourceState) (sink sink' : SinkState) (n : ℕ) (why : EditRefusal) → OnOk r (Reshapes rules es l source source' sink sink')
      → IfErr r (λ e. ReshapingRefuses rules es l source source' sink sink' e.code e.place) → KnownUnfit rules es source source' n why → IsErrOf r (edit_refused n why) ⊎ IsErrOf r no_memory
  unfit_outcome (Ok x) es l source source' sink sink' n why d h unfit = absurd (unfit_not_done es l source source' sink sink' n why d unfit)
  unfit_outcome (Err e) es l source source' sink sink' n why d h unfit = one_of e (edit_refused n why) no_memory (unfit_refused es l source source' sink sink' n why e.code e.place h unfit)
