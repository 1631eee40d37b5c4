-- What the known bytes of a source lead to.
use Rattle.std.proofs.Common.{◌≡◌, ◌⊎◌, inl, inr, ℕ, ◌<◌, List, length, Some, None, Option, IfSome, Err, Result, refl, subst, ap, false}
use Rattle.json_grammar.specs.Tree.{Tree}
use Rattle.json_grammar.specs.Rules.{Rules}
use Rattle.json_grammar.proofs.Values.{one_tree}
use Rattle.json_io.specs.declared.error.Error.{Error}
use Rattle.json_io.specs.declared.error.ErrorCode.{ErrorCode}
use Rattle.json_io.specs.declared.error.ErrorCode.TheVariants.{TooLarge}
use Rattle.json_io.specs.declared.error.Place.{Place}
use Rattle.json_io.specs.declared.error.Place.TheVariants.{None as nowhere}
use Rattle.json_io.specs.Known.{Drains}
use Rattle.json_io.specs.Outside.{SourceState}
use Rattle.json_io.specs.Transfer.{ReadsWithin}
use Rattle.json_command.specs.Input.{max_bytes, IsInput, InputFault, too_large}
use Rattle.json_command.specs.Reading.{ReadsInput, ReadsFault, KnownFault}
use Rattle.json_command.proofs.Inputs.{one_input_fault, valid_no_fault}

-- ---- all that was read is what was known

drained_is : (left left' : Option (List ℕ)) (bytes b : List ℕ) → Drains left left' bytes → left ≡ Some b → bytes ≡ b
drained_is None left' bytes b d e = absurd (none_some e)
  where
    none_some : {x : List ℕ} → None ≡ Some x → ⊥
    none_some e = cc
drained_is (Some x) left' bytes b d e = let f : Some x ≡ Some bytes = d.0 in let g : Some x ≡ Some b = e in cc

pub bytes_are : (source source' : SourceState) (bytes b : List ℕ) → ReadsWithin max_bytes source source' bytes → source.left ≡ Some b → bytes ≡ b
bytes_are source source' bytes b r e = drained_is source.left source'.left bytes b r.all e

at_known : (left : Option (List ℕ)) (b : List ℕ) (P : List ℕ → Type 0) → left ≡ Some b → IfSome left P → P b
at_known None b P e h = absurd (none_some e)
  where
    none_some : {x : List ℕ} → None ≡ Some x → ⊥
    none_some e = cc
at_known (Some x) b P e h = let f : x ≡ b = cc in subst P f h

abbrev error : ErrorCode → Place → Error
error code place = record { code = code; place = place }

-- one of two errors
pub one_of : {A : Type 0} (e x y : Error) → (e ≡ x) ⊎ (e ≡ y) → (◌≡◌ {A = Result A Error} (Err e) (Err x)) ⊎ (◌≡◌ {A = Result A Error} (Err e) (Err y))
one_of e x y (inl h) = inl (ap Err h)
one_of e x y (inr h) = inr (ap Err h)

module _ (rules : Rules) where
  -- ---- what was read is part of the known bytes

  pub fault_known : (source source' : SourceState) (b : List ℕ) (code : ErrorCode) (place : Place) → ReadsFault rules source source' code place → source.left ≡ Some b → InputFault rules b code place
  fault_known source source' b code place h known = subst (λ b. InputFault rules b code place) (bytes_are source source' h.bytes b h.all known) h.fault

  pub input_known : (source source' : SourceState) (b : List ℕ) (tree : Tree) → ReadsInput rules source source' tree → source.left ≡ Some b → IsInput rules b tree
  input_known source source' b tree r known = subst (λ b. IsInput rules b tree) (bytes_are source source' r.bytes b r.all known) r.input

  pub large_known : (source : SourceState) (b : List ℕ) → IfSome source.left (λ b. max_bytes < length b) → source.left ≡ Some b → InputFault rules b TooLarge nowhere
  large_known source b h known = too_large (at_known source.left b (λ b. max_bytes < length b) known h)

  -- ---- a text has no fault, and an input has one fault

  pub no_fault : (b : List ℕ) (tree : Tree) (code : ErrorCode) (place : Place) → IsInput rules b tree → InputFault rules b code place → ⊥
  no_fault b tree code place input fault = valid_no_fault rules b code place (record { tree = tree; input = input }) fault

  pub same_fault : (b : List ℕ) (code code' : ErrorCode) (place place' : Place) → InputFault rules b code place → InputFault rules b code' place' → error code' place' ≡ error code place
  same_fault b code code' place place' f f' = by (one_input_fault rules b code code' place place' f f')
    where
      by : (code ≡ code') × (place ≡ place') → error code' place' ≡ error code place
      by (e, f) = rw (e, f) refl

  -- what is made of the tree that was read is what is made of the tree of the known bytes
  pub same_made : {A : Type 0} (f : Tree → A) (source source' : SourceState) (tree other : Tree) (b : List ℕ) → ReadsInput rules source source' tree → source.left ≡ Some b → IsInput rules b other → f tree ≡ f other
  same_made f source source' tree other b r known input = ap f (one_tree false tree other b (input_known source source' b tree r known).text input.text)

  -- bytes with a fault are not read as a text
  pub fault_not_read : (source source' : SourceState) (tree : Tree) (code : ErrorCode) (place : Place) → ReadsInput rules source source' tree → KnownFault rules source source' code place → ⊥
  fault_not_read source source' tree code place r bad = no_fault bad.bytes tree code place (input_known source source' bad.bytes tree r bad.known) bad.fault
