-- What printing to memory comes to.
use Rattle.std.proofs.Common.{◌≡◌, ℕ, ◌+◌, List, [], Some, Option, refl, sym, subst, ap, ◌∙◌, arith}
use Rattle.json_io.specs.declared.error.Error.{Error}
use Rattle.json_io.specs.declared.error.ErrorCode.{ErrorCode}
use Rattle.json_io.specs.declared.error.ErrorCode.TheVariants.{NoMemory, Io}
use Rattle.json_io.specs.declared.error.Place.{Place}
use Rattle.json_io.specs.declared.error.Place.TheVariants.{None as nowhere, Writing}
use Rattle.json_io.specs.Errors.{no_memory}
use Rattle.json_io.specs.Known.{Appends, append_known}
use Rattle.json_io.specs.Outside.{SinkState, Rose}
use Rattle.json_command.specs.Printing.{PrintingFails}

-- no call failed where none can
pub no_rise : ¬ (Rose 0 0)
no_rise h = omega (arith, h)

same_some : {A : Type 0} {x y : A} → Some x ≡ Some y → x ≡ y
same_some e = cc

-- what an empty sink gained is the text
pub text_gained : (old new : Option (List ℕ)) (text out : List ℕ) → Appends old new text → old ≡ Some [] → new ≡ Some out → out ≡ text
text_gained old new text out gains empty gained =
    let appended : new ≡ Some text = gains ∙ ap (λ g. append_known g text) empty in same_some (sym gained ∙ appended)

abbrev error : ErrorCode → Place → Error
error code place = record { code = code; place = place }

-- where no write fails, only memory runs out
pub only_memory : (old new : SinkState) (text : List ℕ) (code : ErrorCode) (place : Place) → PrintingFails old new text code place → ¬ (Rose old.faults new.faults) → error code place ≡ no_memory
only_memory old new text NoMemory nowhere h writes = refl
only_memory old new text Io Writing h writes = absurd (writes h.0)
only_memory old new text code place h writes = absurd h
