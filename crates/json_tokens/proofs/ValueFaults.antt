-- A refusal of a parser that had not read a whole value.
use Rattle.std.proofs.Common.{◌≡◌, ℕ, List, Bool, false, refl}
use Rattle.json_io.specs.declared.error.ErrorCode.{ErrorCode}
use Rattle.json_io.specs.declared.error.ErrorCode.TheVariants as code
use Rattle.json_io.specs.declared.error.Error.{Error}
use Rattle.json_text.specs.Faults.{IsFault, IsInValue}
use Rattle.json_text.specs.Parsing.{ParserState, input, IsDue}
use Rattle.json_text.proofs.ValueFaults.{value_fault_of}
use Rattle.json_tokens.specs.Refusals.{is_refusal}
use Rattle.json_tokens.specs.Text.{HasFault}

module _ (lossy : Bool) (limit : ℕ) (b : List ℕ) where
  pub no_refusal_of : (c : ErrorCode) (k : ℕ) → IsFault lossy limit b c k → is_refusal c ≡ false
  no_refusal_of code.TypeUnmatched k h = absurd h
  no_refusal_of code.NumberOutOfRange k h = absurd h
  no_refusal_of code.ExpectedNumericKey k h = absurd h
  no_refusal_of c k h = refl

pub has_fault : (p : ParserState) (e : Error) → IsDue p e → IsInValue e.code → HasFault p e
has_fault p e d n = record {
  offset = d.offset;
  place = d.place;
  in_text = d.fault;
  in_value = value_fault_of p.lossy p.limit (input p) e.code d.offset d.fault n;
  needs = d.needs;
  no_refusal = no_refusal_of p.lossy p.limit (input p) e.code d.offset d.fault;
}
