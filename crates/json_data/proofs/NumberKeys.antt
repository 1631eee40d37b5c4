-- Keys that are integers.
use Rattle.std.proofs.Common.{◌≡◌, ◌∙◌, ◌⊎◌, inl, inr, ℕ, ℤ, List, Bool, true, false, refl, sym, subst}
use Rattle.json_number.specs.Integers.{whole_in}
use Rattle.json_number.specs.Tests.{is_number_text}
use Rattle.json_io.specs.declared.error.Error.{Error}
use Rattle.json_io.specs.declared.error.ErrorCode.TheVariants.{ExpectedNumericKey}
use Rattle.json_io.specs.Errors.{no_memory}
use Rattle.json_data.specs.Keys.{integer_key}
use Rattle.json_data.specs.Reader.{KeyReadingFails}
use Rattle.json_data.specs.Reading.{Reading, refuses, in_range}
use Rattle.json_tokens.specs.Refusals.{error_without_place, is_refusal}

pub key_in : (fits : ℤ → Bool) (r : Reading) (s : List ℕ) → is_number_text s ≡ true → in_range fits (whole_in s) ≡ r → integer_key fits s ≡ r
key_in fits r s e h = rw e h

no_key : (fits : ℤ → Bool) (s : List ℕ) → is_number_text s ≡ false → integer_key fits s ≡ refuses ExpectedNumericKey
no_key fits s e = rw e

-- memory ran out, or the key is no number
pub key_absent : (says : List ℕ → Type 0) (fits : ℤ → Bool) (e : Error) → (e ≡ no_memory) ⊎ ((e ≡ error_without_place ExpectedNumericKey) × ((s : List ℕ) → says s → is_number_text s ≡ false)) → KeyReadingFails says (integer_key fits) e
key_absent says fits e (inl h) = subst (λ (x : Error). KeyReadingFails says (integer_key fits) x) (sym h) (record { refused = λ p. absurd (cc); gave_up = λ p. refl })
key_absent says fits e (inr h) = subst (λ (x : Error). KeyReadingFails says (integer_key fits) x) (sym h.0) (record { refused = λ p. (refl, λ s k. no_key fits s (h.1 s k)); gave_up = λ p. absurd (cc) })

-- it is a number, and no integer of the type
pub key_out : (says : List ℕ → Type 0) (fits : ℤ → Bool) (e : Error) → (e ≡ error_without_place e.code) × (is_refusal e.code ≡ true) → ((s : List ℕ) → says s → (is_number_text s ≡ true) × (in_range fits (whole_in s) ≡ refuses e.code)) → KeyReadingFails says (integer_key fits) e
key_out says fits e r h = record {
  refused = λ p. (r.0, λ s k. key_in fits (refuses e.code) s (h s k).0 (h s k).1);
  gave_up = λ p. let x : true ≡ false = sym r.1 ∙ p in absurd (cc);
}
