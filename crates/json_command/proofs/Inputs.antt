-- An input is a text of some tree within the limits, or has one fault.
use Rattle.std.proofs.Common.{◌≡◌, ◌⊎◌, inl, inr, ℕ, ◌≤◌, List, length, refl, sym, subst, ap, ◌∙◌, arith, IsUtf8, false}
use Rattle.std.proofs.lemmas.Bool.{cases_lt}
use Rattle.std.proofs.lemmas.List.{take_all}
use Rattle.std.proofs.lemmas.Str.{utf8_valid_len-IsValidUpTo}
use Rattle.std.specs.Str.{IsValidUpTo}
use Rattle.json_grammar.specs.Tree.{Tree}
use Rattle.json_grammar.specs.Grammar.{is_text}
use Rattle.json_grammar.specs.Rules.{Rules, fits}
use Rattle.json_grammar.proofs.TextUtf8.{text_utf8}
use Rattle.json_io.specs.declared.error.ErrorCode.{ErrorCode}
use Rattle.json_io.specs.declared.error.ErrorCode.TheVariants as code
use Rattle.json_io.specs.declared.error.Place.{Place}
use Rattle.json_io.specs.declared.error.Place.TheVariants.{None as nowhere}
use Rattle.json_io.specs.Positions.{place_at}
use Rattle.json_io.specs.Utf8.{IsUtf8Fault, Utf8Cause}
use Rattle.json_text.specs.Faults.{FaultWithAt}
use Rattle.json_text.proofs.OneFaultAt.{one_fault_with_at, some_fault_with_at, fault_with_is_no_text}
use Rattle.json_io.proofs.Utf8Faults.{some_fault}
use Rattle.json_command.specs.Input.{max_bytes, IsValid, InputFault, too_large, not_utf8, no_text}

abbrev Same : ErrorCode → ErrorCode → Place → Place → Type 0
Same c c' p p' = (c ≡ c') × (p ≡ p')

-- ---- bytes that are no UTF-8

utf8_cause : (b : List ℕ) (c : ErrorCode) (p : Place) → Utf8Cause b c p → (c ≡ code.InvalidUTF8) × ((k : ℕ) × IsValidUpTo b k × (p ≡ place_at b k))
utf8_cause b code.InvalidUTF8 p h = (refl, h)
utf8_cause b c p h = absurd h

pub utf8_no_fault : (b : List ℕ) (k : ℕ) → IsValidUpTo b k → ¬ (IsUtf8 b)
utf8_no_fault b k v u = v.longest (length b) v.short (subst IsUtf8 (sym (take_all (length b) b (omega arith))) u)

one_utf8_at : (b : List ℕ) (c c' : ErrorCode) (p p' : Place) → Utf8Cause b c p → Utf8Cause b c' p' → Same c c' p p'
one_utf8_at b c c' p p' h h' = by (utf8_cause b c p h) (utf8_cause b c' p' h')
  where
    by : (c ≡ code.InvalidUTF8) × ((k : ℕ) × IsValidUpTo b k × (p ≡ place_at b k)) → (c' ≡ code.InvalidUTF8) × ((k : ℕ) × IsValidUpTo b k × (p' ≡ place_at b k)) → Same c c' p p'
    by (e, (k, v, f)) (e', (k', v', f')) = (e ∙ sym e', f ∙ ap (place_at b) (sym (utf8_valid_len-IsValidUpTo b k v) ∙ utf8_valid_len-IsValidUpTo b k' v') ∙ sym f')

module _ (rules : Rules) where
  -- ---- the laws

  pub one_input_fault : (b : List ℕ) (c c' : ErrorCode) (p p' : Place) → InputFault rules b c p → InputFault rules b c' p' → Same c c' p p'
  one_input_fault b c c' p p' (too_large l) (too_large l') = (refl, refl)
  one_input_fault b c c' p p' (too_large l) (not_utf8 s u) = absurd (omega (arith, l, s))
  one_input_fault b c c' p p' (too_large l) (no_text s u f) = absurd (omega (arith, l, s))
  one_input_fault b c c' p p' (not_utf8 s u) (too_large l) = absurd (omega (arith, l, s))
  one_input_fault b c c' p p' (not_utf8 s u) (not_utf8 s' u') = one_utf8_at b c c' p p' u u'
  one_input_fault b c c' p p' (not_utf8 s u) (no_text s' u' f) = let w = (utf8_cause b c p u).1 in absurd (utf8_no_fault b w.0 w.1 u')
  one_input_fault b c c' p p' (no_text s u f) (too_large l) = absurd (omega (arith, l, s))
  one_input_fault b c c' p p' (no_text s u f) (not_utf8 s' u') = let w = (utf8_cause b c' p' u').1 in absurd (utf8_no_fault b w.0 w.1 u)
  one_input_fault b c c' p p' (no_text s u f) (no_text s' u' f') = one_fault_with_at false rules b c c' p p' f f'

  pub valid_no_fault : (b : List ℕ) (c : ErrorCode) (p : Place) → IsValid rules b → ¬ (InputFault rules b c p)
  valid_no_fault b c p v (too_large l) = omega (arith, l, v.input.short)
  valid_no_fault b c p v (not_utf8 s u) = let w = (utf8_cause b c p u).1 in utf8_no_fault b w.0 w.1 (text_utf8 false v.tree b v.input.text)
  valid_no_fault b c p v (no_text s u (k, e, h)) = fault_with_is_no_text false rules b c k h v.tree v.input.text v.input.fit

  pub some_input_fault : (b : List ℕ) → IsValid rules b ⊎ ((c : ErrorCode) × (p : Place) × InputFault rules b c p)
  some_input_fault b = elim (cases_lt max_bytes (length b)) [ inl l ↦ inr (code.TooLarge, nowhere, too_large l) | inr s ↦ by s (some_fault b) ]
    where
      read : length b ≤ max_bytes → IsUtf8 b → ((t : Tree) × is_text false t b × fits t rules) ⊎ ((c : ErrorCode) × (p : Place) × FaultWithAt false rules b c p) → IsValid rules b ⊎ ((c : ErrorCode) × (p : Place) × InputFault rules b c p)
      read s u (inl (t, h, d)) = inl (record { tree = t; input = record { short = s; text = h; fit = d } })
      read s u (inr (c, p, h)) = inr (c, p, no_text s u h)

      by : length b ≤ max_bytes → IsUtf8 b ⊎ ((k : ℕ) × IsUtf8Fault b k) → IsValid rules b ⊎ ((c : ErrorCode) × (p : Place) × InputFault rules b c p)
      by s (inl u) = read s u (some_fault_with_at false rules b u)
      by s (inr w) = inr (code.InvalidUTF8, place_at b w.0, not_utf8 s (w.0, w.1, refl))

  -- ---- what is no fault of an input

  pub no_want : (b : List ℕ) (place : Place) → InputFault rules b code.NoMemory place → ⊥
  no_want b place (not_utf8 s u) = u
  no_want b place (no_text s u f) = f.2

  pub no_io : (b : List ℕ) (place : Place) → InputFault rules b code.Io place → ⊥
  no_io b place (not_utf8 s u) = u
  no_io b place (no_text s u f) = f.2

  pub no_words : (b : List ℕ) (place : Place) → InputFault rules b code.BadWords place → ⊥
  no_words b place (not_utf8 s u) = u
  no_words b place (no_text s u f) = f.2

  pub no_not_found : (b : List ℕ) (place : Place) → InputFault rules b code.NotFound place → ⊥
  no_not_found b place (not_utf8 s u) = u
  no_not_found b place (no_text s u f) = f.2

  pub no_type_unmatched : (b : List ℕ) (place : Place) → InputFault rules b code.TypeUnmatched place → ⊥
  no_type_unmatched b place (not_utf8 s u) = u
  no_type_unmatched b place (no_text s u f) = f.2
