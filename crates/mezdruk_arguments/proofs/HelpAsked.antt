-- The help that two arguments ask for.
use Rattle.std.proofs.Common.{◌≡◌, ◌⊎◌, inl, inr, ℕ, List, [], ◌∷◌, length, true, ◌||◌, Some, None, cond, bytes_eq, codes, refl, sym, ap, ◌∙◌, arith}
use Rattle.std.specs.Prelude.{slice_get}
use Rattle.std.proofs.lemmas.Option.{same_Some}
use Rattle.mezdruk_arguments.specs.Arguments.{verb_in}
use Rattle.mezdruk_arguments.specs.Help.{help_asked}

is_help : (h : List ℕ) → (h ≡ codes "--help") ⊎ (h ≡ codes "-h") → (bytes_eq h (codes "--help") || bytes_eq h (codes "-h")) ≡ true
is_help h (inl e) = rw e refl
is_help h (inr e) = rw e refl

pub asked_of_two : (ws : List (List ℕ)) (command help : List ℕ) → length ws ≡ 2 → slice_get ws 0 ≡ Some command → slice_get ws 1 ≡ Some help → (help ≡ codes "--help") ⊎ (help ≡ codes "-h") → verb_in command ≡ help_asked ws
asked_of_two [] c h n e f t = absurd (omega (arith, n))
asked_of_two (x ∷ []) c h n e f t = absurd (omega (arith, n))
asked_of_two (x ∷ y ∷ []) c h n e f t =
    ap verb_in (sym (same_Some x c e)) ∙ sym (ap (λ b. cond b (verb_in x) None) (ap (λ z. bytes_eq z (codes "--help") || bytes_eq z (codes "-h")) (same_Some y h f) ∙ is_help h t))
asked_of_two (x ∷ y ∷ z ∷ ws) c h n e f t = absurd (omega (arith, n))
