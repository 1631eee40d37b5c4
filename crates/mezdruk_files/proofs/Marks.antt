-- Three spaces in place of a byte order mark.
use Rattle.std.proofs.Common.{◌≡◌, ℕ, ◌≤◌, ◌<◌, true, false, List, [], ◌∷◌, length, drop, refl, sym, subst, ◌∙◌, arith}
use Rattle.std.specs.Prelude.{set}
use Rattle.std.proofs.lemmas.Bool.{cond-true, cond-false, false≢true}
use Rattle.mezdruk_files.specs.Marks.{begins_with_mark, without_mark}

pub mark_long : (b : List ℕ) → begins_with_mark b ≡ true → 3 ≤ length b
mark_long [] h = absurd (false≢true h)
mark_long (x ∷ []) h = absurd (false≢true h)
mark_long (x ∷ y ∷ []) h = absurd (false≢true h)
mark_long (x ∷ y ∷ z ∷ rest) h = omega arith

spaces_set : (b : List ℕ) → 3 ≤ length b → set (set (set b 0 32) 1 32) 2 32 ≡ 32 ∷ 32 ∷ 32 ∷ drop 3 b
spaces_set [] l = absurd (omega (arith, l))
spaces_set (x ∷ []) l = absurd (omega (arith, l))
spaces_set (x ∷ y ∷ []) l = absurd (omega (arith, l))
spaces_set (x ∷ y ∷ z ∷ rest) l = refl

pub mark_skipped : (b : List ℕ) → begins_with_mark b ≡ true → set (set (set b 0 32) 1 32) 2 32 ≡ without_mark b
mark_skipped b h = spaces_set b (mark_long b h) ∙ sym (cond-true (begins_with_mark b) (32 ∷ 32 ∷ 32 ∷ drop 3 b) b h)

pub no_mark : (b : List ℕ) → begins_with_mark b ≡ false → b ≡ without_mark b
no_mark b h = sym (cond-false (begins_with_mark b) (32 ∷ 32 ∷ 32 ∷ drop 3 b) b h)
