-- Two steps that may fail, taken apart.
use Rattle.std.proofs.Common.{◌≡◌, Ok, Err, refl}
use Rattle.json_model.specs.Edit.{Changed, EditRefusal, within, and_then}

pub ok_injective : {A : Type 0} (x y : A) → ◌≡◌ {A = Changed A} (Ok x) (Ok y) → x ≡ y
ok_injective x y e = cc

pub err_not_ok : {A : Type 0} (x : A) (r : EditRefusal) → ◌≡◌ {A = Changed A} (Err r) (Ok x) → ⊥
err_not_ok x r e = cc

-- the parts of a result that is Ok
pub and_then_ok : {A B : Type 0} (r : Changed A) (f : A → Changed B) (y : B) → and_then r f ≡ Ok y → (x : A) × (r ≡ Ok x) × (f x ≡ Ok y)
and_then_ok (Ok x) f y e = (x, refl, e)
and_then_ok (Err e) f y h = absurd (err_not_ok y e h)

pub within_ok_parts : {A B : Type 0} (r : Changed A) (f : A → B) (y : B) → within f r ≡ Ok y → (x : A) × (r ≡ Ok x) × (f x ≡ y)
within_ok_parts (Ok x) f y e = (x, refl, ok_injective (f x) y e)
within_ok_parts (Err e) f y h = absurd (err_not_ok y e h)

pub within_identity : {A : Type 0} (r : Changed A) → within (λ n. n) r ≡ r
within_identity (Ok x) = refl
within_identity (Err e) = refl

pub within_within : {A B C : Type 0} (g : B → C) (h : A → B) (r : Changed A) → within g (within h r) ≡ within (λ n. g (h n)) r
within_within g h (Ok x) = refl
within_within g h (Err e) = refl

-- `within` goes into the second step
pub within_and_then : {A B C D : Type 0} (g : C → D) (h : B → C) (f : A → Changed B) (r : Changed A) → within g (and_then r (λ c. within h (f c))) ≡ and_then r (λ c. within (λ n. g (h n)) (f c))
within_and_then g h f (Ok x) = within_within g h (f x)
within_and_then g h f (Err e) = refl
