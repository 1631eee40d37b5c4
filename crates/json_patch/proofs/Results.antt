-- Changes one after another, taken apart.
use Rattle.std.proofs.Common.{◌≡◌, Ok, Err, refl}
use Rattle.json_model.specs.Edit.{Changed, EditRefusal, within, and_then}

pub same_ok : {A : Type 0} (x y : A) → ◌≡◌ {A = Changed A} (Ok x) (Ok y) → x ≡ y
same_ok x y e = cc

pub no_ok : {A : Type 0} (x : A) (r : EditRefusal) → ◌≡◌ {A = Changed A} (Err r) (Ok x) → ⊥
no_ok x r e = cc

-- what a change was made of
pub then_parts : {A B : Type 0} (r : Changed A) (f : A → Changed B) (y : B) → and_then r f ≡ Ok y → (x : A) × (r ≡ Ok x) × (f x ≡ Ok y)
then_parts (Ok x) f y e = (x, refl, e)
then_parts (Err e) f y h = absurd (no_ok y e h)

pub within_parts : {A B : Type 0} (r : Changed A) (f : A → B) (y : B) → within f r ≡ Ok y → (x : A) × (r ≡ Ok x) × (f x ≡ y)
within_parts (Ok x) f y e = (x, refl, same_ok (f x) y e)
within_parts (Err e) f y h = absurd (no_ok y e h)

pub within_same : {A : Type 0} (r : Changed A) → within (λ n. n) r ≡ r
within_same (Ok x) = refl
within_same (Err e) = refl

pub within_within : {A B C : Type 0} (g : B → C) (h : A → B) (r : Changed A) → within g (within h r) ≡ within (λ n. g (h n)) r
within_within g h (Ok x) = refl
within_within g h (Err e) = refl

-- the outer part of a change within the inner
pub within_then : {A B C D : Type 0} (g : C → D) (h : B → C) (f : A → Changed B) (r : Changed A) → within g (and_then r (λ c. within h (f c))) ≡ and_then r (λ c. within (λ n. g (h n)) (f c))
within_then g h f (Ok x) = within_within g h (f x)
within_then g h f (Err e) = refl

pub then_assoc : {A B C : Type 0} (r : Changed A) (f : A → Changed B) (g : B → Changed C) → and_then (and_then r f) g ≡ and_then r (λ x. and_then (f x) g)
then_assoc (Ok x) f g = refl
then_assoc (Err e) f g = refl
