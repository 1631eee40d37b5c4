-- Names that a result lends.
use Rattle.std.proofs.Common.{◌≡◌, Ok, Err, Result, MutBor, true, false, refl, subst, sym}
use Rattle.std.specs.Prelude.{IsOk, OnErr, IfOk}
use lib.Dec.{T}
use Rattle.json_value.specs.Lending.{name_of_ok, IsReferenceLent, UnlessLent}

pub place_ok : {X E : Type 0} (r : Result (MutBor X) E) → IsReferenceLent (name_of_ok r) → IsOk r
place_ok (Ok x) p = refl
place_ok (Err e) p = absurd p

pub on_no_place : {X E : Type 0} (r : Result (MutBor X) E) (A : Type 0) → OnErr r A → UnlessLent (name_of_ok r) A
on_no_place (Ok x) A p = tt
on_no_place (Err e) A p = p

pub no_place : {X E : Type 0} (r : Result (MutBor X) E) {A B : Type 0} → (A → B) → UnlessLent (name_of_ok r) A → UnlessLent (name_of_ok r) B
no_place (Ok x) h p = tt
no_place (Err e) h p = h p

pub each_ok : {A B : Type 0} (r : Result A B) {P Q : A → Type 0} → ((x : A) → P x → Q x) → IfOk r P → IfOk r Q
each_ok (Ok x) h p = h x p
each_ok (Err e) h p = tt

-- a refusal holds no value
pub never_ok : {C : Type 0} → false ≡ true → C
never_ok p = absurd (subst T (sym p) tt)

-- what each value that a result holds tells, a result tells that holds one
pub on_ok : {A B C : Type 0} (r : Result A B) {P : A → Type 0} → IsOk r → ((x : A) → P x → C) → IfOk r P → C
on_ok (Ok x) ok h p = h x p
on_ok (Err e) ok h p = never_ok ok

pub ok_place : {X E : Type 0} (r : Result (MutBor X) E) → IsOk r → IsReferenceLent (name_of_ok r)
ok_place (Ok x) p = tt
ok_place (Err e) p = never_ok p

pub no_place_on : {X E : Type 0} (r : Result (MutBor X) E) (A : Type 0) → UnlessLent (name_of_ok r) A → OnErr r A
no_place_on (Ok x) A p = tt
no_place_on (Err e) A p = p
