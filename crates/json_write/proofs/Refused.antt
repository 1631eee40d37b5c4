-- What an Err tells.
use Rattle.std.proofs.Common.{◌≡◌, ◌⊎◌, inl, inr, List, Bool, true, false, Option, Some, None, Ok, Err, Result, IfErr, refl, sym, ap, subst, ◌∙◌, cond}
use Rattle.json_io.specs.declared.error.Error.{Error}
use Rattle.json_io.specs.Errors.{key_has_no_text}
use Rattle.json_print.specs.Data.{before_gap, keys_have_texts}
use Rattle.json_print.specs.Given.{TokenOrInteger}
use Rattle.json_print.specs.Taking.{StopsAmong, after_all}
use Rattle.json_write.specs.Writing.{WritesDatumTokens}
use Rattle.json_write.proofs.Parts.{answer_gap}

pub if_err : {T : Type 0} (P : Error → Type 0) (r : Result T Error) (e : Error) → (y : Error) × (r ≡ Err y) × (y ≡ e) → P e → IfErr r P
if_err P r e q h = subst (λ x. IfErr x P) (sym (q.1 ∙ ap Err q.2)) h

-- a key was refused, and all before it was given
pub record Refuses {S : Type 0} (after : S → TokenOrInteger → S) (old new : S) (ps : List (Option TokenOrInteger)) (e : Error) : Type 0 where
  pub is : e ≡ key_has_no_text
  pub gap : keys_have_texts ps ≡ false
  pub state : new ≡ after_all after old (before_gap ps)

-- a key was refused, or the events met an error
pub refused_or : {S : Type 0} {after : S → TokenOrInteger → S} {stopped : S → TokenOrInteger → S → Error → Type 0} {old new : S} {err err' : Option Error} {ps : List (Option TokenOrInteger)} {e : Error}
    → err ≡ None → WritesDatumTokens after stopped old new err err' ps (Err e) → Refuses after old new ps e ⊎ StopsAmong after stopped old new (before_gap ps) e
refused_or {err' = None} {ps = ps} {e = e} n h =
    let gap = answer_gap (keys_have_texts ps) e (h.answer refl) in inl (record { is = refused (keys_have_texts ps) gap (h.answer refl); gap = gap; state = h.given refl })
  where
    refused : (b : Bool) → b ≡ false → ◌≡◌ {A = Result (Unit {0}) Error} (Err e) (cond b (Ok tt) (Err key_has_no_text)) → e ≡ key_has_no_text
    refused true g a = absurd (cc)
    refused false g a = cc
refused_or {after = after} {stopped = stopped} {old = old} {new = new} {err' = Some x} {ps = ps} {e = e} n h =
    let same : x ≡ e = err_same (h.again) in inr (subst (λ y. StopsAmong after stopped old new (before_gap ps) y) same (h.stops n))
  where
    err_same : ◌≡◌ {A = Result (Unit {0}) Error} (Err e) (Err x) → x ≡ e
    err_same p = cc
