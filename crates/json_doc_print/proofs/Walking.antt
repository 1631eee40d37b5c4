-- How a walk over a tree ends.
use Rattle.std.proofs.Common.{◌≡◌, List, [], ◌∷◌, Option, Some, None, Ok, Err, Result, true, false, refl, sym, ap, subst, ◌∙◌}
use Rattle.std.specs.Prelude.{is_ok}
use Rattle.json_grammar.specs.Tree.{Tree}
use Rattle.json_io.specs.declared.error.Error.{Error}
use Rattle.json_print.specs.Given.{TokenOrInteger}
use Rattle.json_print.specs.Taking.{Takes}
use Rattle.json_doc_print.specs.Emitting.{Emits, Walks, tree_given}
use Rattle.json_doc_print.specs.declared.walk.EventsFailed.{EventsFailed}
use Rattle.json_doc_print.proofs.TokensGiven.{emits_one}

-- ---- one call of the events

ok_err : {A : Type 0} → true ≡ false → A
ok_err e = absurd (cc)

err_ok : {A : Type 0} → false ≡ true → A
err_ok e = absurd (cc)

pub took : {S T : Type 0} {next : S → T → S} {left : S → T → S → Error → Type 0} {old new : S} {err err' : Option Error} {t : T} (r : Result (Unit {0}) Error)
    → Takes next left old new err err' t r → true ≡ is_ok r → Takes next left old new err err' t (Ok tt)
took (Ok u) h e = h
took (Err x) h e = ok_err e

pub not_taken : {S T : Type 0} {next : S → T → S} {left : S → T → S → Error → Type 0} {old new : S} {err err' : Option Error} {t : T} (r : Result (Unit {0}) Error)
    → Takes next left old new err err' t r → false ≡ is_ok r → (e : Error) × Takes next left old new err err' t (Err e)
not_taken (Ok u) h e = err_ok e
not_taken (Err x) h e = (x, h)

-- ---- a walk

-- it tells of an answer whether it is Ok
pub reported : {S : Type 0} {after : S → TokenOrInteger → S} {stopped : S → TokenOrInteger → S → Error → Type 0} {old new : S} {err err' : Option Error} {gs : List TokenOrInteger} (w : Result (Unit {0}) EventsFailed) (r : Result (Unit {0}) Error)
    → is_ok w ≡ is_ok r → Emits after stopped old new err err' gs r → Walks after stopped old new err err' gs w
reported (Ok u) (Ok v) e h = h
reported (Ok u) (Err x) e h = ok_err e
reported (Err s) (Ok v) e h = err_ok e
reported (Err s) (Err x) e h = (x, h)

pub walks_one : {S : Type 0} {after : S → TokenOrInteger → S} {stopped : S → TokenOrInteger → S → Error → Type 0} {old new : S} {err err' : Option Error} {x : TokenOrInteger} {ts : List TokenOrInteger} (w : Result (Unit {0}) EventsFailed) (r : Result (Unit {0}) Error)
    → ts ≡ x ∷ [] → is_ok w ≡ is_ok r → Takes after stopped old new err err' x r → Walks after stopped old new err err' ts w
walks_one w r e is h = reported w r is (emits_one _ _ _ _ _ _ _ _ _ e h)

-- it stopped
pub halts : {S : Type 0} {after : S → TokenOrInteger → S} {stopped : S → TokenOrInteger → S → Error → Type 0} {old new : S} {err err' : Option Error} {gs : List TokenOrInteger} (w : Result (Unit {0}) EventsFailed) {s : EventsFailed} (e : Error)
    → (y : EventsFailed) × (w ≡ Err y) × (y ≡ s) → Emits after stopped old new err err' gs (Err e) → Walks after stopped old new err err' gs w
halts {S} {after} {stopped} {old} {new} {err} {err'} {gs} w e p h = subst (λ z. Walks after stopped old new err err' gs z) (sym p.1) (e, h)

-- of equal trees it gives the same
pub walks_same : {S : Type 0} (after : S → TokenOrInteger → S) (stopped : S → TokenOrInteger → S → Error → Type 0) (old new : S) (err err' : Option Error) (t u : Tree) (w : Result (Unit {0}) EventsFailed)
    → t ≡ u → Walks after stopped old new err err' (tree_given t) w → Walks after stopped old new err err' (tree_given u) w
walks_same after stopped old new err err' t u w e h = subst (λ x. Walks after stopped old new err err' (tree_given x) w) e h

-- the events keep the error, and answer it to any call
again : {S : Type 0} {after : S → TokenOrInteger → S} {left : S → TokenOrInteger → S → Error → Type 0} (new last : S) (err err' : Option Error) (g : TokenOrInteger) (r : Result (Unit {0}) Error) (e : Error)
    → err ≡ Some e → Takes after left new last err err' g r → (r ≡ Err e) × (last ≡ new) × (err' ≡ Some e)
again {S} {after} {left} new last err err' g r e k h =
    let h' = subst (λ x. Takes after left new last x err' g r) k h in
    (h'.again.0, h'.again.1, (subst (λ z. Takes after left new last (Some e) err' g z) h'.again.0 h').failed)

pub answered : {S : Type 0} {after : S → TokenOrInteger → S} {stopped left : S → TokenOrInteger → S → Error → Type 0} {old : S} (new last : S) {err : Option Error} (err' err'' : Option Error) {gs : List TokenOrInteger} (g : TokenOrInteger) (r : Result (Unit {0}) Error) (e : Error)
    → Emits after stopped old new err err' gs (Err e) → Takes after left new last err' err'' g r → Emits after stopped old last err err'' gs r
answered {S} {after} {stopped} {left} {old} new last {err} err' err'' {gs} g r e h t =
    let a = again new last err' err'' g r e h.failed t in
    subst (λ z. Emits after stopped old z err err'' gs r) (sym a.1) (subst (λ z. Emits after stopped old new err z gs r) (h.failed ∙ sym a.2) (subst (λ z. Emits after stopped old new err err' gs z) (sym a.0) h))
