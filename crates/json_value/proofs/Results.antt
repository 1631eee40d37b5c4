-- A `Result` that holds a `&mut` or a plain error, taken apart and made. Assumes `Logic`.
--     ok_val, err_val     the machine's value
--     ok_out, err_out     what it owns, and which value it is
--     ok_in, err_in       it is made
use Rattle.json_value.proofs.HandProofs.{◌≡◌, [], ◌∷◌, refl, ap, ◌∙◌, MutBor, Ok, Err, MutRef, mut_vals, mut_Tells, named, Val, vptr, live, ‵, ◌$◌, ◌∵◌, !, qed, done, move, keep, fsplit, fjoin, feq_i, feq_l, fpick, rewrite, peeks, shows, nothing}
use Prim.Native.Nat.{ℕ}
use mathlib.Core.List.{List, ◌++◌}
use mir.Val.{vcons, vnil, of_list}
use seplogic.Ra.Ura.{Ura}
use base.Logic.{ent, guard}
use base.Fml.{Lft, Fml, fsep, fex, feq}
use types.Logic.{Logic, sem}
use types.Kit.{fpack, check}
use denote.RattleType.{RattleType, Valss, owns}
use denote.Enum.Enum.{in_a_row}
use denote.Param.Laws.{Told}
use Rattle.std.specs.contracts.result.Result as result

module _ (κ : Lft) (V E : RattleType) (told : Told E) where
  abbrev pub T : RattleType
  T = MutRef (named 0) κ V

  abbrev pub R : RattleType
  R = result.the_row T E

  abbrev pub ok_val : MutBor V.Denot → Val
  ok_val x = live 0 (vcons (vptr x.ref_ptr.0 x.ref_ptr.1) vnil)

  abbrev pub err_val : E.Denot → Val
  err_val e = live 1 (vcons (told.val e) vnil)

  -- what variant k with one field F owns
  abbrev tagged : (F : RattleType) → ℕ → F.Denot → List Val → List Val → Fml
  tagged F k y vs us = fsep (feq (List Val) vs (live k (of_list us) ∷ [])) (fex (Valss (F ∷ [])) (in_a_row (F ∷ []) (owns (F ∷ []) (y, tt)) us))

  module _ {M : Type 1} {𝓤 : Ura M} (𝓛 : Logic 𝓤) where
    pub ok_out : (x : MutBor V.Denot) (vs : List Val) → ent 𝓤 (sem 𝓛 (R.own_val (Ok x) vs)) (guard 𝓤 (vs ≡ ok_val x ∷ []) (sem 𝓛 (T.own_val x (mut_vals x))))
    ok_out x vs =
        qed 𝓛 (‵ (fex (List Val) (tagged T 0 x vs)) ∷ []) ∵ fpick ! (λ us. fsplit ! $ feq_l ! (λ e. fpick ! (λ vss. fsplit ! $ feq_l ! (λ f. fsplit ! $
        peeks ! T _ (shows 𝓛 T) x vss.0 (λ is. let tells : vss.0 ≡ mut_vals x = mut_Tells (named 0) κ V x vss.0 is in
        rewrite ! 0 (λ (ws : List Val). ‵ (T.own_val x ws)) tells refl $ keep ! (0 ∷ []) $
        check ! (e ∙ ap (λ (ws : List Val). live 0 (of_list ws) ∷ []) (f ∙ ap (λ (ws : List Val). ws ++ []) tells)) $ done !)))))

    pub err_out : (x : E.Denot) (vs : List Val) → ent 𝓤 (sem 𝓛 (R.own_val (Err x) vs)) (guard 𝓤 (vs ≡ err_val x ∷ []) (sem 𝓛 (E.own_val x (told.val x ∷ []))))
    err_out x vs =
        qed 𝓛 (‵ (fex (List Val) (tagged E 1 x vs)) ∷ []) ∵ fpick ! (λ us. fsplit ! $ feq_l ! (λ e. fpick ! (λ vss. fsplit ! $ feq_l ! (λ f. fsplit ! $
        peeks ! E _ (shows 𝓛 E) x vss.0 (λ is. let tells : vss.0 ≡ told.val x ∷ [] = told.tells x vss.0 is in
        rewrite ! 0 (λ (ws : List Val). ‵ (E.own_val x ws)) tells refl $ keep ! (0 ∷ []) $
        check ! (e ∙ ap (λ (ws : List Val). live 1 (of_list ws) ∷ []) (f ∙ ap (λ (ws : List Val). ws ++ []) tells)) $ done !)))))

    pub ok_in : (x : MutBor V.Denot) → ent 𝓤 (sem 𝓛 (T.own_val x (mut_vals x))) (sem 𝓛 (R.own_val (Ok x) (ok_val x ∷ [])))
    ok_in x =
        qed 𝓛 (‵ (T.own_val x (mut_vals x)) ∷ []) ∵ nothing ! $ move ! (1 ∷ 0 ∷ []) $ fjoin ! $ feq_i ! (List Val) (mut_vals x) (mut_vals x) refl $ fjoin ! $
        fpack ! (Valss (T ∷ [])) (in_a_row (T ∷ []) (owns (T ∷ []) (x, tt)) (mut_vals x)) (mut_vals x, tt) $
        feq_i ! (List Val) (ok_val x ∷ []) (ok_val x ∷ []) refl $ fjoin ! $ fpack ! (List Val) (tagged T 0 x (ok_val x ∷ [])) (mut_vals x) $ done !

    pub err_in : (x : E.Denot) → ent 𝓤 (sem 𝓛 (E.own_val x (told.val x ∷ []))) (sem 𝓛 (R.own_val (Err x) (err_val x ∷ [])))
    err_in x =
        qed 𝓛 (‵ (E.own_val x (told.val x ∷ [])) ∷ []) ∵ nothing ! $ move ! (1 ∷ 0 ∷ []) $ fjoin ! $ feq_i ! (List Val) (told.val x ∷ []) (told.val x ∷ []) refl $ fjoin ! $
        fpack ! (Valss (E ∷ [])) (in_a_row (E ∷ []) (owns (E ∷ []) (x, tt)) (told.val x ∷ [])) (told.val x ∷ [], tt) $
        feq_i ! (List Val) (err_val x ∷ []) (err_val x ∷ []) refl $ fjoin ! $ fpack ! (List Val) (tagged E 1 x (err_val x ∷ [])) (told.val x ∷ []) $ done !
