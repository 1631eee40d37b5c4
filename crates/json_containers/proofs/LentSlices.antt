-- A slice that a result lends: the result is made, and what lends it follows.
--     ok_made, err_made     a result is made of what is in it
--     so_part               a part of what was lent is lent on
use Rattle.json_value.proofs.HandProofs.{[], ◌∷◌, refl, Ok, Err, Val, live, ‵, ◌$◌, ◌∵◌, !, qed, done, move, use1, use2, fjoin, feq_i, fpick, nothing}
use mathlib.Core.List.{List}
use mathlib.Core.Option as maybe
use Prim.Native.Nat.{ℕ}
use mir.Val.{vcons, vnil, of_list}
use seplogic.Ra.Ura.{Ura}
use base.Logic.{ent, sep}
use base.Fml.{Fml, GName, fsep, fex, feq}
use types.Logic.{Logic, sem}
use types.Kit.{fpack, by}
use denote.RattleType.{RattleType, Valss, owns}
use denote.Enum.Enum.{in_a_row}
use denote.Follow.{follows, follows_so, follows_if, follows_then}
use Rattle.std.specs.contracts.result.Result as result
use Rattle.json_value.proofs.LenderRelations.{Such, so_out, so_in, if_some, some_if}

-- variant k with the one field u
abbrev pub made : ℕ → Val → Val
made k u = live k (vcons u vnil)

module _ (T E : RattleType) where
  abbrev R : RattleType
  R = result.the_row T E

  abbrev tagged : (F : RattleType) → ℕ → F.Denot → List Val → List Val → Fml
  tagged F k y vs us = fsep (feq (List Val) vs (live k (of_list us) ∷ [])) (fex (Valss (F ∷ [])) (in_a_row (F ∷ []) (owns (F ∷ []) (y, tt)) us))

  module _ {M : Type 1} {𝓤 : Ura M} (𝓛 : Logic 𝓤) where
    pub ok_made : (x : T.Denot) (u : Val) → ent 𝓤 (sem 𝓛 (T.own_val x (u ∷ []))) (sem 𝓛 (R.own_val (Ok x) (made 0 u ∷ [])))
    ok_made x u =
        qed 𝓛 (‵ (T.own_val x (u ∷ [])) ∷ []) ∵ nothing ! $ move ! (1 ∷ 0 ∷ []) $ fjoin ! $ feq_i ! (List Val) (u ∷ []) (u ∷ []) refl $ fjoin ! $
        fpack ! (Valss (T ∷ [])) (in_a_row (T ∷ []) (owns (T ∷ []) (x, tt)) (u ∷ [])) (u ∷ [], tt) $
        feq_i ! (List Val) (made 0 u ∷ []) (made 0 u ∷ []) refl $ fjoin ! $ fpack ! (List Val) (tagged T 0 x (made 0 u ∷ [])) (u ∷ []) $ done !

    pub err_made : (x : E.Denot) (u : Val) → ent 𝓤 (sem 𝓛 (E.own_val x (u ∷ []))) (sem 𝓛 (R.own_val (Err x) (made 1 u ∷ [])))
    err_made x u =
        qed 𝓛 (‵ (E.own_val x (u ∷ [])) ∷ []) ∵ nothing ! $ move ! (1 ∷ 0 ∷ []) $ fjoin ! $ feq_i ! (List Val) (u ∷ []) (u ∷ []) refl $ fjoin ! $
        fpack ! (Valss (E ∷ [])) (in_a_row (E ∷ []) (owns (E ∷ []) (x, tt)) (u ∷ [])) (u ∷ [], tt) $
        feq_i ! (List Val) (made 1 u ∷ []) (made 1 u ∷ []) refl $ fjoin ! $ fpack ! (List Val) (tagged E 1 x (made 1 u ∷ [])) (u ∷ []) $ done !

module _ {M : Type 1} {𝓤 : Ura M} (𝓛 : Logic 𝓤) (R T U : RattleType) (γ γ' γ'' : GName) where
  abbrev At : (X : RattleType) (m : maybe.Option GName) (P : X.Denot → R.Denot → Type 0) (P₀ : R.Denot → Type 0) → Such R.Denot X.Denot P P₀ → Fml
  At X m P P₀ s = follows_if R X γ m s.0.0 s.0.1

  -- what was lent lends a part of it on
  pub so_part : (P : T.Denot → R.Denot → Type 0) (P₀ : R.Denot → Type 0) (G : U.Denot → T.Denot) (Z : U.Denot → R.Denot → Type 0) (Z₀ : R.Denot → Type 0)
      → ((w : U.Denot) (n : R.Denot) → P (G w) n → Z w n) → ((n : R.Denot) → P₀ n → Z₀ n)
      → ent 𝓤 (sep 𝓤 (sem 𝓛 (follows_so R T γ (maybe.some γ') P P₀)) (sem 𝓛 (follows T U γ' γ'' G))) (sem 𝓛 (follows_so R U γ (maybe.some γ'') Z Z₀))
  so_part P P₀ G Z Z₀ h h₀ =
      qed 𝓛 (‵ (follows_so R T γ (maybe.some γ') P P₀) ∷ ‵ (follows T U γ' γ'' G) ∷ []) ∵
      use1 𝓛 (‵ (fex (Such R.Denot T.Denot P P₀) (At T (maybe.some γ') P P₀))) (so_out 𝓛 R T γ (maybe.some γ') P P₀) $ fpick ! (λ s. use1 𝓛 (‵ (follows R T γ γ' s.0.0)) (if_some 𝓛 R T γ γ' s.0.0 s.0.1) $
      let F : U.Denot → R.Denot = λ w. s.0.0 (G w) in
      use2 𝓛 (‵ (follows R U γ γ'' F)) (follows_then 𝓛 R T U s.0.0 G γ γ' γ'') $
      use1 𝓛 (‵ (follows_if R U γ (maybe.some γ'') F s.0.1)) (some_if 𝓛 R U γ γ'' F s.0.1) $
      fpack ! (Such R.Denot U.Denot Z Z₀) (At U (maybe.some γ'') Z Z₀) ((F, s.0.1), (λ w. h w (F w) (s.1 (G w))), h₀ s.0.1 s.2) $ by ! (so_in 𝓛 R U γ (maybe.some γ'') Z Z₀))
