-- After a gap a reader has the same tokens.
use Rattle.std.proofs.Common.{Bool, ◌≡◌, ℕ, ◌≤◌, List, [], ◌∷◌, ◌++◌, take, drop, ◌⊎◌, inl, inr, refl, sym, ap, ◌∙◌, subst, arith, append_assoc}
use Rattle.std.proofs.lemmas.List.Folds.{drop_split}
use Rattle.json_grammar.specs.declared.Kind.{Kind}
use Rattle.json_grammar.specs.declared.Kind.TheVariants.{Array as array, Object as object}
use Rattle.json_grammar.specs.Tree.{Token}
use Rattle.json_grammar.specs.Grammar.{IsWhitespace, ws, is_text}
use Rattle.json_grammar.specs.declared.ExpectedPart.{ExpectedPart}
use Rattle.json_grammar.specs.declared.ExpectedPart.TheVariants.{Value as at_value, First as first, Key as key, KeyOrEnd as key_or_end, Colon as colon, Done as done}
use Rattle.json_grammar.specs.Place.{viable_prefix, reading, after_comma, read_comma, read_colon}
use Rattle.json_grammar.specs.Given.{piece, LastEnds, PrefixAt}
use Rattle.json_grammar.specs.Needs.{IsGap}
use Rattle.json_grammar.specs.Allows.{BeginsValue, Closes, Allows}
use Rattle.json_grammar.proofs.Lists.{ws-append}
use Rattle.json_grammar.proofs.Moves.{take_on, reading_space, spaced_on}
use Rattle.json_grammar.proofs.Next.{next_byte}
use Rattle.json_grammar.proofs.InputRests.{ends_space}

-- the two marks begin no value and close nothing
no_value : (x : ℕ) → (x ≡ 44) ⊎ (x ≡ 58) → BeginsValue x → ⊥
no_value x e h = omega arith

no_quote : (x : ℕ) → (x ≡ 44) ⊎ (x ≡ 58) → x ≡ 34 → ⊥
no_quote x e h = omega arith

no_end : (c : List Kind) (x : ℕ) → (x ≡ 44) ⊎ (x ≡ 58) → Closes c x → ⊥
no_end [] x e h = h
no_end (array ∷ c) x e h = omega arith
no_end (object ∷ c) x e h = omega arith

apart : (x : ℕ) → x ≡ 44 → x ≡ 58 → ⊥
apart x e h = omega arith

mark_no_space : (x : ℕ) → (x ≡ 44) ⊎ (x ≡ 58) → IsWhitespace x → ⊥
mark_no_space x e h = omega arith

comma_not_done : (k : Kind) → after_comma k ≡ done → ⊥
comma_not_done array e = cc
comma_not_done object e = cc

value_not_done : at_value ≡ done → ⊥
value_not_done e = cc

-- at some place after a mark
abbrev pub Behind : Bool → List ℕ → List Token → Type 0
Behind lossy p ts = (c : List Kind) × (w : ExpectedPart) × reading lossy p c w ts × (w ≡ done → ⊥)

module _ (lossy : Bool) where
  behind_comma : {p : List ℕ} {ts : List Token} (w : ExpectedPart) (c : List Kind) (v : List ℕ) → reading lossy p c w ts → ws v → Allows w c 44 → Behind lossy (p ++ 44 ∷ v) ts
  behind_comma at_value c v r s h = absurd (no_value 44 (inl refl) h)
  behind_comma first c v r s (inl h) = absurd (no_value 44 (inl refl) h)
  behind_comma first c v r s (inr h) = absurd (no_end c 44 (inl refl) h)
  behind_comma key c v r s h = absurd (no_quote 44 (inl refl) h)
  behind_comma key_or_end c v r s (inl h) = absurd (no_quote 44 (inl refl) h)
  behind_comma key_or_end c v r s (inr h) = absurd (no_end c 44 (inl refl) h)
  behind_comma colon c v r s h = absurd (apart 44 refl h)
  behind_comma done [] v r s (inl h) = absurd h
  behind_comma done (k ∷ c) v r s (inl h) = (k ∷ c, _, read_comma k r (44 ∷ [], v, refl, refl, s), comma_not_done k)
  behind_comma done c v r s (inr h) = absurd (no_end c 44 (inl refl) h)

  behind_colon : {p : List ℕ} {ts : List Token} (w : ExpectedPart) (c : List Kind) (v : List ℕ) → reading lossy p c w ts → ws v → Allows w c 58 → Behind lossy (p ++ 58 ∷ v) ts
  behind_colon at_value c v r s h = absurd (no_value 58 (inr refl) h)
  behind_colon first c v r s (inl h) = absurd (no_value 58 (inr refl) h)
  behind_colon first c v r s (inr h) = absurd (no_end c 58 (inr refl) h)
  behind_colon key c v r s h = absurd (no_quote 58 (inr refl) h)
  behind_colon key_or_end c v r s (inl h) = absurd (no_quote 58 (inr refl) h)
  behind_colon key_or_end c v r s (inr h) = absurd (no_end c 58 (inr refl) h)
  behind_colon colon c v r s h = (c, at_value, read_colon r (58 ∷ [], v, refl, refl, s), value_not_done)
  behind_colon done [] v r s (inl h) = absurd h
  behind_colon done (k ∷ c) v r s (inl h) = absurd (apart 58 h refl)
  behind_colon done c v r s (inr h) = absurd (no_end c 58 (inr refl) h)

  module _ (b : List ℕ) (i j : ℕ) (c : List Kind) (w : ExpectedPart) (ts : List Token) (g : PrefixAt lossy b i c w ts) (l : i ≤ j) (u v : List ℕ) (hu : ws u) where
    -- the byte after whitespace may follow
    mark_allowed : (x : ℕ) → (x ≡ 44) ⊎ (x ≡ 58) → piece b i j ≡ u ++ x ∷ v → viable_prefix lossy (take j b) → Allows w c x
    mark_allowed x m e (t, rest, h) =
        let whole : drop i b ≡ u ++ x ∷ (v ++ drop j b) = drop_split b i j l ∙ ap (λ y. y ++ drop j b) e ∙ append_assoc u (x ∷ v) (drop j b) in
        next_byte lossy t u x (v ++ rest) g.at hu (ends_space w ts u x (v ++ drop j b) (v ++ rest) (subst (LastEnds w ts) whole g.ends))
        (subst (is_text lossy t) (ap (λ y. y ++ rest) (take_on b i j l ∙ ap (λ y. take i b ++ y) e) ∙ append_assoc (take i b) (u ++ x ∷ v) rest ∙ ap (λ y. take i b ++ y) (append_assoc u (x ∷ v) rest)) h)
        (mark_no_space x m)

    there : (x : ℕ) → piece b i j ≡ u ++ x ∷ v → (take i b ++ u) ++ x ∷ v ≡ take j b
    there x e = append_assoc (take i b) u (x ∷ v) ∙ ap (λ y. take i b ++ y) (sym e) ∙ sym (take_on b i j l)

-- after a gap: at the same place, whitespace aside, or after a mark
pub data Across (lossy : Bool) (b : List ℕ) (i j : ℕ) (c : List Kind) (w : ExpectedPart) (ts : List Token) : Type 0 where
  spaced : ws (piece b i j) → Across lossy b i j c w ts
  marked : Behind lossy (take j b) ts → Across lossy b i j c w ts

pub across : (lossy : Bool) (b : List ℕ) (i j : ℕ) (c : List Kind) (w : ExpectedPart) (ts : List Token) → PrefixAt lossy b i c w ts → i ≤ j → IsGap (piece b i j) → viable_prefix lossy (take j b) → Across lossy b i j c w ts
across lossy b i j c w ts g l h n = by h.is_mark
  where
    u : List ℕ
    u = h.before

    v : List ℕ
    v = h.after

    at : reading lossy (take i b ++ u) c w ts
    at = reading_space lossy u h.space_before g.at

    row_of : (x : ℕ) → h.mark ≡ x ∷ [] → piece b i j ≡ u ++ x ∷ v
    row_of x e = h.row ∙ ap (λ y. u ++ (y ++ v)) e

    moved : (x : ℕ) → piece b i j ≡ u ++ x ∷ v → Behind lossy ((take i b ++ u) ++ x ∷ v) ts → Across lossy b i j c w ts
    moved x e h' = marked (subst (λ y. Behind lossy y ts) (there lossy b i j c w ts g l u v h.space_before x e) h')

    by : (h.mark ≡ []) ⊎ ((h.mark ≡ 44 ∷ []) ⊎ (h.mark ≡ 58 ∷ [])) → Across lossy b i j c w ts
    by (inl e) = spaced (subst ws (sym (h.row ∙ ap (λ y. u ++ (y ++ v)) e)) (ws-append u v h.space_before h.space_behind))
    by (inr (inl e)) =
        let m = row_of 44 e in moved 44 m (behind_comma lossy w c v at h.space_behind (mark_allowed lossy b i j c w ts g l u v h.space_before 44 (inl refl) m n))
    by (inr (inr e)) =
        let m = row_of 58 e in moved 58 m (behind_colon lossy w c v at h.space_behind (mark_allowed lossy b i j c w ts g l u v h.space_before 58 (inr refl) m n))

pub gap_has_no_token : (lossy : Bool) (b : List ℕ) (i j : ℕ) (c : List Kind) (w : ExpectedPart) (ts : List Token) → PrefixAt lossy b i c w ts → i ≤ j → IsGap (piece b i j) → viable_prefix lossy (take j b) → (c' : List Kind) × (w' : ExpectedPart) × reading lossy (take j b) c' w' ts
gap_has_no_token lossy b i j c w ts g l h n = by (across lossy b i j c w ts g l h n)
  where
    by : Across lossy b i j c w ts → (c' : List Kind) × (w' : ExpectedPart) × reading lossy (take j b) c' w' ts
    by (spaced s) = (c, w, spaced_on lossy b i j c w ts g l s)
    by (marked (c', w', r, d)) = (c', w', r)
