-- Where the next value or name begins is one place alone.
use Rattle.std.proofs.Common.{◌≡◌, ◌≢◌, ◌∙◌, inl, inr, ℕ, ◌+◌, ◌<◌, ◌≤◌, List, [], ◌∷◌, ◌++◌, length, get_or, drop, ◌-◌, Some, refl, sym, ap, subst, arith}
use Rattle.std.proofs.lemmas.Bool.{cases_lt}
use Rattle.json_grammar.specs.declared.Kind.{Kind}
use Rattle.json_grammar.specs.declared.Kind.TheVariants.{Array as array, Object as object}
use Rattle.json_grammar.specs.declared.ExpectedPart.{ExpectedPart}
use Rattle.json_grammar.specs.declared.ExpectedPart.TheVariants.{Value as at_value, First as first, Key as key, KeyOrEnd as key_or_end, Colon as colon, Done as done}
use Rattle.json_grammar.specs.Grammar.{IsWhitespace, ws}
use Rattle.json_grammar.specs.Given.{piece}
use Rattle.json_grammar.specs.Place.{after_comma, closing, TakesEnd, end_first, end_key_or_end, end_done}
use Rattle.json_grammar.proofs.Lists.{not_ws}
use Rattle.json_text.specs.Nexts.{SpaceTo, MarkTo, NextAt}
use Rattle.json_scan.specs.Runs.{ByteAt}
use Rattle.json_text.specs.Stack.{top}
use Rattle.json_io.proofs.Pieces.{piece_append, piece_cons}

-- each byte of a run of whitespace is whitespace
space_within : (b : List ℕ) (i k j : ℕ) → i ≤ k → k < j → j ≤ length b → ws (piece b i j) → IsWhitespace (get_or b k 0)
space_within b i k j h l m s =
    not_ws (piece b i k) (get_or b k 0) (piece b (k + 1) j) (subst ws (piece_append b i k j h (omega arith) ∙ ap (λ r. piece b i k ++ r) (piece_cons b k j l (omega arith))) s)

pub space_to : (b : List ℕ) (i k : ℕ) → (i ≤ k) × (k ≤ length b) → ws (piece b i k) → (k < length b → ¬ (IsWhitespace (get_or b k 0))) → SpaceTo b i k
space_to b i k w s n = record { order = w.0; within = w.1; space = s; stop = n }

pub space_one : (b : List ℕ) (i j k : ℕ) → SpaceTo b i j → SpaceTo b i k → j ≡ k
space_one b i j k s t =
    let o = s.order in let w = s.within in let p = t.order in let x = t.within in
    elim (cases_lt j k) [
      | inl l ↦ absurd (s.stop (omega arith) (space_within b i j k o l x t.space))
      | inr l ↦ elim (cases_lt k j) [
        | inl m ↦ absurd (t.stop (omega arith) (space_within b i k j p m w s.space))
        | inr m ↦ omega arith
      ]
    ]

mark_one : (x : ℕ) (b : List ℕ) (i j k : ℕ) → MarkTo x b i j → MarkTo x b i k → j ≡ k
mark_one x b i j k s t =
    let e : t.mark ≡ s.mark = space_one b i t.mark s.mark t.before s.before in
    space_one b (s.mark + 1) j k s.after (subst (λ m. SpaceTo b (m + 1) k) e t.after)

-- the mark is not where whitespace ends
mark_there : (x : ℕ) (b : List ℕ) (i j k : ℕ) → SpaceTo b i j → MarkTo x b i k → ByteAt b j x
mark_there x b i j k s t = subst (λ m. ByteAt b m x) (space_one b i t.mark j t.before s) t.is_there

-- no container ends where only a value or a name may follow
no_end_at_value : {k : Kind} {w : ExpectedPart} → TakesEnd k w → w ≡ at_value → ⊥
no_end_at_value end_first e = cc
no_end_at_value end_key_or_end e = cc
no_end_at_value end_done e = cc

no_end_at_key : {k : Kind} {w : ExpectedPart} → TakesEnd k w → w ≡ key → ⊥
no_end_at_key end_first e = cc
no_end_at_key end_key_or_end e = cc
no_end_at_key end_done e = cc

no_end_at_colon : {k : Kind} {w : ExpectedPart} → TakesEnd k w → w ≡ colon → ⊥
no_end_at_colon end_first e = cc
no_end_at_colon end_key_or_end e = cc
no_end_at_colon end_done e = cc

no_comma_closes : (k : Kind) → closing k ≡ 44 → ⊥
no_comma_closes array e = omega (arith, e)
no_comma_closes object e = omega (arith, e)

-- where a container ends neither a colon nor a comma must follow
pub ends_at_once : (b : List ℕ) (k : Kind) (at : ℕ) (w : ExpectedPart) → TakesEnd k w → ByteAt b at (closing k) → (w ≢ colon) × ¬ (ByteAt b at 44)
ends_at_once b k at w t h = (λ e. no_end_at_colon t e, λ q. no_comma_closes k (sym h.1 ∙ q.1))

pub no_end_after_colon : (k : Kind) (w : ExpectedPart) → w ≡ at_value → ¬ (TakesEnd k w)
no_end_after_colon k w e t = no_end_at_value t e

pub no_end_after_comma : (k x : Kind) (w : ExpectedPart) → w ≡ after_comma x → ¬ (TakesEnd k w)
no_end_after_comma k array w e t = no_end_at_value t e
no_end_after_comma k object w e t = no_end_at_key t e

module _ (b : List ℕ) (i j k : ℕ) (c : List Kind) (w v : ExpectedPart) (s : SpaceTo b i j) where
  -- ---- after a name

  pub behind_colon : (at : ℕ) → w ≡ colon → ByteAt b j 58 → SpaceTo b (j + 1) at → NextAt b i c w k v → (at ≡ k) × (at_value ≡ v)
  behind_colon at e q t h =
      let n = subst (λ y. NextAt b i c y k v) e h in
      (mark_one 58 b i at k (record { mark = j; before = s; is_there = q; after = t }) n.0, sym n.1)

  pub no_colon_there : w ≡ colon → ¬ (ByteAt b j 58) → ¬ (NextAt b i c w k v)
  no_colon_there e q h = let n = subst (λ y. NextAt b i c y k v) e h in q (mark_there 58 b i j k s n.0)

  -- ---- after a value

  comma_next : (d : List Kind) (x : Kind) (v : ExpectedPart) → top d ≡ Some x → NextAt b i d done k v → MarkTo 44 b i k × (v ≡ after_comma x)
  comma_next [] x v e h = absurd h
  comma_next (y ∷ d) x v e h = let f : y ≡ x = cc in (h.0, h.1 ∙ ap after_comma f)

  pub behind_comma : (x : Kind) (at : ℕ) → w ≡ done → top c ≡ Some x → ByteAt b j 44 → SpaceTo b (j + 1) at → NextAt b i c w k v → (at ≡ k) × (after_comma x ≡ v)
  behind_comma x at e o q t h =
      let n = comma_next c x v o (subst (λ y. NextAt b i c y k v) e h) in
      (mark_one 44 b i at k (record { mark = j; before = s; is_there = q; after = t }) n.0, sym n.1)

  pub no_comma_there : (x : Kind) → w ≡ done → top c ≡ Some x → ¬ (ByteAt b j 44) → ¬ (NextAt b i c w k v)
  no_comma_there x e o q h = let n = comma_next c x v o (subst (λ y. NextAt b i c y k v) e h) in q (mark_there 44 b i j k s n.0)

  -- ---- nothing is needed between

  there : (y : ExpectedPart) → y ≢ colon → y ≢ done → NextAt b i c y k v → (j ≡ k) × (y ≡ v)
  there at_value n m h = (space_one b i j k s h.0, sym h.1)
  there first n m h = (space_one b i j k s h.0, sym h.1)
  there key n m h = (space_one b i j k s h.0, sym h.1)
  there key_or_end n m h = (space_one b i j k s h.0, sym h.1)
  there colon n m h = absurd (n refl)
  there done n m h = absurd (m refl)

  pub right_there : w ≢ colon → w ≢ done → NextAt b i c w k v → (j ≡ k) × (w ≡ v)
  right_there n m h = there w n m h

module _ (b : List ℕ) (i j : ℕ) (c : List Kind) (w : ExpectedPart) (s : SpaceTo b i j) where
  pub next_colon : (at : ℕ) → w ≡ colon → ByteAt b j 58 → SpaceTo b (j + 1) at → NextAt b i c w at at_value
  next_colon at e q t = subst (λ y. NextAt b i c y at at_value) (sym e) (record { mark = j; before = s; is_there = q; after = t }, refl)

  opened_comma : (d : List Kind) (x : Kind) (at : ℕ) → top d ≡ Some x → MarkTo 44 b i at → NextAt b i d done at (after_comma x)
  opened_comma [] x at o m = absurd (cc)
  opened_comma (y ∷ d) x at o m = let f : x ≡ y = cc in (m, ap after_comma f)

  pub next_comma : (x : Kind) (at : ℕ) → w ≡ done → top c ≡ Some x → ByteAt b j 44 → SpaceTo b (j + 1) at → NextAt b i c w at (after_comma x)
  next_comma x at e o q t = subst (λ y. NextAt b i c y at (after_comma x)) (sym e) (opened_comma c x at o (record { mark = j; before = s; is_there = q; after = t }))

  at_spot : (y : ExpectedPart) → y ≢ colon → y ≢ done → NextAt b i c y j y
  at_spot at_value n m = (s, refl)
  at_spot first n m = (s, refl)
  at_spot key n m = (s, refl)
  at_spot key_or_end n m = (s, refl)
  at_spot colon n m = absurd (n refl)
  at_spot done n m = absurd (m refl)

  pub next_there : w ≢ colon → w ≢ done → NextAt b i c w j w
  next_there n m = at_spot w n m

-- in what is left of the text t from s on
pub next_rest : (t b : List ℕ) (s i k : ℕ) (c : List Kind) (w v : ExpectedPart) → b ≡ drop s t → NextAt (drop s t) ((s + i) - s) c w k v → NextAt b i c w k v
next_rest t b s i k c w v e h =
    let n : (s + i) - s ≡ i = omega arith in
    subst (λ y. NextAt y i c w k v) (sym e) (subst (λ m. NextAt (drop s t) m c w k v) n h)

pub rest_next : (t b : List ℕ) (s i k : ℕ) (c : List Kind) (w v : ExpectedPart) → b ≡ drop s t → NextAt b i c w k v → NextAt (drop s t) ((s + i) - s) c w k v
rest_next t b s i k c w v e h =
    let n : i ≡ (s + i) - s = omega arith in
    subst (λ m. NextAt (drop s t) m c w k v) n (subst (λ y. NextAt y i c w k v) e h)

-- and so whitespace
pub space_rest : (t b : List ℕ) (s i k : ℕ) → b ≡ drop s t → SpaceTo (drop s t) ((s + i) - s) k → SpaceTo b i k
space_rest t b s i k e h =
    let n : (s + i) - s ≡ i = omega arith in
    subst (λ y. SpaceTo y i k) (sym e) (subst (λ m. SpaceTo (drop s t) m k) n h)

pub rest_space : (t b : List ℕ) (s i k : ℕ) → b ≡ drop s t → SpaceTo b i k → SpaceTo (drop s t) ((s + i) - s) k
rest_space t b s i k e h =
    let n : i ≡ (s + i) - s = omega arith in
    subst (λ m. SpaceTo (drop s t) m k) n (subst (λ y. SpaceTo y i k) e h)
