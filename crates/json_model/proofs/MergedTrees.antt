-- What is merged repeats no name, a tree in which none repeats stays, and what is proper stays so.
use Rattle.std.proofs.Common.{◌≡◌, ℕ, List, ◌∷◌, Bool, true, false, cond, ◌⊎◌, inl, inr, refl, sym, ap, ap₂, ◌∙◌, subst, bytes_eq}
use Rattle.std.specs.List.{Contains}
use Rattle.json_grammar.specs.Tree.{Tree, null, boolean, num, text, list, pairs, Trees, no_trees, tree_and, Pairs, no_pairs, pair_and}
use Rattle.json_grammar.specs.Proper.{IsProper, AreProper, ArePairsProper}
use Rattle.json_grammar.specs.Repeated.{names, RepeatsKey, TreesRepeatKey, PairsRepeatKey}
use Rattle.json_grammar.proofs.Lists.{holds_none, holds_head, holds_tail, holds_cases}
use Rattle.json_model.specs.Edit.{without_key}
use Rattle.json_model.specs.Merged.{value_or, once, merged, trees_merged, values_merged}
use Rattle.json_model.proofs.Members.{same_key, key_itself}
use Rattle.json_model.proofs.Proper.{without_key_proper}

other_key : (n k : List ℕ) → bytes_eq n k ≡ false → n ≡ k → ⊥
other_key n k e same =
    let is : bytes_eq n k ≡ true = subst (λ c. bytes_eq n c ≡ true) same (key_itself n) in
    let both : true ≡ false = sym is ∙ e in
    absurd (cc)

-- ---- no name repeats

-- no member of the key is left
key_gone : (k : List ℕ) (ps : Pairs) → Contains (names (without_key k ps)) k → ⊥
key_gone k no_pairs h = holds_none k h
key_gone k (pair_and n t ps) h = by (bytes_eq n k) refl h (key_gone k ps)
  where
    by : (c : Bool)
        → bytes_eq n k ≡ c
        → Contains (names (cond c (without_key k ps) (pair_and n t (without_key k ps)))) k
        → (Contains (names (without_key k ps)) k → ⊥)
        → ⊥
    by true e g rest = rest g
    by false e g rest = elim (holds_cases n k (names (without_key k ps)) g) [ inl same ↦ other_key n k e same | inr i ↦ rest i ]

-- and no name is new
still_there : (k s : List ℕ) (ps : Pairs)
    → Contains (names (without_key k ps)) s
    → Contains (names ps) s
still_there k s no_pairs h = h
still_there k s (pair_and n t ps) h = by (bytes_eq n k) h (still_there k s ps)
  where
    by : (c : Bool)
        → Contains (names (cond c (without_key k ps) (pair_and n t (without_key k ps)))) s
        → (Contains (names (without_key k ps)) s → Contains (names ps) s)
        → Contains (names (pair_and n t ps)) s
    by true g rest = holds_tail n s (names ps) (rest g)
    by false g rest = elim (holds_cases n s (names (without_key k ps)) g) [
      | inl same ↦ subst (λ o. Contains (o ∷ names ps) s) (sym same) (holds_head s (names ps))
      | inr i ↦ holds_tail n s (names ps) (rest i)
    ]

without_repeats : (k : List ℕ) (ps : Pairs) → PairsRepeatKey (without_key k ps) → PairsRepeatKey ps
without_repeats k no_pairs h = h
without_repeats k (pair_and n t ps) h = by (bytes_eq n k) h (without_repeats k ps)
  where
    by : (c : Bool)
        → PairsRepeatKey (cond c (without_key k ps) (pair_and n t (without_key k ps)))
        → (PairsRepeatKey (without_key k ps) → PairsRepeatKey ps)
        → PairsRepeatKey (pair_and n t ps)
    by true g rest = inr (inr (rest g))
    by false (inl g) rest = inl (still_there k n ps g)
    by false (inr (inl g)) rest = inr (inl g)
    by false (inr (inr g)) rest = inr (inr (rest g))

value_repeats : (k : List ℕ) (t : Tree) (ps : Pairs)
    → RepeatsKey (value_or k t ps)
    → RepeatsKey t ⊎ PairsRepeatKey ps
value_repeats k t no_pairs h = inl h
value_repeats k t (pair_and n u ps) h = by (bytes_eq n k) h (value_repeats k t ps)
  where
    by : (c : Bool)
        → RepeatsKey (cond c u (value_or k t ps))
        → (RepeatsKey (value_or k t ps) → RepeatsKey t ⊎ PairsRepeatKey ps)
        → RepeatsKey t ⊎ PairsRepeatKey (pair_and n u ps)
    by true g rest = inr (inr (inl g))
    by false g rest = elim (rest g) [ inl i ↦ inl i | inr i ↦ inr (inr (inr i)) ]

-- a name repeats within the value of some member
abbrev ValuesRepeatKey : Pairs → Type 0
ValuesRepeatKey no_pairs = ⊥
ValuesRepeatKey (pair_and k t ps) = RepeatsKey t ⊎ ValuesRepeatKey ps

once_repeats : (ps : Pairs) → PairsRepeatKey (once ps) → ValuesRepeatKey ps
once_repeats no_pairs h = h
once_repeats (pair_and k t ps) (inl h) = absurd (key_gone k (once ps) h)
once_repeats (pair_and k t ps) (inr (inl h)) = elim (value_repeats k t (once ps) h) [ inl g ↦ inl g | inr g ↦ inr (once_repeats ps g) ]
once_repeats (pair_and k t ps) (inr (inr h)) = inr (once_repeats ps (without_repeats k (once ps) h))

mutual
  pub merged_repeats : (t : Tree) → RepeatsKey (merged t) → ⊥
  merged_repeats null h = h
  merged_repeats (boolean b) h = h
  merged_repeats (num l) h = h
  merged_repeats (text s) h = h
  merged_repeats (list ts) h = elements_repeat ts h
  merged_repeats (pairs ps) h = values_repeat ps (once_repeats (values_merged ps) h)

  elements_repeat : (ts : Trees) → TreesRepeatKey (trees_merged ts) → ⊥
  elements_repeat no_trees h = h
  elements_repeat (tree_and t ts) (inl h) = merged_repeats t h
  elements_repeat (tree_and t ts) (inr h) = elements_repeat ts h

  values_repeat : (ps : Pairs) → ValuesRepeatKey (values_merged ps) → ⊥
  values_repeat no_pairs h = h
  values_repeat (pair_and k t ps) (inl h) = merged_repeats t h
  values_repeat (pair_and k t ps) (inr h) = values_repeat ps h

-- ---- where none repeats

value_stays : (k : List ℕ) (t : Tree) (ps : Pairs)
    → (Contains (names ps) k → ⊥)
    → value_or k t ps ≡ t
value_stays k t no_pairs f = refl
value_stays k t (pair_and n u ps) f = by (bytes_eq n k) refl (value_stays k t ps (λ h. f (holds_tail n k (names ps) h)))
  where
    by : (c : Bool) → bytes_eq n k ≡ c → value_or k t ps ≡ t → cond c u (value_or k t ps) ≡ t
    by true e rest = absurd (f (subst (λ o. Contains (o ∷ names ps) k) (sym (same_key n k e)) (holds_head k (names ps))))
    by false e rest = rest

members_stay : (k : List ℕ) (ps : Pairs) → (Contains (names ps) k → ⊥) → without_key k ps ≡ ps
members_stay k no_pairs f = refl
members_stay k (pair_and n u ps) f = by (bytes_eq n k) refl (members_stay k ps (λ h. f (holds_tail n k (names ps) h)))
  where
    by : (c : Bool)
        → bytes_eq n k ≡ c
        → without_key k ps ≡ ps
        → cond c (without_key k ps) (pair_and n u (without_key k ps)) ≡ pair_and n u ps
    by true e rest = absurd (f (subst (λ o. Contains (o ∷ names ps) k) (sym (same_key n k e)) (holds_head k (names ps))))
    by false e rest = ap (pair_and n u) rest

once_keeps : (ps : Pairs) → (PairsRepeatKey ps → ⊥) → once ps ≡ ps
once_keeps no_pairs f = refl
once_keeps (pair_and k t ps) f =
    ap (λ qs. pair_and k (value_or k t qs) (without_key k qs)) (once_keeps ps (λ h. f (inr (inr h))))
    ∙ ap₂ (λ v qs. pair_and k v qs) (value_stays k t ps (λ h. f (inl h))) (members_stay k ps (λ h. f (inl h)))

mutual
  pub merged_keeps : (t : Tree) → (RepeatsKey t → ⊥) → merged t ≡ t
  merged_keeps null f = refl
  merged_keeps (boolean b) f = refl
  merged_keeps (num l) f = refl
  merged_keeps (text s) f = refl
  merged_keeps (list ts) f = ap (λ us. list us) (elements_keep ts f)
  merged_keeps (pairs ps) f = ap (λ qs. pairs (once qs)) (values_keep ps f) ∙ ap (λ qs. pairs qs) (once_keeps ps f)

  elements_keep : (ts : Trees) → (TreesRepeatKey ts → ⊥) → trees_merged ts ≡ ts
  elements_keep no_trees f = refl
  elements_keep (tree_and t ts) f =
      ap₂ (λ u us. tree_and u us) (merged_keeps t (λ h. f (inl h))) (elements_keep ts (λ h. f (inr h)))

  values_keep : (ps : Pairs) → (PairsRepeatKey ps → ⊥) → values_merged ps ≡ ps
  values_keep no_pairs f = refl
  values_keep (pair_and k t ps) f =
      ap₂ (λ u qs. pair_and k u qs) (merged_keeps t (λ h. f (inr (inl h)))) (values_keep ps (λ h. f (inr (inr h))))

-- ---- what is proper

value_proper : (k : List ℕ) (t : Tree) (ps : Pairs)
    → IsProper t
    → ArePairsProper ps
    → IsProper (value_or k t ps)
value_proper k t no_pairs h g = h
value_proper k t (pair_and n u ps) h g = by (bytes_eq n k) (value_proper k t ps h g.2)
  where
    by : (c : Bool) → IsProper (value_or k t ps) → IsProper (cond c u (value_or k t ps))
    by true rest = g.1
    by false rest = rest

once_proper : (ps : Pairs) → ArePairsProper ps → ArePairsProper (once ps)
once_proper no_pairs h = tt
once_proper (pair_and k t ps) h =
    let rest = once_proper ps h.2 in
    (h.0, value_proper k t (once ps) h.1 rest, without_key_proper k (once ps) rest)

mutual
  pub merged_proper : (t : Tree) → IsProper t → IsProper (merged t)
  merged_proper null h = tt
  merged_proper (boolean b) h = tt
  merged_proper (num l) h = h
  merged_proper (text s) h = h
  merged_proper (list ts) h = elements_proper ts h
  merged_proper (pairs ps) h = once_proper (values_merged ps) (values_proper ps h)

  elements_proper : (ts : Trees) → AreProper ts → AreProper (trees_merged ts)
  elements_proper no_trees h = tt
  elements_proper (tree_and t ts) h = (merged_proper t h.0, elements_proper ts h.1)

  values_proper : (ps : Pairs) → ArePairsProper ps → ArePairsProper (values_merged ps)
  values_proper no_pairs h = tt
  values_proper (pair_and k t ps) h = (h.0, merged_proper t h.1, values_proper ps h.2)
