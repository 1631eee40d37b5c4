-- Where the tokens of a tree have a token that begins a value, they have those of a value.
use Rattle.std.proofs.Common.{◌≡◌, ◌≢◌, ◌∙◌, ◌⊎◌, inl, inr, ◌+◌, ◌-◌, List, [], ◌∷◌, ◌++◌, length, take, refl, sym, ap, subst, append_assoc, append-nil, arith}
use Rattle.std.proofs.lemmas.List.{nil_from_length}
use Rattle.json_grammar.specs.declared.Kind.{Kind}
use Rattle.json_grammar.specs.declared.Kind.TheVariants.{Array as array, Object as object}
use Rattle.json_grammar.specs.declared.ExpectedPart.TheVariants.{Done as done}
use Rattle.json_grammar.specs.Tree.{Tree, null, boolean, num, text, list, pairs, Trees, no_trees, tree_and, Pairs, no_pairs, pair_and, Token, null_token, boolean_token, num_token, text_token, begin, end, key_token, tokens, trees_tokens, pairs_tokens}
use Rattle.json_grammar.specs.Place.{reading, outside}
use Rattle.json_grammar.proofs.Closing.{whole_text}
use Rattle.json_text.specs.Parsing.{ParserState, input, HasGiven, IsWhole}
use Rattle.json_grammar.specs.TokenStates.{TokenState, nothing, initial_state, state_in, after_token, after_tokens, Accepts, BeginsTree}
use Rattle.json_doc.specs.OneValue.{TokenBeginsValue, open_levels_after}
use Rattle.json_grammar.proofs.TokenStates.{after_tree}
use Rattle.json_grammar.proofs.TokenPrefixes.{tree_alone}

nil_no : (ts us : List Token) (x : Token) → [] ≡ ts ++ x ∷ us → ⊥
nil_no [] us x e = cc
nil_no (y ∷ ts) us x e = cc

head_is : {x y : Token} {xs ys : List Token} → x ∷ xs ≡ y ∷ ys → x ≡ y
head_is e = cc

-- two lists in a row, at an element of one of them
split : (a b c d : List Token) (x : Token) → a ++ b ≡ c ++ x ∷ d
    → ((r : List Token) × (c ≡ a ++ r) × (b ≡ r ++ x ∷ d)) ⊎ ((r : List Token) × (a ≡ c ++ x ∷ r) × (d ≡ r ++ b))
split [] b c d x e = inl (c, refl, e)
split (y ∷ a) b [] d x e = inr (a, let i : y ≡ x = cc in ap (λ z. z ∷ a) i, let j : a ++ b ≡ d = cc in sym j)
split (y ∷ a) b (z ∷ c) d x e =
    let i : y ≡ z = cc in
    let j : a ++ b ≡ c ++ x ∷ d = cc in
    elim (split a b c d x j) [
      | inl (r, p, q) ↦ inl (r, ap (λ l. z ∷ l) p ∙ ap (λ v. v ∷ (a ++ r)) (sym i), q)
      | inr (r, p, q) ↦ inr (r, ap (λ v. v ∷ a) i ∙ ap (λ l. z ∷ l) p, q)
    ]

-- ---- values within a tree

abbrev Stands : Token → List Token → Type 0
Stands x us = (t : Tree) × (m : List Token) × (x ∷ us ≡ tokens t ++ m)

-- an end alone has no value
end_no : (k : Kind) (ts us : List Token) (x : Token) → TokenBeginsValue x → end k ∷ [] ≡ ts ++ x ∷ us → ⊥
end_no k [] us x b e = let i : x ≡ end k = cc in subst TokenBeginsValue i b
end_no k (y ∷ ts) us x b e = let i : [] ≡ ts ++ x ∷ us = cc in nil_no ts us x i

-- a value with more after it
more : (x : Token) (r us rest : List Token) → us ≡ r ++ rest → Stands x r → Stands x us
more x r us rest e (t, m, f) = (t, m ++ rest, ap (λ l. x ∷ l) e ∙ ap (λ l. l ++ rest) f ∙ append_assoc (tokens t) m rest)

mutual
  in_tree : (t : Tree) (ts us : List Token) (x : Token) → TokenBeginsValue x → tokens t ≡ ts ++ x ∷ us → Stands x us
  in_tree t [] us x b e = (t, [], sym e ∙ sym (append-nil (tokens t)))
  in_tree null (y ∷ ts) us x b e = let i : [] ≡ ts ++ x ∷ us = cc in absurd (nil_no ts us x i)
  in_tree (boolean v) (y ∷ ts) us x b e = let i : [] ≡ ts ++ x ∷ us = cc in absurd (nil_no ts us x i)
  in_tree (num l) (y ∷ ts) us x b e = let i : [] ≡ ts ++ x ∷ us = cc in absurd (nil_no ts us x i)
  in_tree (text s) (y ∷ ts) us x b e = let i : [] ≡ ts ++ x ∷ us = cc in absurd (nil_no ts us x i)
  in_tree (list ks) (y ∷ ts) us x b e = let i : trees_tokens ks ++ end array ∷ [] ≡ ts ++ x ∷ us = cc in in_trees ks ts us x b i
  in_tree (pairs ps) (y ∷ ts) us x b e = let i : pairs_tokens ps ++ end object ∷ [] ≡ ts ++ x ∷ us = cc in in_pairs ps ts us x b i

  in_trees : (ks : Trees) (ts us : List Token) (x : Token) → TokenBeginsValue x → trees_tokens ks ++ end array ∷ [] ≡ ts ++ x ∷ us → Stands x us
  in_trees no_trees ts us x b e = absurd (end_no array ts us x b e)
  in_trees (tree_and t ks) ts us x b e =
      elim (split (tokens t) (trees_tokens ks ++ end array ∷ []) ts us x (sym (append_assoc (tokens t) (trees_tokens ks) (end array ∷ [])) ∙ e)) [
        | inl (r, p, q) ↦ in_trees ks r us x b q
        | inr (r, p, q) ↦ more x r us (trees_tokens ks ++ end array ∷ []) q (in_tree t ts r x b p)
      ]

  in_pairs : (ps : Pairs) (ts us : List Token) (x : Token) → TokenBeginsValue x → pairs_tokens ps ++ end object ∷ [] ≡ ts ++ x ∷ us → Stands x us
  in_pairs no_pairs ts us x b e = absurd (end_no object ts us x b e)
  in_pairs (pair_and k t ps) [] us x b e = let i : x ≡ key_token k = cc in absurd (subst TokenBeginsValue i b)
  in_pairs (pair_and k t ps) (y ∷ ts) us x b e =
      let i : (tokens t ++ pairs_tokens ps) ++ end object ∷ [] ≡ ts ++ x ∷ us = cc in
      elim (split (tokens t) (pairs_tokens ps ++ end object ∷ []) ts us x (sym (append_assoc (tokens t) (pairs_tokens ps) (end object ∷ [])) ∙ i)) [
        | inl (r, p, q) ↦ in_pairs ps r us x b q
        | inr (r, p, q) ↦ more x r us (pairs_tokens ps ++ end object ∷ []) q (in_tree t ts r x b p)
      ]

-- ---- the containers that are open within a value

outside_length : (c : List Kind) → length (outside c) ≡ length c - 1
outside_length [] = refl
outside_length (k ∷ c) = omega arith

-- how many are open after a token
pub levels_step : (x : Token) (s : TokenState) → length (after_token s x).opened ≡ open_levels_after x (length s.opened)
levels_step null_token s = refl
levels_step (boolean_token b) s = refl
levels_step (num_token l) s = refl
levels_step (text_token t) s = refl
levels_step (begin k) s = omega arith
levels_step (end k) s = outside_length s.opened
levels_step (key_token n) s = refl

-- more than the tokens of a tree are not accepted
after_whole : (t : Tree) (m us : List Token) → us ≡ tokens t ++ m → Accepts initial_state us → (m ≡ []) × (after_tokens initial_state us ≡ state_in [])
after_whole t m us e a =
    let n = tree_alone t m (subst (Accepts initial_state) e a) in
    (n, ap (after_tokens initial_state) (e ∙ ap (λ l. tokens t ++ l) n ∙ append-nil (tokens t)) ∙ after_tree initial_state t)

-- the tokens us are accepted, and more have to follow
abbrev pub IsUnfinished : List Token → Type 0
IsUnfinished us = Accepts initial_state us × ((after_tokens initial_state us).expected ≢ nothing)

-- the tokens us have one that begins a value first
abbrev pub Starts : List Token → Type 0
Starts us = (y : Token) × (r : List Token) × (us ≡ y ∷ r) × TokenBeginsValue y

-- what begins a value that is not whole goes on to begin one
pub begins_on : (ts us : List Token) (x : Token) → Starts (us ++ x ∷ []) → IsUnfinished us → BeginsTree (ts ++ (us ++ x ∷ [])) → BeginsTree (us ++ x ∷ [])
begins_on ts us x (y, r, s, b) (a, n) (t, m, e) =
    let f : tokens t ≡ ts ++ y ∷ (r ++ m) = e ∙ append_assoc ts (us ++ x ∷ []) m ∙ ap (λ l. ts ++ (l ++ m)) s in
    let g = in_tree t ts (r ++ m) y b f in
    let h : tokens g.0 ++ g.1 ≡ us ++ x ∷ m = sym g.2 ∙ ap (λ l. l ++ m) (sym s) ∙ append_assoc us (x ∷ []) m in
    elim (split (tokens g.0) g.1 us m x h) [
      | inl (q, p, i) ↦ absurd (n (ap (λ (z : TokenState). z.expected) (after_whole g.0 q us p a).1))
      | inr (q, p, i) ↦ (g.0, q, p ∙ sym (append_assoc us (x ∷ []) q))
    ]

-- where a value is not whole, the text is not
pub not_whole : (p : ParserState) (ts us : List Token) → HasGiven p (ts ++ us) → Starts us → IsUnfinished us → ¬ (IsWhole p)
not_whole p ts us h (y, r, s, b) (a, n) (d, c) =
    let q = take h.base (input p) in
    let z = subst (λ k. reading p.lossy q k done (ts ++ us)) (nil_from_length p.open_kinds c) (subst (λ v. reading p.lossy q p.open_kinds v (ts ++ us)) d h.given.at) in
    let t = whole_text p.lossy q (ts ++ us) z in
    let g = in_tree t.0 ts r y b (sym t.2 ∙ ap (λ l. ts ++ l) s) in
    n (ap (λ (z : TokenState). z.expected) (after_whole g.0 g.1 us (s ∙ g.2) a).1)

-- what begins the tokens of a value begins a value
pub one_begins : (x : Token) → BeginsTree (x ∷ []) → TokenBeginsValue x
one_begins x (null, m, e) = subst TokenBeginsValue (head_is e) tt
one_begins x (boolean b, m, e) = subst TokenBeginsValue (head_is e) tt
one_begins x (num l, m, e) = subst TokenBeginsValue (head_is e) tt
one_begins x (text s, m, e) = subst TokenBeginsValue (head_is e) tt
one_begins x (list ts, m, e) = subst TokenBeginsValue (head_is e) tt
one_begins x (pairs ps, m, e) = subst TokenBeginsValue (head_is e) tt
