-- A prefix at a place, token by token: no value but a scalar is read at once.
use Rattle.std.proofs.Common.{Bool, ◌≡◌, ℕ, List, [], ◌∷◌, ◌++◌, refl, sym, ap, ◌∙◌, subst, append_assoc, append-nil}
use Rattle.json_grammar.specs.declared.Kind.{Kind}
use Rattle.json_grammar.specs.declared.Kind.TheVariants.{Array as array, Object as object}
use Rattle.json_grammar.specs.declared.ExpectedPart.{ExpectedPart}
use Rattle.json_grammar.specs.declared.ExpectedPart.TheVariants.{Value as at_value, First as first, Key as key, KeyOrEnd as key_or_end, Colon as colon, Done as done}
use Rattle.json_grammar.specs.Tree.{Tree, null, boolean, num, text, list, pairs, Trees, no_trees, tree_and, Pairs, no_pairs, pair_and, Token, begin, end, key_token, tokens, trees_tokens, pairs_tokens}
use Rattle.json_grammar.specs.Grammar.{ws, string, value, elements, more_elements, members, more_members}
use Rattle.json_grammar.specs.Place.{TakesValue, takes_at_value, takes_first, TakesKey, takes_key, takes_key_or_end, TakesEnd, end_first, end_key_or_end, end_done, bracket, closing, opened, after_comma, reading, start, open_one, read_value, read_comma, read_key, read_colon}
use Rattle.json_grammar.proofs.Moves.{reading_space}
use Rattle.json_grammar.proofs.Completing.{read_end}

-- the tree is no container
abbrev pub IsScalar : Tree → Type 0
IsScalar null = Unit {0}
IsScalar (boolean b) = Unit {0}
IsScalar (num l) = Unit {0}
IsScalar (text s) = Unit {0}
IsScalar (list ts) = ⊥
IsScalar (pairs ps) = ⊥

-- the open containers after the prefix, the innermost first, its state and its tokens: as
-- `reading`, but by one token or some whitespace at a time
pub data TokenSteps (lossy : Bool) : List ℕ → List Kind → ExpectedPart → List Token → Type 0 where
  at_start : TokenSteps lossy [] [] at_value []
  by_space : {p : List ℕ} {c : List Kind} {w : ExpectedPart} {ts : List Token} (z : List ℕ)
      → TokenSteps lossy p c w ts
      → ws z
      → TokenSteps lossy (p ++ z) c w ts
  by_bracket : {p : List ℕ} {c : List Kind} {w : ExpectedPart} {ts : List Token} (k : Kind)
      → TokenSteps lossy p c w ts
      → TakesValue w
      → TokenSteps lossy (p ++ bracket k ∷ []) (k ∷ c) (opened k) (ts ++ begin k ∷ [])
  by_scalar : {p : List ℕ} {c : List Kind} {w : ExpectedPart} {ts : List Token} (t : Tree) (v : List ℕ)
      → IsScalar t
      → TokenSteps lossy p c w ts
      → TakesValue w
      → value lossy t v
      → TokenSteps lossy (p ++ v) c done (ts ++ tokens t)
  by_end : {p : List ℕ} {c : List Kind} {w : ExpectedPart} {ts : List Token} (k : Kind)
      → TokenSteps lossy p (k ∷ c) w ts
      → TakesEnd k w
      → TokenSteps lossy (p ++ closing k ∷ []) c done (ts ++ end k ∷ [])
  by_comma : {p : List ℕ} {c : List Kind} {ts : List Token} (k : Kind)
      → TokenSteps lossy p (k ∷ c) done ts
      → TokenSteps lossy (p ++ 44 ∷ []) (k ∷ c) (after_comma k) ts
  by_key : {p : List ℕ} {c : List Kind} {w : ExpectedPart} {ts : List Token} (s v : List ℕ)
      → TokenSteps lossy p c w ts
      → TakesKey w
      → string lossy s v
      → TokenSteps lossy (p ++ v) c colon (ts ++ key_token s ∷ [])
  by_colon : {p : List ℕ} {c : List Kind} {ts : List Token}
      → TokenSteps lossy p c colon ts
      → TokenSteps lossy (p ++ 58 ∷ []) c at_value ts

module _ (lossy : Bool) where
  pub steps_reading : {p : List ℕ} {c : List Kind} {w : ExpectedPart} {ts : List Token}
      → TokenSteps lossy p c w ts
      → reading lossy p c w ts
  steps_reading at_start = start tt
  steps_reading (by_space z h i) = reading_space lossy z i (steps_reading h)
  steps_reading (by_bracket k h n) = open_one k (steps_reading h) n (bracket k ∷ [], [], refl, refl, tt)
  steps_reading (by_scalar t v x h n i) = read_value t (steps_reading h) n (v, [], sym (append-nil v), i, tt)
  steps_reading (by_end {p = p} {c = c} {w = w} {ts = ts} k h n) = read_end lossy p (closing k ∷ []) k c w ts (steps_reading h) n (closing k ∷ [], [], refl, refl, tt)
  steps_reading (by_comma k h) = read_comma k (steps_reading h) (44 ∷ [], [], refl, refl, tt)
  steps_reading (by_key s v h n i) = read_key s (steps_reading h) n (v, [], sym (append-nil v), i, tt)
  steps_reading (by_colon h) = read_colon (steps_reading h) (58 ∷ [], [], refl, refl, tt)

  -- after p and u, and then a, is after p and both
  past : (p u a b : List ℕ) (c : List Kind) (w : ExpectedPart) (ts : List Token)
      → b ≡ u ++ a
      → TokenSteps lossy ((p ++ u) ++ a) c w ts
      → TokenSteps lossy (p ++ b) c w ts
  past p u a b c w ts e h = subst (λ o. TokenSteps lossy o c w ts) (append_assoc p u a ∙ ap (λ o. p ++ o) (sym e)) h

  telling : (p : List ℕ) (c : List Kind) (w : ExpectedPart) (ts us vs : List Token)
      → TokenSteps lossy p c w ((ts ++ us) ++ vs)
      → TokenSteps lossy p c w (ts ++ (us ++ vs))
  telling p c w ts us vs h = subst (TokenSteps lossy p c w) (append_assoc ts us vs) h

  nothing_more : (p : List ℕ) (c : List Kind) (w : ExpectedPart) (ts : List Token) (z : List ℕ)
      → z ≡ []
      → TokenSteps lossy p c w ts
      → TokenSteps lossy (p ++ z) c w (ts ++ [])
  nothing_more p c w ts z e h =
      subst (λ o. TokenSteps lossy o c w (ts ++ [])) (sym (append-nil p) ∙ ap (λ o. p ++ o) (sym e)) (subst (TokenSteps lossy p c w) (sym (append-nil ts)) h)

  abbrev ValueSteps : Tree → Type 0
  ValueSteps t = (p v : List ℕ) (c : List Kind) (w : ExpectedPart) (ts : List Token) → TokenSteps lossy p c w ts → TakesValue w → value lossy t v → TokenSteps lossy (p ++ v) c done (ts ++ tokens t)

  abbrev MoreSteps : Trees → Type 0
  MoreSteps us = (p z : List ℕ) (c : List Kind) (ts : List Token) → TokenSteps lossy p (array ∷ c) done ts → more_elements lossy us z → TokenSteps lossy (p ++ z) (array ∷ c) done (ts ++ trees_tokens us)

  abbrev MoreMembersSteps : Pairs → Type 0
  MoreMembersSteps us = (p z : List ℕ) (c : List Kind) (ts : List Token) → TokenSteps lossy p (object ∷ c) done ts → more_members lossy us z → TokenSteps lossy (p ++ z) (object ∷ c) done (ts ++ pairs_tokens us)

  elements_by : (t : Tree) (us : Trees)
      → ValueSteps t
      → MoreSteps us
      → (p b : List ℕ) (c : List Kind) (w : ExpectedPart) (ts : List Token)
      → TokenSteps lossy p (array ∷ c) w ts
      → TakesValue w
      → elements lossy (tree_and t us) b
      → TokenSteps lossy (p ++ b) (array ∷ c) done (ts ++ (tokens t ++ trees_tokens us))
  elements_by t us f g p b c w ts h n (u, a1, e, hu, (v, a2, e1, hv, (z, m, e2, hz, hm))) =
      past p u a1 b (array ∷ c) done _ e (past (p ++ u) v a2 a1 (array ∷ c) done _ e1 (past ((p ++ u) ++ v) z m a2 (array ∷ c) done _ e2
      (telling _ (array ∷ c) done ts (tokens t) (trees_tokens us) (g (((p ++ u) ++ v) ++ z) m c (ts ++ tokens t) (by_space z (f (p ++ u) v (array ∷ c) w ts (by_space u h hu) n hv) hz) hm))))

  members_by : (s : List ℕ) (t : Tree) (us : Pairs)
      → ValueSteps t
      → MoreMembersSteps us
      → (p b : List ℕ) (c : List Kind) (w : ExpectedPart) (ts : List Token)
      → TokenSteps lossy p (object ∷ c) w ts
      → TakesKey w
      → members lossy (pair_and s t us) b
      → TokenSteps lossy (p ++ b) (object ∷ c) done (ts ++ (key_token s ∷ (tokens t ++ pairs_tokens us)))
  members_by s t us f g p b c w ts h n (u, a1, e, hu, (k, a2, e1, hk, (x, a3, e2, hx, (y, a4, e3, hy, (u', a5, e4, hu', (v, a6, e5, hv, (z, m, e6, hz, hm))))))) =
      past p u a1 b (object ∷ c) done _ e (past (p ++ u) k a2 a1 (object ∷ c) done _ e1 (past ((p ++ u) ++ k) x a3 a2 (object ∷ c) done _ e2
      (past (((p ++ u) ++ k) ++ x) (58 ∷ []) a4 a3 (object ∷ c) done _ (e3 ∙ ap (λ o. o ++ a4) hy) (past _ u' a5 a4 (object ∷ c) done _ e4 (past _ v a6 a5 (object ∷ c) done _ e5 (past _ z m a6 (object ∷ c) done _ e6
      (telling _ (object ∷ c) done ts (key_token s ∷ tokens t) (pairs_tokens us)
      (g _ m c (ts ++ key_token s ∷ tokens t)
      (by_space z
      (telling _ (object ∷ c) done ts (key_token s ∷ []) (tokens t)
      (f _ v (object ∷ c) at_value (ts ++ key_token s ∷ []) (by_space u' (by_colon (by_space x (by_key s k (by_space u h hu) n hk) hx)) hu') takes_at_value hv)) hz) hm))))))))

  mutual
    pub value_steps : (t : Tree) (p v : List ℕ) (c : List Kind) (w : ExpectedPart) (ts : List Token)
        → TokenSteps lossy p c w ts
        → TakesValue w
        → value lossy t v
        → TokenSteps lossy (p ++ v) c done (ts ++ tokens t)
    value_steps null p v c w ts h n i = by_scalar null v tt h n i
    value_steps (boolean b) p v c w ts h n i = by_scalar (boolean b) v tt h n i
    value_steps (num l) p v c w ts h n i = by_scalar (num l) v tt h n i
    value_steps (text s) p v c w ts h n i = by_scalar (text s) v tt h n i
    value_steps (list us) p v c w ts h n (x, q, e, hx, (a, z, f, ha, hz)) =
        past p (91 ∷ []) q v c done _ (e ∙ ap (λ o. o ++ q) hx) (past (p ++ 91 ∷ []) a (93 ∷ []) q c done _ (f ∙ ap (λ o. a ++ o) hz)
        (telling _ c done ts (begin array ∷ trees_tokens us) (end array ∷ []) (elements_steps us (p ++ 91 ∷ []) a c ts (by_bracket array h n) ha)))
    value_steps (pairs us) p v c w ts h n (x, q, e, hx, (a, z, f, ha, hz)) =
        past p (123 ∷ []) q v c done _ (e ∙ ap (λ o. o ++ q) hx) (past (p ++ 123 ∷ []) a (125 ∷ []) q c done _ (f ∙ ap (λ o. a ++ o) hz)
        (telling _ c done ts (begin object ∷ pairs_tokens us) (end object ∷ []) (members_steps us (p ++ 123 ∷ []) a c ts (by_bracket object h n) ha)))

    -- with the bracket that closes
    elements_steps : (us : Trees) (p b : List ℕ) (c : List Kind) (ts : List Token)
        → TokenSteps lossy p (array ∷ c) first (ts ++ begin array ∷ [])
        → elements lossy us b
        → TokenSteps lossy ((p ++ b) ++ 93 ∷ []) c done ((ts ++ begin array ∷ trees_tokens us) ++ end array ∷ [])
    elements_steps no_trees p b c ts h i = by_end array (by_space b h i) end_first
    elements_steps (tree_and t us) p b c ts h i =
        by_end array (telling (p ++ b) (array ∷ c) done ts (begin array ∷ []) (tokens t ++ trees_tokens us)
        (elements_by t us (value_steps t) (more_steps us) p b c first (ts ++ begin array ∷ []) h takes_first i)) end_done

    more_steps : (us : Trees) (p z : List ℕ) (c : List Kind) (ts : List Token)
        → TokenSteps lossy p (array ∷ c) done ts
        → more_elements lossy us z
        → TokenSteps lossy (p ++ z) (array ∷ c) done (ts ++ trees_tokens us)
    more_steps no_trees p z c ts h i = nothing_more p (array ∷ c) done ts z i h
    more_steps (tree_and t us) p z c ts h (x, q, e, hx, i) =
        past p (44 ∷ []) q z (array ∷ c) done _ (e ∙ ap (λ o. o ++ q) hx) (elements_by t us (value_steps t) (more_steps us) (p ++ 44 ∷ []) q c at_value ts (by_comma array h) takes_at_value i)

    members_steps : (us : Pairs) (p b : List ℕ) (c : List Kind) (ts : List Token)
        → TokenSteps lossy p (object ∷ c) key_or_end (ts ++ begin object ∷ [])
        → members lossy us b
        → TokenSteps lossy ((p ++ b) ++ 125 ∷ []) c done ((ts ++ begin object ∷ pairs_tokens us) ++ end object ∷ [])
    members_steps no_pairs p b c ts h i = by_end object (by_space b h i) end_key_or_end
    members_steps (pair_and s t us) p b c ts h i =
        by_end object (telling (p ++ b) (object ∷ c) done ts (begin object ∷ []) (key_token s ∷ (tokens t ++ pairs_tokens us))
        (members_by s t us (value_steps t) (more_members_steps us) p b c key_or_end (ts ++ begin object ∷ []) h takes_key_or_end i)) end_done

    pub more_members_steps : (us : Pairs) (p z : List ℕ) (c : List Kind) (ts : List Token)
        → TokenSteps lossy p (object ∷ c) done ts
        → more_members lossy us z
        → TokenSteps lossy (p ++ z) (object ∷ c) done (ts ++ pairs_tokens us)
    more_members_steps no_pairs p z c ts h i = nothing_more p (object ∷ c) done ts z i h
    more_members_steps (pair_and s t us) p z c ts h (x, q, e, hx, i) =
        past p (44 ∷ []) q z (object ∷ c) done _ (e ∙ ap (λ o. o ++ q) hx) (members_by s t us (value_steps t) (more_members_steps us) (p ++ 44 ∷ []) q c key ts (by_comma object h) takes_key i)

  -- members after an object's beginning, at least one
  pub some_members_steps : (s : List ℕ) (t : Tree) (us : Pairs) (p b : List ℕ) (c : List Kind) (w : ExpectedPart) (ts : List Token)
      → TokenSteps lossy p (object ∷ c) w ts
      → TakesKey w
      → members lossy (pair_and s t us) b
      → TokenSteps lossy (p ++ b) (object ∷ c) done (ts ++ pairs_tokens (pair_and s t us))
  some_members_steps s t us p b c w ts h n i = members_by s t us (value_steps t) (more_members_steps us) p b c w ts h n i

  spaced : (p b z q : List ℕ) (c : List Kind) (w : ExpectedPart) (ts : List Token)
      → q ≡ b ++ z
      → ws z
      → TokenSteps lossy (p ++ b) c w ts
      → TokenSteps lossy (p ++ q) c w ts
  spaced p b z q c w ts e i h = past p b z q c w ts e (by_space z h i)

  pub reading_steps : {p : List ℕ} {c : List Kind} {w : ExpectedPart} {ts : List Token}
      → reading lossy p c w ts
      → TokenSteps lossy p c w ts
  reading_steps (start {p = p} h) = by_space p at_start h
  reading_steps (open_one {p = p} {q = q} {c = c} {ts = ts} k h n (b, z, e, hb, hz)) = spaced p (bracket k ∷ []) z q (k ∷ c) (opened k) (ts ++ begin k ∷ []) (e ∙ ap (λ o. o ++ z) hb) hz (by_bracket k (reading_steps h) n)
  reading_steps (read_value {p = p} {q = q} {c = c} {w = w} {ts = ts} t h n (b, z, e, hb, hz)) = spaced p b z q c done (ts ++ tokens t) e hz (value_steps t p b c w ts (reading_steps h) n hb)
  reading_steps (read_comma {p = p} {q = q} {c = c} {ts = ts} k h (b, z, e, hb, hz)) = spaced p (44 ∷ []) z q (k ∷ c) (after_comma k) ts (e ∙ ap (λ o. o ++ z) hb) hz (by_comma k (reading_steps h))
  reading_steps (read_key {p = p} {q = q} {c = c} {ts = ts} s h n (b, z, e, hb, hz)) = spaced p b z q c colon (ts ++ key_token s ∷ []) e hz (by_key s b (reading_steps h) n hb)
  reading_steps (read_colon {p = p} {q = q} {c = c} {ts = ts} h (b, z, e, hb, hz)) = spaced p (58 ∷ []) z q c at_value ts (e ∙ ap (λ o. o ++ z) hb) hz (by_colon (reading_steps h))
