-- The names of the open containers after some tokens, and which names repeat.
use Rattle.std.proofs.Common.{◌≡◌, ℕ, List, [], ◌∷◌, ◌++◌, ◌⊎◌, inl, inr, refl, sym, ap, ◌∙◌, subst, append_assoc, append-nil}
use Rattle.std.specs.List.{Contains}
use Rattle.std.proofs.lemmas.List.Elements.{Contains-append_left, Contains-push, Contains-push_cases}
use Rattle.json_grammar.specs.declared.Kind.{Kind}
use Rattle.json_grammar.specs.declared.Kind.TheVariants.{Array as array, Object as object}
use Rattle.json_grammar.specs.Tree.{Tree, null, boolean, num, text, list, pairs, Trees, no_trees, tree_and, Pairs, no_pairs, pair_and, Token, begin, end, key_token, tokens, trees_tokens, pairs_tokens}
use Rattle.json_grammar.proofs.Lists.{cons_nil, head, tail, none_behind, holds_none, holds_head, holds_tail, holds_cases}
use Rattle.json_grammar.specs.Repeated.{Keys, names, RepeatsKey, TreesRepeatKey, PairsRepeatKey, innermost_keys, outer_keys, keys_past, keys_from, open_keys, RepeatsAt, TokensRepeatFrom, TokensRepeat}

-- ---- the names of the open containers

pub keys_append : (a : List Keys) (ts us : List Token)
    → keys_from a (ts ++ us) ≡ keys_from (keys_from a ts) us
keys_append a [] us = refl
keys_append a (x ∷ ts) us = keys_append (keys_past a x) ts us

mutual
  -- a whole value opens nothing
  pub keys_tree : (t : Tree) (a : List Keys) → keys_from a (tokens t) ≡ a
  keys_tree null a = refl
  keys_tree (boolean b) a = refl
  keys_tree (num l) a = refl
  keys_tree (text s) a = refl
  keys_tree (list ts) a = keys_append ([] ∷ a) (trees_tokens ts) (end array ∷ []) ∙ ap outer_keys (keys_trees ts ([] ∷ a))
  keys_tree (pairs ps) a = keys_append ([] ∷ a) (pairs_tokens ps) (end object ∷ []) ∙ ap outer_keys (keys_pairs ps [] a)

  keys_trees : (ts : Trees) (a : List Keys) → keys_from a (trees_tokens ts) ≡ a
  keys_trees no_trees a = refl
  keys_trees (tree_and t ts) a = keys_append a (tokens t) (trees_tokens ts) ∙ ap (λ o. keys_from o (trees_tokens ts)) (keys_tree t a) ∙ keys_trees ts a

  -- members bring their names
  pub keys_pairs : (ps : Pairs) (ks : Keys) (a : List Keys)
      → keys_from (ks ∷ a) (pairs_tokens ps) ≡ (ks ++ names ps) ∷ a
  keys_pairs no_pairs ks a = ap (λ o. o ∷ a) (sym (append-nil ks))
  keys_pairs (pair_and s t ps) ks a =
      keys_append ((ks ++ s ∷ []) ∷ a) (tokens t) (pairs_tokens ps) ∙ ap (λ o. keys_from o (pairs_tokens ps)) (keys_tree t ((ks ++ s ∷ []) ∷ a)) ∙ keys_pairs ps (ks ++ s ∷ []) a ∙ ap (λ o. o ∷ a) (append_assoc ks (s ∷ []) (names ps))

-- after an object's beginning and some members, the open names are theirs
pub keys_inside : (ts : List Token) (ps : Pairs)
    → open_keys (ts ++ begin object ∷ pairs_tokens ps) ≡ names ps
keys_inside ts ps = ap innermost_keys (keys_append [] ts (begin object ∷ pairs_tokens ps) ∙ keys_pairs ps [] (keys_from [] ts))

-- the last of some tokens, and those before it
last_two : (a b : List Token) (x y : Token) → a ++ x ∷ [] ≡ b ++ y ∷ [] → (a ≡ b) × (x ≡ y)
last_two [] [] x y e = (refl, head e)
last_two [] (z ∷ b) x y e = absurd (cons_nil y [] (none_behind b (y ∷ []) (sym (tail e))))
last_two (z ∷ a) [] x y e = absurd (cons_nil x [] (none_behind a (x ∷ []) (tail e)))
last_two (z ∷ a) (u ∷ b) x y e =
    let rest = last_two a b x y (tail e) in
    (ap (λ o. o ∷ a) (head e) ∙ ap (λ o. u ∷ o) rest.0, rest.1)

-- one more name in an object that has whole members
pub key_inside : (ts us : List Token) (ps : Pairs) (s k : List ℕ)
    → ts ++ key_token s ∷ [] ≡ us ++ begin object ∷ (pairs_tokens ps ++ key_token k ∷ [])
    → (s ≡ k) × (open_keys ts ≡ names ps)
key_inside ts us ps s k e =
    let members = begin object ∷ pairs_tokens ps in
    let both = last_two ts (us ++ members) (key_token s) (key_token k) (e ∙ sym (append_assoc us members (key_token k ∷ []))) in
    (text_of s k both.1, ap open_keys both.0 ∙ keys_inside us ps)
  where
    text_of : (s k : List ℕ) → key_token s ≡ key_token k → s ≡ k
    text_of s k e = cc

-- ---- which names repeat

pub repeat_append : (a : List Keys) (ts us : List Token)
    → TokensRepeatFrom a (ts ++ us)
    → TokensRepeatFrom a ts ⊎ TokensRepeatFrom (keys_from a ts) us
repeat_append a [] us h = inr h
repeat_append a (x ∷ ts) us (inl h) = inl (inl h)
repeat_append a (x ∷ ts) us (inr h) = by (repeat_append (keys_past a x) ts us h)
  where
    by : TokensRepeatFrom (keys_past a x) ts ⊎ TokensRepeatFrom (keys_from (keys_past a x) ts) us
        → TokensRepeatFrom a (x ∷ ts) ⊎ TokensRepeatFrom (keys_from (keys_past a x) ts) us
    by (inl g) = inl (inr g)
    by (inr g) = inr g

pub repeat_left : (a : List Keys) (ts us : List Token)
    → TokensRepeatFrom a ts
    → TokensRepeatFrom a (ts ++ us)
repeat_left a [] us h = absurd h
repeat_left a (x ∷ ts) us (inl h) = inl h
repeat_left a (x ∷ ts) us (inr h) = inr (repeat_left (keys_past a x) ts us h)

pub repeat_right : (a : List Keys) (ts us : List Token)
    → TokensRepeatFrom (keys_from a ts) us
    → TokensRepeatFrom a (ts ++ us)
repeat_right a [] us h = h
repeat_right a (x ∷ ts) us h = inr (repeat_right (keys_past a x) ts us h)

-- one token more
pub repeat_one : (ts : List Token) (x : Token)
    → TokensRepeat (ts ++ x ∷ [])
    → TokensRepeat ts ⊎ RepeatsAt (keys_from [] ts) x
repeat_one ts x h = by (repeat_append [] ts (x ∷ []) h)
  where
    by : TokensRepeatFrom [] ts ⊎ (RepeatsAt (keys_from [] ts) x ⊎ ⊥)
        → TokensRepeat ts ⊎ RepeatsAt (keys_from [] ts) x
    by (inl g) = inl g
    by (inr (inl g)) = inr g
    by (inr (inr g)) = absurd g

pub repeat_last : (ts : List Token) (x : Token)
    → RepeatsAt (keys_from [] ts) x
    → TokensRepeat (ts ++ x ∷ [])
repeat_last ts x h = repeat_right [] ts (x ∷ []) (inl h)

pub repeat_more : (ts : List Token) (x : Token)
    → TokensRepeat ts ⊎ RepeatsAt (keys_from [] ts) x
    → TokensRepeat (ts ++ x ∷ [])
repeat_more ts x (inl h) = repeat_left [] ts (x ∷ []) h
repeat_more ts x (inr h) = repeat_last ts x h

-- some name of the members is one of ks
abbrev Meets : Keys → Pairs → Type 0
Meets ks ps = (s : List ℕ) × Contains ks s × Contains (names ps) s

-- an end repeats nothing
before_end : (a : List Keys) (ts : List Token) (k : Kind)
    → TokensRepeatFrom a (ts ++ end k ∷ [])
    → TokensRepeatFrom a ts
before_end a ts k h = by (repeat_append a ts (end k ∷ []) h)
  where
    by : TokensRepeatFrom a ts ⊎ (⊥ ⊎ ⊥) → TokensRepeatFrom a ts
    by (inl g) = g
    by (inr (inl g)) = absurd g
    by (inr (inr g)) = absurd g

none_met : (ps : Pairs) → PairsRepeatKey ps ⊎ Meets [] ps → PairsRepeatKey ps
none_met ps (inl g) = g
none_met ps (inr (s, g, i)) = absurd (holds_none s g)

one_met : (s : List ℕ) (t : Tree) (ps : Pairs) (ks : Keys)
    → PairsRepeatKey ps ⊎ Meets (ks ++ s ∷ []) ps
    → PairsRepeatKey (pair_and s t ps) ⊎ Meets ks (pair_and s t ps)
one_met s t ps ks (inl g) = inl (inr (inr g))
one_met s t ps ks (inr (u, g, i)) = at (Contains-push_cases ks s u g)
  where
    at : Contains ks u ⊎ (s ≡ u) → PairsRepeatKey (pair_and s t ps) ⊎ Meets ks (pair_and s t ps)
    at (inl j) = inr (u, j, holds_tail s u (names ps) i)
    at (inr e) = inl (inl (subst (Contains (names ps)) (sym e) i))

mutual
  -- the tokens of a tree repeat a name where the tree does
  pub tree_repeats : (t : Tree) (a : List Keys) → TokensRepeatFrom a (tokens t) → RepeatsKey t
  tree_repeats null a (inl h) = h
  tree_repeats null a (inr h) = h
  tree_repeats (boolean b) a (inl h) = h
  tree_repeats (boolean b) a (inr h) = h
  tree_repeats (num l) a (inl h) = h
  tree_repeats (num l) a (inr h) = h
  tree_repeats (text s) a (inl h) = h
  tree_repeats (text s) a (inr h) = h
  tree_repeats (list ts) a (inl h) = absurd h
  tree_repeats (list ts) a (inr h) = trees_repeat ts ([] ∷ a) (before_end ([] ∷ a) (trees_tokens ts) array h)
  tree_repeats (pairs ps) a (inl h) = absurd h
  tree_repeats (pairs ps) a (inr h) = none_met ps (pairs_repeat ps [] a (before_end ([] ∷ a) (pairs_tokens ps) object h))

  trees_repeat : (ts : Trees) (a : List Keys)
      → TokensRepeatFrom a (trees_tokens ts)
      → TreesRepeatKey ts
  trees_repeat no_trees a h = h
  trees_repeat (tree_and t ts) a h = elim (repeat_append a (tokens t) (trees_tokens ts) h) [ inl g ↦ inl (tree_repeats t a g) | inr g ↦ inr (trees_repeat ts (keys_from a (tokens t)) g) ]

  pairs_repeat : (ps : Pairs) (ks : Keys) (a : List Keys)
      → TokensRepeatFrom (ks ∷ a) (pairs_tokens ps)
      → PairsRepeatKey ps ⊎ Meets ks ps
  pairs_repeat no_pairs ks a h = absurd h
  pairs_repeat (pair_and s t ps) ks a (inl h) = inr (s, h, holds_head s (names ps))
  pairs_repeat (pair_and s t ps) ks a (inr h) = elim (repeat_append ((ks ++ s ∷ []) ∷ a) (tokens t) (pairs_tokens ps) h) [
    | inl g ↦ inl (inr (inl (tree_repeats t ((ks ++ s ∷ []) ∷ a) g)))
    | inr g ↦ one_met s t ps ks (pairs_repeat ps (ks ++ s ∷ []) a (subst (λ o. TokensRepeatFrom o (pairs_tokens ps)) (keys_tree t ((ks ++ s ∷ []) ∷ a)) g))
  ]

-- past the value of a member
past_value : (s : List ℕ) (t : Tree) (ps : Pairs) (ks : Keys) (a : List Keys)
    → TokensRepeatFrom ((ks ++ s ∷ []) ∷ a) (pairs_tokens ps)
    → TokensRepeatFrom (ks ∷ a) (pairs_tokens (pair_and s t ps))
past_value s t ps ks a g = inr (repeat_right ((ks ++ s ∷ []) ∷ a) (tokens t) (pairs_tokens ps) (subst (λ o. TokensRepeatFrom o (pairs_tokens ps)) (sym (keys_tree t ((ks ++ s ∷ []) ∷ a))) g))

-- a name of the members that the object had before them
repeats_met : (ps : Pairs) (ks : Keys) (a : List Keys) (u : List ℕ)
    → Contains ks u
    → Contains (names ps) u
    → TokensRepeatFrom (ks ∷ a) (pairs_tokens ps)
repeats_met no_pairs ks a u h g = absurd (holds_none u g)
repeats_met (pair_and s t ps) ks a u h g = elim (holds_cases s u (names ps) g) [
  | inl e ↦ inl (subst (Contains ks) (sym e) h)
  | inr i ↦ past_value s t ps ks a (repeats_met ps (ks ++ s ∷ []) a u (Contains-append_left ks (s ∷ []) u h) i)
]

mutual
  -- and where the tree repeats a name its tokens do
  pub repeats_tree : (t : Tree) (a : List Keys) → RepeatsKey t → TokensRepeatFrom a (tokens t)
  repeats_tree null a h = absurd h
  repeats_tree (boolean b) a h = absurd h
  repeats_tree (num l) a h = absurd h
  repeats_tree (text s) a h = absurd h
  repeats_tree (list ts) a h = inr (repeat_left ([] ∷ a) (trees_tokens ts) (end array ∷ []) (repeats_trees ts ([] ∷ a) h))
  repeats_tree (pairs ps) a h = inr (repeat_left ([] ∷ a) (pairs_tokens ps) (end object ∷ []) (repeats_pairs ps [] a h))

  repeats_trees : (ts : Trees) (a : List Keys)
      → TreesRepeatKey ts
      → TokensRepeatFrom a (trees_tokens ts)
  repeats_trees no_trees a h = absurd h
  repeats_trees (tree_and t ts) a (inl h) = repeat_left a (tokens t) (trees_tokens ts) (repeats_tree t a h)
  repeats_trees (tree_and t ts) a (inr h) = repeat_right a (tokens t) (trees_tokens ts) (repeats_trees ts (keys_from a (tokens t)) h)

  repeats_pairs : (ps : Pairs) (ks : Keys) (a : List Keys)
      → PairsRepeatKey ps
      → TokensRepeatFrom (ks ∷ a) (pairs_tokens ps)
  repeats_pairs no_pairs ks a h = absurd h
  repeats_pairs (pair_and s t ps) ks a (inl g) = past_value s t ps ks a (repeats_met ps (ks ++ s ∷ []) a s (Contains-push ks s) g)
  repeats_pairs (pair_and s t ps) ks a (inr (inl g)) = inr (repeat_left ((ks ++ s ∷ []) ∷ a) (tokens t) (pairs_tokens ps) (repeats_tree t ((ks ++ s ∷ []) ∷ a) g))
  repeats_pairs (pair_and s t ps) ks a (inr (inr g)) = past_value s t ps ks a (repeats_pairs ps (ks ++ s ∷ []) a g)
