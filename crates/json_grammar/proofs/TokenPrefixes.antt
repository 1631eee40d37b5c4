-- The tokens that are accepted are those with which some tree's tokens begin.
use Rattle.std.proofs.Common.{◌≡◌, ℕ, Bool, List, [], ◌∷◌, ◌++◌, refl, sym, ap, ◌∙◌, subst, append_assoc, append-nil}
use Rattle.json_grammar.specs.declared.Kind.{Kind}
use Rattle.json_grammar.specs.declared.Kind.TheVariants.{Array as array, Object as object}
use Rattle.json_grammar.specs.Tree.{Tree, null, boolean, num, text, list, pairs, Trees, no_trees, tree_and, Pairs, no_pairs, pair_and, Token, null_token, boolean_token, num_token, text_token, begin, end, key_token, tokens, trees_tokens, pairs_tokens}
use Rattle.json_grammar.specs.declared.ExpectedPart.{ExpectedPart}
use Rattle.json_grammar.specs.Place.{reading}
use Rattle.json_grammar.specs.TokenStates.{TokenState, a_value, initial_state, expected_in, state_in, after_tokens, ValueMayCome, NameMayCome, EndMayCome, MayCome, Accepts, BeginsTree}
use Rattle.json_grammar.proofs.TokenStates.{accepts_append, accepts_front, accepts_back, nothing_after, after_tree, accepts_tree, place_accepts}

-- what is left of the open containers, with their ends
abbrev LeftOf : List Kind → List Token → Type 0
LeftOf [] xs = xs ≡ []
LeftOf (array ∷ c) xs = (us : Trees) × (ys : List Token) × LeftOf c ys × (xs ≡ trees_tokens us ++ end array ∷ ys)
LeftOf (object ∷ c) xs = (us : Pairs) × (ys : List Token) × LeftOf c ys × (xs ≡ pairs_tokens us ++ end object ∷ ys)

-- and a value before
abbrev ValueLeft : List Kind → List Token → Type 0
ValueLeft c xs = (t : Tree) × (ys : List Token) × LeftOf c ys × (xs ≡ tokens t ++ ys)

-- the shortest of that
ends : (c : List Kind) → (m : List Token) × LeftOf c m
ends [] = ([], refl)
ends (array ∷ c) = let r = ends c in (end array ∷ r.0, (no_trees, r.0, r.1, refl))
ends (object ∷ c) = let r = ends c in (end object ∷ r.0, (no_pairs, r.0, r.1, refl))

-- in an array a value is one element more
one_more : (c : List Kind) (xs : List Token) → ValueMayCome (expected_in c) → ValueLeft c xs → LeftOf c xs
one_more [] xs v l = absurd v
one_more (object ∷ c) xs v l = absurd v
one_more (array ∷ c) xs v (t, ys, (us, zs, l, e), f) = (tree_and t us, zs, l, f ∙ ap (λ o. tokens t ++ o) e ∙ sym (append_assoc (tokens t) (trees_tokens us) (end array ∷ zs)))

abbrev WithinGoesOn : List Token → Type 0
WithinGoesOn ts = (c : List Kind) → Accepts (state_in c) ts → (m : List Token) × LeftOf c (ts ++ m)

abbrev ValueGoesOn : List Token → Type 0
ValueGoesOn ts = (c : List Kind) → Accepts (record { opened = c; expected = a_value }) ts → (m : List Token) × ValueLeft c (ts ++ m)

-- a container that is left whole
opened_value : (k : Kind) (c : List Kind) (xs : List Token) → LeftOf (k ∷ c) xs → ValueLeft c (begin k ∷ xs)
opened_value array c xs (us, ys, l, e) = (list us, ys, l, ap (λ (o : List Token). begin array ∷ o) (e ∙ sym (append_assoc (trees_tokens us) (end array ∷ []) ys)))
opened_value object c xs (us, ys, l, e) = (pairs us, ys, l, ap (λ (o : List Token). begin object ∷ o) (e ∙ sym (append_assoc (pairs_tokens us) (end object ∷ []) ys)))

-- a token that begins a value, or is one
value_first : (x : Token) (ts : List Token) (c : List Kind) → WithinGoesOn ts → MayCome (record { opened = c; expected = a_value }) x → Accepts (after_tokens (record { opened = c; expected = a_value }) (x ∷ [])) ts → (m : List Token) × ValueLeft c (x ∷ ts ++ m)
value_first null_token ts c h v a = let r = h c a in (r.0, (null, ts ++ r.0, r.1, refl))
value_first (boolean_token b) ts c h v a = let r = h c a in (r.0, (boolean b, ts ++ r.0, r.1, refl))
value_first (num_token l) ts c h v a = let r = h c a in (r.0, (num l, ts ++ r.0, r.1, refl))
value_first (text_token s) ts c h v a = let r = h c a in (r.0, (text s, ts ++ r.0, r.1, refl))
value_first (begin k) ts c h v a = let r = h (k ∷ c) a in (r.0, opened_value k c (ts ++ r.0) r.1)
value_first (end k) ts c h v a = absurd v
value_first (key_token n) ts c h v a = absurd v

first_within : (x : Token) (ts : List Token) (c : List Kind) → WithinGoesOn ts → ValueGoesOn ts → Accepts (state_in c) (x ∷ ts) → (m : List Token) × LeftOf c (x ∷ ts ++ m)
first_within null_token ts c h g (v, a) = let r = value_first null_token ts c h tt a in (r.0, one_more c _ v r.1)
first_within (boolean_token b) ts c h g (v, a) = let r = value_first (boolean_token b) ts c h tt a in (r.0, one_more c _ v r.1)
first_within (num_token l) ts c h g (v, a) = let r = value_first (num_token l) ts c h tt a in (r.0, one_more c _ v r.1)
first_within (text_token s) ts c h g (v, a) = let r = value_first (text_token s) ts c h tt a in (r.0, one_more c _ v r.1)
first_within (begin k) ts c h g (v, a) = let r = value_first (begin k) ts c h tt a in (r.0, one_more c _ v r.1)
first_within (end k) ts c h g (v, a) = by k c v a
  where
    by : (k : Kind) (c : List Kind) → EndMayCome (expected_in c) k → Accepts (after_tokens (state_in c) (end k ∷ [])) ts → (m : List Token) × LeftOf c (end k ∷ ts ++ m)
    by k [] v a = absurd v
    by array (array ∷ c) v a = let r = h c a in (r.0, (no_trees, ts ++ r.0, r.1, refl))
    by object (object ∷ c) v a = let r = h c a in (r.0, (no_pairs, ts ++ r.0, r.1, refl))
    by array (object ∷ c) v a = absurd v
    by object (array ∷ c) v a = absurd v
first_within (key_token n) ts c h g (v, a) = by c v a
  where
    by : (c : List Kind) → NameMayCome (expected_in c) → Accepts (after_tokens (state_in c) (key_token n ∷ [])) ts → (m : List Token) × LeftOf c (key_token n ∷ ts ++ m)
    by [] v a = absurd v
    by (array ∷ c) v a = absurd v
    by (object ∷ c) v a =
        let (m, (t, ys, (us, zs, l, e), f)) = g (object ∷ c) a in
        (m, (pair_and n t us, zs, l, ap (λ (o : List Token). key_token n ∷ o) (f ∙ ap (λ o. tokens t ++ o) e ∙ sym (append_assoc (tokens t) (pairs_tokens us) (end object ∷ zs)))))

go_on : (ts : List Token) → WithinGoesOn ts × ValueGoesOn ts
go_on [] = (λ c a. ends c, λ c a. let r = ends c in (null_token ∷ r.0, (null, r.0, r.1, refl)))
go_on (x ∷ ts) = let h = go_on ts in (λ c a. first_within x ts c h.0 h.1 a, λ c a. value_first x ts c h.0 a.0 a.1)

-- ---- what is accepted

pub accepted_begins : (ts : List Token) → Accepts initial_state ts → BeginsTree ts
accepted_begins ts a =
    let (m, (t, ys, l, e)) = (go_on ts).1 [] a in
    (t, m, sym (append-nil (tokens t)) ∙ ap (λ o. tokens t ++ o) (sym l) ∙ sym e)

pub begins_accepted : (ts : List Token) → BeginsTree ts → Accepts initial_state ts
begins_accepted ts (t, m, e) = accepts_front initial_state ts m (subst (Accepts initial_state) e (accepts_tree initial_state t tt))

pub goes_on : (ts : List Token) (x : Token) → BeginsTree ts → MayCome (after_tokens initial_state ts) x → BeginsTree (ts ++ x ∷ [])
goes_on ts x b m = accepted_begins (ts ++ x ∷ []) (accepts_append initial_state ts (x ∷ []) (begins_accepted ts b) (m, tt))

pub may_come : (ts : List Token) (x : Token) → BeginsTree (ts ++ x ∷ []) → MayCome (after_tokens initial_state ts) x
may_come ts x b = (accepts_back initial_state ts (x ∷ []) (begins_accepted (ts ++ x ∷ []) b)).0

-- nothing follows the tokens of a tree
pub tree_alone : (t : Tree) (more : List Token) → Accepts initial_state (tokens t ++ more) → more ≡ []
tree_alone t more a = nothing_after more (subst (λ (s : TokenState). Accepts s more) (after_tree initial_state t) (accepts_back initial_state (tokens t) more a))

pub whole_tree : (ts : List Token) → Accepts initial_state ts → after_tokens initial_state ts ≡ state_in [] → (t : Tree) × (tokens t ≡ ts)
whole_tree ts a w =
    let (t, m, e) = accepted_begins ts a in
    let b = accepts_back initial_state ts m (subst (Accepts initial_state) e (accepts_tree initial_state t tt)) in
    let n = nothing_after m (subst (λ (s : TokenState). Accepts s m) w b) in
    (t, e ∙ ap (λ o. ts ++ o) n ∙ append-nil ts)

pub tree_whole : (ts : List Token) (t : Tree) → tokens t ≡ ts → Accepts initial_state ts × (after_tokens initial_state ts ≡ state_in [])
tree_whole ts t e = (subst (Accepts initial_state) e (accepts_tree initial_state t tt), ap (after_tokens initial_state) (sym e) ∙ after_tree initial_state t)

-- what is read of a prefix of a text begins the tokens of a tree
pub reading_begins : {lossy : Bool} {p : List ℕ} {c : List Kind} {w : ExpectedPart} {ts : List Token} → reading lossy p c w ts → BeginsTree ts
reading_begins {ts = ts} h = accepted_begins ts (place_accepts h)
