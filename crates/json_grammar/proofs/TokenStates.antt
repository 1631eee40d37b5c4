-- The states after tokens in turn, after those of a tree, and at the places of a text.
use Rattle.std.proofs.Common.{◌≡◌, ◌≢◌, Bool, ℕ, List, [], ◌∷◌, ◌++◌, refl, sym, ap, ◌∙◌, subst}
use Rattle.std.specs.Prelude.{◌↔◌}
use Rattle.json_grammar.specs.declared.Kind.{Kind}
use Rattle.json_grammar.specs.declared.Kind.TheVariants.{Array as array, Object as object}
use Rattle.json_grammar.specs.declared.ExpectedPart.{ExpectedPart}
use Rattle.json_grammar.specs.declared.ExpectedPart.TheVariants.{Value as at_value, First as first, Key as key, KeyOrEnd as key_or_end, Colon as colon, Done as done}
use Rattle.json_grammar.specs.Tree.{Tree, null, boolean, num, text, list, pairs, Trees, no_trees, tree_and, Pairs, no_pairs, pair_and, Token, null_token, boolean_token, num_token, text_token, begin, end, key_token, tokens, trees_tokens, pairs_tokens}
use Rattle.json_grammar.specs.Place.{outside, reading, start, open_one, read_value, read_comma, read_key, read_colon, TakesValue, takes_at_value, takes_first, TakesKey, takes_key, takes_key_or_end, opened, after_comma}
use Rattle.json_grammar.specs.TokenStates.{TokenState, Expected, a_value, nothing, initial_state, state_in, state_after_value, after_token, after_tokens, ValueMayCome, NameMayCome, MayCome, Accepts, expected_at, state_at}

-- ---- tokens in turn

pub after_append : (s : TokenState) (ts us : List Token) → after_tokens s (ts ++ us) ≡ after_tokens (after_tokens s ts) us
after_append s [] us = refl
after_append s (x ∷ ts) us = after_append (after_token s x) ts us

pub accepts_append : (s : TokenState) (ts us : List Token) → Accepts s ts → Accepts (after_tokens s ts) us → Accepts s (ts ++ us)
accepts_append s [] us a b = b
accepts_append s (x ∷ ts) us a b = (a.0, accepts_append (after_token s x) ts us a.1 b)

pub accepts_front : (s : TokenState) (ts us : List Token) → Accepts s (ts ++ us) → Accepts s ts
accepts_front s [] us a = tt
accepts_front s (x ∷ ts) us a = (a.0, accepts_front (after_token s x) ts us a.1)

pub accepts_back : (s : TokenState) (ts us : List Token) → Accepts s (ts ++ us) → Accepts (after_tokens s ts) us
accepts_back s [] us a = a
accepts_back s (x ∷ ts) us a = accepts_back (after_token s x) ts us a.1

-- nothing follows a whole value
pub none_after : (x : Token) → MayCome (state_in []) x → ⊥
none_after null_token m = m
none_after (boolean_token b) m = m
none_after (num_token l) m = m
none_after (text_token t) m = m
none_after (begin k) m = m
none_after (end k) m = m
none_after (key_token n) m = m

pub nothing_after : (ts : List Token) → Accepts (state_in []) ts → ts ≡ []
nothing_after [] a = refl
nothing_after (x ∷ ts) a = absurd (none_after x a.0)

-- ---- the containers that are open

-- nothing may follow where no container is open, and nowhere else: so it is in each state but the
-- first
abbrev pub Agrees : TokenState → Type 0
Agrees s = s.expected ≡ nothing ↔ s.opened ≡ []

agrees_within : (c : List Kind) → Agrees (state_in c)
agrees_within [] = (λ e. refl, λ e. refl)
agrees_within (array ∷ c) = (λ e. absurd (cc), λ e. absurd (cc))
agrees_within (object ∷ c) = (λ e. absurd (cc), λ e. absurd (cc))

agrees_name : (s : TokenState) → Agrees s → NameMayCome s.expected → Agrees (record s { expected = a_value })
agrees_name s h m = (λ e. absurd (cc), λ e. absurd (subst NameMayCome (h.1 e) m))

agrees_token : (s : TokenState) (x : Token) → Agrees s → MayCome s x → Agrees (after_token s x)
agrees_token s null_token h m = agrees_within s.opened
agrees_token s (boolean_token b) h m = agrees_within s.opened
agrees_token s (num_token l) h m = agrees_within s.opened
agrees_token s (text_token t) h m = agrees_within s.opened
agrees_token s (begin k) h m = agrees_within (k ∷ s.opened)
agrees_token s (end k) h m = agrees_within (outside s.opened)
agrees_token s (key_token n) h m = agrees_name s h m

agrees_first : (x : Token) → MayCome initial_state x → Agrees (after_token initial_state x)
agrees_first null_token m = agrees_within []
agrees_first (boolean_token b) m = agrees_within []
agrees_first (num_token l) m = agrees_within []
agrees_first (text_token t) m = agrees_within []
agrees_first (begin k) m = agrees_within (k ∷ [])
agrees_first (end k) m = absurd m
agrees_first (key_token n) m = absurd m

agrees_after : (s : TokenState) (ts : List Token) → Agrees s → Accepts s ts → Agrees (after_tokens s ts)
agrees_after s [] h a = h
agrees_after s (x ∷ ts) h a = agrees_after (after_token s x) ts (agrees_token s x h a.0) a.1

pub agrees : (x : Token) (ts : List Token) → Accepts initial_state (x ∷ ts) → Agrees (after_tokens initial_state (x ∷ ts))
agrees x ts a = agrees_after (after_token initial_state x) ts (agrees_first x a.0) a.1

-- ---- the tokens of a tree

mutual
  pub after_tree : (s : TokenState) (t : Tree) → after_tokens s (tokens t) ≡ state_after_value s
  after_tree s null = refl
  after_tree s (boolean b) = refl
  after_tree s (num l) = refl
  after_tree s (text t) = refl
  after_tree s (list ts) =
      after_append (state_in (array ∷ s.opened)) (trees_tokens ts) (end array ∷ []) ∙ ap (λ (z : TokenState). after_token z (end array)) (after_trees s.opened ts)
  after_tree s (pairs ps) =
      after_append (state_in (object ∷ s.opened)) (pairs_tokens ps) (end object ∷ []) ∙ ap (λ (z : TokenState). after_token z (end object)) (after_pairs s.opened ps)

  pub after_trees : (c : List Kind) (ts : Trees) → after_tokens (state_in (array ∷ c)) (trees_tokens ts) ≡ state_in (array ∷ c)
  after_trees c no_trees = refl
  after_trees c (tree_and t ts) =
      after_append (state_in (array ∷ c)) (tokens t) (trees_tokens ts) ∙ ap (λ (z : TokenState). after_tokens z (trees_tokens ts)) (after_tree (state_in (array ∷ c)) t) ∙ after_trees c ts

  pub after_pairs : (c : List Kind) (ps : Pairs) → after_tokens (state_in (object ∷ c)) (pairs_tokens ps) ≡ state_in (object ∷ c)
  after_pairs c no_pairs = refl
  after_pairs c (pair_and k t ps) =
      let s : TokenState = record { opened = object ∷ c; expected = a_value } in
      after_append s (tokens t) (pairs_tokens ps) ∙ ap (λ (z : TokenState). after_tokens z (pairs_tokens ps)) (after_tree s t) ∙ after_pairs c ps

mutual
  pub accepts_tree : (s : TokenState) (t : Tree) → ValueMayCome s.expected → Accepts s (tokens t)
  accepts_tree s null v = (v, tt)
  accepts_tree s (boolean b) v = (v, tt)
  accepts_tree s (num l) v = (v, tt)
  accepts_tree s (text t) v = (v, tt)
  accepts_tree s (list ts) v = (
    v,
    accepts_append (state_in (array ∷ s.opened)) (trees_tokens ts) (end array ∷ []) (accepts_trees s.opened ts)
        (subst (λ (z : TokenState). Accepts z (end array ∷ [])) (sym (after_trees s.opened ts)) (tt, tt)),
  )
  accepts_tree s (pairs ps) v = (
    v,
    accepts_append (state_in (object ∷ s.opened)) (pairs_tokens ps) (end object ∷ []) (accepts_pairs s.opened ps)
        (subst (λ (z : TokenState). Accepts z (end object ∷ [])) (sym (after_pairs s.opened ps)) (tt, tt)),
  )

  pub accepts_trees : (c : List Kind) (ts : Trees) → Accepts (state_in (array ∷ c)) (trees_tokens ts)
  accepts_trees c no_trees = tt
  accepts_trees c (tree_and t ts) =
      accepts_append (state_in (array ∷ c)) (tokens t) (trees_tokens ts) (accepts_tree (state_in (array ∷ c)) t tt)
      (subst (λ (z : TokenState). Accepts z (trees_tokens ts)) (sym (after_tree (state_in (array ∷ c)) t)) (accepts_trees c ts))

  pub accepts_pairs : (c : List Kind) (ps : Pairs) → Accepts (state_in (object ∷ c)) (pairs_tokens ps)
  accepts_pairs c no_pairs = tt
  accepts_pairs c (pair_and k t ps) =
      let s : TokenState = record { opened = object ∷ c; expected = a_value } in (
        tt,
        accepts_append s (tokens t) (pairs_tokens ps) (accepts_tree s t tt)
            (subst (λ (z : TokenState). Accepts z (pairs_tokens ps)) (sym (after_tree s t)) (accepts_pairs c ps)),
      )

-- ---- the places of a text

no_name : {w : ExpectedPart} → TakesKey w → w ≢ key → w ≢ key_or_end → ⊥
no_name takes_key n m = n refl
no_name takes_key_or_end n m = m refl

-- a name may begin in an object alone
pub name_in_object : {lossy : Bool} {p : List ℕ} {c : List Kind} {w : ExpectedPart} {ts : List Token} → reading lossy p c w ts → TakesKey w → (d : List Kind) × (c ≡ object ∷ d)
name_in_object (start h) k = absurd (no_name k (λ e. cc) (λ e. cc))
name_in_object (open_one array h t q) k = absurd (no_name k (λ e. cc) (λ e. cc))
name_in_object (open_one {c = c} object h t q) k = (c, refl)
name_in_object (read_value t h n q) k = absurd (no_name k (λ e. cc) (λ e. cc))
name_in_object (read_comma array h q) k = absurd (no_name k (λ e. cc) (λ e. cc))
name_in_object (read_comma {c = c} object h q) k = (c, refl)
name_in_object (read_key s h n q) k = absurd (no_name k (λ e. cc) (λ e. cc))
name_in_object (read_colon h q) k = absurd (no_name k (λ e. cc) (λ e. cc))

open_state : (k : Kind) (c : List Kind) → state_in (k ∷ c) ≡ state_at (opened k) (k ∷ c)
open_state array c = refl
open_state object c = refl

comma_state : (k : Kind) (c : List Kind) → state_at done (k ∷ c) ≡ state_at (after_comma k) (k ∷ c)
comma_state array c = refl
comma_state object c = refl

pub place_state : {lossy : Bool} {p : List ℕ} {c : List Kind} {w : ExpectedPart} {ts : List Token} → reading lossy p c w ts → after_tokens initial_state ts ≡ state_at w c
place_state (start h) = refl
place_state (open_one {c = c} {ts = ts} k h t q) = after_append initial_state ts (begin k ∷ []) ∙ ap (λ (z : TokenState). state_in (k ∷ z.opened)) (place_state h) ∙ open_state k c
place_state (read_value {ts = ts} t h n q) = after_append initial_state ts (tokens t) ∙ after_tree (after_tokens initial_state ts) t ∙ ap (λ (z : TokenState). state_after_value z) (place_state h)
place_state (read_comma {c = c} k h q) = place_state h ∙ comma_state k c
place_state (read_key {c = c} {ts = ts} s h n q) =
    let e = name_in_object h n in
    let f : (d : List Kind) → c ≡ object ∷ d → ◌≡◌ {A = TokenState} (record { opened = c; expected = a_value }) (state_at colon c) = λ d i. subst (λ (b : List Kind). ◌≡◌ {A = TokenState} (record { opened = b; expected = a_value }) (state_at colon b)) (sym i) refl in
    after_append initial_state ts (key_token s ∷ []) ∙ ap (λ (z : TokenState). after_token z (key_token s)) (place_state h) ∙ f e.0 e.1
place_state (read_colon h q) = place_state h

value_there : (w : ExpectedPart) (c : List Kind) → TakesValue w → ValueMayCome (expected_at w c)
value_there w [] takes_at_value = tt
value_there w (array ∷ c) takes_at_value = tt
value_there w (object ∷ c) takes_at_value = tt
value_there w c takes_first = tt

name_there : (w : ExpectedPart) (c : List Kind) → TakesKey w → NameMayCome (expected_at w c)
name_there w c takes_key = tt
name_there w c takes_key_or_end = tt

-- what holds at the place holds after its tokens
after_place : (w : ExpectedPart) (c : List Kind) (z : TokenState) → z ≡ state_at w c → (P : Expected → Type 0) → P (expected_at w c) → P z.expected
after_place w c z e P h = subst (λ (y : TokenState). P y.expected) (sym e) h

pub place_accepts : {lossy : Bool} {p : List ℕ} {c : List Kind} {w : ExpectedPart} {ts : List Token} → reading lossy p c w ts → Accepts initial_state ts
place_accepts (start h) = tt
place_accepts (open_one {c = c} {w = w} {ts = ts} k h t q) =
    accepts_append initial_state ts (begin k ∷ []) (place_accepts h) (after_place w c (after_tokens initial_state ts) (place_state h) ValueMayCome (value_there w c t), tt)
place_accepts (read_value {c = c} {w = w} {ts = ts} t h n q) =
    accepts_append initial_state ts (tokens t) (place_accepts h)
    (accepts_tree (after_tokens initial_state ts) t (after_place w c (after_tokens initial_state ts) (place_state h) ValueMayCome (value_there w c n)))
place_accepts (read_comma k h q) = place_accepts h
place_accepts (read_key {c = c} {w = w} {ts = ts} s h n q) =
    accepts_append initial_state ts (key_token s ∷ []) (place_accepts h) (after_place w c (after_tokens initial_state ts) (place_state h) NameMayCome (name_there w c n), tt)
place_accepts (read_colon h q) = place_accepts h

-- nothing may follow after a whole value alone
pub whole_place : (w : ExpectedPart) (c : List Kind) → expected_at w c ≡ nothing → (w ≡ done) × (c ≡ [])
whole_place done [] e = (refl, refl)
whole_place done (array ∷ c) e = absurd (cc)
whole_place done (object ∷ c) e = absurd (cc)
whole_place at_value [] e = absurd (cc)
whole_place at_value (array ∷ c) e = absurd (cc)
whole_place at_value (object ∷ c) e = absurd (cc)
whole_place colon [] e = absurd (cc)
whole_place colon (array ∷ c) e = absurd (cc)
whole_place colon (object ∷ c) e = absurd (cc)
whole_place first c e = absurd (cc)
whole_place key c e = absurd (cc)
whole_place key_or_end c e = absurd (cc)
