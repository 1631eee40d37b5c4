-- Whether a name repeats in a prefix, and where the first one does.
use Rattle.std.proofs.Common.{Bool, true, false, ◌≡◌, ◌≢◌, ℕ, ◌<◌, ◌≤◌, List, [], ◌∷◌, ◌++◌, length, ◌⊎◌, inl, inr, refl, sym, ap, ◌∙◌, subst, arith, append_assoc, append-nil, length-append}
use Rattle.std.specs.List.{Contains}
use Rattle.json_grammar.specs.declared.Kind.{Kind}
use Rattle.json_grammar.specs.declared.ExpectedPart.{ExpectedPart}
use Rattle.json_grammar.specs.Tree.{Tree, null, boolean, num, text, Token, key_token, begin, end, tokens}
use Rattle.json_grammar.specs.Grammar.{chars, string, value, is_text}
use Rattle.json_grammar.specs.Place.{TakesKey, reading, read_value}
use Rattle.json_grammar.specs.Fault.{before_value, before_string, is_word, in_word, in_string}
use Rattle.json_grammar.specs.Repeated.{RepeatsKey, open_keys, keys_from, TokensRepeatFrom, TokensRepeat, repeated}
use Rattle.json_grammar.proofs.Atoms.{chars_atoms, atoms_chars, atoms_append, atoms_one}
use Rattle.json_grammar.proofs.Lists.{some_length, holds_or_not}
use Rattle.json_grammar.proofs.OpenKeys.{repeat_append, repeat_one, tree_repeats, repeats_tree}
use Rattle.json_grammar.proofs.TokenSteps.{IsScalar, TokenSteps, at_start, by_space, by_bracket, by_scalar, by_end, by_comma, by_key, by_colon, steps_reading, reading_steps}
use Rattle.json_grammar.proofs.RepeatedNames.{scalar_never, NameAt, name_in, repeated_at, at_repeated, repeated_more, name_within, at_or_behind, repeated_tokens, name_here, Here, before_it, that_one, here}
use Rattle.json_grammar.proofs.OneFault.{End, at_place, within_word, within_number, within_string, Stands}
use Rattle.json_grammar.proofs.InputSteps.{text_place}

module _ (lossy : Bool) where
  -- no name repeats
  abbrev pub NoneIn : List ℕ → Type 0
  NoneIn p = (j : ℕ) → repeated lossy p j → ⊥

  -- the first one
  pub record FirstIn (p : List ℕ) : Type 0 where
    pub k : ℕ
    pub at : repeated lossy p k
    pub least : (j : ℕ) → j < k → repeated lossy p j → ⊥

  -- a scalar repeats nothing
  pub scalar_silent : (t : Tree) (ts : List Token)
      → IsScalar t
      → TokensRepeat (ts ++ tokens t)
      → TokensRepeat ts
  scalar_silent t ts x h = by (repeat_append [] ts (tokens t) h)
    where
      by : TokensRepeatFrom [] ts ⊎ TokensRepeatFrom (keys_from [] ts) (tokens t) → TokensRepeat ts
      by (inl g) = g
      by (inr g) = absurd (scalar_never t x (tree_repeats t (keys_from [] ts) g))

  no_name : {A : Type 0} → A ⊎ ⊥ → A
  no_name (inl g) = g
  no_name (inr g) = absurd g

  -- some name repeats
  abbrev pub SomeIn : List ℕ → Type 0
  SomeIn p = (k : ℕ) × repeated lossy p k

  more : (p q : List ℕ) → SomeIn p → SomeIn (p ++ q)
  more p q (k, h) = (k, repeated_more lossy p q k h)

  -- a name that repeats in the tokens repeats in the bytes
  pub tokens_repeated : {p : List ℕ} {c : List Kind} {w : ExpectedPart} {ts : List Token}
      → TokenSteps lossy p c w ts
      → TokensRepeat ts
      → SomeIn p
  tokens_repeated at_start g = absurd g
  tokens_repeated (by_space {p = p} z h i) g = more p z (tokens_repeated h g)
  tokens_repeated (by_bracket {p = p} {ts = ts} k h n) g = more p _ (tokens_repeated h (no_name (repeat_one ts (begin k) g)))
  tokens_repeated (by_scalar {p = p} {ts = ts} t v x h n i) g = more p v (tokens_repeated h (scalar_silent t ts x g))
  tokens_repeated (by_end {p = p} {ts = ts} k h n) g = more p _ (tokens_repeated h (no_name (repeat_one ts (end k) g)))
  tokens_repeated (by_comma {p = p} k h) g = more p _ (tokens_repeated h g)
  tokens_repeated (by_key {p = p} {ts = ts} s v h n i) g = elim (repeat_one ts (key_token s) g) [
    | inl j ↦ more p v (tokens_repeated h j)
    | inr j ↦ (length p, name_here lossy s v (steps_reading lossy h) n i j)
  ]
  tokens_repeated (by_colon {p = p} h) g = more p _ (tokens_repeated h g)

  pub reading_repeats : {p : List ℕ} {c : List Kind} {w : ExpectedPart} {ts : List Token}
      → reading lossy p c w ts
      → TokensRepeat ts
      → SomeIn p
  reading_repeats h g = tokens_repeated (reading_steps lossy h) g

  pub repeats_reading : {p : List ℕ} {c : List Kind} {w : ExpectedPart} {ts : List Token} (k : ℕ)
      → reading lossy p c w ts
      → repeated lossy p k
      → TokensRepeat ts
  repeats_reading {p} k h r = repeated_tokens lossy k h (repeated_at lossy p k r)

  pub within : (p : List ℕ) (k : ℕ) → repeated lossy p k → k < length p
  within p k r = name_within lossy p k (repeated_at lossy p k r)

  -- a repeated name of a text is one of its tree
  pub text_repeats : (t : Tree) (b : List ℕ) (k : ℕ)
      → is_text lossy t b
      → repeated lossy b k
      → RepeatsKey t
  text_repeats t b k h r = tree_repeats t [] (repeats_reading k (text_place lossy 0 t b h) r)

  pub repeats_text : (t : Tree) (b : List ℕ) → is_text lossy t b → RepeatsKey t → SomeIn b
  repeats_text t b h r = reading_repeats (text_place lossy 0 t b h) (repeats_tree t [] r)

  -- ---- the first one

  -- the first one of a prefix is the first of all that goes on so
  pub first_more : {c : List Kind} {w : ExpectedPart} {ts : List Token} (p q : List ℕ)
      → reading lossy p c w ts
      → FirstIn p
      → FirstIn (p ++ q)
  first_more p q h f = record { k = f.k; at = repeated_more lossy p q f.k f.at; least = λ j l r. by j l (at_or_behind lossy p q j h r) }
    where
      by : (j : ℕ) → j < f.k → repeated lossy p j ⊎ (length p ≤ j) → ⊥
      by j l (inl r) = f.least j l r
      by j l (inr m) = let i = within p f.k f.at in omega arith

  -- what tells no name that its object has
  silent : {c c' : List Kind} {w w' : ExpectedPart} {ts ts' : List Token} (p q : List ℕ)
      → reading lossy p c w ts
      → reading lossy (p ++ q) c' w' ts'
      → (TokensRepeat ts' → TokensRepeat ts)
      → NoneIn p ⊎ FirstIn p
      → NoneIn (p ++ q) ⊎ FirstIn (p ++ q)
  silent p q h h' f (inl n) = inl (λ j r. let g = reading_repeats h (f (repeats_reading j h' r)) in n g.0 g.1)
  silent p q h h' f (inr i) = inr (first_more p q h i)

  name_on : {c : List Kind} {w : ExpectedPart} {ts : List Token} (p s v : List ℕ)
      → reading lossy p c w ts
      → TakesKey w
      → string lossy s v
      → NoneIn p ⊎ FirstIn p
      → NoneIn (p ++ v) ⊎ FirstIn (p ++ v)
  name_on p s v h n i (inr f) = inr (first_more p v h f)
  name_on {c} {w} {ts} p s v h n i (inl o) = by (holds_or_not (open_keys ts) s)
    where
      by : Contains (open_keys ts) s ⊎ ¬ (Contains (open_keys ts) s)
          → NoneIn (p ++ v) ⊎ FirstIn (p ++ v)
      by (inl g) = inr (record { k = length p; at = name_here lossy s v h n i g; least = λ j l r. at j l (at_or_behind lossy p v j h r) })
        where
          at : (j : ℕ) → j < length p → repeated lossy p j ⊎ (length p ≤ j) → ⊥
          at j l (inl r) = o j r
          at j l (inr m) = omega arith
      by (inr g) = inl (λ j r. let a = repeated_at lossy (p ++ v) j r in at j a (here lossy p v j s h n i a))
        where
          at : (j : ℕ) (a : NameAt lossy (p ++ v) j) → Here lossy p v j ts s a → ⊥
          at j a (before_it b) = o j (at_repeated lossy p j b)
          at j a (that_one e d f) = g d

  search : {p : List ℕ} {c : List Kind} {w : ExpectedPart} {ts : List Token}
      → TokenSteps lossy p c w ts
      → NoneIn p ⊎ FirstIn p
  search at_start = inl (λ j r. let i = within [] j r in omega arith)
  search (by_space {p = p} z h i) = silent p z (steps_reading lossy h) (steps_reading lossy (by_space z h i)) (λ g. g) (search h)
  search (by_bracket {p = p} {ts = ts} k h n) = silent p _ (steps_reading lossy h) (steps_reading lossy (by_bracket k h n)) (λ g. no_name (repeat_one ts (begin k) g)) (search h)
  search (by_scalar {p = p} {ts = ts} t v x h n i) = silent p v (steps_reading lossy h) (steps_reading lossy (by_scalar t v x h n i)) (λ g. scalar_silent t ts x g) (search h)
  search (by_end {p = p} {ts = ts} k h n) = silent p _ (steps_reading lossy h) (steps_reading lossy (by_end k h n)) (λ g. no_name (repeat_one ts (end k) g)) (search h)
  search (by_comma {p = p} k h) = silent p _ (steps_reading lossy h) (steps_reading lossy (by_comma k h)) (λ g. g) (search h)
  search (by_key {p = p} s v h n i) = name_on p s v (steps_reading lossy h) n i (search h)
  search (by_colon {p = p} h) = silent p _ (steps_reading lossy h) (steps_reading lossy (by_colon h)) (λ g. g) (search h)

  pub search_place : {p : List ℕ} {c : List Kind} {w : ExpectedPart} {ts : List Token}
      → reading lossy p c w ts
      → NoneIn p ⊎ FirstIn p
  search_place h = search (reading_steps lossy h)

  -- ---- within a token

  -- r is the beginning of r and z, which tell no name that its object has
  part : {c c' : List Kind} {w w' : ExpectedPart} {ts ts' : List Token} (q r z : List ℕ)
      → reading lossy q c w ts
      → reading lossy (q ++ (r ++ z)) c' w' ts'
      → (TokensRepeat ts' → TokensRepeat ts)
      → NoneIn q
      → NoneIn (q ++ r)
  part q r z h h' f n j a = let g = reading_repeats h (f (repeats_reading j h' (subst (λ o. repeated lossy o j) (append_assoc q r z) (repeated_more lossy (q ++ r) z j a)))) in n g.0 g.1

  -- no name repeats that is not whole
  name_part : {c : List Kind} {w : ExpectedPart} {ts : List Token} (q s r z : List ℕ)
      → reading lossy q c w ts
      → TakesKey w
      → string lossy s (r ++ z)
      → z ≢ []
      → NoneIn q
      → NoneIn (q ++ r)
  name_part {c} {w} {ts} q s r z h n i m o j a = by (repeated_at lossy (q ++ r) j a)
    where
      moved : NameAt lossy (q ++ r) j → NameAt lossy (q ++ (r ++ z)) j
      moved b = name_in lossy (q ++ (r ++ z)) b (b.rest ++ z)
          (sym (append_assoc q r z) ∙ ap (λ o. o ++ z) b.bytes ∙ append_assoc b.q (b.v ++ b.rest) z ∙ ap (λ o. b.q ++ o) (append_assoc b.v b.rest z))

      by : NameAt lossy (q ++ r) j → ⊥
      by b = at (here lossy q (r ++ z) j s h n i (moved b))
        where
          at : Here lossy q (r ++ z) j ts s (moved b) → ⊥
          at (before_it d) = o j (at_repeated lossy q j d)
          at (that_one e d f) =
              let g : length b.v ≡ length (r ++ z) = ap length f in
              let k : length (q ++ r) ≡ length (b.q ++ (b.v ++ b.rest)) = ap length b.bytes in
              let l = b.offset in
              let y = some_length z m in
              omega (arith, length-append q r, length-append r z, length-append b.q (b.v ++ b.rest), length-append b.v b.rest)

  behind : (q r p : List ℕ)
      → p ≡ q ++ r
      → {c : List Kind} {w : ExpectedPart} {ts : List Token}
      → reading lossy q c w ts
      → (NoneIn q → NoneIn (q ++ r))
      → NoneIn p ⊎ FirstIn p
  behind q r p e h f = subst (λ o. NoneIn o ⊎ FirstIn o) (sym e) (by (search_place h))
    where
      by : NoneIn q ⊎ FirstIn q → NoneIn (q ++ r) ⊎ FirstIn (q ++ r)
      by (inl n) = inl (f n)
      by (inr i) = inr (first_more q r h i)

  scalar_part : (p q r z : List ℕ) (t : Tree)
      → p ≡ q ++ r
      → IsScalar t
      → before_value lossy q
      → value lossy t (r ++ z)
      → NoneIn p ⊎ FirstIn p
  scalar_part p q r z t e x (c, w, (ts, h), n) i = behind q r p e h (part q r z h (read_value t h n (r ++ z, [], sym (append-nil (r ++ z)), i, tt)) (λ g. scalar_silent t ts x g))

  word_part : (p : List ℕ) → in_word lossy p → NoneIn p ⊎ FirstIn p
  word_part p i = by i.word
    where
      by : is_word (i.r ++ i.rest) → NoneIn p ⊎ FirstIn p
      by (inl e) = scalar_part p i.q i.r i.rest null i.bytes tt i.at e
      by (inr (inl e)) = scalar_part p i.q i.r i.rest (boolean true) i.bytes tt i.at e
      by (inr (inr e)) = scalar_part p i.q i.r i.rest (boolean false) i.bytes tt i.at e

  string_part : (p e : List ℕ) → in_string lossy p e → NoneIn p ⊎ FirstIn p
  string_part p e i = go (atoms_chars lossy (atoms_append lossy (chars_atoms lossy i.so_far) (atoms_one lossy i.goes_on))) i.at
    where
      some : (z : List ℕ) → z ++ 34 ∷ [] ≢ []
      some [] f = cc
      some (x ∷ z) f = cc

      go : (s : List ℕ) × chars lossy s (i.c ++ (e ++ i.rest))
          → before_string lossy i.q
          → NoneIn p ⊎ FirstIn p
      go (s, h) (c, w, (ts, a), inl n) = scalar_part p i.q (34 ∷ (i.c ++ e)) (i.rest ++ 34 ∷ []) (text s) i.bytes tt (c, w, (ts, a), n) (i.c ++ (e ++ i.rest), ap (λ o. 34 ∷ o) (simp append_assoc), h)
      go (s, h) (c, w, (ts, a), inr n) = behind i.q (34 ∷ (i.c ++ e)) p i.bytes a (name_part i.q s (34 ∷ (i.c ++ e)) (i.rest ++ 34 ∷ []) a n (i.c ++ (e ++ i.rest), ap (λ o. 34 ∷ o) (simp append_assoc), h) (some i.rest))

  -- wherever a prefix ends
  pub search_end : (p : List ℕ) (a : End) → Stands lossy p a → NoneIn p ⊎ FirstIn p
  search_end p (at_place c w) (ts, h) = search_place h
  search_end p within_word h = word_part p h
  search_end p within_number h = scalar_part p h.q h.r h.rest (num (h.r ++ h.rest)) h.bytes tt h.at (h.goes_on, refl)
  search_end p (within_string e) h = string_part p e h
