-- What a reader that is asked for unique names keeps, and when it refuses.
use Rattle.std.proofs.Common.{Bool, true, false, ◌≡◌, ◌≢◌, ℕ, ◌+◌, ◌-◌, ◌<◌, ◌≤◌, List, [], ◌∷◌, ◌++◌, length, take, drop, ◌⊎◌, inl, inr, ◌↔◌, refl, sym, ap, ◌∙◌, subst, arith, append_assoc, append-nil, length-append}
use Rattle.std.specs.List.{Contains}
use Rattle.std.proofs.lemmas.Bool.{cases_lt}
use Rattle.std.proofs.lemmas.List.{take-append-drop, length-take-le, append_cancel_left}
use Rattle.json_grammar.specs.declared.Kind.{Kind}
use Rattle.json_grammar.specs.declared.Kind.TheVariants.{Object as object}
use Rattle.json_grammar.specs.declared.ExpectedPart.{ExpectedPart}
use Rattle.json_grammar.specs.declared.ExpectedPart.TheVariants.{Colon as colon}
use Rattle.json_grammar.specs.Tree.{Tree, null, boolean, num, Token, key_token}
use Rattle.json_grammar.specs.Grammar.{number, string, value}
use Rattle.json_grammar.specs.Place.{TakesValue, TakesKey, viable_prefix, reading, read_value, read_key}
use Rattle.json_grammar.specs.Given.{piece, LastEnds, PrefixAt, NamesReturned, NoNameEnds}
use Rattle.json_grammar.specs.Levels.{peak}
use Rattle.json_grammar.specs.Fault.{opens, FaultCode, eof_while_parsing, recursion_limit_exceeded, duplicate_key, is_word, fault, row, longest}
use Rattle.json_grammar.specs.Repeated.{open_keys, TokensRepeat, repeated}
use Rattle.json_grammar.specs.Rules.{Rules, fault_with}
use Rattle.json_grammar.proofs.Lists.{cons_nil, none_before, none_behind, some_by, some_or_none}
use Rattle.json_grammar.proofs.Moves.{take_on}
use Rattle.json_grammar.proofs.Pieces.{piece_append, drop_piece, piece_length}
use Rattle.json_grammar.proofs.Opens.{opens_reading}
use Rattle.json_grammar.proofs.Reading.{one_place, colon_not_done}
use Rattle.json_grammar.proofs.OneValue.{take_front, drop_front}
use Rattle.json_grammar.proofs.Faults.{word_no_place, number_no_place}
use Rattle.json_grammar.proofs.RepeatedNames.{NameAt, name_in, repeated_at, at_repeated, repeated_more, at_or_behind, inside_string, reading_more, repeated_tokens, name_here, Here, before_it, that_one, here}
use Rattle.json_grammar.proofs.FirstRepeated.{within, repeats_reading}
use Rattle.json_grammar.proofs.RepeatedInput.{before_bracket, in_longest}

-- tokens that begin themselves are no more
no_more : (ts m : List Token) → ts ≡ ts ++ m → m ≡ []
no_more ts m e = sym (append_cancel_left ts [] m (append-nil ts ∙ e))

key_more : (us m : List Token) (x : Token) → us ≡ (us ++ x ∷ []) ++ m → ⊥
key_more us m x e = cons_nil x m (no_more us ((x ∷ []) ++ m) (e ∙ append_assoc us (x ∷ []) m))

-- where a number goes no further with more bytes it does not with fewer
ends_front : (w : ExpectedPart) (ts : List Token) (z r : List ℕ) → LastEnds w ts (z ++ r) → LastEnds w ts z
ends_front w ts z r h e l a f x m n g i = h e l a f x (m ++ r) n (ap (λ o. o ++ r) g) i

module _ (lossy : Bool) where
  -- ---- one name more

  pub key_repeats : {c : List Kind} {w : ExpectedPart} {ts : List Token} (q v s : List ℕ)
      → reading lossy q c w ts
      → TakesKey w
      → string lossy s v
      → (repeated lossy (q ++ v) (length q) ↔ Contains (open_keys ts) s) × ((k : ℕ) → repeated lossy (q ++ v) k → repeated lossy q k ⊎ (k ≡ length q)) × ((k : ℕ) → repeated lossy q k → k < length q)
  key_repeats {c} {w} {ts} q v s h n i = (((λ r. only r), name_here lossy s v h n i), which, within lossy q)
    where
      at : (k : ℕ) (a : NameAt lossy (q ++ v) k)
          → Here lossy q v k ts s a
          → repeated lossy q k ⊎ ((k ≡ length q) × Contains (open_keys ts) s)
      at k a (before_it b) = inl (at_repeated lossy q k b)
      at k a (that_one e f g) = inr (e, f)

      it : (k : ℕ)
          → repeated lossy (q ++ v) k
          → repeated lossy q k ⊎ ((k ≡ length q) × Contains (open_keys ts) s)
      it k r = let a = repeated_at lossy (q ++ v) k r in at k a (here lossy q v k s h n i a)

      only : repeated lossy (q ++ v) (length q) → Contains (open_keys ts) s
      only r = by (it (length q) r)
        where
          by : repeated lossy q (length q) ⊎ ((length q ≡ length q) × Contains (open_keys ts) s)
              → Contains (open_keys ts) s
          by (inl g) = let l = within lossy q (length q) g in absurd (omega arith)
          by (inr g) = g.1

      which : (k : ℕ) → repeated lossy (q ++ v) k → repeated lossy q k ⊎ (k ≡ length q)
      which k r = by (it k r)
        where
          by : repeated lossy q k ⊎ ((k ≡ length q) × Contains (open_keys ts) s)
              → repeated lossy q k ⊎ (k ≡ length q)
          by (inl g) = inl g
          by (inr g) = inr g.0

  -- a name that repeats is refused at once, whatever follows it
  pub name_refused : {c : List Kind} {w : ExpectedPart} {ts : List Token} (r : Rules) (q v rest s : List ℕ)
      → r.unique ≡ true
      → reading lossy q c w ts
      → TakesKey w
      → string lossy s v
      → peak 0 ts ≤ r.limit
      → ¬ (TokensRepeat ts)
      → Contains (open_keys ts) s
      → fault_with lossy r (q ++ (v ++ rest)) duplicate_key (length q)
  name_refused r q v rest s u h t i o f g = (
    u,
    (
      subst (λ y. repeated lossy y (length q)) (append_assoc q v rest) (repeated_more lossy (q ++ v) rest (length q) (name_here lossy s v h t i g)),
      λ y a x. by y a (at_or_behind lossy q (v ++ rest) y h x),
    ),
    (let e = opens_reading lossy h in let m = ap opens (take_front q (v ++ rest)) in omega arith),
  )
    where
      by : (y : ℕ) → y < length q → repeated lossy q y ⊎ (length q ≤ y) → ⊥
      by y a (inl x) = f (repeats_reading lossy y h x)
      by y a (inr x) = omega arith

  -- so of the name from j up to n
  pub key_refused : (r : Rules) (b : List ℕ) (j n : ℕ) (c : List Kind) (w : ExpectedPart) (ts : List Token) (s : List ℕ)
      → r.unique ≡ true
      → reading lossy (take j b) c w ts
      → TakesKey w
      → j ≤ n
      → n ≤ length b
      → string lossy s (piece b j n)
      → peak 0 ts ≤ r.limit
      → ¬ (TokensRepeat ts)
      → Contains (open_keys ts) s
      → fault_with lossy r b duplicate_key j
  key_refused r b j n c w ts s u h t l m i o f g =
      subst (λ y. fault_with lossy r y duplicate_key j) (sym row) (subst (fault_with lossy r (take j b ++ (piece b j n ++ drop n b)) duplicate_key) (length-take-le j b (omega arith)) (name_refused r (take j b) (piece b j n) (drop n b) s u h t i o f g))
    where
      row : b ≡ take j b ++ (piece b j n ++ drop n b)
      row = sym (take-append-drop n b) ∙ ap (λ y. y ++ drop n b) (take_on b j n l) ∙ append_assoc (take j b) (piece b j n) (drop n b)

  -- ---- a fault for the limit of levels

  -- a name that is whole before k was returned
  told_name : (b p z : List ℕ) (i k j : ℕ) (c : List Kind) (w : ExpectedPart) (ts : List Token)
      → reading lossy (take i b) c w ts
      → NamesReturned lossy b i k
      → b ≡ p ++ z
      → length p ≤ k
      → repeated lossy p j
      → TokensRepeat ts
  told_name b p z i k j c w ts g told e l h = by (repeated_at lossy p j h)
    where
      by : NameAt lossy p j → TokensRepeat ts
      by a = repeated_tokens lossy j g (name_in lossy (take i b) a (piece b (j + length a.v) i) bytes)
        where
          row : b ≡ a.q ++ (a.v ++ (a.rest ++ z))
          row = e ∙ ap (λ y. y ++ z) a.bytes ∙ append_assoc a.q (a.v ++ a.rest) z ∙ ap (λ y. a.q ++ y) (append_assoc a.v a.rest z)

          q_is : take j b ≡ a.q
          q_is = ap (λ y. take y b) (sym a.offset) ∙ ap (take (length a.q)) row ∙ take_front a.q (a.v ++ (a.rest ++ z))

          rest_is : drop j b ≡ a.v ++ (a.rest ++ z)
          rest_is = ap (λ y. drop y b) (sym a.offset) ∙ ap (drop (length a.q)) row ∙ drop_front a.q (a.v ++ (a.rest ++ z))

          v_is : piece b j (j + length a.v) ≡ a.v
          v_is = let f : j + length a.v - j ≡ length a.v = omega arith in ap (λ y. take y (drop j b)) f ∙ ap (take (length a.v)) rest_is ∙ take_front a.v (a.rest ++ z)

          small : j + length a.v ≤ length p
          small = let f : length p ≡ length (a.q ++ (a.v ++ a.rest)) = ap length a.bytes in let o = a.offset in omega (arith, length-append a.q (a.v ++ a.rest), length-append a.v a.rest)

          whole : length p ≤ length b
          whole = let f : length b ≡ length (p ++ z) = ap length e in omega (arith, length-append p z)

          taken : j + length a.v ≤ i
          taken =
              told j (j + length a.v) (object ∷ a.c) a.w a.ts a.s (omega arith) (let y = small in omega arith) (let y = small in let x = whole in omega arith) (subst (λ y. reading lossy y (object ∷ a.c) a.w a.ts) (sym q_is) a.at) a.takes
              (subst (string lossy a.s) (sym v_is) a.is_string)

          bytes : take i b ≡ a.q ++ (a.v ++ piece b (j + length a.v) i)
          bytes =
              take_on b (j + length a.v) i taken ∙ ap (λ y. y ++ piece b (j + length a.v) i) (take_on b j (j + length a.v) (omega arith)) ∙ append_assoc (take j b) (piece b j (j + length a.v)) (piece b (j + length a.v) i)
              ∙ ap (λ y. y ++ (piece b j (j + length a.v) ++ piece b (j + length a.v) i)) q_is ∙ ap (λ y. a.q ++ (y ++ piece b (j + length a.v) i)) v_is

  row_stands : (r : Rules) (b : List ℕ) (i : ℕ) (c : List Kind) (w : ExpectedPart) (ts : List Token) (code : FaultCode) (k : ℕ)
      → reading lossy (take i b) c w ts
      → (r.unique ≡ true → ¬ (TokensRepeat ts))
      → (r.unique ≡ true → NamesReturned lossy b i k)
      → (p : List ℕ) × (x : ℕ) × longest (viable_prefix lossy) b p x × (length p ≡ k) × (opens p ≤ r.limit) × row lossy code p x
      → r.unique ≡ true
      → (j : ℕ)
      → ¬ (repeated lossy b j)
  row_stands r b i c w ts code k g f told (p, x, l, o, v, s) u j h = f u (told_name b p (x ∷ l.rest) i k j c w ts g (told u) l.bytes (omega arith) (in_longest lossy b p x l.rest j l.bytes l.no_longer h))

  pub fault_stands : (r : Rules) (b : List ℕ) (i : ℕ) (c : List Kind) (w : ExpectedPart) (ts : List Token) (code : FaultCode) (k : ℕ)
      → reading lossy (take i b) c w ts
      → (r.unique ≡ true → ¬ (TokensRepeat ts))
      → (r.unique ≡ true → NamesReturned lossy b i k)
      → fault lossy r.limit b code k
      → fault_with lossy r b code k
  fault_stands r b i c w ts duplicate_key k g f told (p, x, l, o, v, s) = absurd s
  fault_stands r b i c w ts recursion_limit_exceeded k g f told (p, x, rest, e, l, v, o, d) =
      ((p, x, rest, e, l, v, o, d), λ u j m h. f u (told_name b p (x ∷ rest) i k j c w ts g (told u) e (omega arith) (before_bracket lossy b p x rest j e (omega arith) (omega arith) h)))
  fault_stands r b i c w ts eof_while_parsing k g f told h = (h, λ u j m. f u (told_name b b [] i k j c w ts g (told u) (sym (append-nil b)) (let e = h.0 in omega arith) m))
  fault_stands r b i c w ts code k g f told h = (h, row_stands r b i c w ts code k g f told h)

  -- ---- each name was returned

  pub names_told : (b : List ℕ) (i j k : ℕ) (c c' : List Kind) (w w' : ExpectedPart) (ts : List Token)
      → PrefixAt lossy b i c w ts
      → i ≤ j
      → j ≤ length b
      → reading lossy (take j b) c' w' ts
      → NoNameEnds lossy b j k
      → NamesReturned lossy b i k
  names_told b i j k c c' w w' ts g ij jb h none j' n cn wn us s jn nk nb hn tn sn = by (cases_lt i n) (cases_lt j n)
    where
      name : reading lossy (take n b) cn colon (us ++ key_token s ∷ [])
      name = subst (λ y. reading lossy y cn colon (us ++ key_token s ∷ [])) (sym (take_on b j' n jn)) (read_key s hn tn (piece b j' n, [], sym (append-nil _), sn, tt))

      -- it was returned from the first i bytes already
      same : i ≤ n → n ≤ j → ts ≡ us ++ key_token s ∷ []
      same l m =
          let a = reading_more lossy (take i b) (piece b i n) g.at (ends_front w ts (piece b i n) (drop n b) (subst (LastEnds w ts) (drop_piece b i n l) g.ends)) (subst (λ y. reading lossy y cn colon (us ++ key_token s ∷ [])) (take_on b i n l) name) in
          let d = reading_more lossy (take n b) (piece b n j) name (λ e. absurd (colon_not_done e)) (subst (λ y. reading lossy y c' w' ts) (take_on b n j m) h) in
          let e : ts ≡ ts ++ (a.0 ++ d.0) = d.1 ∙ ap (λ y. y ++ d.0) a.1 ∙ append_assoc ts a.0 d.0 in
          let f : a.0 ≡ [] = none_before a.0 d.0 (no_more ts (a.0 ++ d.0) e) in
          sym (a.1 ∙ ap (λ y. ts ++ y) f ∙ append-nil ts)

      behind : i ≤ j' → ts ≡ us ++ key_token s ∷ [] → ⊥
      behind l e =
          let a = reading_more lossy (take i b) (piece b i j') g.at (ends_front w ts (piece b i j') (drop j' b) (subst (LastEnds w ts) (drop_piece b i j' l) g.ends)) (subst (λ y. reading lossy y cn wn us) (take_on b i j' l) hn) in
          key_more us a.0 (key_token s) (a.1 ∙ ap (λ y. y ++ a.0) e)

      inside : j' < i → i < n → ⊥
      inside l m =
          inside_string lossy (take j' b) (piece b j' n) s (piece b j' i) (piece b i n) c w ts (cn, wn, (us, hn), inr tn) sn (piece_append b j' i n (omega arith) (omega arith))
          (some_by (piece b j' i) (let e = piece_length b j' i (omega arith) (omega arith) in omega arith)) (some_by (piece b i n) (let e = piece_length b i n (omega arith) nb in omega arith))
          (subst (λ y. reading lossy y c w ts) (take_on b j' i (omega arith)) g.at)

      by : (i < n) ⊎ (n ≤ i) → (j < n) ⊎ (n ≤ j) → n ≤ i
      by (inr l) m = l
      by (inl l) (inl m) = absurd (none n cn (us ++ key_token s ∷ []) m nk name)
      by (inl l) (inr m) = absurd (elim (cases_lt j' i) [ inl a ↦ inside a l | inr a ↦ behind a (same (omega arith) m) ])

  -- ---- no name ends within a token

  word_value : (m : List ℕ) → is_word m → (t : Tree) × value lossy t m
  word_value m (inl e) = (null, e)
  word_value m (inr (inl e)) = (boolean true, e)
  word_value m (inr (inr e)) = (boolean false, e)

  -- after a whole value no name ends
  value_no_name : {q : List ℕ} {c c' : List Kind} {w : ExpectedPart} {ts ts' : List Token} (v : List ℕ) (t : Tree)
      → reading lossy q c w ts
      → TakesValue w
      → value lossy t v
      → reading lossy (q ++ v) c' colon ts'
      → ⊥
  value_no_name v t h n i g = colon_not_done (sym (one_place lossy (read_value t h n (v, [], sym (append-nil v), i, tt)) g).1)

  pub word_no_name : (b : List ℕ) (j k : ℕ) (c : List Kind) (w : ExpectedPart) (ts : List Token)
      → k ≤ length b
      → j ≤ k
      → reading lossy (take j b) c w ts
      → (z : List ℕ)
      → TakesValue w
      → is_word (piece b j k ++ z)
      → NoNameEnds lossy b j k
  word_no_name b j k c w ts kb jk h z t i n c' us l m g = by (some_or_none (piece b n k ++ z))
    where
      at : reading lossy (take j b ++ piece b j n) c' colon us
      at = subst (λ y. reading lossy y c' colon us) (take_on b j n (omega arith)) g

      row : is_word (piece b j n ++ (piece b n k ++ z))
      row = subst is_word (ap (λ y. y ++ z) (piece_append b j n k (omega arith) m) ∙ append_assoc (piece b j n) (piece b n k) z) i

      some : piece b j n ≢ []
      some = some_by (piece b j n) (let e = piece_length b j n (omega arith) (omega arith) in omega arith)

      by : (piece b n k ++ z ≡ []) ⊎ (piece b n k ++ z ≢ []) → ⊥
      by (inl e) = let v = word_value (piece b j n) (subst is_word (ap (λ y. piece b j n ++ y) e ∙ append-nil (piece b j n)) row) in value_no_name (piece b j n) v.0 h t v.1 at
      by (inr e) = word_no_place lossy (take j b ++ piece b j n) c' colon us (record { q = take j b; r = piece b j n; rest = piece b n k ++ z; bytes = refl; at = (c, w, (ts, h), t); word = row; begun = some; unfinished = e }) at

  pub number_no_name : (b : List ℕ) (j k : ℕ) (c : List Kind) (w : ExpectedPart) (ts : List Token)
      → k ≤ length b
      → j ≤ k
      → reading lossy (take j b) c w ts
      → (z : List ℕ)
      → TakesValue w
      → number (piece b j k ++ z)
      → NoNameEnds lossy b j k
  number_no_name b j k c w ts kb jk h z t i n c' us l m g =
      number_no_place lossy (take j b ++ piece b j n) c' colon us
      (record {
        q = take j b;
        r = piece b j n;
        rest = piece b n k ++ z;
        bytes = refl;
        at = (c, w, (ts, h), t);
        begun = some_by (piece b j n) (let e = piece_length b j n (omega arith) (omega arith) in omega arith);
        goes_on = subst number (ap (λ y. y ++ z) (piece_append b j n k (omega arith) m) ∙ append_assoc (piece b j n) (piece b n k) z) i;
        unfinished = λ v. value_no_name (piece b j n) (num (piece b j n)) h t (v, refl) at;
      }) at
    where
      at : reading lossy (take j b ++ piece b j n) c' colon us
      at = subst (λ y. reading lossy y c' colon us) (take_on b j n (omega arith)) g

  pub string_no_name : (b : List ℕ) (j k : ℕ) (c : List Kind) (w : ExpectedPart) (ts : List Token)
      → k ≤ length b
      → j ≤ k
      → reading lossy (take j b) c w ts
      → (s z : List ℕ)
      → z ≢ []
      → TakesValue w ⊎ TakesKey w
      → string lossy s (piece b j k ++ z)
      → NoNameEnds lossy b j k
  string_no_name b j k c w ts kb jk h s z nz t i n c' us l m g =
      inside_string lossy (take j b) (piece b j k ++ z) s (piece b j n) (piece b n k ++ z) c' colon us (c, w, (ts, h), t) i
      (ap (λ y. y ++ z) (piece_append b j n k (omega arith) m) ∙ append_assoc (piece b j n) (piece b n k) z) (some_by (piece b j n) (let e = piece_length b j n (omega arith) (omega arith) in omega arith))
      (λ e. nz (none_behind (piece b n k) z e)) (subst (λ y. reading lossy y c' colon us) (take_on b j n (omega arith)) g)
