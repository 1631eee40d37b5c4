-- A name that repeats in the bytes of a prefix repeats in its tokens, and the other way round.
use Rattle.std.proofs.Common.{Bool, ◌≡◌, ◌≢◌, ℕ, suc, ◌<◌, ◌≤◌, List, [], ◌∷◌, ◌++◌, length, ◌⊎◌, inl, inr, refl, sym, ap, ◌∙◌, subst, arith, append_assoc, append-nil, length-append}
use Rattle.std.specs.List.{Contains}
use Rattle.json_grammar.specs.declared.Kind.{Kind}
use Rattle.json_grammar.specs.declared.Kind.TheVariants.{Array as array, Object as object}
use Rattle.json_grammar.specs.declared.ExpectedPart.{ExpectedPart}
use Rattle.json_grammar.specs.declared.ExpectedPart.TheVariants.{Value as at_value, Key as key, KeyOrEnd as key_or_end, Colon as colon}
use Rattle.json_grammar.specs.Tree.{Tree, null, boolean, num, text, list, pairs, Pairs, no_pairs, pair_and, Token, begin, key_token, pairs_tokens}
use Rattle.json_grammar.specs.Grammar.{ws, byte, ◌then◌, string, members}
use Rattle.json_grammar.specs.Place.{TakesValue, TakesKey, takes_key, takes_key_or_end, reading, read_key}
use Rattle.json_grammar.specs.Given.{LastEnds}
use Rattle.json_grammar.specs.Fault.{before_value, before_string, in_string}
use Rattle.json_grammar.specs.Repeated.{names, RepeatsKey, open_keys, TokensRepeat, repeated}
use Rattle.json_grammar.proofs.Lexeme.{Lexed, advance_all}
use Rattle.json_grammar.proofs.Lists.{Cut, cut, longer, shorter, ws-append, cons_nil, head, tail, none_behind, holds_none}
use Rattle.json_grammar.proofs.OpenKeys.{keys_inside, repeat_left, repeat_last}
use Rattle.json_grammar.proofs.Values.{along}
use Rattle.json_grammar.proofs.Lexemes.{Begins, lexed_begins}
use Rattle.json_grammar.proofs.Reading.{Row, row_of, run_then, grows, one_place, colon_not_done}
use Rattle.json_grammar.proofs.Numbers.{stopping}
use Rattle.json_grammar.proofs.StringsUnique.{string_same}
use Rattle.json_grammar.proofs.Closing.{In, in_key_or_end, in_key, Members, no_members, some_members, Inside, Top, Standing, standing}
use Rattle.json_grammar.proofs.PartScan.{plain_atom}
use Rattle.json_grammar.proofs.WithinOne.{string_inner}
use Rattle.json_grammar.proofs.TokenSteps.{IsScalar, TokenSteps, by_space, by_bracket, by_comma, steps_reading, reading_steps, some_members_steps}

-- a scalar repeats no name
pub scalar_never : (t : Tree) → IsScalar t → RepeatsKey t → ⊥
scalar_never null x h = h
scalar_never (boolean b) x h = h
scalar_never (num l) x h = h
scalar_never (text s) x h = h
scalar_never (list ts) x h = x
scalar_never (pairs ps) x h = x

module _ (lossy : Bool) where
  -- ---- a name that repeats, and where it is

  -- after q in p, where a name may follow, is the string v of a name that the innermost object has
  -- already
  pub record NameAt (p : List ℕ) (k : ℕ) : Type 0 where
    pub q : List ℕ
    pub v : List ℕ
    pub rest : List ℕ
    pub s : List ℕ
    pub c : List Kind
    pub w : ExpectedPart
    pub ts : List Token
    pub bytes : p ≡ q ++ (v ++ rest)
    pub at : reading lossy q (object ∷ c) w ts
    pub takes : TakesKey w
    pub is_string : string lossy s v
    pub is_name : Contains (open_keys ts) s
    pub offset : length q ≡ k

  -- after an object's beginning, whole members and a comma a name may follow
  listed_steps : (o m : List ℕ) (c : List Kind) (w : ExpectedPart) (ts : List Token) (ps : Pairs) (s : List ℕ)
      → reading lossy o c w ts
      → TakesValue w
      → (members lossy ps then byte 44 then ws) m
      → Contains (names ps) s
      → reading lossy (o ++ 123 ∷ m) (object ∷ c) key (ts ++ begin object ∷ pairs_tokens ps)
  listed_steps o m c w ts no_pairs s h n l i = absurd (holds_none s i)
  listed_steps o m c w ts (pair_and u t ps) s h n (a, m1, e, ha, (x, z, e1, hx, hz)) i =
      let opened = o ++ 123 ∷ [] in
      let us = ts ++ begin object ∷ [] in
      let b : TokenSteps lossy opened (object ∷ c) key_or_end us = by_bracket object (reading_steps lossy h) n in
      let d = by_space z (by_comma object (some_members_steps lossy u t ps opened a c key_or_end us b takes_key_or_end ha)) hz in
      let f : ((opened ++ a) ++ 44 ∷ []) ++ z ≡ o ++ 123 ∷ m =
      simp append_assoc (ap (λ y. o ++ 123 ∷ y) (sym (e ∙ ap (λ y. a ++ y) (e1 ∙ ap (λ y. y ++ z) hx)))) in
      subst (λ y. reading lossy y (object ∷ c) key (ts ++ begin object ∷ pairs_tokens (pair_and u t ps))) f
      (subst (reading lossy (((opened ++ a) ++ 44 ∷ []) ++ z) (object ∷ c) key)
      (append_assoc ts (begin object ∷ []) (pairs_tokens (pair_and u t ps)))
      (steps_reading lossy d))

  -- the same name, with other bytes after it
  abbrev pub name_in : {p : List ℕ} {k : ℕ} (p' : List ℕ) (r : NameAt p k) (rest : List ℕ)
      → p' ≡ r.q ++ (r.v ++ rest)
      → NameAt p' k
  name_in p' r rest e = record {
    q = r.q;
    v = r.v;
    rest = rest;
    s = r.s;
    c = r.c;
    w = r.w;
    ts = r.ts;
    bytes = e;
    at = r.at;
    takes = r.takes;
    is_string = r.is_string;
    is_name = r.is_name;
    offset = r.offset;
  }

  pub repeated_at : (p : List ℕ) (k : ℕ) → repeated lossy p k → NameAt p k
  repeated_at p k r = go r.at
    where
      go : before_value lossy r.before → NameAt p k
      go (c, w, (ts, h), n) = record {
        q = r.before ++ 123 ∷ r.inside;
        v = r.written;
        rest = r.rest;
        s = r.name;
        c = c;
        w = key;
        ts = ts ++ begin object ∷ pairs_tokens r.earlier;
        bytes = r.bytes;
        at = listed_steps r.before r.inside c w ts r.earlier r.name h n r.is_inside r.is_earlier;
        takes = takes_key;
        is_string = r.spells;
        is_name = subst (λ y. Contains y r.name) (sym (keys_inside ts r.earlier)) r.is_earlier;
        offset = r.offset;
      }

  -- what follows an object's beginning, where a name may follow
  abbrev Listing : List ℕ → List Token → Type 0
  Listing inner new = (new ≡ []) ⊎ ((ps : Pairs) × (new ≡ pairs_tokens ps) × (members lossy ps then byte 44 then ws) inner)

  first_listing : (k : Kind) (inner : List ℕ) (new : List Token)
      → In lossy k key_or_end inner new
      → Listing inner new
  first_listing k inner new (in_key_or_end h) = inl refl

  members_listing : (a z : List ℕ) (new : List Token)
      → Members lossy a new
      → ws z
      → Listing (a ++ z) new
  members_listing a z new no_members h = inl refl
  members_listing a z new (some_members {m = m} s t us i) h = inr (pair_and s t us, refl, (m, 44 ∷ z, append_assoc m (44 ∷ []) z, i, (44 ∷ [], z, refl, refl, h)))

  key_listing : (k : Kind) (inner : List ℕ) (new : List Token)
      → In lossy k key inner new
      → Listing inner new
  key_listing k inner new (in_key {a = a} {ts = ts} z i h) = members_listing a z ts i h

  listing : (k : Kind) (w : ExpectedPart) (inner : List ℕ) (new : List Token)
      → TakesKey w
      → In lossy k w inner new
      → Listing inner new
  listing k w inner new takes_key i = key_listing k inner new i
  listing k w inner new takes_key_or_end i = first_listing k inner new i

  pub at_repeated : (p : List ℕ) (k : ℕ) → NameAt p k → repeated lossy p k
  at_repeated p k r = go (standing lossy r.at)
    where
      go : Inside lossy object r.c r.w r.q r.ts → repeated lossy p k
      go i = by (listing object r.w i.inner i.new r.takes i.in_it)
        where
          by : Listing i.inner i.new → repeated lossy p k
          by (inl e) = absurd (holds_none r.s (none (subst (λ y. Contains (open_keys y) r.s) (i.tokens_so ∙ ap (λ y. i.old ++ begin object ∷ y) e) r.is_name)))
            where
              none : Contains (open_keys (i.old ++ begin object ∷ [])) r.s → Contains [] r.s
              none h = subst (λ y. Contains y r.s) (keys_inside i.old no_pairs) h
          by (inr (ps, e, l)) = record {
            before = i.before;
            inside = i.inner;
            earlier = ps;
            written = r.v;
            name = r.s;
            rest = r.rest;
            bytes = r.bytes ∙ ap (λ y. y ++ (r.v ++ r.rest)) i.bytes;
            at = (r.c, i.expected, (i.old, i.at), i.takes);
            is_inside = l;
            spells = r.is_string;
            is_earlier = subst (λ y. Contains y r.s) (keys_inside i.old ps) (subst (λ y. Contains (open_keys y) r.s) (i.tokens_so ∙ ap (λ y. i.old ++ begin object ∷ y) e) r.is_name);
            offset = ap length (sym i.bytes) ∙ r.offset;
          }

  -- ---- longer and shorter prefixes

  pub repeated_more : (p z : List ℕ) (k : ℕ) → repeated lossy p k → repeated lossy (p ++ z) k
  repeated_more p z k r = record {
    before = r.before;
    inside = r.inside;
    earlier = r.earlier;
    written = r.written;
    name = r.name;
    rest = r.rest ++ z;
    bytes = along p (r.before ++ 123 ∷ r.inside) (r.written ++ r.rest) z (r.written ++ (r.rest ++ z)) r.bytes (append_assoc r.written r.rest z);
    at = r.at;
    is_inside = r.is_inside;
    spells = r.spells;
    is_earlier = r.is_earlier;
    offset = r.offset;
  }

  string_some : (s v : List ℕ) → string lossy s v → (m : List ℕ) × (v ≡ 34 ∷ m)
  string_some s v (c, e, h) = (c ++ 34 ∷ [], e)

  -- the name begins within the prefix
  pub name_within : (p : List ℕ) (k : ℕ) → NameAt p k → k < length p
  name_within p k r =
      let i = string_some r.s r.v r.is_string in
      let a : length p ≡ length (r.q ++ (r.v ++ r.rest)) = ap length r.bytes in
      let b : length r.v ≡ suc (length i.0) = ap length i.1 in
      let o = r.offset in
      omega (arith, length-append r.q (r.v ++ r.rest), length-append r.v r.rest)

  before_quote : (c e f : List ℕ) → c ++ 34 ∷ [] ≡ e ++ f → f ≢ [] → (g : List ℕ) × (c ≡ e ++ g)
  before_quote c e f h n = by (cut c (34 ∷ []) e f h)
    where
      by : Cut c (34 ∷ []) e f → (g : List ℕ) × (c ≡ e ++ g)
      by (longer [] i j) = ([], sym (append-nil c) ∙ sym i ∙ sym (append-nil e))
      by (longer (x ∷ g) i j) = absurd (n (none_behind g f (sym (tail j))))
      by (shorter x g i j) = (x ∷ g, i)

  -- no prefix within a string is at a place
  pub inside_string : (q v s d f : List ℕ) (c' : List Kind) (w' : ExpectedPart) (ts' : List Token)
      → before_string lossy q
      → string lossy s v
      → v ≡ d ++ f
      → d ≢ []
      → f ≢ []
      → reading lossy (q ++ d) c' w' ts'
      → ⊥
  inside_string q v s [] f c' w' ts' b h e n m r = n refl
  inside_string q v s (x ∷ d) f c' w' ts' b (c, i, h) e n m r = go (before_quote c d f (tail (sym i ∙ e)) m)
    where
      it : in_string lossy (q ++ (34 ∷ (c ++ []))) []
      it = record { q = q; c = c; s = s; rest = 97 ∷ []; bytes = refl; at = b; so_far = h; goes_on = plain_atom lossy; unfinished = cons_nil 97 [] }

      go : (g : List ℕ) × (c ≡ d ++ g) → ⊥
      go (g, j) = string_inner lossy (q ++ (34 ∷ (c ++ []))) [] it d g c' w' ts' (append-nil c ∙ j) (subst (λ o. reading lossy (q ++ o ∷ d) c' w' ts') (sym (head (sym i ∙ e))) r)

  -- a name of a longer input is one of the prefix, or follows it
  pub data Split (p z : List ℕ) (k : ℕ) (r : NameAt (p ++ z) k) : Type 0 where
    in_prefix : NameAt p k → Split p z k r
    in_rest : (e : List ℕ) → r.q ≡ p ++ e → z ≡ e ++ (r.v ++ r.rest) → Split p z k r

  pub split_at : {c : List Kind} {w : ExpectedPart} {ts : List Token} (p z : List ℕ) (k : ℕ)
      → reading lossy p c w ts
      → (r : NameAt (p ++ z) k)
      → Split p z k r
  split_at {c} {w} {ts} p z k h r = by (cut p z r.q (r.v ++ r.rest) r.bytes)
    where
      shorter_by : (rest : List ℕ) → p ≡ r.q ++ (r.v ++ rest) → Split p z k r
      shorter_by rest e = in_prefix (name_in p r rest e)

      inner : (x : ℕ) (e : List ℕ) → p ≡ r.q ++ x ∷ e → Cut (x ∷ e) z r.v r.rest → Split p z k r
      inner x e i (longer [] f g) = shorter_by [] (i ∙ ap (λ o. r.q ++ o) (sym (append-nil (x ∷ e)) ∙ sym f ∙ sym (append-nil r.v)))
      inner x e i (longer (y ∷ m) f g) = absurd (inside_string r.q r.v r.s (x ∷ e) (y ∷ m) c w ts (object ∷ r.c, r.w, (r.ts, r.at), inr r.takes) r.is_string f (cons_nil x e) (cons_nil y m) (subst (λ o. reading lossy o c w ts) i h))
      inner x e i (shorter y m f g) = shorter_by (y ∷ m) (i ∙ ap (λ o. r.q ++ o) f)

      by : Cut p z r.q (r.v ++ r.rest) → Split p z k r
      by (longer e i j) = in_rest e i j
      by (shorter x e i j) = inner x e i (cut (x ∷ e) z r.v r.rest (sym j))

  pub at_or_behind : {c : List Kind} {w : ExpectedPart} {ts : List Token} (p z : List ℕ) (k : ℕ)
      → reading lossy p c w ts
      → repeated lossy (p ++ z) k
      → repeated lossy p k ⊎ (length p ≤ k)
  at_or_behind p z k h r = let a = repeated_at (p ++ z) k r in by a (split_at p z k h a)
    where
      by : (a : NameAt (p ++ z) k) → Split p z k a → repeated lossy p k ⊎ (length p ≤ k)
      by a (in_prefix b) = inl (at_repeated p k b)
      by a (in_rest e i j) = inr (let f = a.offset in let g = ap length i in omega (arith, length-append p e))

  -- ---- tokens

  -- after more bytes of one input more tokens were returned
  pub reading_more : {c c' : List Kind} {w w' : ExpectedPart} {ts ts' : List Token} (a z : List ℕ)
      → reading lossy a c w ts
      → LastEnds w ts z
      → reading lossy (a ++ z) c' w' ts'
      → (m : List Token) × (ts' ≡ ts ++ m)
  reading_more {c} {c'} {w} {w'} {ts} {ts'} a z h l h' = grows f.more w w' c c' ts ts' (sym (run_then d.row f.more at_value w [] c [] ts (advance_all f.more w c ts) d.leads refl) ∙ ap (λ x. advance_all x at_value [] []) (sym f.row) ∙ d'.leads)
    where
      d : Row lossy a c w ts z
      d = row_of lossy h z l

      d' : Row lossy (a ++ z) c' w' ts' []
      d' = row_of lossy h' [] (λ e l a f. stopping l [] tt)

      f : Begins lossy d.row d'.row (d.space ++ z) (d'.space ++ [])
      f = lexed_begins lossy d.row d'.row (a ++ z) (d.space ++ z) (d'.space ++ []) d.lexed (subst (λ x. Lexed lossy d'.row x (d'.space ++ [])) (append-nil (a ++ z)) d'.lexed) (ws-append d'.space [] d'.is_space tt)

  -- a name that repeats in the bytes repeats in the tokens
  pub repeated_tokens : {p : List ℕ} {c : List Kind} {w : ExpectedPart} {ts : List Token} (k : ℕ)
      → reading lossy p c w ts
      → NameAt p k
      → TokensRepeat ts
  repeated_tokens {p} {c} {w} {ts} k h r = go (reading_more (r.q ++ r.v) r.rest next (λ e. absurd (colon_not_done e)) (subst (λ o. reading lossy o c w ts) (r.bytes ∙ sym (append_assoc r.q r.v r.rest)) h))
    where
      next : reading lossy (r.q ++ r.v) (object ∷ r.c) colon (r.ts ++ key_token r.s ∷ [])
      next = read_key r.s r.at r.takes (r.v, [], sym (append-nil r.v), r.is_string, tt)

      go : (m : List Token) × (ts ≡ (r.ts ++ key_token r.s ∷ []) ++ m) → TokensRepeat ts
      go (m, e) = subst TokensRepeat (sym e) (repeat_left [] (r.ts ++ key_token r.s ∷ []) m (repeat_last r.ts (key_token r.s) r.is_name))

  -- a name that the innermost object has already, and its string
  pub name_here : {q : List ℕ} {c : List Kind} {w : ExpectedPart} {ts : List Token} (s v : List ℕ)
      → reading lossy q c w ts
      → TakesKey w
      → string lossy s v
      → Contains (open_keys ts) s
      → repeated lossy (q ++ v) (length q)
  name_here {q} {c} {w} {ts} s v h n i j = by c (standing lossy h) h
    where
      top : (w : ExpectedPart) → TakesKey w → Top lossy w q ts → ⊥
      top w takes_key t = t
      top w takes_key_or_end t = t

      no_array : (w : ExpectedPart) (b : List ℕ) (m : List Token) → TakesKey w → In lossy array w b m → ⊥
      no_array w b m takes_key t = no_key t
        where
          no_key : In lossy array key b m → ⊥
          no_key t = elim t [ ]
      no_array w b m takes_key_or_end t = no_first t
        where
          no_first : In lossy array key_or_end b m → ⊥
          no_first t = elim t [ ]

      by : (c : List Kind)
          → Standing lossy c w q ts
          → reading lossy q c w ts
          → repeated lossy (q ++ v) (length q)
      by [] t h = absurd (top w n t)
      by (array ∷ c) t h = absurd (no_array w t.inner t.new n t.in_it)
      by (object ∷ c) t h = at_repeated (q ++ v) (length q) (record { q = q; v = v; rest = []; s = s; c = c; w = w; ts = ts; bytes = ap (λ o. q ++ o) (sym (append-nil v)); at = h; takes = n; is_string = i; is_name = j; offset = refl })

  -- a name that repeats after one more name is that name, or repeats before it
  pub data Here (q v : List ℕ) (k : ℕ) (ts : List Token) (s : List ℕ) (r : NameAt (q ++ v) k) : Type 0 where
    before_it : NameAt q k → Here q v k ts s r
    that_one : k ≡ length q → Contains (open_keys ts) s → r.v ≡ v → Here q v k ts s r

  pub here : {c : List Kind} {w : ExpectedPart} {ts : List Token} (q v : List ℕ) (k : ℕ) (s : List ℕ)
      → reading lossy q c w ts
      → TakesKey w
      → string lossy s v
      → (r : NameAt (q ++ v) k)
      → Here q v k ts s r
  here {c} {w} {ts} q v k s h n i r = by (split_at q v k h r)
    where
      some : r.v ++ r.rest ≢ []
      some e = let a = string_some r.s r.v r.is_string in cons_nil 34 (a.0 ++ r.rest) (ap (λ o. o ++ r.rest) (sym a.1) ∙ e)

      by : Split q v k r → Here q v k ts s r
      by (in_prefix b) = before_it b
      by (in_rest [] f g) =
          let e : r.q ≡ q = f ∙ append-nil q in
          let o = one_place lossy (subst (λ y. reading lossy y (object ∷ r.c) r.w r.ts) e r.at) h in
          let t = string_same lossy r.s s r.v v r.rest [] r.is_string i (sym g ∙ sym (append-nil v)) in
          that_one (sym r.offset ∙ ap length e) (subst (λ y. Contains (open_keys ts) y) t.0 (subst (λ y. Contains (open_keys y) r.s) o.2 r.is_name)) t.1
      by (in_rest (x ∷ e) f g) = absurd (inside_string q v s (x ∷ e) (r.v ++ r.rest) (object ∷ r.c) r.w r.ts (c, w, (ts, h), inr n) i g (cons_nil x e) some (subst (λ y. reading lossy y (object ∷ r.c) r.w r.ts) f r.at))
