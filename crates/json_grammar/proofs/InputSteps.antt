-- A step of a reader: past one token, or to a fault.
use Rattle.std.proofs.Common.{Bool, true, false, ◌≡◌, ◌≢◌, ℕ, zero, suc, ◌+◌, ◌<◌, ◌≤◌, List, [], ◌∷◌, ◌++◌, length, ◌⊎◌, inl, inr, refl, sym, ap, ◌∙◌, subst, arith, append_assoc, append-nil, length-append, IsUtf8}
use Rattle.std.proofs.lemmas.Bool.{cases_lt, cases_eq}
use Rattle.json_grammar.specs.declared.Kind.{Kind}
use Rattle.json_grammar.specs.declared.Kind.TheVariants.{Array as array, Object as object}
use Rattle.json_grammar.specs.declared.ExpectedPart.{ExpectedPart}
use Rattle.json_grammar.specs.declared.ExpectedPart.TheVariants.{Value as at_value, Colon as colon, Done as done}
use Rattle.json_grammar.specs.Tree.{Tree, null, boolean, num, text, depth, Token, null_token, boolean_token, num_token, text_token, begin, end, key_token, tokens}
use Rattle.json_grammar.specs.Grammar.{IsWhitespace, ws, IsDigit, number, Atom, Atoms, no_atoms, chars, string, null_bytes, boolean_bytes, value, is_text}
use Rattle.json_grammar.specs.Place.{TakesValue, TakesKey, TakesEnd, bracket, closing, opened, after_comma, viable_prefix, reading, open_one, read_value, read_comma, read_key, read_colon}
use Rattle.json_grammar.specs.Allows.{BeginsValue, Allows}
use Rattle.json_grammar.specs.NumberEnds.{EndsNumber}
use Rattle.json_grammar.specs.Given.{LastEnds}
use Rattle.json_grammar.specs.Levels.{still_open, peak}
use Rattle.json_grammar.specs.Fault.{opens, is_surrogate, FaultCode, eof_while_parsing, invalid_literal, invalid_number, control_character, invalid_escape, invalid_surrogate, recursion_limit_exceeded, is_word, in_word, in_number, ends_in_zero, in_string, is_bad_number, row, faulty}
use Rattle.json_grammar.proofs.Numbers.{are_number, number_begins}
use Rattle.json_grammar.proofs.Atoms.{atom_some, atoms_append, atoms_one, atoms_chars}
use Rattle.json_grammar.proofs.Reading.{takes_not_done, takes_key_not_done}
use Rattle.json_grammar.proofs.Completing.{read_end}
use Rattle.json_grammar.proofs.Next.{next_byte}
use Rattle.json_grammar.proofs.Depth.{peak_append, peak_tree, still_reading}
use Rattle.json_grammar.proofs.Opens.{opens_reading, open_peak}
use Rattle.json_grammar.proofs.Within.{number_stuck, string_stuck}
use Rattle.json_grammar.proofs.Faults.{word_stuck, word_no_place, number_no_place}
use Rattle.json_grammar.proofs.WithinOne.{string_no_place}
use Rattle.json_grammar.proofs.OneValue.{Spaced, text_value, value_place}
use Rattle.json_grammar.proofs.OneFault.{opens_least}
use Rattle.json_grammar.proofs.NumberScan.{Scanned, whole, broken, number_scan}
use Rattle.json_grammar.proofs.FirstBytes.{cons_nil, head, utf8_tail}
use Rattle.json_grammar.proofs.PartScan.{Part, Told, at_end, at_quote, bad, cut_off, one, part, plain_atom}
use Rattle.json_grammar.proofs.InputRests.{AllAscii, Matched, boolean_ascii, dec_digit, matched, null_ascii, number_ascii, number_last, other_ends, snoc_last, utf8_past, agrees, differs, short_of}

module _ (lossy : Bool) (limit : ℕ) where
  abbrev pub Outcome : List ℕ → Type 0
  Outcome b = ((t : Tree) × is_text lossy t b × (depth t ≤ limit)) ⊎ ((code : FaultCode) × (k : ℕ) × faulty lossy limit b code k)

  -- what a reader of b has reached
  pub record At (b : List ℕ) : Type 0 where
    pub p : List ℕ
    pub r : List ℕ
    pub c : List Kind
    pub w : ExpectedPart
    pub ts : List Token
    pub bytes : b ≡ p ++ r
    pub at : reading lossy p c w ts
    pub ends : LastEnds w ts r
    pub zero_ends : (x : ℕ) (m : List ℕ) → r ≡ x ∷ m → IsDigit x → ends_in_zero lossy p → ⊥
    pub low : peak 0 ts ≤ limit
    pub utf8 : IsUtf8 r

  pub data Step (b : List ℕ) (n : ℕ) : Type 0 where
    finished : Outcome b → Step b n
    goes : (a : At b) → length a.r < n → Step b n

  pub no_zero_end : (a : List ℕ) (y : ℕ) → y ≢ 48 → ends_in_zero lossy (a ++ y ∷ []) → ⊥
  no_zero_end a y n z = by z.zero
    where
      by : (z.r ≡ 48 ∷ []) ⊎ (z.r ≡ 45 ∷ 48 ∷ []) → ⊥
      by (inl e) = n (snoc_last a z.q y 48 (z.bytes ∙ ap (λ o. z.q ++ o) e))
      by (inr e) = n (snoc_last a (z.q ++ 45 ∷ []) y 48 (z.bytes ∙ ap (λ o. z.q ++ o) e ∙ sym (append_assoc z.q (45 ∷ []) (48 ∷ []))))

  -- ---- how many are open

  pub peak_scalar : {p : List ℕ} {c : List Kind} {w : ExpectedPart} {ts : List Token} (t : Tree) → depth t ≡ 0 → reading lossy p c w ts → peak 0 (ts ++ tokens t) ≡ peak 0 ts
  peak_scalar {c = c} {ts = ts} t d h =
      let i = still_reading lossy h in let l = open_peak lossy h in let j : peak (still_open 0 ts) (tokens t) ≡ length c + depth t = ap (λ x. peak x (tokens t)) i ∙ peak_tree t (length c) in
      omega (arith, peak_append 0 ts (tokens t))

  pub peak_key : {p : List ℕ} {c : List Kind} {w : ExpectedPart} {ts : List Token} (s : List ℕ) → reading lossy p c w ts → peak 0 (ts ++ key_token s ∷ []) ≡ peak 0 ts
  peak_key {c = c} {ts = ts} s h = let i = still_reading lossy h in let l = open_peak lossy h in omega (arith, peak_append 0 ts (key_token s ∷ []))

  pub peak_end : {p : List ℕ} {c : List Kind} {w : ExpectedPart} {ts : List Token} (k : Kind) → reading lossy p c w ts → peak 0 (ts ++ end k ∷ []) ≡ peak 0 ts
  peak_end {c = c} {ts = ts} k h = let i = still_reading lossy h in let l = open_peak lossy h in omega (arith, peak_append 0 ts (end k ∷ []))

  pub low_prefix : {p : List ℕ} {c : List Kind} {w : ExpectedPart} {ts : List Token} → reading lossy p c w ts → peak 0 ts ≤ limit → opens p ≤ limit
  low_prefix h l = let e = opens_reading lossy h in omega arith

  -- within a scalar no more are open than before it
  pub low_value : {q : List ℕ} {c : List Kind} {w : ExpectedPart} {ts : List Token} (t : Tree) (v rest : List ℕ) → depth t ≡ 0 → reading lossy q c w ts → TakesValue w → value lossy t (v ++ rest) → peak 0 ts ≤ limit → opens (q ++ v) ≤ limit
  low_value {q} {c} {w} {ts} t v rest d h n k l =
      let e = opens_reading lossy (read_value t h n (v ++ rest, [], sym (append-nil (v ++ rest)), k, tt)) in
      let f = peak_scalar t d h in let i = opens_least (q ++ v) rest in let j : opens ((q ++ v) ++ rest) ≡ opens (q ++ (v ++ rest)) = ap opens (append_assoc q v rest) in omega arith

  pub low_string : {q : List ℕ} {c : List Kind} {w : ExpectedPart} {ts : List Token} (s v rest : List ℕ) → reading lossy q c w ts → TakesValue w ⊎ TakesKey w → string lossy s (v ++ rest) → peak 0 ts ≤ limit → opens (q ++ v) ≤ limit
  low_string s v rest h (inl n) k l = low_value (text s) v rest refl h n k l
  low_string {q} {c} {w} {ts} s v rest h (inr n) k l =
      let e = opens_reading lossy (read_key s h n (v ++ rest, [], sym (append-nil (v ++ rest)), k, tt)) in
      let f = peak_key s h in let i = opens_least (q ++ v) rest in let j : opens ((q ++ v) ++ rest) ≡ opens (q ++ (v ++ rest)) = ap opens (append_assoc q v rest) in omega arith

  -- ---- strings

  data Strung (m : List ℕ) : Type 0 where
    closed : (c k : List ℕ) → m ≡ c ++ 34 ∷ k → Atoms lossy c → IsUtf8 k → Strung m
    unclosed : (c e z : List ℕ) → m ≡ c ++ e → Atoms lossy c → Atom lossy (e ++ z) → z ≢ [] → Strung m
    wrong : (code : FaultCode) (c e z : List ℕ) (x : ℕ) (k : List ℕ) → m ≡ c ++ (e ++ x ∷ k) → Atoms lossy c → Atom lossy (e ++ z) → z ≢ [] → ((n : List ℕ) → Atom lossy (e ++ x ∷ n) → ⊥) → (e ≡ [] → x ≢ 34) → Told lossy code e x → Strung m

  shorter : (v k m : List ℕ) → m ≡ v ++ k → v ≢ [] → length k < length m
  shorter [] k m e n = absurd (n refl)
  shorter (x ∷ v) k m e n = let i : length m ≡ suc (length (v ++ k)) = ap length e in omega (arith, length-append v k)

  some_one : (x : ℕ) → x ∷ [] ≢ []
  some_one x e = cons_nil x [] e

  strung_by : (a m : List ℕ) → Atoms lossy a → IsUtf8 m → Part lossy m → ((v k : List ℕ) → m ≡ v ++ k → Atom lossy v → IsUtf8 k → Strung (a ++ m)) → Strung (a ++ m)
  strung_by a m h u (at_end e) f = unclosed a m (97 ∷ []) refl h (subst (λ o. Atom lossy (o ++ 97 ∷ [])) (sym e) (plain_atom lossy)) (some_one 97)
  strung_by a m h u (at_quote k e) f = closed a k (ap (λ o. a ++ o) e) h (utf8_tail 34 k (omega arith) (subst IsUtf8 e u))
  strung_by a m h u (one v k e x w) f = f v k e x w
  strung_by a m h u (cut_off z x n) f = unclosed a m z refl h x n
  strung_by a m h u (bad code e z x k g i n r q t) f = wrong code a e z x k (ap (λ o. a ++ o) g) h i n r q t

  strung : (n : ℕ) (a m : List ℕ) → length m ≤ n → Atoms lossy a → IsUtf8 m → Strung (a ++ m)
  strung zero a m l h u = strung_by a m h u (part lossy m u) (λ v k e x w. let i = shorter v k m e (atom_some lossy v [] x (sym (append-nil v))) in absurd (omega arith))
  strung (suc n) a m l h u =
      strung_by a m h u (part lossy m u)
      (λ v k e x w. let i = shorter v k m e (atom_some lossy v [] x (sym (append-nil v))) in
      subst Strung (append_assoc a v k ∙ ap (λ o. a ++ o) (sym e)) (strung n (a ++ v) k (omega arith) (atoms_append lossy h (atoms_one lossy x)) w))

  -- ---- the next byte

  pub text_place : (t : Tree) (b : List ℕ) → is_text lossy t b → reading lossy b [] done (tokens t)
  text_place t b g = go (text_value lossy t b g)
    where
      go : (a z : List ℕ) × (b ≡ a ++ z) × Spaced lossy t a × ws z → reading lossy b [] done (tokens t)
      go (a, z, e, ha, hz) = subst (λ o. reading lossy o [] done (tokens t)) (sym e) (value_place lossy t a z ha hz)

  -- where whitespace was passed and a byte follows
  pub record Here (b : List ℕ) (c : List Kind) (w : ExpectedPart) : Type 0 where
    pub p : List ℕ
    pub ts : List Token
    pub x : ℕ
    pub m : List ℕ
    pub bytes : b ≡ p ++ x ∷ m
    pub at : reading lossy p c w ts
    pub refuse : ¬ (Allows w c x) → viable_prefix lossy (p ++ x ∷ []) → ⊥
    pub no_zero : IsDigit x → ends_in_zero lossy p → ⊥
    pub low : peak 0 ts ≤ limit
    pub utf8 : IsUtf8 (x ∷ m)

  module _ (b : List ℕ) (c : List Kind) (w : ExpectedPart) (h : Here b c w) (n : ℕ) (room : length (h.x ∷ h.m) ≤ n) where
    abbrev Refused : FaultCode → Type 0
    Refused code = (p : List ℕ) × (x : ℕ) × (rest : List ℕ) × (b ≡ p ++ x ∷ rest) × (length p ≡ length h.p) × (opens p ≤ limit) × row lossy code p x × ¬ (viable_prefix lossy (p ++ x ∷ []))

    pub refused : (code : FaultCode) → row lossy code h.p h.x → ¬ (Allows w c h.x) → Refused code
    refused code s a = (h.p, h.x, h.m, h.bytes, refl, low_prefix h.at h.low, s, h.refuse a)

    go_on : (q r : List ℕ) (c' : List Kind) (w' : ExpectedPart) (ts' : List Token) → h.x ∷ h.m ≡ q ++ r → q ≢ [] → reading lossy (h.p ++ q) c' w' ts' → LastEnds w' ts' r
        → ((y : ℕ) (k : List ℕ) → r ≡ y ∷ k → IsDigit y → ends_in_zero lossy (h.p ++ q) → ⊥) → peak 0 ts' ≤ limit → IsUtf8 r → Step b n
    go_on q r c' w' ts' e f g i j l u =
        goes (record { p = h.p ++ q; r = r; c = c'; w = w'; ts = ts'; bytes = h.bytes ∙ ap (λ o. h.p ++ o) e ∙ sym (append_assoc h.p q r); at = g; ends = i; zero_ends = j; low = l; utf8 = u })
        (let s = shorter q r (h.x ∷ h.m) e f in omega arith)

    one_on : (c' : List Kind) (w' : ExpectedPart) (ts' : List Token) → reading lossy (h.p ++ h.x ∷ []) c' w' ts' → LastEnds w' ts' h.m → h.x ≢ 48 → h.x < 128 → peak 0 ts' ≤ limit → Step b n
    one_on c' w' ts' g i j k l = go_on (h.x ∷ []) h.m c' w' ts' refl (some_one h.x) g i (λ y m e d z. no_zero_end h.p h.x j z) l (utf8_tail h.x h.m k h.utf8)

    pub no_bad : is_bad_number lossy h.p h.x → ⊥
    no_bad (inl i) = number_no_place lossy h.p c w h.ts i h.at
    no_bad (inr (z, d)) = h.no_zero d z

    -- ---- brackets, commas and colons

    open_on : (k : Kind) → h.x ≡ bracket k → TakesValue w → Step b n
    open_on k e t = by (cases_lt limit (peak 0 (h.ts ++ begin k ∷ [])))
      where
        next : reading lossy (h.p ++ h.x ∷ []) (k ∷ c) (opened k) (h.ts ++ begin k ∷ [])
        next = open_one k h.at t (h.x ∷ [], [], refl, ap (λ o. o ∷ []) e, tt)

        not_done : (k : Kind) → opened k ≡ done → ⊥
        not_done array e = cc
        not_done object e = cc

        no_48 : (k : Kind) → h.x ≡ bracket k → h.x ≢ 48
        no_48 array e f = omega arith
        no_48 object e f = omega arith

        ascii : (k : Kind) → h.x ≡ bracket k → h.x < 128
        ascii array e = omega arith
        ascii object e = omega arith

        by : (limit < peak 0 (h.ts ++ begin k ∷ [])) ⊎ (peak 0 (h.ts ++ begin k ∷ []) ≤ limit) → Step b n
        by (inl o) = finished (inr (recursion_limit_exceeded, length h.p, (h.p, h.x, h.m, k ∷ c, opened k, h.bytes, refl, (h.ts ++ begin k ∷ [], next), low_prefix h.at h.low, (let f = opens_reading lossy next in omega arith))))
        by (inr l) = one_on (k ∷ c) (opened k) (h.ts ++ begin k ∷ []) next (λ f. absurd (not_done k f)) (no_48 k e) (ascii k e) l

    pub close_on : (k : Kind) (c' : List Kind) → c ≡ k ∷ c' → TakesEnd k w → h.x ≡ closing k → Step b n
    close_on k c' f t e = one_on c' done (h.ts ++ end k ∷ []) next (other_ends h.ts (end k) h.m (λ l g. apart k l g)) (no_48 k e) (ascii k e) (let g = peak_end k h.at in let l = h.low in omega arith)
      where
        next : reading lossy (h.p ++ h.x ∷ []) c' done (h.ts ++ end k ∷ [])
        next = read_end lossy h.p (h.x ∷ []) k c' w h.ts (subst (λ o. reading lossy h.p o w h.ts) f h.at) t (h.x ∷ [], [], refl, ap (λ o. o ∷ []) e, tt)

        apart : (k : Kind) (l : List ℕ) → end k ≡ num_token l → ⊥
        apart k l e = cc

        no_48 : (k : Kind) → h.x ≡ closing k → h.x ≢ 48
        no_48 array e f = omega arith
        no_48 object e f = omega arith

        ascii : (k : Kind) → h.x ≡ closing k → h.x < 128
        ascii array e = omega arith
        ascii object e = omega arith

    pub comma_on : (k : Kind) (c' : List Kind) → c ≡ k ∷ c' → w ≡ done → h.x ≡ 44 → Step b n
    comma_on k c' f g e = one_on (k ∷ c') (after_comma k) h.ts (read_comma k (subst (λ o. reading lossy h.p (k ∷ c') o h.ts) g (subst (λ o. reading lossy h.p o w h.ts) f h.at)) (h.x ∷ [], [], refl, ap (λ o. o ∷ []) e, tt)) (λ i. absurd (not_done k i)) (λ i. omega arith) (omega arith) h.low
      where
        not_done : (k : Kind) → after_comma k ≡ done → ⊥
        not_done array e = cc
        not_done object e = cc

    pub colon_on : w ≡ colon → h.x ≡ 58 → Step b n
    colon_on g e = one_on c at_value h.ts (read_colon (subst (λ o. reading lossy h.p c o h.ts) g h.at) (h.x ∷ [], [], refl, ap (λ o. o ∷ []) e, tt)) (λ i. absurd (not_done i)) (λ i. omega arith) (omega arith) h.low
      where
        not_done : at_value ≡ done → ⊥
        not_done e = cc

    -- ---- strings

    pub string_on : TakesValue w ⊎ TakesKey w → h.x ≡ 34 → Step b n
    string_on t e = by (strung (length h.m) [] h.m (omega arith) no_atoms (utf8_tail h.x h.m (omega arith) h.utf8))
      where
        not_done : TakesValue w ⊎ TakesKey w → w ≡ done → ⊥
        not_done (inl t) = takes_not_done t
        not_done (inr t) = takes_key_not_done t

        bytes_so : (v : List ℕ) → h.m ≡ v → b ≡ h.p ++ 34 ∷ v
        bytes_so v f = h.bytes ∙ ap (λ o. h.p ++ o ∷ h.m) e ∙ ap (λ o. h.p ++ 34 ∷ o) f

        low_so : (c' e' z : List ℕ) → Atoms lossy c' → Atom lossy (e' ++ z) → opens (h.p ++ 34 ∷ (c' ++ e')) ≤ limit
        low_so c' e' z a g =
            let s = atoms_chars lossy (atoms_append lossy a (atoms_one lossy g)) in
            low_string s.0 (34 ∷ (c' ++ e')) (z ++ 34 ∷ []) h.at t (c' ++ (e' ++ z), ap (λ o. 34 ∷ o) (simp append_assoc), s.1) h.low

        inside : (c' e' z : List ℕ) → Atoms lossy c' → Atom lossy (e' ++ z) → z ≢ [] → in_string lossy (h.p ++ 34 ∷ (c' ++ e')) e'
        inside c' e' z a g f = let s = atoms_chars lossy a in record { q = h.p; c = c'; s = s.0; rest = z; bytes = refl; at = (c, w, (h.ts, h.at), t); so_far = s.1; goes_on = g; unfinished = f }

        by : Strung h.m → Step b n
        by (closed c' k f a u) = whole_string (atoms_chars lossy a) t
          where
            q : List ℕ
            q = h.x ∷ (c' ++ 34 ∷ [])

            row_so : h.x ∷ h.m ≡ h.x ∷ (c' ++ 34 ∷ []) ++ k
            row_so = ap (λ o. h.x ∷ o) (f ∙ sym (append_assoc c' (34 ∷ []) k))

            no_zero_so : ends_in_zero lossy (h.p ++ h.x ∷ (c' ++ 34 ∷ [])) → ⊥
            no_zero_so z = no_zero_end (h.p ++ h.x ∷ c') 34 (λ g. omega arith) (subst (ends_in_zero lossy) (sym (append_assoc h.p (h.x ∷ c') (34 ∷ []))) z)

            whole_string : (s : List ℕ) × chars lossy s c' → TakesValue w ⊎ TakesKey w → Step b n
            whole_string (s, d) (inl t) =
                go_on (h.x ∷ (c' ++ 34 ∷ [])) k c done (h.ts ++ text_token s ∷ []) row_so (cons_nil h.x (c' ++ 34 ∷ []))
                (read_value (text s) h.at t (h.x ∷ (c' ++ 34 ∷ []), [], sym (append-nil _), (c', ap (λ o. o ∷ (c' ++ 34 ∷ [])) e, d), tt)) (other_ends h.ts (text_token s) k (λ l g. apart s l g)) (λ y m g i z. no_zero_so z)
                (let g = peak_scalar (text s) refl h.at in let l = h.low in omega arith) u
              where
                apart : (s l : List ℕ) → text_token s ≡ num_token l → ⊥
                apart s l e = cc
            whole_string (s, d) (inr t) =
                go_on (h.x ∷ (c' ++ 34 ∷ [])) k c colon (h.ts ++ key_token s ∷ []) row_so (cons_nil h.x (c' ++ 34 ∷ []))
                (read_key s h.at t (h.x ∷ (c' ++ 34 ∷ []), [], sym (append-nil _), (c', ap (λ o. o ∷ (c' ++ 34 ∷ [])) e, d), tt)) (λ g. absurd (apart g)) (λ y m g i z. no_zero_so z)
                (let g = peak_key s h.at in let l = h.low in omega arith) u
              where
                apart : colon ≡ done → ⊥
                apart e = cc
        by (unclosed c' e' z f a g i) =
            let s = bytes_so (c' ++ e') f in let j : in_string lossy b e' = subst (λ o. in_string lossy o e') (sym s) (inside c' e' z a g i) in
            finished (inr (eof_while_parsing, length b, (refl, inr (inr (inr (e', j))), subst (λ o. opens o ≤ limit) (sym s) (low_so c' e' z a g), λ t' k. string_no_place lossy b e' [] done (tokens t') j (text_place t' b k))))
        by (wrong code c' e' z y k f a g i r q d) = told d
          where
            p' : List ℕ
            p' = h.p ++ 34 ∷ (c' ++ e')

            split : b ≡ (h.p ++ 34 ∷ (c' ++ e')) ++ y ∷ k
            split = bytes_so (c' ++ (e' ++ y ∷ k)) f ∙ simp append_assoc

            stuck_so : viable_prefix lossy ((h.p ++ 34 ∷ (c' ++ e')) ++ y ∷ []) → ⊥
            stuck_so (t', m, j) = string_stuck lossy t' c' e' z y m h.at (not_done t) a g i r q (subst (is_text lossy t') (simp append_assoc) j)

            in_it : in_string lossy (h.p ++ 34 ∷ (c' ++ e')) e'
            in_it = inside c' e' z a g i

            told : Told lossy code e' y → Step b n
            told (inl (j, l, o)) = finished (inr (control_character, length (h.p ++ 34 ∷ (c' ++ e')), (h.p ++ 34 ∷ (c' ++ e'), y, k, split, refl, low_so c' e' z a g, (subst (in_string lossy (h.p ++ 34 ∷ (c' ++ e'))) l in_it, o), stuck_so)))
            told (inr (inl (j, (e1, l), o))) =
                finished (inr (invalid_escape, length (h.p ++ 34 ∷ (c' ++ e')), (h.p ++ 34 ∷ (c' ++ e'), y, k, split, refl, low_so c' e' z a g, (e1, subst (in_string lossy (h.p ++ 34 ∷ (c' ++ e'))) l in_it, subst (λ v. ¬ (is_surrogate lossy v y)) l o), stuck_so)))
            told (inr (inr (j, l))) = finished (inr (invalid_surrogate, length (h.p ++ 34 ∷ (c' ++ e')), (h.p ++ 34 ∷ (c' ++ e'), y, k, split, refl, low_so c' e' z a g, (e', in_it, l), stuck_so)))

    -- ---- numbers

    number_on : TakesValue w → (h.x ≡ 45) ⊎ IsDigit h.x → Step b n
    number_on t d = by (number_scan h.x h.m d)
      where
        some : (l : List ℕ) → number l → l ≢ []
        some l nl e = let s = number_begins l nl in cons_nil s.0 s.1 (sym s.2 ∙ e)

        done_digit : (c : List Kind) (y : ℕ) → IsDigit y → Allows done c y → ⊥
        done_digit [] y d (inl i) = i
        done_digit [] y d (inr i) = i
        done_digit (k ∷ c) y d (inl i) = omega arith
        done_digit (array ∷ c) y d (inr i) = omega arith
        done_digit (object ∷ c) y d (inr i) = omega arith

        digit_space : (y : ℕ) → IsDigit y → ¬ (IsWhitespace y)
        digit_space y d s = omega arith

        whole_on : (l rest : List ℕ) → h.x ∷ h.m ≡ l ++ rest → number l → EndsNumber l rest → ((y : ℕ) (k : List ℕ) → rest ≡ y ∷ k → IsDigit y → (l ≡ 48 ∷ []) ⊎ (l ≡ 45 ∷ 48 ∷ [])) → Step b n
        whole_on l rest e nl en zero_or = split rest refl
          where
            next : reading lossy (h.p ++ l) c done (h.ts ++ num_token l ∷ [])
            next = read_value (num l) h.at t (l, [], sym (append-nil l), (nl, refl), tt)

            low_so : peak 0 (h.ts ++ num_token l ∷ []) ≤ limit
            low_so = let g = peak_scalar (num l) refl h.at in let i = h.low in omega arith

            on : ((y : ℕ) (k : List ℕ) → rest ≡ y ∷ k → IsDigit y → ⊥) → Step b n
            on f =
                go_on l rest c done (h.ts ++ num_token l ∷ []) e (some l nl) next (number_last h.ts l rest en) (λ y k g i z. f y k g i) low_so
                (utf8_past l rest (number_ascii l (are_number l nl)) (subst IsUtf8 e h.utf8))

            split : (r : List ℕ) → rest ≡ r → Step b n
            split [] f = on (λ y k g i. cons_nil y k (sym g ∙ f))
            split (y ∷ k) f = digit (dec_digit y)
              where
                digit : IsDigit y ⊎ ¬ (IsDigit y) → Step b n
                digit (inr o) = on (λ y' k' g i. o (subst IsDigit (head (sym g ∙ f)) i))
                digit (inl i) =
                    finished (inr (
                      invalid_number,
                      length (h.p ++ l),
                      (
                        h.p ++ l,
                        y,
                        k,
                        h.bytes ∙ ap (λ o. h.p ++ o) (e ∙ ap (λ o. l ++ o) f) ∙ sym (append_assoc h.p l (y ∷ k)),
                        refl,
                        low_prefix next low_so,
                        inr (record { q = h.p; r = l; bytes = refl; at = (c, w, (h.ts, h.at), t); zero = zero_or y k f i }, i),
                        stuck_so,
                      ),
                    ))
                  where
                    stuck_so : viable_prefix lossy ((h.p ++ l) ++ y ∷ []) → ⊥
                    stuck_so (t', m, g) =
                        done_digit c y i (next_byte lossy t' [] y m next tt (number_last h.ts l (y ∷ m) (λ x j o a v. en x k o (f ∙ ap (λ u. u ∷ k) (head a)) v)) (subst (is_text lossy t') (append_assoc (h.p ++ l) (y ∷ []) m) g) (digit_space y i))

        broken_on : (l rest z : List ℕ) → h.x ∷ h.m ≡ l ++ rest → l ≢ [] → number (l ++ z) → ¬ (number l) → ((y : ℕ) (m k : List ℕ) → rest ≡ y ∷ m → number (l ++ y ∷ k) → ⊥) → Step b n
        broken_on l rest z e ne nz nn st = split rest refl
          where
            in_it : in_number lossy (h.p ++ l)
            in_it = record { q = h.p; r = l; rest = z; bytes = refl; at = (c, w, (h.ts, h.at), t); begun = ne; goes_on = nz; unfinished = nn }

            low_so : opens (h.p ++ l) ≤ limit
            low_so = low_value (num (l ++ z)) l z refl h.at t (nz, refl) h.low

            split : (r : List ℕ) → rest ≡ r → Step b n
            split [] f =
                let s : b ≡ h.p ++ l = h.bytes ∙ ap (λ o. h.p ++ o) (e ∙ ap (λ o. l ++ o) f ∙ append-nil l) in let j : in_number lossy b = subst (in_number lossy) (sym s) in_it in
                finished (inr (eof_while_parsing, length b, (refl, inr (inr (inl j)), subst (λ o. opens o ≤ limit) (sym s) low_so, λ t' k. number_no_place lossy b [] done (tokens t') j (text_place t' b k))))
            split (y ∷ k) f =
                finished (inr (invalid_number, length (h.p ++ l), (h.p ++ l, y, k, h.bytes ∙ ap (λ o. h.p ++ o) (e ∙ ap (λ o. l ++ o) f) ∙ sym (append_assoc h.p l (y ∷ k)), refl, low_so, inl in_it, stuck_so)))
              where
                stuck_so : viable_prefix lossy ((h.p ++ l) ++ y ∷ []) → ⊥
                stuck_so (t', m, g) = number_stuck lossy t' l z y m h.at (takes_not_done t) ne nz nn (λ i. st y k i f) (subst (is_text lossy t') (simp append_assoc) g)

        by : Scanned (h.x ∷ h.m) → Step b n
        by (whole l rest e nl en zero_or) = whole_on l rest e nl en zero_or
        by (broken l rest z e ne nz nn st) = broken_on l rest z e ne nz nn st

    -- ---- literals

    word_on : TakesValue w → (t0 : Tree) (y : Token) (v v0 : List ℕ) (x0 y0 : ℕ) (v1 : List ℕ) → value lossy t0 v → is_word v → depth t0 ≡ 0 → tokens t0 ≡ y ∷ [] → ((l : List ℕ) → y ≢ num_token l) → AllAscii v → v ≡ v0 ++ y0 ∷ [] → y0 ≢ 48
        → v ≡ x0 ∷ v1 → h.x ≡ x0 → Step b n
    word_on t t0 y v v0 x0 y0 v1 hv hw hd ht hn ha hl h0 hx e = by (matched v (h.x ∷ h.m))
      where
        in_it : (q z : List ℕ) → q ≢ [] → z ≢ [] → v ≡ q ++ z → in_word lossy (h.p ++ q)
        in_it q z f g i = record { q = h.p; r = q; rest = z; bytes = refl; at = (c, w, (h.ts, h.at), t); word = subst is_word i hw; begun = f; unfinished = g }

        low_so : (q z : List ℕ) → v ≡ q ++ z → opens (h.p ++ q) ≤ limit
        low_so q z i = low_value t0 q z hd h.at t (subst (value lossy t0) i hv) h.low

        begun_so : (q z : List ℕ) (y' : ℕ) (k : List ℕ) → h.x ∷ h.m ≡ q ++ y' ∷ k → v ≡ q ++ z → ((j : List ℕ) → z ≡ y' ∷ j → ⊥) → q ≢ []
        begun_so [] z y' k f g i o = i v1 (sym g ∙ hx ∙ ap (λ u. u ∷ v1) (sym e ∙ head f))
        begun_so (a ∷ q) z y' k f g i o = cons_nil a q o

        by : Matched v (h.x ∷ h.m) → Step b n
        by (agrees k f) =
            go_on v k c done (h.ts ++ tokens t0) f (λ g. cons_nil x0 v1 (sym hx ∙ g)) (read_value t0 h.at t (v, [], sym (append-nil v), hv, tt)) (subst (λ o. LastEnds done (h.ts ++ o) k) (sym ht) (other_ends h.ts y k hn))
            (λ y' m g i z. no_zero_end (h.p ++ v0) y0 h0 (subst (ends_in_zero lossy) (ap (λ o. h.p ++ o) hl ∙ sym (append_assoc h.p v0 (y0 ∷ []))) z)) (let g = peak_scalar t0 hd h.at in let l = h.low in omega arith)
            (utf8_past v k ha (subst IsUtf8 f h.utf8))
        by (short_of z f g) =
            let j : in_word lossy b = subst (in_word lossy) (sym h.bytes) (in_it (h.x ∷ h.m) z (cons_nil h.x h.m) g f) in
            finished (inr (eof_while_parsing, length b, (refl, inr (inl j), subst (λ o. opens o ≤ limit) (sym h.bytes) (low_so (h.x ∷ h.m) z f), λ t' k. word_no_place lossy b [] done (tokens t') j (text_place t' b k))))
        by (differs q z y' k f g i o) =
            finished (inr (invalid_literal, length (h.p ++ q), (h.p ++ q, y', k, h.bytes ∙ ap (λ u. h.p ++ u) f ∙ sym (append_assoc h.p q (y' ∷ k)), refl, low_so q z g, in_it q z (begun_so q z y' k f g o) i g, stuck_so)))
          where
            stuck_so : viable_prefix lossy ((h.p ++ q) ++ y' ∷ []) → ⊥
            stuck_so (t', m, j) = word_stuck lossy t' q z y' m h.at (takes_not_done t) (begun_so q z y' k f g o) i (subst is_word g hw) o (subst (is_text lossy t') (simp append_assoc) j)

    -- ---- values

    pub value_on : TakesValue w → (¬ (BeginsValue h.x) → Step b n) → Step b n
    value_on t other = go (cases_eq h.x 110) (cases_eq h.x 116) (cases_eq h.x 102) (cases_eq h.x 45) (dec_digit h.x) (cases_eq h.x 34) (cases_eq h.x 91) (cases_eq h.x 123)
      where
        null_num : (l : List ℕ) → null_token ≡ num_token l → ⊥
        null_num l e = cc

        boolean_num : (v : Bool) (l : List ℕ) → boolean_token v ≡ num_token l → ⊥
        boolean_num v l e = cc

        go : (h.x ≡ 110) ⊎ (h.x ≡ 110 → ⊥) → (h.x ≡ 116) ⊎ (h.x ≡ 116 → ⊥) → (h.x ≡ 102) ⊎ (h.x ≡ 102 → ⊥) → (h.x ≡ 45) ⊎ (h.x ≡ 45 → ⊥) → IsDigit h.x ⊎ ¬ (IsDigit h.x) → (h.x ≡ 34) ⊎ (h.x ≡ 34 → ⊥) → (h.x ≡ 91) ⊎ (h.x ≡ 91 → ⊥)
            → (h.x ≡ 123) ⊎ (h.x ≡ 123 → ⊥) → Step b n
        go (inl e) b1 b2 b3 b4 b5 b6 b7 = word_on t null null_token null_bytes (110 ∷ 117 ∷ 108 ∷ []) 110 108 (117 ∷ 108 ∷ 108 ∷ []) refl (inl refl) refl refl null_num null_ascii refl (λ f. omega arith) refl e
        go (inr a0) (inl e) b2 b3 b4 b5 b6 b7 =
            word_on t (boolean true) (boolean_token true) (boolean_bytes true) (116 ∷ 114 ∷ 117 ∷ []) 116 101 (114 ∷ 117 ∷ 101 ∷ []) refl (inr (inl refl)) refl refl (boolean_num true) (boolean_ascii true) refl (λ f. omega arith) refl e
        go (inr a0) (inr a1) (inl e) b3 b4 b5 b6 b7 =
            word_on t (boolean false) (boolean_token false) (boolean_bytes false) (102 ∷ 97 ∷ 108 ∷ 115 ∷ []) 102 101 (97 ∷ 108 ∷ 115 ∷ 101 ∷ []) refl (inr (inr refl)) refl refl (boolean_num false) (boolean_ascii false) refl (λ f. omega arith) refl e
        go (inr a0) (inr a1) (inr a2) (inl e) b4 b5 b6 b7 = number_on t (inl e)
        go (inr a0) (inr a1) (inr a2) (inr a3) (inl e) b5 b6 b7 = number_on t (inr e)
        go (inr a0) (inr a1) (inr a2) (inr a3) (inr a4) (inl e) b6 b7 = string_on (inl t) e
        go (inr a0) (inr a1) (inr a2) (inr a3) (inr a4) (inr a5) (inl e) b7 = open_on array e t
        go (inr a0) (inr a1) (inr a2) (inr a3) (inr a4) (inr a5) (inr a6) (inl e) = open_on object e t
        go (inr a0) (inr a1) (inr a2) (inr a3) (inr a4) (inr a5) (inr a6) (inr a7) = other none
          where
            none : BeginsValue h.x → ⊥
            none (inl e) = a0 e
            none (inr (inl e)) = a1 e
            none (inr (inr (inl e))) = a2 e
            none (inr (inr (inr (inl e)))) = a3 e
            none (inr (inr (inr (inr (inl e))))) = a4 e
            none (inr (inr (inr (inr (inr (inl e)))))) = a5 e
            none (inr (inr (inr (inr (inr (inr (inl e))))))) = a6 e
            none (inr (inr (inr (inr (inr (inr (inr e))))))) = a7 e
