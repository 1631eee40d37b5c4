-- By any rules an input that is UTF-8 is a text of a tree that fits, or has one fault.
use Rattle.std.proofs.Common.{Bool, true, false, ◌≡◌, ℕ, ◌<◌, ◌≤◌, List, [], ◌∷◌, ◌++◌, length, take, drop, ◌⊎◌, inl, inr, refl, sym, ap, ◌∙◌, arith, append_assoc, append-nil, length-append, length-take, take_all, IsUtf8}
use Rattle.std.proofs.lemmas.Bool.{cases_lt}
use Rattle.std.proofs.lemmas.List.{take-append-drop}
use Rattle.json_grammar.specs.declared.Kind.{Kind}
use Rattle.json_grammar.specs.declared.ExpectedPart.TheVariants.{Colon as colon}
use Rattle.json_grammar.specs.Tree.{Tree, depth, Token}
use Rattle.json_grammar.specs.Grammar.{is_text}
use Rattle.json_grammar.specs.Place.{viable_prefix, reading}
use Rattle.json_grammar.specs.Fault.{opens, FaultCode, recursion_limit_exceeded, duplicate_key, too_deep, fault_by, fault}
use Rattle.json_grammar.specs.Repeated.{first_repeated}
use Rattle.json_grammar.specs.Rules.{Rules, fits, no_repeat_before, no_repeat, fault_with_by, fault_with}
use Rattle.json_grammar.proofs.Lists.{Cut, cut, longer, shorter}
use Rattle.json_grammar.proofs.Faults.{shorter_viable}
use Rattle.json_grammar.proofs.OneFault.{Told, deep, short, other, told, one_fault_by, opens_text, text_no_fault}
use Rattle.json_grammar.proofs.SomeFault.{some_fault}
use Rattle.json_grammar.proofs.FirstRepeated.{NoneIn, FirstIn, within, text_repeats, repeats_text}
use Rattle.json_grammar.proofs.RepeatedInput.{opens_take, opens_grow, in_longest_by, named_prefix, before_bracket, one_first, search_any}

pub no_true : {A : Type 0} → false ≡ true → A
no_true e = absurd (cc)

abbrev pub unique_of : ℕ → Rules
unique_of n = record { limit = n; unique = true }

module _ (lossy : Bool) where
  -- ---- the kinds of faults

  -- a repeated name, a level too many before any, or another fault where none repeats
  pub data Kinds (V : List ℕ → Type 0) (W : Type 0) (r : Rules) (b : List ℕ) (k : ℕ) : FaultCode → Type 0 where
    twice : r.unique ≡ true
        → first_repeated lossy b k
        → opens (take k b) ≤ r.limit
        → Kinds V W r b k duplicate_key
    too_deep_first : fault_by lossy V W r.limit b recursion_limit_exceeded k
        → no_repeat_before lossy r b k
        → Kinds V W r b k recursion_limit_exceeded
    no_name : {code : FaultCode}
        → fault_by lossy V W r.limit b code k
        → no_repeat lossy r b
        → Kinds V W r b k code

  pub kinds : (V : List ℕ → Type 0) (W : Type 0) (r : Rules) (b : List ℕ) (code : FaultCode) (k : ℕ)
      → fault_with_by lossy V W r b code k
      → Kinds V W r b k code
  kinds V W r b duplicate_key k h = twice h.0 h.1 h.2
  kinds V W r b recursion_limit_exceeded k h = too_deep_first h.0 h.1
  kinds V W r b code k h = no_name h.0 h.1

  -- where no name repeats the fault is that of the limit
  pub stays : (V : List ℕ → Type 0) (W : Type 0) (r : Rules) (b : List ℕ) (code : FaultCode) (k : ℕ)
      → fault_by lossy V W r.limit b code k
      → no_repeat lossy r b
      → fault_with_by lossy V W r b code k
  stays V W r b duplicate_key k (p, x, l, o, w, s) n = absurd s
  stays V W r b recursion_limit_exceeded k h n = (h, λ u j l. n u j)
  stays V W r b code k h n = (h, n)

  -- the names that repeat and the brackets that open too many levels are never reported at once
  apart : (V : List ℕ → Type 0) (r : Rules) (b : List ℕ) (i j : ℕ)
      → r.unique ≡ true
      → first_repeated lossy b i
      → opens (take i b) ≤ r.limit
      → too_deep V r.limit b j
      → no_repeat_before lossy r b j
      → ⊥
  apart V r b i j u (f, least) o (p, x, rest, e, l, v, low, high) n = by (cases_lt i j) (cases_lt j i)
    where
      split : b ≡ (p ++ x ∷ []) ++ rest
      split = e ∙ sym (append_assoc p (x ∷ []) rest)

      front : Cut (p ++ x ∷ []) rest (take i b) (drop i b)
          → j < i
          → opens (p ++ x ∷ []) ≤ opens (take i b)
      front (longer d f g) m = opens_grow (p ++ x ∷ []) (take i b) d f
      front (shorter y d f g) m = short (cases_lt i (length b))
        where
          short : (i < length b) ⊎ (length b ≤ i) → opens (p ++ x ∷ []) ≤ opens (take i b)
          short (inl w) = let q : length (p ++ x ∷ []) ≡ length (take i b ++ y ∷ d) = ap length f in absurd (omega (arith, length-append (take i b) (y ∷ d), length-append p (x ∷ []), length-take i b))
          short (inr w) = let q : take i b ≡ b = take_all i b w in opens_grow (p ++ x ∷ []) (take i b) rest (q ∙ split)

      by : (i < j) ⊎ (j ≤ i) → (j < i) ⊎ (i ≤ j) → ⊥
      by (inl m) d = n u i m f
      by (inr m) (inl d) = let g = front (cut (p ++ x ∷ []) rest (take i b) (drop i b) (sym split ∙ sym (take-append-drop i b))) d in omega arith
      by (inr m) (inr d) = let g = within lossy p i (before_bracket lossy b p x rest i e (omega arith) (omega arith) f) in omega arith

  -- one code and one offset, whatever prefixes are viable
  pub one_with_by : (V : List ℕ → Type 0) (W : Type 0)
      → ((p m : List ℕ) → V (p ++ m) → V p)
      → (r : Rules) (b : List ℕ) (code code' : FaultCode) (k k' : ℕ)
      → fault_with_by lossy V W r b code k
      → fault_with_by lossy V W r b code' k'
      → (code ≡ code') × (k ≡ k')
  one_with_by V W shorten r b code code' k k' h h' = go (kinds V W r b code k h) (kinds V W r b code' k' h')
    where
      limit_one : (c c' : FaultCode)
          → fault_by lossy V W r.limit b c k
          → fault_by lossy V W r.limit b c' k'
          → (c ≡ c') × (k ≡ k')
      limit_one c c' d d' = one_fault_by lossy V W shorten r.limit b c c' k k' d d'

      go : {c c' : FaultCode} → Kinds V W r b k c → Kinds V W r b k' c' → (c ≡ c') × (k ≡ k')
      go (twice u f o) (twice u' f' o') = (refl, one_first lossy b k k' f f')
      go (twice u f o) (too_deep_first d n) = absurd (apart V r b k k' u f o d n)
      go (twice u f o) (no_name d n) = absurd (n u k f.0)
      go (too_deep_first d n) (twice u f o) = absurd (apart V r b k' k u f o d n)
      go (too_deep_first d n) (too_deep_first d' n') = limit_one recursion_limit_exceeded recursion_limit_exceeded d d'
      go {c' = c'} (too_deep_first d n) (no_name d' n') = limit_one recursion_limit_exceeded c' d d'
      go (no_name d n) (twice u f o) = absurd (n u k' f.0)
      go {c} (no_name d n) (too_deep_first d' n') = limit_one c recursion_limit_exceeded d d'
      go {c} {c'} (no_name d n) (no_name d' n') = limit_one c c' d d'

  -- with unique names there is a fault where there is one of the limit
  pub some_with_by : (V : List ℕ → Type 0) (W : Type 0) (P : FaultCode → Type 0)
      → ((p m : List ℕ) → V (p ++ m) → V p)
      → ((p : List ℕ) (c : List Kind) (ts : List Token) → reading lossy p c colon ts → V p)
      → P duplicate_key
      → P recursion_limit_exceeded
      → (n : ℕ) (b : List ℕ)
      → NoneIn lossy b ⊎ FirstIn lossy b
      → (code : FaultCode) (k : ℕ)
      → P code
      → fault_by lossy V W n b code k
      → (code' : FaultCode) × (k' : ℕ) × P code' × fault_with_by lossy V W (unique_of n) b code' k'
  some_with_by V W P shorten named pt pd n b (inl g) code k pc h = (code, k, pc, stays V W (unique_of n) b code k h (λ u j. g j))
  some_with_by V W P shorten named pt pd n b (inr f) code k pc h = by (cases_lt n (opens (take f.k b)))
    where
      Out : Type 0
      Out = (code' : FaultCode) × (k' : ℕ) × P code' × fault_with_by lossy V W (unique_of n) b code' k'

      high : {c : FaultCode} → n < opens (take f.k b) → Told lossy V W n b k c → Out
      high o (short s) = let i = within lossy b f.k f.at in let g = opens_take f.k b [] b (sym (append-nil b)) (omega arith) in let low = s.2 in absurd (omega arith)
      high o (other w) =
          let i = within lossy w.p f.k (in_longest_by lossy V shorten named b w.p w.x w.long.rest f.k w.long.bytes w.long.no_longer f.at) in
          let g = opens_take f.k w.p (w.x ∷ w.long.rest) b w.long.bytes (omega arith) in let low = w.within in absurd (omega arith)
      high o (deep (p, x, rest, e, l, v, low, d)) = at (cases_lt f.k k)
        where
          at : (f.k < k) ⊎ (k ≤ f.k) → Out
          at (inl m) = let g = opens_take f.k p (x ∷ rest) b e (omega arith) in absurd (omega arith)
          at (inr m) = (recursion_limit_exceeded, k, pd, ((p, x, rest, e, l, v, low, d), λ u j a. f.least j (omega arith)))

      by : (n < opens (take f.k b)) ⊎ (opens (take f.k b) ≤ n) → Out
      by (inr o) = (duplicate_key, f.k, pt, (refl, (f.at, f.least), o))
      by (inl o) = high o (told lossy V W n b code k h)

  -- ---- texts

  pub plain_with : (limit : ℕ) (b : List ℕ) (code : FaultCode) (k : ℕ)
      → fault lossy limit b code k
      → fault_with lossy (record { limit = limit; unique = false }) b code k
  plain_with n b code k h = stays (viable_prefix lossy) ((t : Tree) × is_text lossy t b) (record { limit = n; unique = false }) b code k h (λ e. no_true e)

  pub with_plain : (V : List ℕ → Type 0) (W : Type 0) (r : Rules) (b : List ℕ) (code : FaultCode) (k : ℕ)
      → r.unique ≡ false
      → fault_with_by lossy V W r b code k
      → fault_by lossy V W r.limit b code k
  with_plain V W r b duplicate_key k e h = no_true (sym e ∙ h.0)
  with_plain V W r b recursion_limit_exceeded k e h = h.0
  with_plain V W r b code k e h = h.0

  pub fault_with_plain : (limit : ℕ) (b : List ℕ) (code : FaultCode) (k : ℕ)
      → fault_with lossy (record { limit = limit; unique = false }) b code k
      → fault lossy limit b code k
  fault_with_plain n b code k h = with_plain (viable_prefix lossy) ((t : Tree) × is_text lossy t b) (record { limit = n; unique = false }) b code k refl h

  -- an input has one fault at most, at one offset
  pub one_fault_with : (r : Rules) (b : List ℕ) (code code' : FaultCode) (k k' : ℕ)
      → fault_with lossy r b code k
      → fault_with lossy r b code' k'
      → (code ≡ code') × (k ≡ k')
  one_fault_with r b code code' k k' h h' = one_with_by (viable_prefix lossy) ((t : Tree) × is_text lossy t b) (shorter_viable lossy) r b code code' k k' h h'

  -- a text of a tree that fits has none
  pub text_no_fault_with : (r : Rules) (b : List ℕ) (t : Tree) (code : FaultCode) (k : ℕ)
      → is_text lossy t b
      → fits t r
      → fault_with lossy r b code k
      → ⊥
  text_no_fault_with r b t code k h f g = go (kinds (viable_prefix lossy) ((t : Tree) × is_text lossy t b) r b code k g)
    where
      go : {c : FaultCode}
          → Kinds (viable_prefix lossy) ((t : Tree) × is_text lossy t b) r b k c
          → ⊥
      go (twice u i o) = f.1 u (text_repeats lossy t b k h i.0)
      go (too_deep_first d n) = text_no_fault lossy r.limit b t recursion_limit_exceeded k h f.0 d
      go {c} (no_name d n) = text_no_fault lossy r.limit b t c k h f.0 d

  abbrev Judged : Rules → List ℕ → Type 0
  Judged r b = ((t : Tree) × is_text lossy t b × fits t r) ⊎ ((code : FaultCode) × (k : ℕ) × fault_with lossy r b code k)

  text_judged : (n : ℕ) (b : List ℕ) (t : Tree)
      → is_text lossy t b
      → depth t ≤ n
      → NoneIn lossy b ⊎ FirstIn lossy b
      → Judged (unique_of n) b
  text_judged n b t h l (inl o) = inl (t, h, (l, λ u x. let r = repeats_text lossy t b h x in o r.0 r.1))
  text_judged n b t h l (inr f) =
      let i = within lossy b f.k f.at in let g = opens_take f.k b [] b (sym (append-nil b)) (omega arith) in let e = opens_text lossy t b h in
      inr (duplicate_key, f.k, (refl, (f.at, f.least), omega arith))

  judged : (n : ℕ) (unique : Bool) (b : List ℕ)
      → NoneIn lossy b ⊎ FirstIn lossy b
      → ((t : Tree) × is_text lossy t b × (depth t ≤ n)) ⊎ ((code : FaultCode) × (k : ℕ) × fault lossy n b code k)
      → Judged (record { limit = n; unique = unique }) b
  judged n true b s (inl (t, h, l)) = text_judged n b t h l s
  judged n true b s (inr (code, k, h)) = let o = some_with_by (viable_prefix lossy) ((t : Tree) × is_text lossy t b) (λ _. Unit {0}) (shorter_viable lossy) (named_prefix lossy) tt tt n b s code k tt h in inr (o.0, o.1, o.3)
  judged n false b s (inl (t, h, l)) = inl (t, h, (l, λ e. no_true e))
  judged n false b s (inr (code, k, h)) = inr (code, k, plain_with n b code k h)

  -- an input that is UTF-8 is a text of a tree that fits, or has a fault
  pub some_fault_with : (r : Rules) (b : List ℕ)
      → IsUtf8 b
      → ((t : Tree) × is_text lossy t b × fits t r) ⊎ ((code : FaultCode) × (k : ℕ) × fault_with lossy r b code k)
  some_fault_with r b u = judged r.limit r.unique b (search_any lossy b u) (some_fault lossy r.limit b u)
