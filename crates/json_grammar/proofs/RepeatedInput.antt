-- A name that repeats in an input: it is in a viable prefix, and before the longest one ends; and
-- whether there is one.
use Rattle.std.proofs.Common.{Bool, ◌≡◌, ℕ, ◌<◌, ◌≤◌, List, [], ◌∷◌, ◌++◌, length, take, drop, ◌⊎◌, inl, inr, sym, ap, ◌∙◌, subst, arith, append_assoc, append-nil, length-append, IsUtf8}
use Rattle.std.proofs.lemmas.Bool.{cases_lt}
use Rattle.std.proofs.lemmas.List.{take-append-drop, take-append-le}
use Rattle.json_grammar.specs.declared.Kind.{Kind}
use Rattle.json_grammar.specs.declared.Kind.TheVariants.{Object as object}
use Rattle.json_grammar.specs.declared.ExpectedPart.{ExpectedPart}
use Rattle.json_grammar.specs.declared.ExpectedPart.TheVariants.{Colon as colon, Done as done}
use Rattle.json_grammar.specs.Tree.{Token, key_token}
use Rattle.json_grammar.specs.Place.{viable_prefix, place, reading, read_key}
use Rattle.json_grammar.specs.Fault.{opens, FaultCode, eof_while_parsing, recursion_limit_exceeded, in_word, in_number, in_string, row, faulty, viable_value}
use Rattle.json_grammar.specs.Repeated.{repeated, first_repeated}
use Rattle.json_grammar.proofs.Lists.{Cut, cut, longer, shorter, head}
use Rattle.json_grammar.proofs.Completing.{place_viable}
use Rattle.json_grammar.proofs.Opens.{opens_reading}
use Rattle.json_grammar.proofs.Faults.{shorter_viable}
use Rattle.json_grammar.proofs.OneFault.{opens_least, at_place, within_word, within_number, within_string, meant}
use Rattle.json_grammar.proofs.InputSteps.{Outcome, peak_key, text_place}
use Rattle.json_grammar.proofs.SomeFault.{some_outcome}
use Rattle.json_grammar.proofs.OneValue.{viable_split}
use Rattle.json_grammar.proofs.Reading.{one_place, colon_not_done}
use Rattle.json_grammar.proofs.RepeatedNames.{NameAt, name_in, repeated_at, at_repeated, repeated_more}
use Rattle.json_grammar.proofs.FirstRepeated.{NoneIn, FirstIn, search_place, search_end}

pub opens_take : (k : ℕ) (p r b : List ℕ) → b ≡ p ++ r → k ≤ length p → opens (take k b) ≤ opens p
opens_take k p r b e l =
    let f : take k b ≡ take k p = ap (take k) e ∙ take-append-le k p r l in
    let g = opens_least (take k p) (drop k p) in
    let h : opens (take k p ++ drop k p) ≡ opens p = ap opens (take-append-drop k p) in
    let i : opens (take k b) ≡ opens (take k p) = ap opens f in
    omega arith

pub opens_grow : (a p e : List ℕ) → p ≡ a ++ e → opens a ≤ opens p
opens_grow a p e f = let g = opens_least a e in let h : opens p ≡ opens (a ++ e) = ap opens f in omega arith

module _ (lossy : Bool) where
  -- a name of an input, cut at p: it is one of p, or goes on after p
  pub data Reaches (p z : List ℕ) (k : ℕ) (r : NameAt lossy (p ++ z) k) : Type 0 where
    ends_in : NameAt lossy p k → Reaches p z k r
    goes_past : (y : ℕ) (e : List ℕ)
        → r.q ++ r.v ≡ p ++ y ∷ e
        → z ≡ y ∷ (e ++ r.rest)
        → Reaches p z k r

  pub reaches : (p z : List ℕ) (k : ℕ) (r : NameAt lossy (p ++ z) k) → Reaches p z k r
  reaches p z k r = by (cut p z (r.q ++ r.v) r.rest (r.bytes ∙ sym (append_assoc r.q r.v r.rest)))
    where
      shorter_by : (rest : List ℕ) → p ≡ (r.q ++ r.v) ++ rest → Reaches p z k r
      shorter_by rest e = ends_in (name_in lossy p r rest (e ∙ append_assoc r.q r.v rest))

      by : Cut p z (r.q ++ r.v) r.rest → Reaches p z k r
      by (longer [] f g) = shorter_by [] (sym (append-nil p) ∙ sym f ∙ sym (append-nil (r.q ++ r.v)))
      by (longer (y ∷ e) f g) = goes_past y e f g
      by (shorter y e f g) = shorter_by (y ∷ e) f

  pub name_place : {p : List ℕ} {k : ℕ} (r : NameAt lossy p k)
      → reading lossy (r.q ++ r.v) (object ∷ r.c) colon (r.ts ++ key_token r.s ∷ [])
  name_place r = read_key r.s r.at r.takes (r.v, [], sym (append-nil r.v), r.is_string, tt)

  pub name_opens : {p : List ℕ} {k : ℕ} (r : NameAt lossy p k) → opens (r.q ++ r.v) ≡ opens r.q
  name_opens r = opens_reading lossy (name_place r) ∙ peak_key lossy 0 r.s r.at ∙ sym (opens_reading lossy r.at)

  -- a name whose quotation mark is no further than a bracket that opens a level is whole before the
  -- bracket
  pub before_bracket : (b p : List ℕ) (x : ℕ) (rest : List ℕ) (j : ℕ)
      → b ≡ p ++ x ∷ rest
      → opens p < opens (p ++ x ∷ [])
      → j ≤ length p
      → repeated lossy b j
      → repeated lossy p j
  before_bracket b p x rest j e o l h = let r = repeated_at lossy (p ++ x ∷ rest) j (subst (λ y. repeated lossy y j) e h) in by r (reaches p (x ∷ rest) j r)
    where
      low : (q v m : List ℕ) → q ++ v ≡ p ++ m → length q ≤ length p → opens q ≤ opens p
      low q v m f k = at (cut p m q v (sym f))
        where
          at : Cut p m q v → opens q ≤ opens p
          at (longer [] i g) = let d : opens q ≡ opens p = ap opens (i ∙ append-nil p) in omega arith
          at (longer (y ∷ d) i g) = let a : length q ≡ length (p ++ y ∷ d) = ap length i in absurd (omega (arith, length-append p (y ∷ d)))
          at (shorter y d i g) = opens_grow q p (y ∷ d) i

      by : (r : NameAt lossy (p ++ x ∷ rest) j) → Reaches p (x ∷ rest) j r → repeated lossy p j
      by r (ends_in a) = at_repeated lossy p j a
      by r (goes_past y m f g) =
          let q_is = r.offset in
          let a = low r.q r.v (y ∷ m) f (omega arith) in
          let c = opens_grow (p ++ x ∷ []) (r.q ++ r.v) m (f ∙ ap (λ z. p ++ z ∷ m) (sym (head g)) ∙ sym (append_assoc p (x ∷ []) m)) in
          let d = name_opens r in
          absurd (omega arith)

  -- a name of an input is one of its longest viable prefix, in whichever sense names are viable
  pub in_longest_by : (V : List ℕ → Type 0)
      → ((p m : List ℕ) → V (p ++ m) → V p)
      → ((p : List ℕ) (c : List Kind) (ts : List Token) → reading lossy p c colon ts → V p)
      → (b p : List ℕ) (x : ℕ) (rest : List ℕ) (j : ℕ)
      → b ≡ p ++ x ∷ rest
      → ¬ (V (p ++ x ∷ []))
      → repeated lossy b j
      → repeated lossy p j
  in_longest_by V shorten named b p x rest j e n h = let r = repeated_at lossy (p ++ x ∷ rest) j (subst (λ y. repeated lossy y j) e h) in by r (reaches p (x ∷ rest) j r)
    where
      by : (r : NameAt lossy (p ++ x ∷ rest) j) → Reaches p (x ∷ rest) j r → repeated lossy p j
      by r (ends_in a) = at_repeated lossy p j a
      by r (goes_past y m f g) =
          absurd (n (shorten (p ++ x ∷ []) m (subst V (f ∙ ap (λ z. p ++ z ∷ m) (sym (head g)) ∙ sym (append_assoc p (x ∷ []) m)) (named (r.q ++ r.v) (object ∷ r.c) (r.ts ++ key_token r.s ∷ []) (name_place r)))))

  pub named_prefix : (p : List ℕ) (c : List Kind) (ts : List Token)
      → reading lossy p c colon ts
      → viable_prefix lossy p
  named_prefix p c ts h = place_viable lossy p c colon ts h

  pub named_value : (p : List ℕ) (c : List Kind) (ts : List Token)
      → reading lossy p c colon ts
      → viable_value lossy p
  named_value p c ts h = by (viable_split lossy p (place_viable lossy p c colon ts h))
    where
      by : viable_value lossy p ⊎ place lossy p [] done → viable_value lossy p
      by (inl v) = v
      by (inr (us, g)) = absurd (colon_not_done (sym (one_place lossy g h).1))

  pub in_longest : (b p : List ℕ) (x : ℕ) (rest : List ℕ) (j : ℕ)
      → b ≡ p ++ x ∷ rest
      → ¬ (viable_prefix lossy (p ++ x ∷ []))
      → repeated lossy b j
      → repeated lossy p j
  in_longest b p x rest j e n h = in_longest_by (viable_prefix lossy) (shorter_viable lossy) named_prefix b p x rest j e n h

  -- a name that repeats is in a viable prefix
  pub repeated_viable : (b : List ℕ) (k : ℕ)
      → repeated lossy b k
      → (p : List ℕ) × (rest : List ℕ) × (b ≡ p ++ rest) × viable_prefix lossy p × repeated lossy p k
  repeated_viable b k h = by (repeated_at lossy b k h)
    where
      by : NameAt lossy b k
          → (p : List ℕ) × (rest : List ℕ) × (b ≡ p ++ rest) × viable_prefix lossy p × repeated lossy p k
      by r = (
        r.q ++ r.v,
        r.rest,
        r.bytes ∙ sym (append_assoc r.q r.v r.rest),
        place_viable lossy (r.q ++ r.v) (object ∷ r.c) colon (r.ts ++ key_token r.s ∷ []) (name_place r),
        at_repeated lossy (r.q ++ r.v) k (name_in lossy (r.q ++ r.v) r [] (ap (λ y. r.q ++ y) (sym (append-nil r.v)))),
      )

  -- the first one is one
  pub one_first : (b : List ℕ) (k k' : ℕ)
      → first_repeated lossy b k
      → first_repeated lossy b k'
      → k ≡ k'
  one_first b k k' (h, f) (h', f') = by (cases_lt k k') (cases_lt k' k)
    where
      by : (k < k') ⊎ (k' ≤ k) → (k' < k) ⊎ (k ≤ k') → k ≡ k'
      by (inl l) m = absurd (f' k l h)
      by (inr l) (inl m) = absurd (f k' m h')
      by (inr l) (inr m) = omega arith

  -- ---- whether a name repeats in an input

  -- where the first one does, in any input that is UTF-8
  pub search_any : (b : List ℕ) → IsUtf8 b → NoneIn lossy b ⊎ FirstIn lossy b
  search_any b u = by (some_outcome lossy (opens b) b u)
    where
      short : ((c : List Kind) × (w : ExpectedPart) × place lossy b c w) ⊎ (in_word lossy b ⊎ (in_number lossy b ⊎ ((e : List ℕ) × in_string lossy b e)))
          → NoneIn lossy b ⊎ FirstIn lossy b
      short (inl (c, w, s)) = search_end lossy b (at_place c w) s
      short (inr (inl s)) = search_end lossy b within_word s
      short (inr (inr (inl s))) = search_end lossy b within_number s
      short (inr (inr (inr (e, s)))) = search_end lossy b (within_string e) s

      longest_row : (code : FaultCode) (p : List ℕ) (x : ℕ) (rest : List ℕ)
          → b ≡ p ++ x ∷ rest
          → row lossy code p x
          → ¬ (viable_prefix lossy (p ++ x ∷ []))
          → NoneIn lossy b ⊎ FirstIn lossy b
      longest_row code p x rest e s n = let m = meant lossy code p x s in at (search_end lossy p m.end m.is_there)
        where
          at : NoneIn lossy p ⊎ FirstIn lossy p → NoneIn lossy b ⊎ FirstIn lossy b
          at (inl g) = inl (λ j h. g j (in_longest b p x rest j e n h))
          at (inr f) = inr (record { k = f.k; at = subst (λ y. repeated lossy y f.k) (sym e) (repeated_more lossy p (x ∷ rest) f.k f.at); least = λ j l h. f.least j l (in_longest b p x rest j e n h) })

      faulty_by : (code : FaultCode) (k : ℕ)
          → faulty lossy (opens b) b code k
          → NoneIn lossy b ⊎ FirstIn lossy b
      faulty_by recursion_limit_exceeded k (p, x, rest, c, w, e, l, h, o, d) = absurd (let g = opens_grow (p ++ x ∷ []) b rest (e ∙ sym (append_assoc p (x ∷ []) rest)) in omega arith)
      faulty_by eof_while_parsing k h = short h.1
      faulty_by code k h = longest_row code h.0 h.1 h.2 h.3 h.6 h.7

      by : Outcome lossy (opens b) b → NoneIn lossy b ⊎ FirstIn lossy b
      by (inl (t, h, l)) = search_place lossy (text_place lossy 0 t b h)
      by (inr (code, k, h)) = faulty_by code k h
