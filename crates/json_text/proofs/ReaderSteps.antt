-- How a reader goes on, and the faults of a place.
use Rattle.std.proofs.Common.{◌≡◌, ◌≢◌, ℕ, ◌+◌, ◌-◌, ◌<◌, ◌≤◌, List, [], ◌∷◌, ◌++◌, length, get_or, take, ◌⊎◌, inl, inr, Some, refl, sym, ap, ◌∙◌, subst, arith, append_assoc, Bool}
use Rattle.std.proofs.lemmas.Bool.{cases_lt}
use Rattle.json_grammar.specs.declared.Kind.{Kind}
use Rattle.json_grammar.specs.declared.Kind.TheVariants.{Array as array, Object as object}
use Rattle.json_grammar.specs.declared.ExpectedPart.{ExpectedPart}
use Rattle.json_grammar.specs.declared.ExpectedPart.TheVariants.{Value as at_value, First as first, Key as key, KeyOrEnd as key_or_end, Colon as colon, Done as done}
use Rattle.json_grammar.specs.Tree.{Tree, Token, begin, tokens, depth}
use Rattle.json_grammar.specs.Grammar.{IsWhitespace, ws, IsDigit, is_text}
use Rattle.json_grammar.specs.Place.{reading, after_comma, TakesValue, takes_at_value, takes_first, TakesEnd, end_first, end_key_or_end, closing}
use Rattle.json_grammar.specs.Allows.{Allows, BeginsValue, Closes}
use Rattle.json_grammar.specs.Given.{piece, LastEnds, PrefixAt}
use Rattle.json_grammar.specs.Levels.{peak}
use Rattle.json_grammar.specs.Fault.{FaultCode, eof_while_parsing, row, fault, opens, is_bad_number, expected_colon, expected_array_comma_or_end, expected_object_comma_or_end, expect_object_key_or_end, trailing_comma, invalid_json_value, trailing_characters}
use Rattle.json_grammar.proofs.Numbers.{stops}
use Rattle.json_grammar.proofs.Reading.{events_begin}
use Rattle.json_grammar.proofs.Lists.{ws-append, not_ws}
use Rattle.json_grammar.proofs.Moves.{spaced_on, give_start, give_comma, give_colon, stuck, text_whole, piece_rest, piece_more, ws_none, take_on}
use Rattle.json_grammar.proofs.Depth.{peak_append, peak_tree, still_reading}
use Rattle.json_grammar.proofs.OneFault.{faulty_fault}
use Rattle.json_grammar.proofs.InputSteps.{low_prefix}
use Rattle.json_io.specs.declared.error.ErrorCode.{ErrorCode}
use Rattle.json_io.specs.declared.error.ErrorCode.TheVariants as code
use Rattle.json_text.specs.Faults.{IsFault}
use Rattle.json_text.specs.Misplaced.{unexpected_after_value}
use Rattle.json_text.specs.Stack.{top}
use Rattle.json_scan.specs.Runs.{ByteAt}
use Rattle.json_text.specs.Numbers.{NoDigit}
use Rattle.json_text.specs.Readers.{ReaderAt}
use Rattle.json_text.specs.Literals.{RefusesLiteral}
use Rattle.json_io.proofs.Pieces.{piece_append}
use Rattle.json_text.proofs.Refusing.{reported, at_length, place_stuck, no_bad_number, first_in, key_or_end_in}
use Rattle.json_text.proofs.TokenFaults.{Before}

-- no zero precedes i
pub other_byte : (b : List ℕ) (i x : ℕ) → get_or b i 0 ≡ x → x ≢ 48 → 0 < i + 1 → get_or b (i + 1 - 1) 0 ≡ 48 → NoDigit b (i + 1)
other_byte b i x e n l f = let j : i + 1 - 1 ≡ i = omega arith in absurd (n (sym e ∙ ap (λ y. get_or b y 0) (sym j) ∙ f))

pub space_before : (b : List ℕ) (i k : ℕ) → i < k → k ≤ length b → ws (piece b i k) → IsWhitespace (get_or b (k - 1) 0)
space_before b i k h l s =
    let e : (k - 1) + 1 ≡ k = omega arith in
    not_ws (piece b i (k - 1)) (get_or b (k - 1) 0) [] (subst ws (ap (λ y. piece b i y) (sym e) ∙ piece_more b i (k - 1) (omega arith) (omega arith)) s)

space_no_zero : (x : ℕ) → IsWhitespace x → x ≢ 48
space_no_zero x s e = omega arith

colon_not_done : colon ≡ done → ⊥
colon_not_done e = cc

spaced_ends : (w : ExpectedPart) (ts : List Token) (z b : List ℕ) → ws z → LastEnds w ts b → LastEnds w ts (z ++ b)
spaced_ends w ts [] b h l = l
spaced_ends w ts (x ∷ z) b h l = λ e n a d. stops n x (z ++ b) (inl h.0)

-- a value begins at two spots alone
other : {w : ExpectedPart} → TakesValue w → w ≢ at_value → w ≢ first → ⊥
other takes_at_value n m = n refl
other takes_first n m = m refl

module _ (lossy : Bool) (limit : ℕ) where
  pub stood_start : (b : List ℕ) → ReaderAt lossy limit b 0 [] at_value []
  stood_start b = record { base = 0; given = give_start lossy b; order = omega arith; within = omega arith; space = ws_none b 0; depth = omega arith; apart = λ l. absurd (omega arith) }

  pub stood_spaced : (b : List ℕ) (i j : ℕ) (c : List Kind) (w : ExpectedPart) (ts : List Token) → ReaderAt lossy limit b i c w ts → i ≤ j → j ≤ length b → ws (piece b i j) → ReaderAt lossy limit b j c w ts
  stood_spaced b i j c w ts s h l k = record {
    base = s.base;
    given = s.given;
    order = let o = s.order in omega arith;
    within = l;
    space = subst ws (sym (piece_append b s.base i j s.order h)) (ws-append _ _ s.space k);
    depth = s.depth;
    apart = s.apart;
  }

  pub stood_at : (b : List ℕ) (i : ℕ) (c : List Kind) (w : ExpectedPart) (ts : List Token) → ReaderAt lossy limit b i c w ts → reading lossy (take i b) c w ts
  stood_at b i c w ts s = spaced_on lossy b s.base i c w ts s.given s.order s.space

  pub before : (b : List ℕ) (i : ℕ) (c : List Kind) (w : ExpectedPart) (ts : List Token) → ReaderAt lossy limit b i c w ts → Before lossy limit b i c w ts
  before b i c w ts s = record { place = stood_at b i c w ts s; depth = s.depth }

  pub stood_new : (b : List ℕ) (e : ℕ) (c : List Kind) (w : ExpectedPart) (ts : List Token) → PrefixAt lossy b e c w ts → peak 0 ts ≤ limit → (0 < e → get_or b (e - 1) 0 ≡ 48 → NoDigit b e) → ReaderAt lossy limit b e c w ts
  stood_new b e c w ts g d a = record { base = e; given = g; order = omega arith; within = g.fits; space = ws_none b e; depth = d; apart = a }

  pub stood_comma : (k : Kind) (b : List ℕ) (i : ℕ) (c : List Kind) (ts : List Token) → ReaderAt lossy limit b i (k ∷ c) done ts → ByteAt b i 44 → ReaderAt lossy limit b (i + 1) (k ∷ c) (after_comma k) ts
  stood_comma k b i c ts s h = stood_new b (i + 1) (k ∷ c) (after_comma k) ts (give_comma lossy k b i c ts (stood_at b i (k ∷ c) done ts s) h.0 h.1) s.depth (other_byte b i 44 h.1 (λ e. omega arith))

  pub stood_colon : (b : List ℕ) (i : ℕ) (c : List Kind) (ts : List Token) → ReaderAt lossy limit b i c colon ts → ByteAt b i 58 → ReaderAt lossy limit b (i + 1) c at_value ts
  stood_colon b i c ts s h = stood_new b (i + 1) c at_value ts (give_colon lossy b i c ts (stood_at b i c colon ts s) h.0 h.1) s.depth (other_byte b i 58 h.1 (λ e. omega arith))

  pub stood_comma_top : (k : Kind) (b : List ℕ) (i : ℕ) (c : List Kind) (ts : List Token) → top c ≡ Some k → ReaderAt lossy limit b i c done ts → ByteAt b i 44 → ReaderAt lossy limit b (i + 1) c (after_comma k) ts
  stood_comma_top k b i [] ts o s h = absurd (cc)
  stood_comma_top k b i (n ∷ c) ts o s h = let e : n ≡ k = cc in subst (λ y. ReaderAt lossy limit b (i + 1) (n ∷ c) (after_comma y) ts) e (stood_comma n b i c ts s h)

  pub depth_begin : {p : List ℕ} {c : List Kind} {w : ExpectedPart} {ts : List Token} (k : Kind) → reading lossy p c w ts → length c < limit → peak 0 ts ≤ limit → peak 0 (ts ++ begin k ∷ []) ≤ limit
  depth_begin {c = c} {ts = ts} k r l d = let e = still_reading lossy r in omega (arith, peak_append 0 ts (begin k ∷ []))

  -- ---- the faults of a place

  pub zero_before : (b : List ℕ) (k : ℕ) (c : List Kind) (w : ExpectedPart) (ts : List Token) → ReaderAt lossy limit b k c w ts → k < length b → 0 < k → get_or b (k - 1) 0 ≡ 48 → IsDigit (get_or b k 0) → ⊥
  zero_before b k c w ts s l p z d = go (cases_lt s.base k)
    where
      go : (s.base < k) ⊎ (k ≤ s.base) → ⊥
      go (inl h) = space_no_zero _ (space_before b s.base k h (omega arith) s.space) z
      go (inr h) =
          let o = s.order in
          let e : s.base ≡ k = omega arith in
          subst (λ y. 0 < y → get_or b (y - 1) 0 ≡ 48 → NoDigit b y) e s.apart p z l d

  pub place_fault : (b : List ℕ) (k : ℕ) (c : List Kind) (w : ExpectedPart) (ts : List Token) (co : FaultCode) → ReaderAt lossy limit b k c w ts → k < length b → ¬ (IsWhitespace (get_or b k 0)) → ¬ (Allows w c (get_or b k 0)) → row lossy co (take k b) (get_or b k 0) → fault lossy limit b co k
  place_fault b k c w ts co s l n a r = reported lossy limit b co k l (low_prefix lossy limit (stood_at b k c w ts s) s.depth) r (place_stuck lossy b s.base k c w ts s.given s.order l s.space n a)

  pub place_end : (b : List ℕ) (k : ℕ) (c : List Kind) (w : ExpectedPart) (ts : List Token) → ReaderAt lossy limit b k c w ts → k ≡ length b → ¬ ((w ≡ done) × (c ≡ [])) → IsFault lossy limit b code.EofWhileParsing k
  place_end b k c w ts s e n =
      let f = at_length b k e in
      let r = stood_at b k c w ts s in
      faulty_fault lossy limit b eof_while_parsing k (
        e,
        inl (c, w, (ts, subst (λ y. reading lossy y c w ts) f r)),
        subst (λ y. opens y ≤ limit) f (low_prefix lossy limit r s.depth),
        λ t x. stuck lossy b s.base k c w ts s.given s.order s.space (λ l. absurd (omega arith)) (λ l. absurd (omega arith)) (λ _. n) t x,
      )

  pub no_colon : (b : List ℕ) (k : ℕ) (c : List Kind) (ts : List Token) (co : ErrorCode) → ReaderAt lossy limit b k c colon ts → (k < length b → ¬ (IsWhitespace (get_or b k 0))) → ¬ (ByteAt b k 58) → RefusesLiteral b code.ExpectedColon co k → IsFault lossy limit b co k
  no_colon b k c ts co s n a (inl (l, e)) = subst (λ y. IsFault lossy limit b y k) (sym e) (place_fault b k c colon ts expected_colon s l (n l) (λ f. a (l, f)) (c, (ts, stood_at b k c colon ts s)))
  no_colon b k c ts co s n a (inr (l, e)) = subst (λ y. IsFault lossy limit b y k) (sym e) (place_end b k c colon ts s l (λ f. colon_not_done f.0))

  separated : (b : List ℕ) (k : ℕ) (c : List Kind) (w : ExpectedPart) (ts : List Token) → ReaderAt lossy limit b k c w ts → k < length b → ¬ (is_bad_number lossy (take k b) (get_or b k 0))
  separated b k c w ts s l = no_bad_number lossy b k c w ts l (stood_at b k c w ts s) (zero_before b k c w ts s l)

  -- neither a comma nor the closing bracket follows a value
  pub misplaced_fault : (b : List ℕ) (k : ℕ) (c : List Kind) (ts : List Token) → ReaderAt lossy limit b k c done ts → k < length b → ¬ (IsWhitespace (get_or b k 0)) → (c ≢ [] → get_or b k 0 ≢ 44) → ((n : Kind) → top c ≡ Some n → get_or b k 0 ≢ closing n) → IsFault lossy limit b (unexpected_after_value (top c)) k
  misplaced_fault b k [] ts s l n a f = place_fault b k [] done ts trailing_characters s l n (λ h. nothing h) ((ts, stood_at b k [] done ts s), separated b k [] done ts s l)
    where
      nothing : ⊥ ⊎ ⊥ → ⊥
      nothing (inl h) = h
      nothing (inr h) = h
  misplaced_fault b k (array ∷ c) ts s l n a f =
      place_fault b k (array ∷ c) done ts expected_array_comma_or_end s l n (λ h. neither h) ((c, (ts, stood_at b k (array ∷ c) done ts s)), separated b k (array ∷ c) done ts s l)
    where
      neither : (get_or b k 0 ≡ 44) ⊎ (get_or b k 0 ≡ 93) → ⊥
      neither (inl h) = a (λ e. absurd (cc)) h
      neither (inr h) = f array refl h
  misplaced_fault b k (object ∷ c) ts s l n a f =
      place_fault b k (object ∷ c) done ts expected_object_comma_or_end s l n (λ h. neither h) ((c, (ts, stood_at b k (object ∷ c) done ts s)), separated b k (object ∷ c) done ts s l)
    where
      neither : (get_or b k 0 ≡ 44) ⊎ (get_or b k 0 ≡ 125) → ⊥
      neither (inl h) = a (λ e. absurd (cc)) h
      neither (inr h) = f object refl h

  -- no value begins so
  pub no_value : (b : List ℕ) (k : ℕ) (c : List Kind) (w : ExpectedPart) (ts : List Token) → ReaderAt lossy limit b k c w ts → TakesValue w → k < length b → ¬ (IsWhitespace (get_or b k 0)) → ¬ (BeginsValue (get_or b k 0)) → ((n : Kind) → top c ≡ Some n → TakesEnd n w → get_or b k 0 ≢ closing n) → IsFault lossy limit b code.InvalidJsonValue k
  no_value b k c w ts s t l n a f = place_fault b k c w ts invalid_json_value s l n (λ h. not_allowed w ts s t f h) (c, w, (ts, stood_at b k c w ts s), t)
    where
      not_allowed : (w : ExpectedPart) (ts : List Token) → ReaderAt lossy limit b k c w ts → TakesValue w → ((n : Kind) → top c ≡ Some n → TakesEnd n w → get_or b k 0 ≢ closing n) → Allows w c (get_or b k 0) → ⊥
      not_allowed at_value ts s t f h = a h
      not_allowed first ts s t f (inl h) = a h
      not_allowed first ts s t f (inr h) = let i = first_in (stood_at b k c first ts s) refl in f array (ap top i.1) end_first (subst (λ d. Closes d (get_or b k 0)) i.1 h)
      not_allowed key ts s t f h = other t (λ e. cc) (λ e. cc)
      not_allowed key_or_end ts s t f h = other t (λ e. cc) (λ e. cc)
      not_allowed colon ts s t f h = other t (λ e. cc) (λ e. cc)
      not_allowed done ts s t f h = other t (λ e. cc) (λ e. cc)

  -- no name begins so
  pub no_key : (b : List ℕ) (k : ℕ) (c : List Kind) (ts : List Token) → ReaderAt lossy limit b k c key ts → k < length b → ¬ (IsWhitespace (get_or b k 0)) → get_or b k 0 ≢ 34 → get_or b k 0 ≢ 125 → IsFault lossy limit b code.ExpectObjectKeyOrEnd k
  no_key b k c ts s l n a f = place_fault b k c key ts expect_object_key_or_end s l n a (c, inr ((ts, stood_at b k c key ts s), f))

  pub end_for_key : (b : List ℕ) (k : ℕ) (c : List Kind) (ts : List Token) → ReaderAt lossy limit b k c key ts → k < length b → get_or b k 0 ≡ 125 → IsFault lossy limit b code.TrailingComma k
  end_for_key b k c ts s l f = place_fault b k c key ts trailing_comma s l (λ h. no_space _ f h) (λ h. no_quote _ f h) (c, (ts, stood_at b k c key ts s), f)
    where
      no_space : (x : ℕ) → x ≡ 125 → IsWhitespace x → ⊥
      no_space x e h = omega arith

      no_quote : (x : ℕ) → x ≡ 125 → x ≡ 34 → ⊥
      no_quote x e h = omega arith

  pub no_first_key : (b : List ℕ) (k : ℕ) (c : List Kind) (ts : List Token) → ReaderAt lossy limit b k c key_or_end ts → k < length b → ¬ (IsWhitespace (get_or b k 0)) → get_or b k 0 ≢ 34 → ((n : Kind) → top c ≡ Some n → TakesEnd n key_or_end → get_or b k 0 ≢ closing n) → IsFault lossy limit b code.ExpectObjectKeyOrEnd k
  no_first_key b k c ts s l n a f =
      place_fault b k c key_or_end ts expect_object_key_or_end s l n (λ h. neither h) (c, inl (ts, stood_at b k c key_or_end ts s))
    where
      neither : (get_or b k 0 ≡ 34) ⊎ Closes c (get_or b k 0) → ⊥
      neither (inl h) = a h
      neither (inr h) = let i = key_or_end_in (stood_at b k c key_or_end ts s) refl in f object (ap top i.1) end_key_or_end (subst (λ d. Closes d (get_or b k 0)) i.1 h)

  -- ---- the end of the input

  pub stood_whole : (b : List ℕ) (k : ℕ) (c : List Kind) (ts : List Token) → ReaderAt lossy limit b k c done ts → length c ≡ 0 → k ≡ length b → (t : Tree) × is_text lossy t b × (ts ≡ tokens t) × (depth t ≤ limit)
  stood_whole b k [] ts s n e =
      let o = s.order in
      let t = text_whole lossy b s.base ts s.given (subst ws (piece_rest b s.base k s.order (omega arith)) s.space) in
      let d = s.depth in
      let p : peak 0 ts ≡ depth t.0 = ap (peak 0) t.2 ∙ peak_tree t.0 0 ∙ omega arith in
      (t.0, t.1, t.2, omega arith)
  stood_whole b k (n ∷ c) ts s h e = absurd (omega arith)

  -- ---- what the tokens so far say of each text

  pub stood_begins : (t : List ℕ) (i : ℕ) (c : List Kind) (w : ExpectedPart) (ts : List Token) → ReaderAt lossy limit t i c w ts → (u : Tree) (b : List ℕ) → is_text lossy u (take i t ++ b) → LastEnds w ts b → (m : List Token) × (tokens u ≡ ts ++ m)
  stood_begins t i c w ts s u b h l =
      events_begin lossy u (piece t s.base i ++ b) s.given.at (spaced_ends w ts (piece t s.base i) b s.space l)
      (subst (is_text lossy u) (ap (λ y. y ++ b) (take_on t s.base i s.order) ∙ append_assoc (take s.base t) (piece t s.base i) b) h)
