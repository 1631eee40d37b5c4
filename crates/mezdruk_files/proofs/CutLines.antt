-- The excerpt of a line.
use Rattle.std.proofs.Common.{◌≡◌, ℕ, ◌+◌, ◌-◌, ◌<◌, ◌≤◌, ◌==◌, ◌⊎◌, inl, inr, List, [], ◌++◌, length, take, drop, map, true, refl, sym, ap, ◌∙◌, subst, arith, append-nil, append_assoc, length-append, length-take, length-drop}
use Rattle.std.specs.Prelude.{codes, min, slice_index}
use Rattle.std.specs.List.{after_last, before_first, flat_map}
use Rattle.std.proofs.lemmas.Bool.{cases_lt}
use Rattle.std.proofs.lemmas.List.{take-append-drop, take_rest}
use Rattle.mezdruk_files.specs.Excerpts.{IsFront, IsBack, IsExcerpt, line_before, line_after, excerpt_byte, is_continuation, space_under}

pub IsFront-take : (b : List ℕ) (max n : ℕ) → n ≤ max → max < length b → ((k : ℕ) → n < k → k ≤ max → is_continuation (slice_index b k) ≡ true) → IsFront b max (take n b)
IsFront-take b max n few long cut =
    let size : length (take n b) ≡ n = omega (arith, few, long, length-take n b) in
    record { rest = drop n b; whole = sym (take-append-drop n b); few = omega (arith, few, size); all = λ l. absurd (omega (arith, l, long)); full = λ k low high _. cut k (omega (arith, low, size)) high }

pub IsBack-drop : (b : List ℕ) (max n : ℕ) → length b - max ≤ n → n ≤ length b → max < length b → ((k : ℕ) → length b - max ≤ k → k < n → is_continuation (slice_index b k) ≡ true) → IsBack b max (take (length b - n) (drop n b))
IsBack-drop b max n few within long cut =
    let size : length (take n b) ≡ n = omega (arith, within, length-take n b) in
    record {
      rest = take n b;
      whole = sym (ap (λ l. take n b ++ l) (take_rest b n) ∙ take-append-drop n b);
      few = rw take_rest (omega (arith, few, length-drop n b));
      all = λ l. absurd (omega (arith, l, long));
      full = λ k low high. cut k low (omega (arith, high, size));
    }

-- one byte more is no first byte of a character
pub skipped_back : (b : List ℕ) (n max : ℕ) → ((k : ℕ) → n < k → k ≤ max → is_continuation (slice_index b k) ≡ true) → is_continuation (slice_index b n) ≡ true → (k : ℕ) → n - 1 < k → k ≤ max → is_continuation (slice_index b k) ≡ true
skipped_back b n max above here k low high = by (cases_lt n k)
  where
    by : (n < k) ⊎ (k ≤ n) → is_continuation (slice_index b k) ≡ true
    by (inl l) = above k l high
    by (inr m) = let same : n ≡ k = omega (arith, low, m) in subst (λ i. is_continuation (slice_index b i) ≡ true) same here

pub skipped_on : (b : List ℕ) (low n : ℕ) → ((k : ℕ) → low ≤ k → k < n → is_continuation (slice_index b k) ≡ true) → is_continuation (slice_index b n) ≡ true → (k : ℕ) → low ≤ k → k < n + 1 → is_continuation (slice_index b k) ≡ true
skipped_on b low n below here k from to = by (cases_lt k n)
  where
    by : (k < n) ⊎ (n ≤ k) → is_continuation (slice_index b k) ≡ true
    by (inl l) = below k from l
    by (inr m) = let same : n ≡ k = omega (arith, to, m) in subst (λ i. is_continuation (slice_index b i) ≡ true) same here

-- the parts of a line that are shown
pub excerpt_of : (b : List ℕ) (k : ℕ) (lb la before after : List ℕ) (m : ℕ) → m ≡ min (length lb) 38 → m ≤ length lb → lb ≡ line_before b k → la ≡ line_after b k → IsFront la (76 - m) after → IsBack lb (76 - length after) before
    → IsExcerpt b k (map excerpt_byte before ++ map excerpt_byte after ++ codes "\n" ++ flat_map space_under before ++ codes "^\n")
excerpt_of b k lb la before after m least some is_before is_after front back =
    record {
      cut_before = back.rest;
      before = before;
      line_before_is = sym is_before ∙ back.whole;
      after = after;
      cut_after = front.rest;
      line_after_is = sym is_after ∙ front.whole;
      narrow = omega (arith, front.few, back.few);
      after_is = subst (λ l. IsFront l (76 - min (length (line_before b k)) 38) after) is_after (subst (λ l. IsFront la (76 - min (length l) 38) after) is_before (subst (λ n. IsFront la (76 - n) after) least front));
      before_is = subst (λ l. IsBack l (76 - length after) before) is_before back;
      whole_line = λ l.
          let short : length lb + length la ≤ 76 = omega (arith, l, ap length is_before, ap length is_after) in
          let shown : length after ≤ length la = omega (arith, ap length front.whole, length-append after front.rest) in
          (back.all (omega (arith, short, shown)), front.all (omega (arith, short, some)));
      shown = refl;
    }

-- what is appended to a text in turn
pub shown_after : (text before after : List ℕ) → text ++ map excerpt_byte before ++ map excerpt_byte after ++ codes "\n" ++ flat_map space_under before ++ codes "^\n"
    ≡ text ++ (map excerpt_byte before ++ map excerpt_byte after ++ codes "\n" ++ flat_map space_under before ++ codes "^\n")
shown_after text before after = simp append_assoc
