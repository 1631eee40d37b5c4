-- What a reader of a query's text accepts is in the grammar: from each state on, byte by byte.
use Rattle.std.proofs.Common.{◌≡◌, ◌≢◌, ◌⊎◌, inl, inr, ℕ, suc, ◌+◌, ◌*◌, ◌-◌, ◌^◌, ◌<◌, ◌≤◌, ℤ, pos, List, [], ◌∷◌, ◌++◌, Bool, true, false, nat_lt, nat_le, ◌==◌, ◌&&◌, Option, Some, None, refl, sym, ap, ◌∙◌, subst, append_assoc, append-nil, arith}
use Rattle.std.specs.Char.{digit_value, is_digit, encode_utf8}
use Rattle.std.proofs.lemmas.Bool.{eqb-true, cond_both}
use Rattle.std.proofs.lemmas.Bool.Decides.{nat_tests}
use Rattle.json_grammar.specs.Grammar.{IsWhitespace, ShortEscape, backslash, slash, backspace, form_feed, line_feed, carriage_return, tab, hex4, IsHighSurrogate, IsLowSurrogate, surrogate_pair, ◌then◌, byte}
use Rattle.json_query.specs.Query.{Query, Segment, child_segment, descendant_segment, Selector, name_selector, wildcard_selector, index_selector, slice_selector}
use Rattle.json_query.specs.Text.{digits_after, integer, zero_digit as zero_text, positive as positive_text, negative as negative_text, SpellsIn, unicode_escape, surrogate_escapes, chars_in, char_and, optional_then_ws, step_part, slice_text, selectors_end, bracketed, segments_text}
use Rattle.json_query.specs.TextStates.{Brackets, opened, with_selector, segment_of_kind, signed, IntegerRole, index_or_start, end_after, step_after, step, short_escape_of}
use Rattle.json_query.proofs.TextStrings.{hex_from, hex_value}
use Rattle.json_query.proofs.TextRests.{Splits, AfterBlank, AfterDot, AfterSelector, Within, spaced_selector, end_rest, optional_step, step_rest, integer_rest, numeral_rest, minus_rest, string_rest, backslash_rest, hex_rest, low_rest, unit_after, unit_rest}

-- ---- bytes before what is left

pub one_byte : {x y : ℕ} → x ≡ y → x ∷ [] ≡ y ∷ []
one_byte e = ap (λ z. z ∷ []) e

pub blank_before : (qs : List Segment) (q : Query) (x : ℕ) (b : List ℕ) → IsWhitespace x → AfterBlank qs q b → AfterBlank qs q (x ∷ b)
blank_before qs q x b i (g, tail, e, (w, u, f, hw, hu)) = (g, tail, e, (x ∷ w, u, ap (λ r. x ∷ r) f, (i, hw), hu))

abbrev pub BracketedRest : List Segment → Bool → Query → List ℕ → Type 0
BracketedRest qs descends q b = (ss : List Selector) × (tail : List Segment) × Splits q qs (segment_of_kind descends ss) tail × (bracketed ss then segments_text tail) b

pub bracket_before : (qs : List Segment) (descends : Bool) (q : Query) (x : ℕ) (b : List ℕ) → x ≡ 91 → Within spaced_selector (opened qs descends) q b → BracketedRest qs descends q (x ∷ b)
bracket_before qs descends q x b i (s, p, r, e, (w, t, f, hw, ht), (ss, tail, g, (z, v, j, hz, hv))) =
    let row : b ≡ (w ++ (t ++ z)) ++ v = e ∙ ap (λ p. p ++ r) f ∙ ap (λ r. (w ++ t) ++ r) j ∙ simp append_assoc in
    (s ∷ ss, tail, g, (x ∷ (w ++ (t ++ z)), v, ap (λ r. x ∷ r) row, (x ∷ [], w ++ (t ++ z), refl, one_byte i, (w, t ++ z, refl, hw, (t, z, refl, ht, hz))), hv))

pub child_before : (qs : List Segment) (q : Query) (b : List ℕ) → BracketedRest qs false q b → AfterBlank qs q b
child_before qs q b (ss, tail, e, (t, v, f, ht, hv)) = (child_segment ss, tail, e, ([], b, refl, tt, (t, v, f, inl ht, hv)))

pub dot_before : (qs : List Segment) (q : Query) (x : ℕ) (b : List ℕ) → x ≡ 46 → AfterDot qs q b → AfterBlank qs q (x ∷ b)
dot_before qs q x b i (inl (ss, tail, e, (t, v, f, ht, hv))) = (child_segment ss, tail, e, ([], x ∷ b, refl, tt, (x ∷ t, v, ap (λ r. x ∷ r) f, inr (x ∷ [], t, refl, one_byte i, ht), hv)))
dot_before qs q x b i (inr (c, u, e, hc, (ss, tail, g, (t, v, f, ht, hv)))) =
    let row : b ≡ (46 ∷ t) ++ v = e ∙ ap (λ c. c ++ u) hc ∙ ap (λ u. 46 ∷ u) f in
    (descendant_segment ss, tail, g, ([], x ∷ b, refl, tt, (x ∷ 46 ∷ t, v, ap (λ r. x ∷ r) row, (x ∷ [], 46 ∷ t, refl, one_byte i, (46 ∷ [], t, refl, refl, ht)), hv)))

pub end_blank : (ss : List Selector) (x : ℕ) (z : List ℕ) → IsWhitespace x → selectors_end ss z → selectors_end ss (x ∷ z)
end_blank [] x z i (w, u, e, hw, hu) = (x ∷ w, u, ap (λ r. x ∷ r) e, (i, hw), hu)
end_blank (s ∷ ss) x z i (w, u, e, hw, hu) = (x ∷ w, u, ap (λ r. x ∷ r) e, (i, hw), hu)

pub selector_blank : (o : Brackets) (q : Query) (x : ℕ) (b : List ℕ) → IsWhitespace x → AfterSelector o q b → AfterSelector o q (x ∷ b)
selector_blank o q x b i (ss, tail, g, (z, v, f, hz, hv)) = (ss, tail, g, (x ∷ z, v, ap (λ r. x ∷ r) f, end_blank ss x z i hz, hv))

-- more of what is left of a selector
pub within_more : (F G : Selector → List ℕ → Type 0) (o : Brackets) (q : Query) (x : ℕ) (b : List ℕ) → ((s : Selector) (p : List ℕ) → F s p → G s (x ∷ p)) → Within F o q b → Within G o q (x ∷ b)
within_more F G o q x b f (s, p, r, e, h, a) = (s, x ∷ p, r, ap (λ r. x ∷ r) e, f s p h, a)

pub within_as : (F G : Selector → List ℕ → Type 0) (o : Brackets) (q : Query) (b : List ℕ) → ((s : Selector) (p : List ℕ) → F s p → G s p) → Within F o q b → Within G o q b
within_as F G o q b f (s, p, r, e, h, a) = (s, p, r, e, f s p h, a)

pub spaced_blank : (x : ℕ) → IsWhitespace x → (s : Selector) (p : List ℕ) → spaced_selector s p → spaced_selector s (x ∷ p)
spaced_blank x i s p (w, u, e, hw, hu) = (x ∷ w, u, ap (λ r. x ∷ r) e, (i, hw), hu)

-- ---- integers before what is left

abbrev start_rest : IntegerRole → Selector → List ℕ → Type 0
start_rest index_or_start s b = spaced_selector s b
start_rest (end_after start) s b = end_rest start s b
start_rest (step_after start end) s b = step_rest start end s b

integer_before : (r : IntegerRole) (i : ℤ) (s : Selector) (n p : List ℕ) → integer i n → integer_rest r i s p → start_rest r s (n ++ p)
integer_before index_or_start i (index_selector j) n p hn (e, f) =
    ([], n ++ p, refl, tt, subst (λ j. integer j (n ++ p)) (sym e) (subst (λ b. integer i b) (sym (ap (λ p. n ++ p) f ∙ append-nil n)) hn))
integer_before index_or_start i (slice_selector s end step) n p hn (e, (w, u, f, hw, hu)) =
    ([], n ++ p, refl, tt, subst (λ s. slice_text s end step (n ++ p)) (sym e) (n ++ w, u, ap (λ p. n ++ p) f ∙ sym (append_assoc n w u), (n, w, refl, hn, hw), hu))
integer_before index_or_start i (name_selector k) n p hn h = absurd h
integer_before index_or_start i wildcard_selector n p hn h = absurd h
integer_before (end_after start) i (slice_selector s end step) n p hn (e, g, (w, u, f, hw, hu)) =
    (e, ([], n ++ p, refl, tt, (n ++ w, u, ap (λ p. n ++ p) f ∙ sym (append_assoc n w u), subst (λ end. optional_then_ws end (n ++ w)) (sym g) (n, w, refl, hn, hw), hu)))
integer_before (end_after start) i (name_selector k) n p hn h = absurd h
integer_before (end_after start) i wildcard_selector n p hn h = absurd h
integer_before (end_after start) i (index_selector j) n p hn h = absurd h
integer_before (step_after start end) i (slice_selector s e step) n p hn (es, ee, ei, f) =
    (es, ee, inr ([], n ++ p, refl, tt, subst (λ j. integer j (n ++ p)) (sym ei) (subst (λ b. integer i b) (sym (ap (λ p. n ++ p) f ∙ append-nil n)) hn)))
integer_before (step_after start end) i (name_selector k) n p hn h = absurd h
integer_before (step_after start end) i wildcard_selector n p hn h = absurd h
integer_before (step_after start end) i (index_selector j) n p hn h = absurd h

pub zero_before : (r : IntegerRole) (x : ℕ) → x ≡ 48 → (s : Selector) (p : List ℕ) → integer_rest r (pos 0) s p → start_rest r s (x ∷ p)
zero_before r x e s p h = integer_before r (pos 0) s (x ∷ []) p (subst (λ y. integer (pos 0) (y ∷ [])) (sym e) zero_text) h

pub digit_before : (r : IntegerRole) (x : ℕ) → 49 ≤ x → x ≤ 57 → (s : Selector) (p : List ℕ) → numeral_rest r false (x - 48) s p → start_rest r s (x ∷ p)
digit_before r x l u s p (d, c, e, hd, fits, h) =
    subst (λ p. start_rest r s (x ∷ p)) (sym e) (integer_before r (pos (digits_after (x - 48) d)) s (x ∷ d) c (positive_text (l, u, hd, refl) (fits (omega arith))) h)

pub minus_before : (r : IntegerRole) (x : ℕ) → x ≡ 45 → (s : Selector) (p : List ℕ) → minus_rest r s p → start_rest r s (x ∷ p)
minus_before r x i s p (y, c, e, l, u, (d, t, f, hd, fits, h)) =
    let n : ℕ = digits_after (y - 48) d in
    let text : integer (signed true n) (45 ∷ y ∷ d) = negative_text (l, u, hd, refl) (fits (omega arith)) in
    let row : p ≡ (y ∷ d) ++ t = e ∙ ap (λ c. y ∷ c) f in
    subst (λ p. start_rest r s (x ∷ p)) (sym row) (subst (λ x. start_rest r s ((x ∷ y ∷ d) ++ t)) (sym i) (integer_before r (signed true n) s (45 ∷ y ∷ d) t text h))

-- one more digit
pub more_digits : (r : IntegerRole) (negative : Bool) (m x : ℕ) → (48 ≤ x) × (x ≤ 57) → m * 10 + (x - 48) < 2 ^ 53 → (s : Selector) (p : List ℕ) → numeral_rest r negative (m * 10 + (x - 48)) s p → numeral_rest r negative m s (x ∷ p)
more_digits r negative m x i l s p (d, c, f, hd, fits, g) = (x ∷ d, c, ap (λ r. x ∷ r) f, (i, hd), (λ k. fits l), g)

-- ---- slices before what is left

pub colon_first : (x : ℕ) → x ≡ 58 → (s : Selector) (p : List ℕ) → end_rest None s p → spaced_selector s (x ∷ p)
colon_first x i (slice_selector s end step) p (e, h) = ([], x ∷ p, refl, tt, subst (λ s. slice_text s end step (x ∷ p)) (sym e) ([], x ∷ p, refl, refl, (x ∷ [], p, refl, one_byte i, h)))
colon_first x i (name_selector k) p h = absurd h
colon_first x i wildcard_selector p h = absurd h
colon_first x i (index_selector j) p h = absurd h

pub colon_after_index : (i : ℤ) (x : ℕ) → x ≡ 58 → (s : Selector) (p : List ℕ) → end_rest (Some i) s p → integer_rest index_or_start i s (x ∷ p)
colon_after_index i x c (slice_selector s end step) p (e, h) = (e, ([], x ∷ p, refl, tt, (x ∷ [], p, refl, one_byte c, h)))
colon_after_index i x c (name_selector k) p h = absurd h
colon_after_index i x c wildcard_selector p h = absurd h
colon_after_index i x c (index_selector j) p h = absurd h

step_part_from : (x : ℕ) → x ≡ 58 → (i : ℤ) (p : List ℕ) → optional_step i p → step_part i (x ∷ p)
step_part_from x c i p (inl (one, none)) = inl (one, inr (ap (λ p. x ∷ p) none ∙ one_byte c))
step_part_from x c i p (inr h) = inr (x ∷ [], p, refl, one_byte c, h)

pub second_colon : (start : Option ℤ) (x : ℕ) → x ≡ 58 → (s : Selector) (p : List ℕ) → step_rest start None s p → end_rest start s (x ∷ p)
second_colon start x c (slice_selector s e i) p (es, ee, h) = (es, ([], x ∷ p, refl, tt, ([], x ∷ p, refl, subst (λ e. optional_then_ws e []) (sym ee) refl, step_part_from x c i p h)))
second_colon start x c (name_selector k) p h = absurd h
second_colon start x c wildcard_selector p h = absurd h
second_colon start x c (index_selector j) p h = absurd h

pub colon_after_end : (start : Option ℤ) (i : ℤ) (x : ℕ) → x ≡ 58 → (s : Selector) (p : List ℕ) → step_rest start (Some i) s p → integer_rest (end_after start) i s (x ∷ p)
colon_after_end start i x c (slice_selector s e step) p (es, ee, h) = (es, ee, ([], x ∷ p, refl, tt, step_part_from x c step p h))
colon_after_end start i x c (name_selector k) p h = absurd h
colon_after_end start i x c wildcard_selector p h = absurd h
colon_after_end start i x c (index_selector j) p h = absurd h

pub end_rest_blank : (start : Option ℤ) (x : ℕ) → IsWhitespace x → (s : Selector) (p : List ℕ) → end_rest start s p → end_rest start s (x ∷ p)
end_rest_blank start x i (slice_selector s end step) p (e, (w, u, f, hw, hu)) = (e, (x ∷ w, u, ap (λ r. x ∷ r) f, (i, hw), hu))
end_rest_blank start x i (name_selector k) p h = absurd h
end_rest_blank start x i wildcard_selector p h = absurd h
end_rest_blank start x i (index_selector j) p h = absurd h

pub bound_blank : (start : Option ℤ) (n : ℤ) (x : ℕ) → IsWhitespace x → (s : Selector) (p : List ℕ) → integer_rest (end_after start) n s p → integer_rest (end_after start) n s (x ∷ p)
bound_blank start n x i (slice_selector s end step) p (e, g, (w, u, f, hw, hu)) = (e, g, (x ∷ w, u, ap (λ r. x ∷ r) f, (i, hw), hu))
bound_blank start n x i (name_selector k) p h = absurd h
bound_blank start n x i wildcard_selector p h = absurd h
bound_blank start n x i (index_selector j) p h = absurd h

pub index_blank : (o : Brackets) (q : Query) (n : ℤ) (x : ℕ) (b : List ℕ) → IsWhitespace x → Within (integer_rest index_or_start n) o q b → Within (integer_rest index_or_start n) o q (x ∷ b)
index_blank o q n x b i (index_selector j, p, r, e, (f, g), a) = (index_selector j, [], x ∷ b, refl, (f, refl), selector_blank (with_selector o (index_selector j)) q x b i (subst (λ r. AfterSelector (with_selector o (index_selector j)) q r) (sym (e ∙ ap (λ p. p ++ r) g)) a))
index_blank o q n x b i (slice_selector s end step, p, r, e, (f, (w, u, g, hw, hu)), a) = (slice_selector s end step, x ∷ p, r, ap (λ r. x ∷ r) e, (f, (x ∷ w, u, ap (λ r. x ∷ r) g, (i, hw), hu)), a)
index_blank o q n x b i (name_selector k, p, r, e, h, a) = absurd h
index_blank o q n x b i (wildcard_selector, p, r, e, h, a) = absurd h

pub step_blank : (start end : Option ℤ) (o : Brackets) (q : Query) (x : ℕ) (b : List ℕ) → IsWhitespace x → Within (step_rest start end) o q b → Within (step_rest start end) o q (x ∷ b)
step_blank start end o q x b i (slice_selector s en n, p, r, e, (es, ee, inl (one, none)), a) =
    (slice_selector s en n, [], x ∷ b, refl, (es, ee, inl (one, refl)), selector_blank (with_selector o (slice_selector s en n)) q x b i (subst (λ r. AfterSelector (with_selector o (slice_selector s en n)) q r) (sym (e ∙ ap (λ p. p ++ r) none)) a))
step_blank start end o q x b i (slice_selector s en n, p, r, e, (es, ee, inr (w, u, g, hw, hu)), a) = (slice_selector s en n, x ∷ p, r, ap (λ r. x ∷ r) e, (es, ee, inr (x ∷ w, u, ap (λ r. x ∷ r) g, (i, hw), hu)), a)
step_blank start end o q x b i (index_selector j, p, r, e, h, a) = absurd h
step_blank start end o q x b i (name_selector k, p, r, e, h, a) = absurd h
step_blank start end o q x b i (wildcard_selector, p, r, e, h, a) = absurd h

-- ---- strings before what is left

pub quote_before : (x : ℕ) → (x ≡ 34) ⊎ (x ≡ 39) → (s : Selector) (p : List ℕ) → string_rest x [] s p → spaced_selector s (x ∷ p)
quote_before x i (name_selector n) p (s, c, e, f, h) =
    let quoted : (byte x then chars_in x n then byte x) (x ∷ p) = (x ∷ [], p, refl, refl, (c, x ∷ [], f, subst (λ n. chars_in x n c) (sym e) h, refl)) in
    let P : ℕ → Type 0 = λ m. (byte m then chars_in m n then byte m) (x ∷ p) in
    ([], x ∷ p, refl, tt, elim i [ inl d ↦ inl (subst P d quoted) | inr d ↦ inr (subst P d quoted) ])
quote_before x i wildcard_selector p h = absurd h
quote_before x i (index_selector j) p h = absurd h
quote_before x i (slice_selector s e j) p h = absurd h

pub spelling_before : (m : ℕ) (k d e : List ℕ) → SpellsIn m d e → (s : Selector) (p : List ℕ) → string_rest m (k ++ d) s p → string_rest m k s (e ++ p)
spelling_before m k d e g (name_selector n) p (s, c, f, j, h) = (d ++ s, e ++ c, f ∙ append_assoc k d s, ap (λ p. e ++ p) j ∙ sym (append_assoc e c (m ∷ [])), char_and g h)
spelling_before m k d e g wildcard_selector p h = absurd h
spelling_before m k d e g (index_selector j) p h = absurd h
spelling_before m k d e g (slice_selector s t j) p h = absurd h

pub backslash_before : (m : ℕ) (k : List ℕ) (x : ℕ) → x ≡ 92 → (s : Selector) (p : List ℕ) → backslash_rest m k s p → string_rest m k s (x ∷ p)
backslash_before m k x i s p (d, e, c, f, g, h) =
    let P : ℕ → Type 0 = λ x. string_rest m k s (x ∷ p) in
    subst P (sym i) (subst (λ p. string_rest m k s (92 ∷ p)) (sym f) (spelling_before m k d (92 ∷ e) g s c h))

pub short_is : (x c : ℕ) → short_escape_of x ≡ Some c → ShortEscape x c × (x ≢ 34)
unfolding short_escape_of
short_is x c =
    let P : Option ℕ → Type 0 = λ r. r ≡ Some c → ShortEscape x c × (x ≢ 34) in
    let row : (y d : ℕ) → ShortEscape y d → y ≢ 34 → (x == y) ≡ true → P (Some d) = λ y d h n e f. let same : d ≡ c = cc in (subst (λ c. ShortEscape x c) same (subst (λ x. ShortEscape x d) (sym (eqb-true x y e)) h), λ g. n (sym (eqb-true x y e) ∙ g)) in
    cond_both _ _ _ P (row 98 8 backspace (λ f. omega arith)) (λ _.
    cond_both _ _ _ P (row 102 12 form_feed (λ f. omega arith)) (λ _.
    cond_both _ _ _ P (row 110 10 line_feed (λ f. omega arith)) (λ _.
    cond_both _ _ _ P (row 114 13 carriage_return (λ f. omega arith)) (λ _.
    cond_both _ _ _ P (row 116 9 tab (λ f. omega arith)) (λ _.
    cond_both _ _ _ P (row 47 47 slash (λ f. omega arith)) (λ _.
    cond_both _ _ _ P (row 92 92 backslash (λ f. omega arith)) (λ _ f. cc)))))))

-- four digits and their number
hex_four : (u : ℕ) (e : List ℕ) → hex_rest 4 0 u e → (a b c d : ℕ) × (e ≡ a ∷ b ∷ c ∷ d ∷ []) × (hex4 a b c d ≡ Some u)
hex_four u [] h = absurd h
hex_four u (a ∷ []) h = absurd h.1
hex_four u (a ∷ b ∷ []) h = absurd h.1.1
hex_four u (a ∷ b ∷ c ∷ []) h = absurd h.1.1.1
hex_four u (a ∷ b ∷ c ∷ d ∷ r) (ha, (hb, (hc, (hd, (e, f))))) =
    (a, b, c, d, ap (λ r. a ∷ b ∷ c ∷ d ∷ r) f, hex_from a b c d ha hb hc hd ∙ ap (λ u. Some u) (sym (e ∙ hex_value (digit_value a) (digit_value b) (digit_value c) (digit_value d))))

pub unit_before : (m : ℕ) (k : List ℕ) (x : ℕ) → x ≡ 117 → (s : Selector) (p : List ℕ) → unit_rest 4 0 m k s p → backslash_rest m k s (x ∷ p)
unit_before m k x i s p (u, e, c, f, hex, h) = subst (λ x. backslash_rest m k s (x ∷ p)) (sym i) (by (hex_four u e hex) h)
  where
    by : (p q r t : ℕ) × (e ≡ p ∷ q ∷ r ∷ t ∷ []) × (hex4 p q r t ≡ Some u) → unit_after m k u s c → backslash_rest m k s (117 ∷ p)
    by (a, b, d, t, g, j) (inl (not_high, not_low, l)) = (encode_utf8 u, 117 ∷ a ∷ b ∷ d ∷ t ∷ [], c, ap (λ p. 117 ∷ p) (f ∙ ap (λ e. e ++ c) g), unicode_escape j not_high not_low, l)
    by (a, b, d, t, g, j) (inr (is_high, (v, n, (l, e', y, f', hex', is_low, z)))) = pair (hex_four l e' hex')
      where
        pair : (p q r t : ℕ) × (e' ≡ p ∷ q ∷ r ∷ t ∷ []) × (hex4 p q r t ≡ Some l) → backslash_rest m k s (117 ∷ p)
        pair (a', b', d', t', g', j') =
            let row : p ≡ a ∷ b ∷ d ∷ t ∷ 92 ∷ 117 ∷ a' ∷ b' ∷ d' ∷ t' ∷ y =
            f ∙ ap (λ e. e ++ c) g ∙ ap (λ c. a ∷ b ∷ d ∷ t ∷ c) (n ∙ ap (λ v. 92 ∷ 117 ∷ v) (f' ∙ ap (λ e. e ++ y) g'))
            in
            (encode_utf8 (surrogate_pair u l), 117 ∷ a ∷ b ∷ d ∷ t ∷ 92 ∷ 117 ∷ a' ∷ b' ∷ d' ∷ t' ∷ [], y, ap (λ p. 117 ∷ p) row, surrogate_escapes j is_high j' is_low, z)

-- one more digit of an escape
pub unit_digit_before : (more v x : ℕ) → is_digit x 16 ≡ true → (m : ℕ) (k : List ℕ) (s : Selector) (p : List ℕ) → unit_rest (suc more) (v * 16 + digit_value x) m k s p → unit_rest (suc (suc more)) v m k s (x ∷ p)
unit_digit_before more v x d m k s p (u, e, c, f, g, h) = (u, x ∷ e, c, ap (λ r. x ∷ r) f, (d, g), h)

pub low_digit_before : (more v x : ℕ) → is_digit x 16 ≡ true → (m : ℕ) (k : List ℕ) (a : ℕ) (s : Selector) (p : List ℕ) → low_rest (suc more) (v * 16 + digit_value x) m k a s p → low_rest (suc (suc more)) v m k a s (x ∷ p)
low_digit_before more v x d m k a s p (u, e, c, f, g, h, i) = (u, x ∷ e, c, ap (λ r. x ∷ r) f, (d, g), h, i)

pub high_is : (u : ℕ) → (nat_le 0xd800 u && nat_lt u 0xdc00) ≡ true → IsHighSurrogate u
high_is u e = grind (arith, nat_tests)

pub not_high : (u : ℕ) → (nat_le 0xd800 u && nat_lt u 0xdc00) ≡ false → ¬ (IsHighSurrogate u)
not_high u e h = grind (arith, nat_tests)

pub low_is : (u : ℕ) → (nat_le 0xdc00 u && nat_lt u 0xe000) ≡ true → IsLowSurrogate u
low_is u e = grind (arith, nat_tests)

pub not_low : (u : ℕ) → (nat_le 0xdc00 u && nat_lt u 0xe000) ≡ false → ¬ (IsLowSurrogate u)
not_low u e h = grind (arith, nat_tests)
