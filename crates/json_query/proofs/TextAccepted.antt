-- Which texts a reader of a query's text accepts: those of the grammar.
use Rattle.std.proofs.Common.{◌≡◌, ◌⊎◌, inl, inr, ℕ, zero, suc, ◌+◌, ◌*◌, ◌-◌, ◌^◌, ◌≤◌, ℤ, pos, List, [], ◌∷◌, ◌++◌, length, Bool, true, false, cond, nat_lt, nat_le, ◌==◌, ◌&&◌, Option, Some, None, refl, sym, ap, ◌∙◌, subst, append_assoc, append-nil, arith}
use Rattle.std.specs.Char.{digit_value, is_digit, encode_utf8}
use Rattle.std.proofs.lemmas.Bool.{eqb-true, eqb-false, ltb-true, ltb-false}
use Rattle.json_grammar.specs.Grammar.{surrogate_pair}
use Rattle.json_query.specs.Query.{Query, Segment, Selector, name_selector, wildcard_selector, index_selector, slice_selector}
use Rattle.json_query.specs.Text.{IsNameFirst, SpellsIn, unescaped, escaped_mark, short_escape, no_chars, segments_text, spells_query}
use Rattle.json_query.specs.declared.cursor.Class.{Class}
use Rattle.json_query.specs.declared.cursor.Class.TheVariants.{Blank, QuotationMark, Root, Star, Comma, Minus, Dot, ZeroDigit, Digit, Colon, Opening, Closing, Letter, BeyondAscii}
use Rattle.json_query.specs.TextStates.{class_of, Brackets, opened, with_selector, with_segment, segment_of_kind, closed, signed, IntegerRole, index_or_start, end_after, step_after, State, before_root, after_segment, after_blank, after_dot, after_dots, in_name, before_selector, after_selector, after_minus, in_integer, after_integer, before_end, before_step, in_string, after_backslash, in_unit, before_low, before_low_u, in_low, Step, goes_to, stops, step, segment_step, dotted_step, dot_step, dots_step, name_step, selector_step, first_step, end_step, step_step, minus_step, integer_step, more_step, short_escape_of, string_step, short_step, escape_step, only_low, some_low, unit_end, unit_next, unit_step, low_next, low_step, root_step, is_query, outcome, outcome_after, outcome_at_end, query_outcome}
use Rattle.json_query.specs.declared.error.QueryCode.TheVariants as code
use Rattle.json_query.proofs.TextClasses.{InClass, in_class}
use Rattle.json_query.proofs.TextRests.{Splits, AfterSegment, AfterBlank, AfterDots, DottedRest, AfterDot, NameRest, AfterSelector, Within, spaced_selector, end_rest, step_rest, integer_rest, numeral_rest, minus_rest, string_rest, backslash_rest, low_rest, before_low_rest, before_low_u_rest, unit_after, unit_rest, Rest}
use Rattle.json_query.proofs.TextSound.{one_byte, blank_before, BracketedRest, bracket_before, child_before, dot_before, selector_blank, within_more, within_as, spaced_blank, zero_before, digit_before, minus_before, more_digits, colon_first, colon_after_index, second_colon, colon_after_end, end_rest_blank, bound_blank, index_blank, step_blank, quote_before, spelling_before, backslash_before, short_is, unit_before, high_is, not_high, low_is, not_low, unit_digit_before, low_digit_before}

-- a step after which the text b is accepted as the query q, if what is left after each state is known
module _ (q : Query) (b : List ℕ) (n : ℕ) (h : (t : State) → outcome t b ≡ is_query q → Rest t q b) where
  abbrev Accepts : Step → Type 0
  Accepts u = outcome_after u n (λ t. outcome t b) ≡ is_query q

  segment_sound : (qs : List Segment) (x : ℕ) (c : Class) → InClass c x → Accepts (segment_step qs c) → AfterBlank qs q (x ∷ b)
  segment_sound qs x Blank i e = blank_before qs q x b i (h (after_blank qs) e)
  segment_sound qs x Opening i e = child_before qs q (x ∷ b) (bracket_before qs false q x b i (h (before_selector (opened qs false)) e))
  segment_sound qs x Dot i e = dot_before qs q x b i (h (after_dot qs) e)
  segment_sound qs x _ i e = cc

  after_segment_sound : (qs : List Segment) (x : ℕ) → AfterBlank qs q (x ∷ b) → AfterSegment qs q (x ∷ b)
  after_segment_sound qs x (g, tail, e, t) = (g ∷ tail, e, t)

  dotted_sound : (qs : List Segment) (descends : Bool) (x : ℕ) (c : Class) → InClass c x → Accepts (dotted_step qs descends c x) → DottedRest qs descends q (x ∷ b)
  dotted_sound qs descends x Star i e =
      let r : AfterSegment (with_segment qs descends (wildcard_selector ∷ [])) q b = h (after_segment (with_segment qs descends (wildcard_selector ∷ []))) e in
      (wildcard_selector ∷ [], r.0, r.1 ∙ append_assoc qs (segment_of_kind descends (wildcard_selector ∷ []) ∷ []) r.0, (x ∷ [], b, refl, one_byte i, r.2))
  dotted_sound qs descends x Letter i e =
      let r : NameRest qs descends (x ∷ []) q b = h (in_name qs descends (x ∷ [])) e in
      let first : IsNameFirst x = elim i [ inl a ↦ inl a | inr i ↦ elim i [ inl a ↦ inr (inl a) | inr a ↦ inr (inr (inl a)) ] ] in
      (name_selector (x ∷ r.0) ∷ [], r.2, r.3, (x ∷ r.0, r.1, ap (λ r. x ∷ r) r.4, ((first, r.5), refl), r.6))
  dotted_sound qs descends x BeyondAscii i e =
      let r : NameRest qs descends (x ∷ []) q b = h (in_name qs descends (x ∷ [])) e in
      (name_selector (x ∷ r.0) ∷ [], r.2, r.3, (x ∷ r.0, r.1, ap (λ r. x ∷ r) r.4, ((inr (inr (inr i)), r.5), refl), r.6))
  dotted_sound qs descends x _ i e = cc

  dot_sound : (qs : List Segment) (x : ℕ) (c : Class) → InClass c x → Accepts (dot_step qs c x) → AfterDot qs q (x ∷ b)
  dot_sound qs x Dot i e = inr (x ∷ [], b, refl, one_byte i, h (after_dots qs) e)
  dot_sound qs x c i e = inl (dotted_sound qs false x c i e)

  dots_sound : (qs : List Segment) (x : ℕ) (c : Class) → InClass c x → Accepts (dots_step qs c x) → AfterDots qs q (x ∷ b)
  dots_sound qs x Opening i e = by (bracket_before qs true q x b i (h (before_selector (opened qs true)) e))
    where
      by : BracketedRest qs true q (x ∷ b) → AfterDots qs q (x ∷ b)
      by (ss, tail, e, (t, v, f, ht, hv)) = (ss, tail, e, (t, v, f, inl ht, hv))
  dots_sound qs x c i e = by (dotted_sound qs true x c i e)
    where
      by : DottedRest qs true q (x ∷ b) → AfterDots qs q (x ∷ b)
      by (ss, tail, e, (t, v, f, ht, hv)) = (ss, tail, e, (t, v, f, inr ht, hv))

  -- one more byte of a name
  name_more : (qs : List Segment) (descends : Bool) (k : List ℕ) (x : ℕ) → IsNameFirst x ⊎ ((48 ≤ x) × (x ≤ 57)) → NameRest qs descends (k ++ x ∷ []) q b → NameRest qs descends k q (x ∷ b)
  name_more qs descends k x i (c, r, tail, g, f, hc, ht) =
      (x ∷ c, r, tail, subst (λ k. Splits q qs (segment_of_kind descends (name_selector k ∷ [])) tail) (append_assoc k (x ∷ []) c) g, ap (λ r. x ∷ r) f, (i, hc), ht)

  name_end : (qs : List Segment) (descends : Bool) (k : List ℕ) (x : ℕ) → AfterBlank (with_segment qs descends (name_selector k ∷ [])) q (x ∷ b) → NameRest qs descends k q (x ∷ b)
  name_end qs descends k x (g, tail, e, t) =
      let s : Segment = segment_of_kind descends (name_selector k ∷ []) in
      ([], x ∷ b, g ∷ tail, subst (λ k. Splits q qs (segment_of_kind descends (name_selector k ∷ [])) (g ∷ tail)) (sym (append-nil k)) (e ∙ append_assoc qs (s ∷ []) (g ∷ tail)), refl, tt, t)

  name_sound : (qs : List Segment) (descends : Bool) (k : List ℕ) (x : ℕ) (c : Class) → InClass c x → Accepts (name_step qs descends k c x) → NameRest qs descends k q (x ∷ b)
  name_sound qs descends k x Letter i e =
      let first : IsNameFirst x = elim i [ inl a ↦ inl a | inr i ↦ elim i [ inl a ↦ inr (inl a) | inr a ↦ inr (inr (inl a)) ] ] in
      name_more qs descends k x (inl first) (h (in_name qs descends (k ++ x ∷ [])) e)
  name_sound qs descends k x BeyondAscii i e = name_more qs descends k x (inl (inr (inr (inr i)))) (h (in_name qs descends (k ++ x ∷ [])) e)
  name_sound qs descends k x ZeroDigit i e = name_more qs descends k x (inr (omega arith, omega arith)) (h (in_name qs descends (k ++ x ∷ [])) e)
  name_sound qs descends k x Digit i e = name_more qs descends k x (inr (omega arith, omega arith)) (h (in_name qs descends (k ++ x ∷ [])) e)
  name_sound qs descends k x c i e = name_end qs descends k x (segment_sound (with_segment qs descends (name_selector k ∷ [])) x c i e)

  -- ---- selectors

  comma_before : (o : Brackets) (x : ℕ) → x ≡ 44 → Within spaced_selector o q b → AfterSelector o q (x ∷ b)
  comma_before o x i (s, p, r, e, (w, t, f, hw, ht), (ss, tail, g, (z, v, j, hz, hv))) =
      let row : b ≡ (w ++ (t ++ z)) ++ v = e ∙ ap (λ p. p ++ r) f ∙ ap (λ r. (w ++ t) ++ r) j ∙ simp append_assoc in
      let split : Splits q o.before (segment_of_kind o.descends (o.selectors ++ s ∷ ss)) tail =
      subst (λ (ss : List Selector). Splits q o.before (segment_of_kind o.descends ss) tail) (append_assoc o.selectors (s ∷ []) ss) g
      in
      (s ∷ ss, tail, split, (x ∷ (w ++ (t ++ z)), v, ap (λ r. x ∷ r) row, ([], x ∷ (w ++ (t ++ z)), refl, tt, (x ∷ [], w ++ (t ++ z), refl, one_byte i, (w, t ++ z, refl, hw, (t, z, refl, ht, hz)))), hv))

  closing_before : (o : Brackets) (x : ℕ) → x ≡ 93 → AfterSegment (closed o) q b → AfterSelector o q (x ∷ b)
  closing_before o x i (tail, g, t) =
      let split : Splits q o.before (segment_of_kind o.descends (o.selectors ++ [])) tail =
      subst (λ (ss : List Selector). Splits q o.before (segment_of_kind o.descends ss) tail) (sym (append-nil o.selectors)) (g ∙ append_assoc o.before (segment_of_kind o.descends o.selectors ∷ []) tail)
      in
      ([], tail, split, (x ∷ [], b, refl, ([], x ∷ [], refl, tt, one_byte i), t))

  selector_sound : (o : Brackets) (x : ℕ) (c : Class) → InClass c x → Accepts (selector_step o c) → AfterSelector o q (x ∷ b)
  selector_sound o x Blank i e = selector_blank o q x b i (h (after_selector o) e)
  selector_sound o x Comma i e = comma_before o x i (h (before_selector o) e)
  selector_sound o x Closing i e = closing_before o x i (h (after_segment (closed o)) e)
  selector_sound o x _ i e = cc

  first_sound : (o : Brackets) (x : ℕ) (c : Class) → InClass c x → Accepts (first_step o c x) → Within spaced_selector o q (x ∷ b)
  first_sound o x Blank i e = within_more spaced_selector spaced_selector o q x b (spaced_blank x i) (h (before_selector o) e)
  first_sound o x QuotationMark i e = within_more (string_rest x []) spaced_selector o q x b (quote_before x i) (h (in_string x o []) e)
  first_sound o x Star i e = (wildcard_selector, x ∷ [], b, refl, ([], x ∷ [], refl, tt, one_byte i), h (after_selector (with_selector o wildcard_selector)) e)
  first_sound o x Minus i e = within_more (minus_rest index_or_start) spaced_selector o q x b (minus_before index_or_start x i) (h (after_minus index_or_start o) e)
  first_sound o x ZeroDigit i e = within_more (integer_rest index_or_start (pos 0)) spaced_selector o q x b (zero_before index_or_start x i) (h (after_integer index_or_start o (pos 0)) e)
  first_sound o x Digit i e = within_more (numeral_rest index_or_start false (x - 48)) spaced_selector o q x b (digit_before index_or_start x i.0 i.1) (h (in_integer index_or_start o false (x - 48)) e)
  first_sound o x Colon i e = within_more (end_rest None) spaced_selector o q x b (colon_first x i) (h (before_end None o) e)
  first_sound o x _ i e = cc

  end_sound : (start : Option ℤ) (o : Brackets) (x : ℕ) (c : Class) → InClass c x → Accepts (end_step start o c x) → Within (end_rest start) o q (x ∷ b)
  end_sound start o x Blank i e = within_more (end_rest start) (end_rest start) o q x b (end_rest_blank start x i) (h (before_end start o) e)
  end_sound start o x Minus i e = within_more (minus_rest (end_after start)) (end_rest start) o q x b (minus_before (end_after start) x i) (h (after_minus (end_after start) o) e)
  end_sound start o x ZeroDigit i e = within_more (integer_rest (end_after start) (pos 0)) (end_rest start) o q x b (zero_before (end_after start) x i) (h (after_integer (end_after start) o (pos 0)) e)
  end_sound start o x Digit i e = within_more (numeral_rest (end_after start) false (x - 48)) (end_rest start) o q x b (digit_before (end_after start) x i.0 i.1) (h (in_integer (end_after start) o false (x - 48)) e)
  end_sound start o x Colon i e = within_more (step_rest start None) (end_rest start) o q x b (second_colon start x i) (h (before_step start None o) e)
  end_sound start o x c i e = (slice_selector start None (pos 1), [], x ∷ b, refl, (refl, ([], [], refl, tt, ([], [], refl, refl, inl (refl, inl refl)))), selector_sound (with_selector o (slice_selector start None (pos 1))) x c i e)

  step_sound : (start end : Option ℤ) (o : Brackets) (x : ℕ) (c : Class) → InClass c x → Accepts (step_step start end o c x) → Within (step_rest start end) o q (x ∷ b)
  step_sound start end o x Blank i e = step_blank start end o q x b i (h (before_step start end o) e)
  step_sound start end o x Minus i e = within_more (minus_rest (step_after start end)) (step_rest start end) o q x b (minus_before (step_after start end) x i) (h (after_minus (step_after start end) o) e)
  step_sound start end o x ZeroDigit i e = within_more (integer_rest (step_after start end) (pos 0)) (step_rest start end) o q x b (zero_before (step_after start end) x i) (h (after_integer (step_after start end) o (pos 0)) e)
  step_sound start end o x Digit i e = within_more (numeral_rest (step_after start end) false (x - 48)) (step_rest start end) o q x b (digit_before (step_after start end) x i.0 i.1) (h (in_integer (step_after start end) o false (x - 48)) e)
  step_sound start end o x c i e = (slice_selector start end (pos 1), [], x ∷ b, refl, (refl, refl, inl (refl, refl)), selector_sound (with_selector o (slice_selector start end (pos 1))) x c i e)

  minus_sound : (r : IntegerRole) (o : Brackets) (x : ℕ) (c : Class) → InClass c x → Accepts (minus_step r o c x) → Within (minus_rest r) o q (x ∷ b)
  minus_sound r o x Digit i e = within_more (numeral_rest r true (x - 48)) (minus_rest r) o q x b (λ s p g. (x, p, refl, i.0, i.1, g)) (h (in_integer r o true (x - 48)) e)
  minus_sound r o x _ i e = cc

  integer_sound : (r : IntegerRole) (o : Brackets) (j : ℤ) (x : ℕ) (c : Class) → InClass c x → Accepts (integer_step r o j c) → Within (integer_rest r j) o q (x ∷ b)
  integer_sound index_or_start o j x Blank i e = index_blank o q j x b i (h (after_integer index_or_start o j) e)
  integer_sound index_or_start o j x Colon i e = within_more (end_rest (Some j)) (integer_rest index_or_start j) o q x b (colon_after_index j x i) (h (before_end (Some j) o) e)
  integer_sound index_or_start o j x c i e = (index_selector j, [], x ∷ b, refl, (refl, refl), selector_sound (with_selector o (index_selector j)) x c i e)
  integer_sound (end_after start) o j x Blank i e = within_more (integer_rest (end_after start) j) (integer_rest (end_after start) j) o q x b (bound_blank start j x i) (h (after_integer (end_after start) o j) e)
  integer_sound (end_after start) o j x Colon i e = within_more (step_rest start (Some j)) (integer_rest (end_after start) j) o q x b (colon_after_end start j x i) (h (before_step start (Some j) o) e)
  integer_sound (end_after start) o j x c i e = (slice_selector start (Some j) (pos 1), [], x ∷ b, refl, (refl, refl, ([], [], refl, tt, inl (refl, inl refl))), selector_sound (with_selector o (slice_selector start (Some j) (pos 1))) x c i e)
  integer_sound (step_after start end) o j x c i e = (slice_selector start end j, [], x ∷ b, refl, (refl, refl, refl, refl), selector_sound (with_selector o (slice_selector start end j)) x c i e)

  digit_sound : (r : IntegerRole) (o : Brackets) (negative : Bool) (m x : ℕ) → (48 ≤ x) × (x ≤ 57) → (t : Bool) → nat_lt (m * 10 + (x - 48)) (2 ^ 53) ≡ t
      → Accepts (cond t (goes_to (in_integer r o negative (m * 10 + (x - 48)))) (stops code.IntegerOutOfRange)) → Within (numeral_rest r negative m) o q (x ∷ b)
  digit_sound r o negative m x i true f e =
      within_more (numeral_rest r negative (m * 10 + (x - 48))) (numeral_rest r negative m) o q x b (more_digits r negative m x i (ltb-true (m * 10 + (x - 48)) (2 ^ 53) f)) (h (in_integer r o negative (m * 10 + (x - 48))) e)
  digit_sound r o negative m x i false f e = cc

  more_sound : (r : IntegerRole) (o : Brackets) (negative : Bool) (m x : ℕ) (c : Class) → InClass c x → Accepts (more_step r o negative m c x) → Within (numeral_rest r negative m) o q (x ∷ b)
  more_sound r o negative m x ZeroDigit i e = digit_sound r o negative m x (omega arith, omega arith) (nat_lt (m * 10 + (x - 48)) (2 ^ 53)) refl e
  more_sound r o negative m x Digit i e = digit_sound r o negative m x (omega arith, omega arith) (nat_lt (m * 10 + (x - 48)) (2 ^ 53)) refl e
  more_sound r o negative m x c i e = by (integer_sound r o (signed negative m) x c i e)
    where
      by : Within (integer_rest r (signed negative m)) o q (x ∷ b) → Within (numeral_rest r negative m) o q (x ∷ b)
      by (s, p, t, f, g, a) = (s, p, t, f, ([], p, refl, tt, λ k. k, g), a)

  -- ---- strings

  string_sound : (m : ℕ) (o : Brackets) (k : List ℕ) (x : ℕ) → Accepts (string_step m o k x) → Within (string_rest m k) o q (x ∷ b)
  string_sound m o k x e = by (x == 92) (x == m) (nat_lt x 32) refl refl refl e
    where
      by : (t u l : Bool) → (x == 92) ≡ t → (x == m) ≡ u → nat_lt x 32 ≡ l
          → Accepts (cond t (goes_to (after_backslash m o k)) (cond u (goes_to (after_selector (with_selector o (name_selector k)))) (cond l (stops code.ControlCharacter) (goes_to (in_string m o (k ++ x ∷ [])))))) → Within (string_rest m k) o q (x ∷ b)
      by true u l ht hu hl e = within_more (backslash_rest m k) (string_rest m k) o q x b (backslash_before m k x (eqb-true x 92 ht)) (h (after_backslash m o k) e)
      by false true l ht hu hl e = (name_selector k, x ∷ [], b, refl, ([], [], sym (append-nil k), one_byte (eqb-true x m hu), no_chars), h (after_selector (with_selector o (name_selector k))) e)
      by false false true ht hu hl e = cc
      by false false false ht hu hl e =
          within_more (string_rest m (k ++ x ∷ [])) (string_rest m k) o q x b (spelling_before m k (x ∷ []) (x ∷ []) (unescaped (ltb-false x 32 hl) (eqb-false x m hu) (eqb-false x 92 ht))) (h (in_string m o (k ++ x ∷ [])) e)

  mark_sound : (m : ℕ) (o : Brackets) (k : List ℕ) (x : ℕ) (u : Bool) → (x == m) ≡ u → Accepts (cond u (goes_to (in_string m o (k ++ m ∷ []))) (stops code.InvalidEscape)) → Within (backslash_rest m k) o q (x ∷ b)
  mark_sound m o k x true i e =
      within_more (string_rest m (k ++ m ∷ [])) (backslash_rest m k) o q x b (λ s p g. (m ∷ [], x ∷ [], p, refl, subst (λ y. SpellsIn m (m ∷ []) (92 ∷ y ∷ [])) (sym (eqb-true x m i)) escaped_mark, g)) (h (in_string m o (k ++ m ∷ [])) e)
  mark_sound m o k x false i e = cc

  escape_sound : (m : ℕ) (o : Brackets) (k : List ℕ) (x : ℕ) → Accepts (escape_step m o k x) → Within (backslash_rest m k) o q (x ∷ b)
  escape_sound m o k x e = by (x == 117) (short_escape_of x) refl refl e
    where
      by : (t : Bool) (c : Option ℕ) → (x == 117) ≡ t → short_escape_of x ≡ c → Accepts (cond t (goes_to (in_unit m o k 3 0)) (short_step m o k x c)) → Within (backslash_rest m k) o q (x ∷ b)
      by true c ht hc e = within_more (unit_rest 4 0 m k) (backslash_rest m k) o q x b (unit_before m k x (eqb-true x 117 ht)) (h (in_unit m o k 3 0) e)
      by false (Some c) ht hc e =
          within_more (string_rest m (k ++ c ∷ [])) (backslash_rest m k) o q x b (λ s p g. (c ∷ [], x ∷ [], p, refl, short_escape (short_is x c hc).0 (short_is x c hc).1, g)) (h (in_string m o (k ++ c ∷ [])) e)
      by false None ht hc e = mark_sound m o k x (x == m) refl e

  -- after the four digits of an escape
  unit_end_sound : (m : ℕ) (o : Brackets) (k : List ℕ) (u : ℕ) → only_low 0 u ≡ false → outcome (unit_end m o k u) b ≡ is_query q → Within (unit_after m k u) o q b
  unit_end_sound m o k u low e = by (nat_le 0xd800 u && nat_lt u 0xdc00) refl e
    where
      by : (t : Bool) → (nat_le 0xd800 u && nat_lt u 0xdc00) ≡ t → outcome (cond t (before_low m o k u) (in_string m o (k ++ encode_utf8 u))) b ≡ is_query q → Within (unit_after m k u) o q b
      by true i e = within_as (before_low_rest m k u) (unit_after m k u) o q b (λ s p g. inr (high_is u i, g)) (h (before_low m o k u) e)
      by false i e = within_as (string_rest m (k ++ encode_utf8 u)) (unit_after m k u) o q b (λ s p g. inl (not_high u i, not_low u low, g)) (h (in_string m o (k ++ encode_utf8 u)) e)

  unit_sound : (m : ℕ) (o : Brackets) (k : List ℕ) (more v x : ℕ) → Accepts (unit_step m o k more v x) → Within (unit_rest (suc more) v m k) o q (x ∷ b)
  unit_sound m o k more v x e = by more (is_digit x 16) (only_low more (v * 16 + digit_value x)) refl refl e
    where
      w : ℕ
      w = v * 16 + digit_value x

      by : (more : ℕ) (d t : Bool) → is_digit x 16 ≡ d → only_low more w ≡ t → Accepts (cond d (cond t (stops code.InvalidSurrogate) (goes_to (unit_next m o k more w))) (stops code.InvalidEscape)) → Within (unit_rest (suc more) v m k) o q (x ∷ b)
      by more false t hd ht e = cc
      by more true true hd ht e = cc
      by zero true false hd ht e = within_more (unit_after m k w) (unit_rest 1 v m k) o q x b (λ s p g. (w, x ∷ [], p, refl, (hd, (refl, refl)), g)) (unit_end_sound m o k w ht e)
      by (suc more) true false hd ht e =
          within_more (unit_rest (suc more) w m k) (unit_rest (suc (suc more)) v m k) o q x b (λ s p g. unit_digit_before more v x hd m k s p g) (h (in_unit m o k more w) e)

  low_sound : (m : ℕ) (o : Brackets) (k : List ℕ) (f more v x : ℕ) → Accepts (low_step m o k f more v x) → Within (low_rest (suc more) v m k f) o q (x ∷ b)
  low_sound m o k f more v x e = by more (is_digit x 16) (some_low more (v * 16 + digit_value x)) refl refl e
    where
      w : ℕ
      w = v * 16 + digit_value x

      by : (more : ℕ) (d t : Bool) → is_digit x 16 ≡ d → some_low more w ≡ t → Accepts (cond d (cond t (goes_to (low_next m o k f more w)) (stops code.InvalidSurrogate)) (stops code.InvalidEscape)) → Within (low_rest (suc more) v m k f) o q (x ∷ b)
      by more false t hd ht e = cc
      by more true false hd ht e = cc
      by zero true true hd ht e =
          within_more (string_rest m (k ++ encode_utf8 (surrogate_pair f w))) (low_rest 1 v m k f) o q x b (λ s p g. (w, x ∷ [], p, refl, (hd, (refl, refl)), low_is w ht, g)) (h (in_string m o (k ++ encode_utf8 (surrogate_pair f w))) e)
      by (suc more) true true hd ht e =
          within_more (low_rest (suc more) w m k f) (low_rest (suc (suc more)) v m k f) o q x b (λ s p g. low_digit_before more v x hd m k f s p g) (h (in_low m o k f more w) e)

  low_backslash_sound : (m : ℕ) (o : Brackets) (k : List ℕ) (f x : ℕ) (t : Bool) → (x == 92) ≡ t → Accepts (cond t (goes_to (before_low_u m o k f)) (stops code.InvalidSurrogate)) → Within (before_low_rest m k f) o q (x ∷ b)
  low_backslash_sound m o k f x true i e =
      within_more (before_low_u_rest m k f) (before_low_rest m k f) o q x b (λ s p g. (g.0, ap (λ r. x ∷ r) g.1 ∙ ap (λ y. y ∷ 117 ∷ g.0) (eqb-true x 92 i), g.2)) (h (before_low_u m o k f) e)
  low_backslash_sound m o k f x false i e = cc

  low_u_sound : (m : ℕ) (o : Brackets) (k : List ℕ) (f x : ℕ) (t : Bool) → (x == 117) ≡ t → Accepts (cond t (goes_to (in_low m o k f 3 0)) (stops code.InvalidSurrogate)) → Within (before_low_u_rest m k f) o q (x ∷ b)
  low_u_sound m o k f x true i e = within_more (low_rest 4 0 m k f) (before_low_u_rest m k f) o q x b (λ s p g. (p, ap (λ y. y ∷ p) (eqb-true x 117 i), g)) (h (in_low m o k f 3 0) e)
  low_u_sound m o k f x false i e = cc

  root_sound : (x : ℕ) (c : Class) → InClass c x → Accepts (root_step c) → spells_query q (x ∷ b)
  root_sound x Root i e = by (h (after_segment []) e)
    where
      by : AfterSegment [] q b → spells_query q (x ∷ b)
      by (tail, g, t) = (x ∷ [], b, refl, one_byte i, subst (λ q. segments_text q b) (sym g) t)
  root_sound x _ i e = cc

  -- one byte before what is left
  byte_sound : (s : State) (x : ℕ) → Accepts (step s x) → Rest s q (x ∷ b)
  byte_sound before_root x e = root_sound x (class_of x) (in_class x) e
  byte_sound (after_segment qs) x e = after_segment_sound qs x (segment_sound qs x (class_of x) (in_class x) e)
  byte_sound (after_blank qs) x e = segment_sound qs x (class_of x) (in_class x) e
  byte_sound (after_dot qs) x e = dot_sound qs x (class_of x) (in_class x) e
  byte_sound (after_dots qs) x e = dots_sound qs x (class_of x) (in_class x) e
  byte_sound (in_name qs descends k) x e = name_sound qs descends k x (class_of x) (in_class x) e
  byte_sound (before_selector o) x e = first_sound o x (class_of x) (in_class x) e
  byte_sound (after_selector o) x e = selector_sound o x (class_of x) (in_class x) e
  byte_sound (after_minus r o) x e = minus_sound r o x (class_of x) (in_class x) e
  byte_sound (in_integer r o negative m) x e = more_sound r o negative m x (class_of x) (in_class x) e
  byte_sound (after_integer r o i) x e = integer_sound r o i x (class_of x) (in_class x) e
  byte_sound (before_end start o) x e = end_sound start o x (class_of x) (in_class x) e
  byte_sound (before_step start end o) x e = step_sound start end o x (class_of x) (in_class x) e
  byte_sound (in_string m o k) x e = string_sound m o k x e
  byte_sound (after_backslash m o k) x e = escape_sound m o k x e
  byte_sound (in_unit m o k more v) x e = unit_sound m o k more v x e
  byte_sound (before_low m o k f) x e = low_backslash_sound m o k f x (x == 92) refl e
  byte_sound (before_low_u m o k f) x e = low_u_sound m o k f x (x == 117) refl e
  byte_sound (in_low m o k f more v) x e = low_sound m o k f more v x e

end_sound_at : (s : State) (q : Query) → outcome_at_end s ≡ is_query q → Rest s q []
end_sound_at (after_segment qs) q e = ([], cc (append-nil qs), refl)
end_sound_at (in_name qs descends k) q e =
    let g : segment_of_kind descends (name_selector (k ++ []) ∷ []) ≡ segment_of_kind descends (name_selector k ∷ []) = ap (λ k. segment_of_kind descends (name_selector k ∷ [])) (append-nil k) in
    ([], [], [], cc, refl, tt, refl)
end_sound_at _ q e = cc

-- what is accepted from a state on is what the grammar has after it
pub accepted_from : (b : List ℕ) (s : State) (q : Query) → outcome s b ≡ is_query q → Rest s q b
accepted_from [] s q e = end_sound_at s q e
accepted_from (x ∷ b) s q e = byte_sound q b (suc (length b)) (λ t f. accepted_from b t q f) s x e

-- what is read is in the grammar
pub text_accepted : (q : Query) (b : List ℕ) → query_outcome b ≡ is_query q → spells_query q b
text_accepted q b e = accepted_from b before_root q e
