-- After each state that a reader of a query's text comes to, some text makes the query whole.
use Rattle.std.proofs.Common.{◌≡◌, ◌⊎◌, inl, inr, ℕ, zero, suc, ◌+◌, ◌*◌, ◌-◌, ◌^◌, ◌<◌, ℤ, pos, List, [], ◌∷◌, ◌++◌, Bool, true, false, cond, nat_lt, nat_le, ◌==◌, ◌&&◌, Option, Some, None, IsUtf8, refl, sym, ap, ◌∙◌, subst, arith, lit<}
use Rattle.std.specs.Char.{digit_value, is_digit, encode_utf8}
use Rattle.std.proofs.lemmas.Bool.{eqb-true, cond_both, cond-true, cond-false}
use Rattle.std.proofs.lemmas.Bool.Decides.{nat_tests}
use Rattle.std.proofs.lemmas.Str.{IsUtf8-append, IsUtf8-encode, IsUtf8-nil, encode_ascii}
use lib.Utf8.{low_scalar}
use Rattle.json_query.specs.Query.{Query, Segment, name_selector, index_selector, slice_selector}
use Rattle.json_query.specs.declared.error.QueryCode.TheVariants as code
use Rattle.json_query.specs.declared.cursor.Class.{Class}
use Rattle.json_query.specs.declared.cursor.Class.TheVariants.{Blank, QuotationMark, Root, Star, Comma, Minus, Dot, ZeroDigit, Digit, Colon, Question, Opening, Closing, Letter, BeyondAscii}
use Rattle.json_query.specs.TextStates.{class_of, Brackets, with_selector, with_segment, signed, IntegerRole, index_or_start, end_after, step_after, State, before_root, after_segment, after_blank, after_dot, after_dots, in_name, before_selector, after_selector, after_minus, in_integer, after_integer, before_end, before_step, in_string, after_backslash, in_unit, before_low, before_low_u, in_low, Step, goes_to, stops, step, segment_step, dotted_step, dot_step, dots_step, name_step, selector_step, first_step, end_step, step_step, minus_step, integer_step, digit_step, more_step, short_escape_of, string_step, short_step, escape_step, only_low, some_low, unit_end, unit_next, unit_digit, low_next, low_digit, root_step, is_query, outcome}
use Rattle.json_query.specs.Reading.{IsMark, double_mark, single_mark}
use Rattle.json_query.proofs.TextClasses.{InClass, in_class, goes}

-- ---- states that a reader comes to

-- digits of the value v, before one that `more` digits follow, begin no low surrogate alone
abbrev pub UnitBegun : ℕ → ℕ → Type 0
UnitBegun zero v = only_low 1 v ≡ false
UnitBegun (suc zero) v = only_low 2 v ≡ false
UnitBegun (suc (suc zero)) v = Unit {0}
UnitBegun (suc (suc (suc zero))) v = v ≡ 0
UnitBegun (suc (suc (suc (suc more)))) v = ⊥

-- they begin a low surrogate
abbrev pub LowBegun : ℕ → ℕ → Type 0
LowBegun zero v = some_low 1 v ≡ true
LowBegun (suc zero) v = some_low 2 v ≡ true
LowBegun (suc (suc zero)) v = v ≡ 13
LowBegun (suc (suc (suc zero))) v = v ≡ 0
LowBegun (suc (suc (suc (suc more)))) v = ⊥

abbrev pub Reached : State → Type 0
Reached (in_string m o k) = IsMark m
Reached (after_backslash m o k) = IsMark m
Reached (in_unit m o k more v) = IsMark m × UnitBegun more v
Reached (before_low m o k h) = IsMark m
Reached (before_low_u m o k h) = IsMark m
Reached (in_low m o k h more v) = IsMark m × LowBegun more v
Reached _ = Unit {0}

abbrev pub ReachedBy : Step → Type 0
ReachedBy (goes_to t) = Reached t
ReachedBy (stops c) = Unit {0}

segment_reached : (qs : List Segment) (c : Class) → ReachedBy (segment_step qs c)
segment_reached qs Blank = tt
segment_reached qs Opening = tt
segment_reached qs Dot = tt
segment_reached qs _ = tt

dotted_reached : (qs : List Segment) (descends : Bool) (c : Class) (x : ℕ) → ReachedBy (dotted_step qs descends c x)
dotted_reached qs descends Star x = tt
dotted_reached qs descends Letter x = tt
dotted_reached qs descends BeyondAscii x = tt
dotted_reached qs descends _ x = tt

dot_reached : (qs : List Segment) (c : Class) (x : ℕ) → ReachedBy (dot_step qs c x)
dot_reached qs Dot x = tt
dot_reached qs c x = dotted_reached qs false c x

dots_reached : (qs : List Segment) (c : Class) (x : ℕ) → ReachedBy (dots_step qs c x)
dots_reached qs Opening x = tt
dots_reached qs c x = dotted_reached qs true c x

name_reached : (qs : List Segment) (descends : Bool) (k : List ℕ) (c : Class) (x : ℕ) → ReachedBy (name_step qs descends k c x)
name_reached qs descends k Letter x = tt
name_reached qs descends k BeyondAscii x = tt
name_reached qs descends k ZeroDigit x = tt
name_reached qs descends k Digit x = tt
name_reached qs descends k c x = segment_reached (with_segment qs descends (name_selector k ∷ [])) c

selector_reached : (o : Brackets) (c : Class) → ReachedBy (selector_step o c)
selector_reached o Blank = tt
selector_reached o Comma = tt
selector_reached o Closing = tt
selector_reached o _ = tt

is_mark : (x : ℕ) → (x ≡ 34) ⊎ (x ≡ 39) → IsMark x
is_mark x (inl e) = subst IsMark (sym e) double_mark
is_mark x (inr e) = subst IsMark (sym e) single_mark

first_reached : (o : Brackets) (c : Class) (x : ℕ) → InClass c x → ReachedBy (first_step o c x)
first_reached o Blank x i = tt
first_reached o QuotationMark x i = is_mark x i
first_reached o Star x i = tt
first_reached o Minus x i = tt
first_reached o ZeroDigit x i = tt
first_reached o Digit x i = tt
first_reached o Colon x i = tt
first_reached o Question x i = tt
first_reached o _ x i = tt

end_reached : (start : Option ℤ) (o : Brackets) (c : Class) (x : ℕ) → ReachedBy (end_step start o c x)
end_reached start o Blank x = tt
end_reached start o Minus x = tt
end_reached start o ZeroDigit x = tt
end_reached start o Digit x = tt
end_reached start o Colon x = tt
end_reached start o c x = selector_reached (with_selector o (slice_selector start None (pos 1))) c

step_reached : (start end : Option ℤ) (o : Brackets) (c : Class) (x : ℕ) → ReachedBy (step_step start end o c x)
step_reached start end o Blank x = tt
step_reached start end o Minus x = tt
step_reached start end o ZeroDigit x = tt
step_reached start end o Digit x = tt
step_reached start end o c x = selector_reached (with_selector o (slice_selector start end (pos 1))) c

minus_reached : (r : IntegerRole) (o : Brackets) (c : Class) (x : ℕ) → ReachedBy (minus_step r o c x)
minus_reached r o Digit x = tt
minus_reached r o _ x = tt

integer_reached : (r : IntegerRole) (o : Brackets) (i : ℤ) (c : Class) → ReachedBy (integer_step r o i c)
integer_reached index_or_start o i Blank = tt
integer_reached index_or_start o i Colon = tt
integer_reached index_or_start o i c = selector_reached (with_selector o (index_selector i)) c
integer_reached (end_after start) o i Blank = tt
integer_reached (end_after start) o i Colon = tt
integer_reached (end_after start) o i c = selector_reached (with_selector o (slice_selector start (Some i) (pos 1))) c
integer_reached (step_after start end) o i c = selector_reached (with_selector o (slice_selector start end i)) c

-- a step by a test
either : (b : Bool) (x y : Step) → (b ≡ true → ReachedBy x) → (b ≡ false → ReachedBy y) → ReachedBy (cond b x y)
either b x y f g = cond_both b x y ReachedBy f g

digit_reached : (r : IntegerRole) (o : Brackets) (negative : Bool) (n : ℕ) → ReachedBy (digit_step r o negative n)
digit_reached r o negative n = either (nat_lt n (2 ^ 53)) (goes_to (in_integer r o negative n)) (stops code.IntegerOutOfRange) (λ e. tt) (λ e. tt)

more_reached : (r : IntegerRole) (o : Brackets) (negative : Bool) (n : ℕ) (c : Class) (x : ℕ) → ReachedBy (more_step r o negative n c x)
more_reached r o negative n ZeroDigit x = digit_reached r o negative (n * 10 + (x - 48))
more_reached r o negative n Digit x = digit_reached r o negative (n * 10 + (x - 48))
more_reached r o negative n c x = integer_reached r o (signed negative n) c

string_reached : (m : ℕ) (o : Brackets) (k : List ℕ) (x : ℕ) → IsMark m → ReachedBy (string_step m o k x)
string_reached m o k x w =
    let plain : Step = cond (nat_lt x 32) (stops code.ControlCharacter) (goes_to (in_string m o (k ++ x ∷ []))) in
    let ends : Step = goes_to (after_selector (with_selector o (name_selector k))) in
    either (x == 92) (goes_to (after_backslash m o k)) (cond (x == m) ends plain) (λ e. w) (λ e. either (x == m) ends plain (λ e. tt) (λ e. either (nat_lt x 32) (stops code.ControlCharacter) (goes_to (in_string m o (k ++ x ∷ []))) (λ e. tt) (λ e. w)))

short_reached : (m : ℕ) (o : Brackets) (k : List ℕ) (x : ℕ) (c : Option ℕ) → IsMark m → ReachedBy (short_step m o k x c)
short_reached m o k x (Some c) w = w
short_reached m o k x None w = either (x == m) (goes_to (in_string m o (k ++ m ∷ []))) (stops code.InvalidEscape) (λ e. w) (λ e. tt)

escape_reached : (m : ℕ) (o : Brackets) (k : List ℕ) (x : ℕ) → IsMark m → ReachedBy (escape_step m o k x)
escape_reached m o k x w = either (x == 117) (goes_to (in_unit m o k 3 0)) (short_step m o k x (short_escape_of x)) (λ e. (w, refl)) (λ e. short_reached m o k x (short_escape_of x) w)

unit_next_reached : (m : ℕ) (o : Brackets) (k : List ℕ) (more v : ℕ) → IsMark m → more < 4 → only_low more v ≡ false → Reached (unit_next m o k more v)
unit_next_reached m o k zero v w l e = cond_both (nat_le 0xd800 v && nat_lt v 0xdc00) (before_low m o k v) (in_string m o (k ++ encode_utf8 v)) Reached (λ e. w) (λ e. w)
unit_next_reached m o k (suc zero) v w l e = (w, e)
unit_next_reached m o k (suc (suc zero)) v w l e = (w, e)
unit_next_reached m o k (suc (suc (suc zero))) v w l e = (w, tt)
unit_next_reached m o k (suc (suc (suc (suc more)))) v w l e = absurd (omega arith)

low_next_reached : (m : ℕ) (o : Brackets) (k : List ℕ) (h more v : ℕ) → IsMark m → more < 4 → some_low more v ≡ true → Reached (low_next m o k h more v)
low_next_reached m o k h zero v w l e = w
low_next_reached m o k h (suc zero) v w l e = (w, e)
low_next_reached m o k h (suc (suc zero)) v w l e = (w, e)
low_next_reached m o k h (suc (suc (suc zero))) v w l e = (w, eqb-true v 13 e)
low_next_reached m o k h (suc (suc (suc (suc more)))) v w l e = absurd (omega arith)

unit_begun : (more v : ℕ) → UnitBegun more v → more < 4
unit_begun zero v u = lit< tt
unit_begun (suc zero) v u = lit< tt
unit_begun (suc (suc zero)) v u = lit< tt
unit_begun (suc (suc (suc zero))) v u = lit< tt
unit_begun (suc (suc (suc (suc more)))) v u = absurd u

low_begun : (more v : ℕ) → LowBegun more v → more < 4
low_begun zero v u = lit< tt
low_begun (suc zero) v u = lit< tt
low_begun (suc (suc zero)) v u = lit< tt
low_begun (suc (suc (suc zero))) v u = lit< tt
low_begun (suc (suc (suc (suc more)))) v u = absurd u

-- a step leads to a state that a reader comes to
pub reached : (s : State) (x : ℕ) → Reached s → ReachedBy (step s x)
reached before_root x w = by (class_of x)
  where
    by : (c : Class) → ReachedBy (root_step c)
    by Root = tt
    by _ = tt
reached (after_segment qs) x w = segment_reached qs (class_of x)
reached (after_blank qs) x w = segment_reached qs (class_of x)
reached (after_dot qs) x w = dot_reached qs (class_of x) x
reached (after_dots qs) x w = dots_reached qs (class_of x) x
reached (in_name qs descends k) x w = name_reached qs descends k (class_of x) x
reached (before_selector o) x w = first_reached o (class_of x) x (in_class x)
reached (after_selector o) x w = selector_reached o (class_of x)
reached (after_minus r o) x w = minus_reached r o (class_of x) x
reached (in_integer r o negative n) x w = more_reached r o negative n (class_of x) x
reached (after_integer r o i) x w = integer_reached r o i (class_of x)
reached (before_end start o) x w = end_reached start o (class_of x) x
reached (before_step start end o) x w = step_reached start end o (class_of x) x
reached (in_string m o k) x w = string_reached m o k x w
reached (after_backslash m o k) x w = escape_reached m o k x w
reached (in_unit m o k more v) x w =
    let u : ℕ = v * 16 + digit_value x in
    either (is_digit x 16) (unit_digit m o k more u) (stops code.InvalidEscape) (λ e. either (only_low more u) (stops code.InvalidSurrogate) (goes_to (unit_next m o k more u)) (λ e. tt) (λ e. unit_next_reached m o k more u w.0 (unit_begun more v w.1) e)) (λ e. tt)
reached (before_low m o k h) x w = either (x == 92) (goes_to (before_low_u m o k h)) (stops code.InvalidSurrogate) (λ e. w) (λ e. tt)
reached (before_low_u m o k h) x w = either (x == 117) (goes_to (in_low m o k h 3 0)) (stops code.InvalidSurrogate) (λ e. (w, refl)) (λ e. tt)
reached (in_low m o k h more v) x w =
    let u : ℕ = v * 16 + digit_value x in
    either (is_digit x 16) (low_digit m o k h more u) (stops code.InvalidEscape) (λ e. either (some_low more u) (goes_to (low_next m o k h more u)) (stops code.InvalidSurrogate) (λ e. low_next_reached m o k h more u w.0 (low_begun more v w.1) e) (λ e. tt)) (λ e. tt)

-- ---- texts that make a query whole

pub record Completes (s : State) : Type 0 where
  pub rest : List ℕ
  pub query : Query
  pub utf8 : IsUtf8 rest
  pub reads : outcome s rest ≡ is_query query

ascii_utf8 : (x : ℕ) → x < 128 → IsUtf8 (x ∷ [])
ascii_utf8 x l = subst IsUtf8 (encode_ascii x l) (IsUtf8-encode x (low_scalar x (omega arith)))

-- by one byte more
by_byte : (s t : State) (x : ℕ) → x < 128 → step s x ≡ goes_to t → Completes t → Completes s
by_byte s t x u e c = record { rest = x ∷ c.rest; query = c.query; utf8 = IsUtf8-append (x ∷ []) c.rest (ascii_utf8 x u) c.utf8; reads = goes s t x c.rest e ∙ c.reads }

segment_completes : (qs : List Segment) → Completes (after_segment qs)
segment_completes qs = record { rest = []; query = qs; utf8 = IsUtf8-nil; reads = refl }

name_completes : (qs : List Segment) (descends : Bool) (k : List ℕ) → Completes (in_name qs descends k)
name_completes qs descends k = record { rest = []; query = _; utf8 = IsUtf8-nil; reads = refl }

dot_completes : (qs : List Segment) → Completes (after_dot qs)
unfolding class_of
dot_completes qs = by_byte (after_dot qs) (in_name qs false (97 ∷ [])) 97 (lit< tt) refl (name_completes qs false (97 ∷ []))

dots_completes : (qs : List Segment) → Completes (after_dots qs)
unfolding class_of
dots_completes qs = by_byte (after_dots qs) (in_name qs true (97 ∷ [])) 97 (lit< tt) refl (name_completes qs true (97 ∷ []))

blank_completes : (qs : List Segment) → Completes (after_blank qs)
unfolding class_of
blank_completes qs = by_byte (after_blank qs) (after_dot qs) 46 (lit< tt) refl (dot_completes qs)

-- the bracket that closes
closes : (s : State) (qs : List Segment) → step s 93 ≡ goes_to (after_segment qs) → Completes s
closes s qs e = by_byte s (after_segment qs) 93 (lit< tt) e (segment_completes qs)

selector_completes : (o : Brackets) → Completes (after_selector o)
unfolding class_of
selector_completes o = closes (after_selector o) _ refl

first_completes : (o : Brackets) → Completes (before_selector o)
unfolding class_of
first_completes o = by_byte (before_selector o) _ 42 (lit< tt) refl (selector_completes _)

integer_completes : (r : IntegerRole) (o : Brackets) (i : ℤ) → Completes (after_integer r o i)
unfolding class_of
integer_completes index_or_start o i = closes (after_integer index_or_start o i) _ refl
integer_completes (end_after start) o i = closes (after_integer (end_after start) o i) _ refl
integer_completes (step_after start end) o i = closes (after_integer (step_after start end) o i) _ refl

numeral_completes : (r : IntegerRole) (o : Brackets) (negative : Bool) (n : ℕ) → Completes (in_integer r o negative n)
unfolding class_of
numeral_completes index_or_start o negative n = closes (in_integer index_or_start o negative n) _ refl
numeral_completes (end_after start) o negative n = closes (in_integer (end_after start) o negative n) _ refl
numeral_completes (step_after start end) o negative n = closes (in_integer (step_after start end) o negative n) _ refl

minus_completes : (r : IntegerRole) (o : Brackets) → Completes (after_minus r o)
unfolding class_of
minus_completes r o = by_byte (after_minus r o) (in_integer r o true 1) 49 (lit< tt) refl (numeral_completes r o true 1)

end_completes : (start : Option ℤ) (o : Brackets) → Completes (before_end start o)
unfolding class_of
end_completes start o = closes (before_end start o) _ refl

step_completes : (start end : Option ℤ) (o : Brackets) → Completes (before_step start end o)
unfolding class_of
step_completes start end o = closes (before_step start end o) _ refl

string_completes : (m : ℕ) (o : Brackets) (k : List ℕ) → IsMark m → Completes (in_string m o k)
string_completes m o k double_mark = by_byte (in_string 34 o k) _ 34 (lit< tt) refl (selector_completes _)
string_completes m o k single_mark = by_byte (in_string 39 o k) _ 39 (lit< tt) refl (selector_completes _)

backslash_completes : (m : ℕ) (o : Brackets) (k : List ℕ) → IsMark m → Completes (after_backslash m o k)
unfolding short_escape_of
backslash_completes m o k w = by_byte (after_backslash m o k) (in_string m o (k ++ 92 ∷ [])) 92 (lit< tt) refl (string_completes m o (k ++ 92 ∷ []) w)

-- a digit more of a low surrogate
low_by : (m : ℕ) (o : Brackets) (k : List ℕ) (h more v x : ℕ) → x < 128 → is_digit x 16 ≡ true → some_low more (v * 16 + digit_value x) ≡ true → Completes (low_next m o k h more (v * 16 + digit_value x)) → Completes (in_low m o k h more v)
low_by m o k h more v x u d e c = by_byte (in_low m o k h more v) (low_next m o k h more (v * 16 + digit_value x)) x u (cond-true _ _ _ d ∙ cond-true _ _ _ e) c

low_zero : (v : ℕ) → some_low 1 v ≡ true → some_low 0 (v * 16 + 0) ≡ true
low_zero v e = grind (arith, nat_tests)

low_one : (v : ℕ) → some_low 2 v ≡ true → some_low 1 (v * 16 + 0) ≡ true
low_one v e = grind (arith, nat_tests)

low_completes : (m : ℕ) (o : Brackets) (k : List ℕ) (h more v : ℕ) → IsMark m → LowBegun more v → Completes (in_low m o k h more v)
low_completes m o k h zero v w l = low_by m o k h 0 v 48 (lit< tt) refl (low_zero v l) (string_completes m o _ w)
low_completes m o k h (suc zero) v w l = low_by m o k h 1 v 48 (lit< tt) refl (low_one v l) (low_completes m o k h zero (v * 16 + 0) w (low_one v l))
low_completes m o k h (suc (suc zero)) v w l =
    let c : some_low 2 (v * 16 + 12) ≡ true = rw l refl in
    low_by m o k h 2 v 67 (lit< tt) refl c (low_completes m o k h (suc zero) (v * 16 + 12) w c)
low_completes m o k h (suc (suc (suc zero))) v w l =
    let d : v * 16 + 13 ≡ 13 = rw l refl in
    low_by m o k h 3 v 68 (lit< tt) refl (ap (λ v. v == 13) d) (low_completes m o k h (suc (suc zero)) (v * 16 + 13) w d)
low_completes m o k h (suc (suc (suc (suc more)))) v w l = absurd l

before_low_completes : (m : ℕ) (o : Brackets) (k : List ℕ) (h : ℕ) → IsMark m → Completes (before_low m o k h)
before_low_completes m o k h w =
    by_byte (before_low m o k h) (before_low_u m o k h) 92 (lit< tt) refl (by_byte (before_low_u m o k h) (in_low m o k h 3 0) 117 (lit< tt) refl (low_completes m o k h 3 0 w refl))

-- a digit more of an escape
unit_by : (m : ℕ) (o : Brackets) (k : List ℕ) (more v x : ℕ) → x < 128 → is_digit x 16 ≡ true → only_low more (v * 16 + digit_value x) ≡ false → Completes (unit_next m o k more (v * 16 + digit_value x)) → Completes (in_unit m o k more v)
unit_by m o k more v x u d e c = by_byte (in_unit m o k more v) (unit_next m o k more (v * 16 + digit_value x)) x u (cond-true _ _ _ d ∙ cond-false _ _ _ e) c

unit_zero : (v : ℕ) → only_low 1 v ≡ false → only_low 0 (v * 16 + 0) ≡ false
unit_zero v e = grind (arith, nat_tests)

unit_one : (v : ℕ) → only_low 2 v ≡ false → only_low 1 (v * 16 + 0) ≡ false
unit_one v e = grind (arith, nat_tests)

unit_two : (v : ℕ) → only_low 2 (v * 16 + 0) ≡ false
unit_two v = grind (arith, nat_tests)

unit_end_completes : (m : ℕ) (o : Brackets) (k : List ℕ) (u : ℕ) → IsMark m → Completes (unit_end m o k u)
unit_end_completes m o k u w = cond_both (nat_le 0xd800 u && nat_lt u 0xdc00) (before_low m o k u) (in_string m o (k ++ encode_utf8 u)) Completes (λ e. before_low_completes m o k u w) (λ e. string_completes m o (k ++ encode_utf8 u) w)

unit_completes : (m : ℕ) (o : Brackets) (k : List ℕ) (more v : ℕ) → IsMark m → UnitBegun more v → Completes (in_unit m o k more v)
unit_completes m o k zero v w l = unit_by m o k 0 v 48 (lit< tt) refl (unit_zero v l) (unit_end_completes m o k (v * 16 + 0) w)
unit_completes m o k (suc zero) v w l = unit_by m o k 1 v 48 (lit< tt) refl (unit_one v l) (unit_completes m o k zero (v * 16 + 0) w (unit_one v l))
unit_completes m o k (suc (suc zero)) v w l = unit_by m o k 2 v 48 (lit< tt) refl (unit_two v) (unit_completes m o k (suc zero) (v * 16 + 0) w (unit_two v))
unit_completes m o k (suc (suc (suc zero))) v w l = unit_by m o k 3 v 48 (lit< tt) refl refl (unit_completes m o k (suc (suc zero)) (v * 16 + 0) w tt)
unit_completes m o k (suc (suc (suc (suc more)))) v w l = absurd l

pub completes : (s : State) → Reached s → Completes s
unfolding class_of
completes before_root w = by_byte before_root (after_segment []) 36 (lit< tt) refl (segment_completes [])
completes (after_segment qs) w = segment_completes qs
completes (after_blank qs) w = blank_completes qs
completes (after_dot qs) w = dot_completes qs
completes (after_dots qs) w = dots_completes qs
completes (in_name qs descends k) w = name_completes qs descends k
completes (before_selector o) w = first_completes o
completes (after_selector o) w = selector_completes o
completes (after_minus r o) w = minus_completes r o
completes (in_integer r o negative n) w = numeral_completes r o negative n
completes (after_integer r o i) w = integer_completes r o i
completes (before_end start o) w = end_completes start o
completes (before_step start end o) w = step_completes start end o
completes (in_string m o k) w = string_completes m o k w
completes (after_backslash m o k) w = backslash_completes m o k w
completes (in_unit m o k more v) w = unit_completes m o k more v w.0 w.1
completes (before_low m o k h) w = before_low_completes m o k h w
completes (before_low_u m o k h) w = by_byte (before_low_u m o k h) (in_low m o k h 3 0) 117 (lit< tt) refl (low_completes m o k h 3 0 w refl)
completes (in_low m o k h more v) w = low_completes m o k h more v w.0 w.1
