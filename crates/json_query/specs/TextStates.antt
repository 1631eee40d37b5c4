-- What a reader of a query's text does at each byte. It reads the grammar of `Text` from left to
-- right, and stops at the first byte with which no query goes on.
use Rattle.std.specs.Prelude.{ℕ, zero, suc, ◌+◌, ◌-◌, ◌*◌, ◌^◌, ℤ, pos, neg_ℤ, List, [], ◌∷◌, ◌++◌, length, Bool, true, false, cond, ◌==◌, ◌&&◌, ◌||◌, nat_le, nat_lt, Option, Some, None}
use Rattle.std.specs.Char.{digit_value, is_digit, encode_utf8}
use Rattle.json_grammar.specs.Grammar.{surrogate_pair}
use Rattle.json_query.specs.Query.{Query, Segment, child_segment, descendant_segment, Selector, name_selector, wildcard_selector, index_selector, slice_selector}
use Rattle.json_query.specs.declared.cursor.Class.{Class}
use Rattle.json_query.specs.declared.cursor.Class.TheVariants.{Blank, QuotationMark, Root, Star, Comma, Minus, Dot, ZeroDigit, Digit, Colon, Question, Opening, Closing, Letter, BeyondAscii, Other}
use Rattle.json_query.specs.declared.error.QueryCode.{QueryCode}
use Rattle.json_query.specs.declared.error.QueryCode.TheVariants as code

-- ---- bytes by what they are for in a query

abbrev pub is_between : ℕ → ℕ → ℕ → Bool
is_between low up x = nat_le low x && nat_le x up

unfoldable pub class_of : ℕ → Class
class_of x =
    cond ((x == 32) || (x == 9) || (x == 10) || (x == 13)) Blank
    (cond ((x == 34) || (x == 39)) QuotationMark
    (cond (x == 36) Root
    (cond (x == 42) Star
    (cond (x == 44) Comma
    (cond (x == 45) Minus
    (cond (x == 46) Dot
    (cond (x == 48) ZeroDigit
    (cond (is_between 49 57 x) Digit
    (cond (x == 58) Colon
    (cond (x == 63) Question
    (cond (x == 91) Opening
    (cond (x == 93) Closing
    (cond (is_between 65 90 x || is_between 97 122 x || (x == 95)) Letter
    (cond (nat_le 128 x) BeyondAscii Other))))))))))))))

-- a name without quotation marks may have a character of the class
abbrev pub is_name_class : Class → Bool
is_name_class Letter = true
is_name_class BeyondAscii = true
is_name_class ZeroDigit = true
is_name_class Digit = true
is_name_class _ = false

-- ---- what was read so far

abbrev pub segment_of_kind : Bool → List Selector → Segment
segment_of_kind descends ss = cond descends (descendant_segment ss) (child_segment ss)

-- one segment more
abbrev pub with_segment : List Segment → Bool → List Selector → List Segment
with_segment qs descends ss = qs ++ segment_of_kind descends ss ∷ []

-- brackets that are open: the segments before them, whether their segment descends, and the
-- selectors so far
pub record Brackets : Type 0 where
  pub before : List Segment
  pub descends : Bool
  pub selectors : List Selector

abbrev pub opened : List Segment → Bool → Brackets
opened qs descends = record { before = qs; descends = descends; selectors = [] }

-- one selector more
abbrev pub with_selector : Brackets → Selector → Brackets
with_selector o s = record { before = o.before; descends = o.descends; selectors = o.selectors ++ s ∷ [] }

abbrev pub closed : Brackets → List Segment
closed o = with_segment o.before o.descends o.selectors

-- what an integer is: an index or the start of a slice, the end of a slice of this start, or the
-- step of a slice of this start and end
pub data IntegerRole : Type 0 where
  index_or_start : IntegerRole
  end_after : Option ℤ → IntegerRole
  step_after : Option ℤ → Option ℤ → IntegerRole

-- a string between quotation marks m has the bytes k so far. After `\u` comes a digit that `more`
-- digits follow, those before it have the value v, and h is the high surrogate before.
pub data State : Type 0 where
  before_root : State
  after_segment : List Segment → State
  after_blank : List Segment → State
  after_dot : List Segment → State
  after_dots : List Segment → State
  in_name : List Segment → Bool → List ℕ → State
  before_selector : Brackets → State
  after_selector : Brackets → State
  after_minus : IntegerRole → Brackets → State
  in_integer : IntegerRole → Brackets → Bool → ℕ → State
  after_integer : IntegerRole → Brackets → ℤ → State
  before_end : Option ℤ → Brackets → State
  before_step : Option ℤ → Option ℤ → Brackets → State
  in_string : ℕ → Brackets → List ℕ → State
  after_backslash : ℕ → Brackets → List ℕ → State
  in_unit : ℕ → Brackets → List ℕ → ℕ → ℕ → State
  before_low : ℕ → Brackets → List ℕ → ℕ → State
  before_low_u : ℕ → Brackets → List ℕ → ℕ → State
  in_low : ℕ → Brackets → List ℕ → ℕ → ℕ → ℕ → State

-- a byte leads to a state, or no query goes on with it
pub data Step : Type 0 where
  goes_to : State → Step
  stops : QueryCode → Step

-- ---- steps between segments and selectors

-- after a segment
abbrev pub segment_step : List Segment → Class → Step
segment_step qs Blank = goes_to (after_blank qs)
segment_step qs Opening = goes_to (before_selector (opened qs false))
segment_step qs Dot = goes_to (after_dot qs)
segment_step qs _ = stops code.ExpectedSegment

-- after one dot or two: `*`, or a name
abbrev pub dotted_step : List Segment → Bool → Class → ℕ → Step
dotted_step qs descends Star x = goes_to (after_segment (with_segment qs descends (wildcard_selector ∷ [])))
dotted_step qs descends Letter x = goes_to (in_name qs descends (x ∷ []))
dotted_step qs descends BeyondAscii x = goes_to (in_name qs descends (x ∷ []))
dotted_step qs descends _ x = stops code.ExpectedName

abbrev pub dot_step : List Segment → Class → ℕ → Step
dot_step qs Dot x = goes_to (after_dots qs)
dot_step qs c x = dotted_step qs false c x

abbrev pub dots_step : List Segment → Class → ℕ → Step
dots_step qs Opening x = goes_to (before_selector (opened qs true))
dots_step qs c x = dotted_step qs true c x

abbrev pub name_step : List Segment → Bool → List ℕ → Class → ℕ → Step
name_step qs descends k Letter x = goes_to (in_name qs descends (k ++ x ∷ []))
name_step qs descends k BeyondAscii x = goes_to (in_name qs descends (k ++ x ∷ []))
name_step qs descends k ZeroDigit x = goes_to (in_name qs descends (k ++ x ∷ []))
name_step qs descends k Digit x = goes_to (in_name qs descends (k ++ x ∷ []))
name_step qs descends k c x = segment_step (with_segment qs descends (name_selector k ∷ [])) c

-- after a selector
abbrev pub selector_step : Brackets → Class → Step
selector_step o Blank = goes_to (after_selector o)
selector_step o Comma = goes_to (before_selector o)
selector_step o Closing = goes_to (after_segment (closed o))
selector_step o _ = stops code.ExpectedCommaOrBracket

-- ---- steps at integers and slices

-- the first byte of a selector
abbrev pub first_step : Brackets → Class → ℕ → Step
first_step o Blank x = goes_to (before_selector o)
first_step o QuotationMark x = goes_to (in_string x o [])
first_step o Star x = goes_to (after_selector (with_selector o wildcard_selector))
first_step o Minus x = goes_to (after_minus index_or_start o)
first_step o ZeroDigit x = goes_to (after_integer index_or_start o (pos 0))
first_step o Digit x = goes_to (in_integer index_or_start o false (x - 48))
first_step o Colon x = goes_to (before_end None o)
first_step o Question x = stops code.Filter
first_step o _ x = stops code.ExpectedSelector

-- after the first colon of a slice
abbrev pub end_step : Option ℤ → Brackets → Class → ℕ → Step
end_step start o Blank x = goes_to (before_end start o)
end_step start o Minus x = goes_to (after_minus (end_after start) o)
end_step start o ZeroDigit x = goes_to (after_integer (end_after start) o (pos 0))
end_step start o Digit x = goes_to (in_integer (end_after start) o false (x - 48))
end_step start o Colon x = goes_to (before_step start None o)
end_step start o c x = selector_step (with_selector o (slice_selector start None (pos 1))) c

-- after its second colon
abbrev pub step_step : Option ℤ → Option ℤ → Brackets → Class → ℕ → Step
step_step start end o Blank x = goes_to (before_step start end o)
step_step start end o Minus x = goes_to (after_minus (step_after start end) o)
step_step start end o ZeroDigit x = goes_to (after_integer (step_after start end) o (pos 0))
step_step start end o Digit x = goes_to (in_integer (step_after start end) o false (x - 48))
step_step start end o c x = selector_step (with_selector o (slice_selector start end (pos 1))) c

abbrev pub minus_step : IntegerRole → Brackets → Class → ℕ → Step
minus_step r o Digit x = goes_to (in_integer r o true (x - 48))
minus_step r o _ x = stops code.ExpectedDigit

-- after an integer
abbrev pub integer_step : IntegerRole → Brackets → ℤ → Class → Step
integer_step index_or_start o i Blank = goes_to (after_integer index_or_start o i)
integer_step index_or_start o i Colon = goes_to (before_end (Some i) o)
integer_step index_or_start o i c = selector_step (with_selector o (index_selector i)) c
integer_step (end_after start) o i Blank = goes_to (after_integer (end_after start) o i)
integer_step (end_after start) o i Colon = goes_to (before_step start (Some i) o)
integer_step (end_after start) o i c = selector_step (with_selector o (slice_selector start (Some i) (pos 1))) c
integer_step (step_after start end) o i c = selector_step (with_selector o (slice_selector start end i)) c

abbrev pub signed : Bool → ℕ → ℤ
signed negative n = cond negative (neg_ℤ (pos n)) (pos n)

-- a digit that makes the number n
abbrev pub digit_step : IntegerRole → Brackets → Bool → ℕ → Step
digit_step r o negative n = cond (nat_lt n (2 ^ 53)) (goes_to (in_integer r o negative n)) (stops code.IntegerOutOfRange)

-- within an integer, whose digits so far spell n
abbrev pub more_step : IntegerRole → Brackets → Bool → ℕ → Class → ℕ → Step
more_step r o negative n ZeroDigit x = digit_step r o negative (n * 10 + (x - 48))
more_step r o negative n Digit x = digit_step r o negative (n * 10 + (x - 48))
more_step r o negative n c x = integer_step r o (signed negative n) c

-- ---- steps in strings

-- the character that a backslash and this byte denote, if it is not a quotation mark
unfoldable pub short_escape_of : ℕ → Option ℕ
short_escape_of x =
    cond (x == 98) (Some 8) (cond (x == 102) (Some 12) (cond (x == 110) (Some 10) (cond (x == 114) (Some 13) (cond (x == 116) (Some 9) (cond (x == 47) (Some 47) (cond (x == 92) (Some 92) None))))))

abbrev pub string_step : ℕ → Brackets → List ℕ → ℕ → Step
string_step m o k x =
    cond (x == 92) (goes_to (after_backslash m o k))
    (cond (x == m) (goes_to (after_selector (with_selector o (name_selector k)))) (cond (nat_lt x 32) (stops code.ControlCharacter) (goes_to (in_string m o (k ++ x ∷ [])))))

abbrev pub short_step : ℕ → Brackets → List ℕ → ℕ → Option ℕ → Step
short_step m o k x (Some c) = goes_to (in_string m o (k ++ c ∷ []))
short_step m o k x None = cond (x == m) (goes_to (in_string m o (k ++ m ∷ []))) (stops code.InvalidEscape)

abbrev pub escape_step : ℕ → Brackets → List ℕ → ℕ → Step
escape_step m o k x = cond (x == 117) (goes_to (in_unit m o k 3 0)) (short_step m o k x (short_escape_of x))

-- digits of the value v, which `more` digits follow, begin only low surrogates
abbrev pub only_low : ℕ → ℕ → Bool
only_low zero v = nat_le 0xdc00 v && nat_lt v 0xe000
only_low (suc zero) v = nat_le 0xdc0 v && nat_lt v 0xe00
only_low (suc (suc zero)) v = nat_le 0xdc v && nat_lt v 0xe0
only_low (suc (suc (suc more))) v = false

-- they begin some low surrogate
abbrev pub some_low : ℕ → ℕ → Bool
some_low zero v = only_low zero v
some_low (suc zero) v = only_low (suc zero) v
some_low (suc (suc zero)) v = only_low (suc (suc zero)) v
some_low (suc (suc (suc more))) v = v == 0xd

-- after the last digit of `\u`
abbrev pub unit_end : ℕ → Brackets → List ℕ → ℕ → State
unit_end m o k u = cond (nat_le 0xd800 u && nat_lt u 0xdc00) (before_low m o k u) (in_string m o (k ++ encode_utf8 u))

abbrev pub unit_next : ℕ → Brackets → List ℕ → ℕ → ℕ → State
unit_next m o k zero v = unit_end m o k v
unit_next m o k (suc more) v = in_unit m o k more v

-- a digit that makes the value v
abbrev pub unit_digit : ℕ → Brackets → List ℕ → ℕ → ℕ → Step
unit_digit m o k more v = cond (only_low more v) (stops code.InvalidSurrogate) (goes_to (unit_next m o k more v))

abbrev pub unit_step : ℕ → Brackets → List ℕ → ℕ → ℕ → ℕ → Step
unit_step m o k more v x = cond (is_digit x 16) (unit_digit m o k more (v * 16 + digit_value x)) (stops code.InvalidEscape)

abbrev pub low_next : ℕ → Brackets → List ℕ → ℕ → ℕ → ℕ → State
low_next m o k h zero v = in_string m o (k ++ encode_utf8 (surrogate_pair h v))
low_next m o k h (suc more) v = in_low m o k h more v

abbrev pub low_digit : ℕ → Brackets → List ℕ → ℕ → ℕ → ℕ → Step
low_digit m o k h more v = cond (some_low more v) (goes_to (low_next m o k h more v)) (stops code.InvalidSurrogate)

abbrev pub low_step : ℕ → Brackets → List ℕ → ℕ → ℕ → ℕ → ℕ → Step
low_step m o k h more v x = cond (is_digit x 16) (low_digit m o k h more (v * 16 + digit_value x)) (stops code.InvalidEscape)

-- ---- all steps

abbrev pub root_step : Class → Step
root_step Root = goes_to (after_segment [])
root_step _ = stops code.ExpectedRoot

abbrev pub step : State → ℕ → Step
step before_root x = root_step (class_of x)
step (after_segment qs) x = segment_step qs (class_of x)
step (after_blank qs) x = segment_step qs (class_of x)
step (after_dot qs) x = dot_step qs (class_of x) x
step (after_dots qs) x = dots_step qs (class_of x) x
step (in_name qs descends k) x = name_step qs descends k (class_of x) x
step (before_selector o) x = first_step o (class_of x) x
step (after_selector o) x = selector_step o (class_of x)
step (after_minus r o) x = minus_step r o (class_of x) x
step (in_integer r o negative n) x = more_step r o negative n (class_of x) x
step (after_integer r o i) x = integer_step r o i (class_of x)
step (before_end start o) x = end_step start o (class_of x) x
step (before_step start end o) x = step_step start end o (class_of x) x
step (in_string m o k) x = string_step m o k x
step (after_backslash m o k) x = escape_step m o k x
step (in_unit m o k more v) x = unit_step m o k more v x
step (before_low m o k h) x = cond (x == 92) (goes_to (before_low_u m o k h)) (stops code.InvalidSurrogate)
step (before_low_u m o k h) x = cond (x == 117) (goes_to (in_low m o k h 3 0)) (stops code.InvalidSurrogate)
step (in_low m o k h more v) x = low_step m o k h more v x

-- ---- outcomes

-- the query, or why the text is none and how many bytes were left there
pub data Outcome : Type 0 where
  is_query : Query → Outcome
  is_refused : QueryCode → ℕ → Outcome

-- where the text ends
abbrev pub outcome_at_end : State → Outcome
outcome_at_end before_root = is_refused code.ExpectedRoot 0
outcome_at_end (after_segment qs) = is_query qs
outcome_at_end (after_blank qs) = is_refused code.ExpectedSegment 0
outcome_at_end (after_dot qs) = is_refused code.ExpectedName 0
outcome_at_end (after_dots qs) = is_refused code.ExpectedName 0
outcome_at_end (in_name qs descends k) = is_query (with_segment qs descends (name_selector k ∷ []))
outcome_at_end (before_selector o) = is_refused code.ExpectedSelector 0
outcome_at_end (after_selector o) = is_refused code.ExpectedCommaOrBracket 0
outcome_at_end (after_minus r o) = is_refused code.ExpectedDigit 0
outcome_at_end (in_integer r o negative n) = is_refused code.ExpectedCommaOrBracket 0
outcome_at_end (after_integer r o i) = is_refused code.ExpectedCommaOrBracket 0
outcome_at_end (before_end start o) = is_refused code.ExpectedCommaOrBracket 0
outcome_at_end (before_step start end o) = is_refused code.ExpectedCommaOrBracket 0
outcome_at_end (in_string m o k) = is_refused code.UnclosedString 0
outcome_at_end (after_backslash m o k) = is_refused code.UnclosedString 0
outcome_at_end (in_unit m o k more v) = is_refused code.UnclosedString 0
outcome_at_end (before_low m o k h) = is_refused code.UnclosedString 0
outcome_at_end (before_low_u m o k h) = is_refused code.UnclosedString 0
outcome_at_end (in_low m o k h more v) = is_refused code.UnclosedString 0

-- after a step, with so many bytes left before it
abbrev pub outcome_after : Step → ℕ → (State → Outcome) → Outcome
outcome_after (goes_to s) left next = next s
outcome_after (stops c) left next = is_refused c left

-- of a text, from a state on
abbrev pub outcome : State → List ℕ → Outcome
outcome s [] = outcome_at_end s
outcome s (x ∷ b) = outcome_after (step s x) (suc (length b)) (λ t. outcome t b)

-- of a whole text
abbrev pub query_outcome : List ℕ → Outcome
query_outcome b = outcome before_root b
