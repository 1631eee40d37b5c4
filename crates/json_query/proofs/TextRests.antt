-- What the grammar has after each state of a reader of a query's text.
use Rattle.std.proofs.Common.{◌≡◌, ◌⊎◌, ℕ, zero, suc, ◌+◌, ◌*◌, ◌-◌, ◌^◌, ◌<◌, ◌≤◌, ℤ, pos, List, [], ◌∷◌, ◌++◌, Bool, true, false, Option, Some}
use Rattle.std.specs.Char.{digit_value, is_digit, encode_utf8}
use Rattle.json_grammar.specs.Grammar.{ws, digits, IsHighSurrogate, IsLowSurrogate, surrogate_pair, ◌then◌, byte}
use Rattle.json_query.specs.Query.{Query, Segment, descendant_segment, Selector, name_selector, index_selector, slice_selector}
use Rattle.json_query.specs.Text.{◌or◌, digits_after, integer, name_chars, SpellsIn, chars_in, optional_then_ws, step_part, selector_text, selectors_end, bracketed, dotted, segment_text, segments_text, spells_query}
use Rattle.json_query.specs.TextStates.{Brackets, with_selector, segment_of_kind, signed, IntegerRole, index_or_start, end_after, step_after, State, before_root, after_segment, after_blank, after_dot, after_dots, in_name, before_selector, after_selector, after_minus, in_integer, after_integer, before_end, before_step, in_string, after_backslash, in_unit, before_low, before_low_u, in_low}

-- the segments qs, this segment and others are the query
abbrev pub Splits : Query → List Segment → Segment → List Segment → Type 0
Splits q qs g tail = q ≡ qs ++ g ∷ tail

-- a segment may come, or nothing
abbrev pub AfterSegment : List Segment → Query → List ℕ → Type 0
AfterSegment qs q b = (tail : List Segment) × (q ≡ qs ++ tail) × segments_text tail b

-- a segment comes
abbrev pub AfterBlank : List Segment → Query → List ℕ → Type 0
AfterBlank qs q b = (g : Segment) × (tail : List Segment) × Splits q qs g tail × (ws then segment_text g then segments_text tail) b

abbrev pub AfterDots : List Segment → Query → List ℕ → Type 0
AfterDots qs q b = (ss : List Selector) × (tail : List Segment) × Splits q qs (descendant_segment ss) tail × ((bracketed ss or dotted ss) then segments_text tail) b

-- after a dot or two: `*` or a name
abbrev pub DottedRest : List Segment → Bool → Query → List ℕ → Type 0
DottedRest qs descends q b = (ss : List Selector) × (tail : List Segment) × Splits q qs (segment_of_kind descends ss) tail × (dotted ss then segments_text tail) b

abbrev pub AfterDot : List Segment → Query → List ℕ → Type 0
AfterDot qs q b = DottedRest qs false q b ⊎ (byte 46 then (λ r. AfterDots qs q r)) b

-- the rest of a name
abbrev pub NameRest : List Segment → Bool → List ℕ → Query → List ℕ → Type 0
NameRest qs descends k q b = (c r : List ℕ) × (tail : List Segment) × Splits q qs (segment_of_kind descends (name_selector (k ++ c) ∷ [])) tail × (b ≡ c ++ r) × name_chars c × segments_text tail r

-- after a selector
abbrev pub AfterSelector : Brackets → Query → List ℕ → Type 0
AfterSelector o q b = (ss : List Selector) × (tail : List Segment) × Splits q o.before (segment_of_kind o.descends (o.selectors ++ ss)) tail × (selectors_end ss then segments_text tail) b

-- within a selector, of which F is left
abbrev pub Within : (Selector → List ℕ → Type 0) → Brackets → Query → List ℕ → Type 0
Within F o q b = (s : Selector) × (p r : List ℕ) × (b ≡ p ++ r) × F s p × AfterSelector (with_selector o s) q r

-- a selector with blank space before it
abbrev pub spaced_selector : Selector → List ℕ → Type 0
spaced_selector s = ws then selector_text s

-- from the first colon of a slice on, and from the second
abbrev pub end_rest : Option ℤ → Selector → List ℕ → Type 0
end_rest start (slice_selector s end i) b = (s ≡ start) × (ws then optional_then_ws end then step_part i) b
end_rest start _ b = ⊥

abbrev pub optional_step : ℤ → List ℕ → Type 0
optional_step i b = ((i ≡ pos 1) × (b ≡ [])) ⊎ (ws then integer i) b

abbrev pub step_rest : Option ℤ → Option ℤ → Selector → List ℕ → Type 0
step_rest start end (slice_selector s e i) b = (s ≡ start) × (e ≡ end) × optional_step i b
step_rest start end _ b = ⊥

-- after an integer of a role
abbrev pub integer_rest : IntegerRole → ℤ → Selector → List ℕ → Type 0
integer_rest index_or_start i (index_selector j) b = (j ≡ i) × (b ≡ [])
integer_rest index_or_start i (slice_selector s end step) b = (s ≡ Some i) × (ws then byte 58 then ws then optional_then_ws end then step_part step) b
integer_rest (end_after start) i (slice_selector s end step) b = (s ≡ start) × (end ≡ Some i) × (ws then step_part step) b
integer_rest (step_after start end) i (slice_selector s e step) b = (s ≡ start) × (e ≡ end) × (step ≡ i) × (b ≡ [])
integer_rest _ i _ b = ⊥

-- after the first digits of a numeral, which spell n
abbrev pub numeral_rest : IntegerRole → Bool → ℕ → Selector → List ℕ → Type 0
numeral_rest r negative n s b = (d p : List ℕ) × (b ≡ d ++ p) × digits d × (n < 2 ^ 53 → digits_after n d < 2 ^ 53) × integer_rest r (signed negative (digits_after n d)) s p

-- after `-`
abbrev pub minus_rest : IntegerRole → Selector → List ℕ → Type 0
minus_rest r s b = (x : ℕ) × (c : List ℕ) × (b ≡ x ∷ c) × (49 ≤ x) × (x ≤ 57) × numeral_rest r true (x - 48) s c

-- within a string, whose bytes so far are k
abbrev pub string_rest : ℕ → List ℕ → Selector → List ℕ → Type 0
string_rest m k (name_selector n) b = (s c : List ℕ) × (n ≡ k ++ s) × (b ≡ c ++ m ∷ []) × chars_in m s c
string_rest m k _ b = ⊥

-- within an escape that begins so
abbrev pub escape_rest : ℕ → List ℕ → List ℕ → Selector → List ℕ → Type 0
escape_rest m begin k s b = (d e p : List ℕ) × (b ≡ e ++ p) × SpellsIn m d (begin ++ e) × string_rest m (k ++ d) s p

-- n hexadecimal digits, which with those before them of the value v make the value u
abbrev pub hex_rest : ℕ → ℕ → ℕ → List ℕ → Type 0
hex_rest zero v u b = (u ≡ v) × (b ≡ [])
hex_rest (suc n) v u [] = ⊥
hex_rest (suc n) v u (x ∷ b) = (is_digit x 16 ≡ true) × hex_rest n (v * 16 + digit_value x) u b

-- after a high surrogate: the escape of a low one, from its digits on
abbrev pub low_rest : ℕ → ℕ → ℕ → List ℕ → ℕ → Selector → List ℕ → Type 0
low_rest n v m k h s b = (u : ℕ) × (e p : List ℕ) × (b ≡ e ++ p) × hex_rest n v u e × IsLowSurrogate u × string_rest m (k ++ encode_utf8 (surrogate_pair h u)) s p

abbrev pub before_low_rest : ℕ → List ℕ → ℕ → Selector → List ℕ → Type 0
before_low_rest m k h s b = (c : List ℕ) × (b ≡ 92 ∷ 117 ∷ c) × low_rest 4 0 m k h s c

abbrev pub before_low_u_rest : ℕ → List ℕ → ℕ → Selector → List ℕ → Type 0
before_low_u_rest m k h s b = (c : List ℕ) × (b ≡ 117 ∷ c) × low_rest 4 0 m k h s c

-- after four digits of the value u
abbrev pub unit_after : ℕ → List ℕ → ℕ → Selector → List ℕ → Type 0
unit_after m k u s b = (¬ (IsHighSurrogate u) × ¬ (IsLowSurrogate u) × string_rest m (k ++ encode_utf8 u) s b) ⊎ (IsHighSurrogate u × before_low_rest m k u s b)

abbrev pub unit_rest : ℕ → ℕ → ℕ → List ℕ → Selector → List ℕ → Type 0
unit_rest n v m k s b = (u : ℕ) × (e p : List ℕ) × (b ≡ e ++ p) × hex_rest n v u e × unit_after m k u s p

abbrev pub backslash_rest : ℕ → List ℕ → Selector → List ℕ → Type 0
backslash_rest m k s b = escape_rest m (92 ∷ []) k s b

-- what is left of a query after each state
abbrev pub Rest : State → Query → List ℕ → Type 0
Rest before_root q b = spells_query q b
Rest (after_segment qs) q b = AfterSegment qs q b
Rest (after_blank qs) q b = AfterBlank qs q b
Rest (after_dot qs) q b = AfterDot qs q b
Rest (after_dots qs) q b = AfterDots qs q b
Rest (in_name qs descends k) q b = NameRest qs descends k q b
Rest (before_selector o) q b = Within spaced_selector o q b
Rest (after_selector o) q b = AfterSelector o q b
Rest (after_minus r o) q b = Within (minus_rest r) o q b
Rest (in_integer r o negative n) q b = Within (numeral_rest r negative n) o q b
Rest (after_integer r o i) q b = Within (integer_rest r i) o q b
Rest (before_end start o) q b = Within (end_rest start) o q b
Rest (before_step start end o) q b = Within (step_rest start end) o q b
Rest (in_string m o k) q b = Within (string_rest m k) o q b
Rest (after_backslash m o k) q b = Within (backslash_rest m k) o q b
Rest (in_unit m o k more v) q b = Within (unit_rest (suc more) v m k) o q b
Rest (before_low m o k h) q b = Within (before_low_rest m k h) o q b
Rest (before_low_u m o k h) q b = Within (before_low_u_rest m k h) o q b
Rest (in_low m o k h more v) q b = Within (low_rest (suc more) v m k h) o q b
