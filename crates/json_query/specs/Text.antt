-- The grammar of queries without filters (RFC 9535, section 2 and appendix A). Each relation takes
-- first what is meant, and then the bytes that spell it. A query is UTF-8 (section 2.1), so a byte
-- from 128 on is part of a character beyond ASCII. What the RFC calls S, any number of spaces,
-- tabs, line feeds and carriage returns, is the ws of JSON. Bytes are written as numbers: 33 is
-- `!`, 34 `"`, 36 `$`, 39 `'`, 42 `*`, 44 `,`, 45 `-`, 46 `.`, 48 `0`, 57 `9`, 58 `:`, 65 `A`, 90
-- `Z`, 91 `[`, 92 `\`, 93 `]`, 95 `_`, 97 `a`, 117 `u` and 122 `z`.
use Rattle.std.specs.Prelude.{IsUtf8, ◌≡◌, ◌≢◌, ◌⊎◌, ℕ, ◌+◌, ◌-◌, ◌*◌, ◌^◌, ◌<◌, ◌≤◌, ℤ, pos, neg_ℤ, List, [], ◌∷◌, ◌++◌, Option, Some, None}
use Rattle.std.specs.Char.{encode_utf8}
use Rattle.json_grammar.specs.Grammar.{ws, IsDigit, digits, ShortEscape, hex4, IsHighSurrogate, IsLowSurrogate, surrogate_pair, ◌then◌, byte}
use Rattle.json_query.specs.Query.{Query, Segment, child_segment, descendant_segment, Selector, name_selector, wildcard_selector, index_selector, slice_selector}

-- b is a P or a Q
abbrev pub ◌or◌ : (List ℕ → Type 0) → (List ℕ → Type 0) → List ℕ → Type 0
◌or◌ P Q b = P b ⊎ Q b

infixr 15 ◌or◌
-- ---- integers (section 2.3.3.1)

-- the number that digits spell, if those before them spell n
abbrev pub digits_after : ℕ → List ℕ → ℕ
digits_after n [] = n
digits_after n (x ∷ b) = digits_after (n * 10 + (x - 48)) b

-- a digit from 1 to 9 and any digits, which spell n
abbrev pub numeral : ℕ → List ℕ → Type 0
numeral n [] = ⊥
numeral n (x ∷ b) = (49 ≤ x) × (x ≤ 57) × digits b × (n ≡ digits_after (x - 48) b)

-- `0`, or a numeral before which `-` may be. It is exact: within -(2^53) + 1 and 2^53 - 1 (section
-- 2.1).
pub data integer : ℤ → List ℕ → Type 0 where
  zero_digit : integer (pos 0) (48 ∷ [])
  positive : {n : ℕ} {b : List ℕ} → numeral n b → n < 2 ^ 53 → integer (pos n) b
  negative : {n : ℕ} {b : List ℕ} → numeral n b → n < 2 ^ 53 → integer (neg_ℤ (pos n)) (45 ∷ b)

-- ---- names and strings

-- a letter of ASCII, `_` or a byte of a character beyond ASCII (section 2.5.1.1)
abbrev pub IsNameFirst : ℕ → Type 0
IsNameFirst x = ((65 ≤ x) × (x ≤ 90)) ⊎ ((97 ≤ x) × (x ≤ 122)) ⊎ (x ≡ 95) ⊎ (128 ≤ x)

-- any number of these, and of digits (section 2.5.1.1)
abbrev pub name_chars : List ℕ → Type 0
name_chars [] = Unit {0}
name_chars (x ∷ b) = (IsNameFirst x ⊎ IsDigit x) × name_chars b

-- a member name that needs no quotation marks (section 2.5.1.1)
abbrev pub IsShorthand : List ℕ → Type 0
IsShorthand [] = ⊥
IsShorthand (x ∷ b) = IsNameFirst x × name_chars b

-- between quotation marks m, which are 34 or 39, the second bytes spell the first (section 2.3.1.1)
pub data SpellsIn (m : ℕ) : List ℕ → List ℕ → Type 0 where
  -- a byte spells itself, if it is no control character, no backslash and not that quotation mark
  unescaped : {x : ℕ} → 32 ≤ x → x ≢ m → x ≢ 92 → SpellsIn m (x ∷ []) (x ∷ [])
  -- a backslash before it spells that quotation mark
  escaped_mark : SpellsIn m (m ∷ []) (92 ∷ m ∷ [])
  -- the other escapes of two characters are those of JSON (RFC 8259, section 7)
  short_escape : {c x : ℕ} → ShortEscape x c → x ≢ 34 → SpellsIn m (c ∷ []) (92 ∷ x ∷ [])
  -- `\u` and four hexadecimal digits spell the UTF-8 of a character below U+10000
  unicode_escape : {u p q r s : ℕ} → hex4 p q r s ≡ Some u → ¬ (IsHighSurrogate u) → ¬ (IsLowSurrogate u) → SpellsIn m (encode_utf8 u) (92 ∷ 117 ∷ p ∷ q ∷ r ∷ s ∷ [])
  -- the two halves of a surrogate pair, `\u` and four digits each, spell that of another character
  surrogate_escapes : {h l p q r s p' q' r' s' : ℕ} → hex4 p q r s ≡ Some h → IsHighSurrogate h → hex4 p' q' r' s' ≡ Some l → IsLowSurrogate l
      → SpellsIn m (encode_utf8 (surrogate_pair h l)) (92 ∷ 117 ∷ p ∷ q ∷ r ∷ s ∷ 92 ∷ 117 ∷ p' ∷ q' ∷ r' ∷ s' ∷ [])

-- one spelling after another
pub data chars_in (m : ℕ) : List ℕ → List ℕ → Type 0 where
  no_chars : chars_in m [] []
  char_and : {d e s b : List ℕ} → SpellsIn m d e → chars_in m s b → chars_in m (d ++ s) (e ++ b)

-- a string literal, in double or in single quotation marks (section 2.3.1.1)
abbrev pub string_literal : List ℕ → List ℕ → Type 0
string_literal s = (byte 34 then chars_in 34 s then byte 34) or (byte 39 then chars_in 39 s then byte 39)

-- ---- slices (section 2.3.4.1)

-- nothing, or an integer and blank space after it
abbrev pub optional_then_ws : Option ℤ → List ℕ → Type 0
optional_then_ws None b = b ≡ []
optional_then_ws (Some i) b = (integer i then ws) b

-- what follows the end: nothing, or `:`, or `:`, blank space and the step. A step that is not there
-- is 1.
abbrev pub step_part : ℤ → List ℕ → Type 0
step_part step b = ((step ≡ pos 1) × ((b ≡ []) ⊎ byte 58 b)) ⊎ (byte 58 then ws then integer step) b

abbrev pub slice_text : Option ℤ → Option ℤ → ℤ → List ℕ → Type 0
slice_text start end step = optional_then_ws start then byte 58 then ws then optional_then_ws end then step_part step

-- ---- selectors and segments

-- a selector (section 2.3)
abbrev pub selector_text : Selector → List ℕ → Type 0
selector_text (name_selector k) = string_literal k
selector_text wildcard_selector = byte 42
selector_text (index_selector i) = integer i
selector_text (slice_selector start end step) = slice_text start end step

-- what follows a selector in brackets: `]`, or a comma, a selector and so on (section 2.5.1.1)
abbrev pub selectors_end : List Selector → List ℕ → Type 0
selectors_end [] = ws then byte 93
selectors_end (s ∷ ss) = ws then byte 44 then ws then selector_text s then selectors_end ss

-- at least one selector, with commas between them, in brackets (section 2.5.1.1)
abbrev pub bracketed : List Selector → List ℕ → Type 0
bracketed [] b = ⊥
bracketed (s ∷ ss) b = (byte 91 then ws then selector_text s then selectors_end ss) b

-- after a dot: a name without quotation marks, or `*` (section 2.5.1.1)
abbrev pub dotted : List Selector → List ℕ → Type 0
dotted (name_selector k ∷ []) b = IsShorthand k × (b ≡ k)
dotted (wildcard_selector ∷ []) b = byte 42 b
dotted _ b = ⊥

-- a child segment is in brackets or after a dot, a descendant segment after two dots (section 2.5)
abbrev pub segment_text : Segment → List ℕ → Type 0
segment_text (child_segment ss) = bracketed ss or (byte 46 then dotted ss)
segment_text (descendant_segment ss) = byte 46 then byte 46 then (bracketed ss or dotted ss)

-- segments, with blank space before each (section 2.1.1)
abbrev pub segments_text : List Segment → List ℕ → Type 0
segments_text [] b = b ≡ []
segments_text (s ∷ ss) b = (ws then segment_text s then segments_text ss) b

-- the bytes are a well-formed query of these segments: `$`, and the segments (section 2.1.1)
abbrev pub spells_query : Query → List ℕ → Type 0
spells_query q = byte 36 then segments_text q

-- the bytes are a query: UTF-8 and well-formed (section 2.1)
pub record IsQuery (q : Query) (b : List ℕ) : Type 0 where
  pub utf8 : IsUtf8 b
  pub well_formed : spells_query q b

-- some query begins with these bytes
pub record BeginsQuery (b : List ℕ) : Type 0 where
  pub query : Query
  pub rest : List ℕ
  pub is_query : IsQuery query (b ++ rest)
