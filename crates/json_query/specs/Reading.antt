-- What functions that read the text of a query have to do with the states of its reader.
use Rattle.std.specs.Prelude.{◌≡◌, ◌≢◌, ◌⊎◌, ℕ, ℤ, List, [], ◌∷◌, ◌++◌, length, Bool, true, false, cond, ◌==◌, Option, Some, None, encode_utf8}
use Rattle.std.specs.Char.{digit_value, is_digit}
use Rattle.json_query.specs.Query.{Segment, Selector, name_selector}
use Rattle.json_query.specs.declared.cursor.Class.{Class}
use Rattle.json_query.specs.declared.cursor.Class.TheVariants.{Blank, Minus, ZeroDigit, Digit, BeyondAscii, Other}
use Rattle.json_query.specs.declared.error.Fault.{Fault}
use Rattle.json_query.specs.declared.error.QueryCode.TheVariants as code
use Rattle.json_query.specs.Errors.{no_memory_in_fault}
use Rattle.json_query.specs.TextStates.{class_of, is_name_class, Brackets, with_selector, IntegerRole, index_or_start, end_after, step_after, State, before_selector, after_selector, after_integer, before_end, before_step, in_string, goes_to, step, dotted_step, short_escape_of, is_refused, outcome, outcome_at_end}

-- blank space changes nothing
abbrev pub Skips : State → Type 0
Skips s = (x : ℕ) → class_of x ≡ Blank → step s x ≡ goes_to s

-- b begins with a byte of the class c, and r follows it if it is ASCII; or b is empty
pub record ClassAt (c : Class) (b r : List ℕ) : Type 0 where
  pub at_end : b ≡ [] → c ≡ Other
  pub at_byte : (x : ℕ) (d : List ℕ) → b ≡ x ∷ d → class_of x ≡ c
  pub after : c ≢ Other → c ≢ BeyondAscii → (x : ℕ) × (b ≡ x ∷ r)

-- b does not begin with blank space
abbrev pub NoBlank : List ℕ → Type 0
NoBlank b = (x : ℕ) (d : List ℕ) → b ≡ x ∷ d → class_of x ≢ Blank

-- reading stops with this fault, or memory runs out
abbrev pub Stops : State → List ℕ → Fault → Type 0
Stops s b f = (f ≡ no_memory_in_fault) ⊎ (outcome s b ≡ is_refused f.code f.left)

-- ---- integers

abbrev pub starts_integer : Class → Bool
starts_integer Minus = true
starts_integer ZeroDigit = true
starts_integer Digit = true
starts_integer _ = false

-- b begins as an integer does, and does not
abbrev pub BeginsInteger : List ℕ → Type 0
BeginsInteger b = (x : ℕ) × (d : List ℕ) × (b ≡ x ∷ d) × (starts_integer (class_of x) ≡ true)

abbrev pub NoInteger : List ℕ → Type 0
NoInteger b = (x : ℕ) (d : List ℕ) → b ≡ x ∷ d → starts_integer (class_of x) ≡ false

-- b does not begin with a digit
abbrev pub NoDigit : List ℕ → Type 0
NoDigit [] = Unit {0}
NoDigit (x ∷ b) = (class_of x ≢ ZeroDigit) × (class_of x ≢ Digit)

-- the state before an integer
abbrev pub starts : IntegerRole → Brackets → State
starts index_or_start o = before_selector o
starts (end_after start) o = before_end start o
starts (step_after start end) o = before_step start end o

-- the state after the end of a slice, or before it if there is none
abbrev pub after_end : Option ℤ → Option ℤ → Brackets → State
after_end start None o = before_end start o
after_end start (Some i) o = after_integer (end_after start) o i

-- if there is no end, none begins here
abbrev pub EndsBefore : Option ℤ → List ℕ → Type 0
EndsBefore None b = NoInteger b
EndsBefore (Some i) b = Unit {0}

-- ---- strings and names

-- a quotation mark
pub data IsMark : ℕ → Type 0 where
  double_mark : IsMark 34
  single_mark : IsMark 39

-- b begins with a hexadecimal digit of the value v, and r follows it
pub record HexAt (v : ℕ) (b r : List ℕ) : Type 0 where
  pub digit : ℕ
  pub row : b ≡ digit ∷ r
  pub is_hex : is_digit digit 16 ≡ true
  pub value : v ≡ digit_value digit

-- b begins with none
abbrev pub NoHexAt : Fault → List ℕ → Type 0
NoHexAt f b = (f.left ≡ length b) × (((b ≡ []) × (f.code ≡ code.UnclosedString)) ⊎ ((x : ℕ) × (d : List ℕ) × (b ≡ x ∷ d) × (is_digit x 16 ≡ false) × (f.code ≡ code.InvalidEscape)))

-- b does not begin with the byte c, which a surrogate pair needs
abbrev pub NoCharAt : ℕ → Fault → List ℕ → Type 0
NoCharAt c f b = (f.left ≡ length b) × (((b ≡ []) × (f.code ≡ code.UnclosedString)) ⊎ ((x : ℕ) × (d : List ℕ) × (b ≡ x ∷ d) × (x ≢ c) × (f.code ≡ code.InvalidSurrogate)))

-- the character that a backslash and c denote between quotation marks m, by an escape of two
abbrev pub escaped_or : ℕ → ℕ → Option ℕ → Option ℕ
escaped_or m c (Some d) = Some d
escaped_or m c None = cond (c == m) (Some c) None

abbrev pub escaped : ℕ → ℕ → Option ℕ
escaped m c = escaped_or m c (short_escape_of c)

-- the state after a character of a string, or after the quotation mark that ends it
abbrev pub after_char : ℕ → Brackets → List ℕ → Option ℕ → State
after_char m o k None = after_selector (with_selector o (name_selector k))
after_char m o k (Some c) = in_string m o (k ++ encode_utf8 c)

-- b does not begin with a character of a name without quotation marks
abbrev pub EndsName : List ℕ → Type 0
EndsName b = (x : ℕ) (d : List ℕ) → b ≡ x ∷ d → is_name_class (class_of x) ≡ false

-- brackets that hold these selectors
abbrev pub holding : List Segment → Bool → List Selector → Brackets
holding qs descends ss = record { before = qs; descends = descends; selectors = ss }

-- b is read from the state as after a dot or two, and no `.` or `[` begins it
pub record DottedAt (s : State) (qs : List Segment) (descends : Bool) (b : List ℕ) : Type 0 where
  pub at_end : outcome_at_end s ≡ is_refused code.ExpectedName 0
  pub at_byte : (x : ℕ) (d : List ℕ) → b ≡ x ∷ d → step s x ≡ dotted_step qs descends (class_of x) x
