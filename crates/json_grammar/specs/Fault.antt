-- Which fault an input has that is no text of at most that many levels, and at which offset: at the
-- first byte with which no text goes on, at its end, or at the bracket that opens a level too many.
-- Throughout p is what precedes that byte, a viable prefix, and x is the byte itself. The input is
-- to be UTF-8. Whoever reports a fault says so beside it, since a prefix of other bytes may have a
-- fault too.
use Rattle.std.specs.Prelude.{◌≡◌, ◌≢◌, ◌⊎◌, ℕ, suc, pred, max, ◌<◌, ◌≤◌, List, [], ◌∷◌, ◌++◌, length, take, drop, Bool, true, false, cond, ◌==◌, ◌||◌, Some}
use Rattle.json_grammar.specs.declared.Kind.{Kind}
use Rattle.json_grammar.specs.declared.Kind.TheVariants.{Array as array, Object as object}
use Rattle.json_grammar.specs.Tree.{Tree, num}
use Rattle.json_grammar.specs.Grammar.{ws, IsDigit, number, hex4, IsHighSurrogate, chars, Atom, null_bytes, boolean_bytes, ◌then◌, value, is_text}
use Rattle.json_grammar.specs.declared.ExpectedPart.{ExpectedPart}
use Rattle.json_grammar.specs.declared.ExpectedPart.TheVariants.{Key as key, KeyOrEnd as key_or_end, Colon as colon, Done as done}
use Rattle.json_grammar.specs.Place.{TakesValue, TakesKey, place, viable_prefix}
use Rattle.json_grammar.specs.NumberEnds.{TreeEnds}

-- ---- how many brackets are open at once, strings aside

-- a byte is outside strings, within one, or after a backslash there
pub data Mode : Type 0 where
  outside : Mode
  inside : Mode
  escaped : Mode

-- the mode of the next byte: a quotation mark begins and ends a string, but not after a backslash
abbrev pub mode_after : Mode → ℕ → Mode
mode_after outside x = cond (x == 34) inside outside
mode_after inside x = cond (x == 34) outside (cond (x == 92) escaped inside)
mode_after escaped x = inside

-- how many brackets are open after a byte, where d are open before it
abbrev pub depth_after : Mode → ℕ → ℕ → ℕ
depth_after outside d x = cond ((x == 91) || (x == 123)) (suc d) (cond ((x == 93) || (x == 125)) (pred d) d)
depth_after inside d x = d
depth_after escaped d x = d

-- the most that are open at once, where d are open before the first byte
abbrev pub opens_from : Mode → ℕ → List ℕ → ℕ
opens_from m d [] = d
opens_from m d (x ∷ b) = max d (opens_from (mode_after m x) (depth_after m d x) b)

-- the most brackets that are open at once in p, which is to be a viable prefix
abbrev pub opens : List ℕ → ℕ
opens p = opens_from outside 0 p

-- ---- literal names and surrogates that break off

-- a literal name (RFC 8259, section 3)
abbrev pub is_word : List ℕ → Type 0
is_word b = (b ≡ null_bytes) ⊎ ((b ≡ boolean_bytes true) ⊎ (b ≡ boolean_bytes false))

-- the escape of a high surrogate (section 7)
abbrev pub is_high : List ℕ → Type 0
is_high e = (a b c d h : ℕ) × (e ≡ 92 ∷ 117 ∷ a ∷ b ∷ c ∷ d ∷ []) × (hex4 a b c d ≡ Some h) × IsHighSurrogate h

-- what is wrong with the atom that e begins is a surrogate: e is the escape of a high one and perhaps the beginning of the low one that must follow,
-- or e is `\u` and the digit D, and x, a digit from C to F, would make it a low one; never in the lossy mode
abbrev pub is_surrogate : Bool → List ℕ → ℕ → Type 0
is_surrogate true e x = ⊥
is_surrogate false e x =
    ((h m : List ℕ) × (e ≡ h ++ m) × is_high h)
    ⊎ ((d : ℕ) × (e ≡ 92 ∷ 117 ∷ d ∷ []) × ((d ≡ 68) ⊎ (d ≡ 100)) × (((67 ≤ x) × (x ≤ 70)) ⊎ ((99 ≤ x) × (x ≤ 102))))

-- ---- faults

-- what is wrong with an input
pub data FaultCode : Type 0 where
  -- it ends before its text does
  eof_while_parsing : FaultCode
  -- a literal name is not spelled `null`, `true` or `false`
  invalid_literal : FaultCode
  -- a number breaks off, or has a leading zero
  invalid_number : FaultCode
  -- no colon follows a name
  expected_colon : FaultCode
  -- neither a comma nor `]` follows an element
  expected_array_comma_or_end : FaultCode
  -- neither a comma nor `}` follows a member
  expected_object_comma_or_end : FaultCode
  -- neither a name nor `}` follows `{`, or no name after a comma of an object
  expect_object_key_or_end : FaultCode
  -- `}` follows a comma of an object
  trailing_comma : FaultCode
  -- no value begins where one must, or neither a value nor `]` follows `[`
  invalid_json_value : FaultCode
  -- a string has an unescaped control character, one below U+0020
  control_character : FaultCode
  -- no escape goes on so after a backslash
  invalid_escape : FaultCode
  -- an escape is that of a surrogate outside a pair
  invalid_surrogate : FaultCode
  -- more than whitespace follows a whole text
  trailing_characters : FaultCode
  -- a bracket opens more levels than are allowed
  recursion_limit_exceeded : FaultCode
  -- a name repeats an earlier name of its object, which is reported only by a reader that was asked
  -- for unique names
  duplicate_key : FaultCode

-- p is the longest prefix of b that is viable, in whichever sense, and x is the byte after it
pub record longest (viable : List ℕ → Type 0) (b p : List ℕ) (x : ℕ) : Type 0 where
  pub rest : List ℕ
  pub bytes : b ≡ p ++ x ∷ rest
  pub is_viable : viable p
  pub no_longer : ¬ (viable (p ++ x ∷ []))

-- the bracket at the offset k opens more levels than the limit, and none before it does
abbrev pub too_deep : (List ℕ → Type 0) → ℕ → List ℕ → ℕ → Type 0
too_deep viable limit b k =
    (p : List ℕ) × (x : ℕ) × (rest : List ℕ) × (b ≡ p ++ x ∷ rest) × (length p ≡ k) × viable (p ++ x ∷ []) × (opens p ≤ limit)
    × (limit < opens (p ++ x ∷ []))

module _ (lossy : Bool) where
  -- a value may begin after q
  abbrev pub before_value : List ℕ → Type 0
  before_value q = (c : List Kind) × (w : ExpectedPart) × place lossy q c w × TakesValue w

  -- a value or a key may begin after q
  abbrev pub before_string : List ℕ → Type 0
  before_string q = (c : List Kind) × (w : ExpectedPart) × place lossy q c w × (TakesValue w ⊎ TakesKey w)

  -- p ends in r, which begins a literal name and is not the whole of it
  pub record in_word (p : List ℕ) : Type 0 where
    pub q : List ℕ
    pub r : List ℕ
    pub rest : List ℕ
    pub bytes : p ≡ q ++ r
    pub at : before_value q
    pub word : is_word (r ++ rest)
    pub begun : r ≢ []
    pub unfinished : rest ≢ []

  -- p ends in r, which begins a number and is none
  pub record in_number (p : List ℕ) : Type 0 where
    pub q : List ℕ
    pub r : List ℕ
    pub rest : List ℕ
    pub bytes : p ≡ q ++ r
    pub at : before_value q
    pub begun : r ≢ []
    pub goes_on : number (r ++ rest)
    pub unfinished : ¬ (number r)

  -- p ends in a number that is `0` or `-0`, which no digit may follow
  pub record ends_in_zero (p : List ℕ) : Type 0 where
    pub q : List ℕ
    pub r : List ℕ
    pub bytes : p ≡ q ++ r
    pub at : before_value q
    pub zero : (r ≡ 48 ∷ []) ⊎ (r ≡ 45 ∷ 48 ∷ [])

  -- p ends within a string, after whole characters c and in e, which begins an atom and is not the
  -- whole of it
  pub record in_string (p e : List ℕ) : Type 0 where
    pub q : List ℕ
    pub c : List ℕ
    pub s : List ℕ
    pub rest : List ℕ
    pub bytes : p ≡ q ++ (34 ∷ (c ++ e))
    pub at : before_string q
    pub so_far : chars lossy s c
    pub goes_on : Atom lossy (e ++ rest)
    pub unfinished : rest ≢ []

  -- a number breaks off before x, or its leading zero precedes the digit x
  abbrev pub is_bad_number : List ℕ → ℕ → Type 0
  is_bad_number p x = in_number p ⊎ (ends_in_zero p × IsDigit x)

  -- the code that is reported for p and x, row by row; no two rows have the same p and x
  abbrev pub row : FaultCode → List ℕ → ℕ → Type 0
  row eof_while_parsing p x = ⊥
  row invalid_literal p x = in_word p
  row invalid_number p x = is_bad_number p x
  row expected_colon p x = (c : List Kind) × place lossy p c colon
  row expected_array_comma_or_end p x = ((c : List Kind) × place lossy p (array ∷ c) done) × ¬ (is_bad_number p x)
  row expected_object_comma_or_end p x = ((c : List Kind) × place lossy p (object ∷ c) done) × ¬ (is_bad_number p x)
  row expect_object_key_or_end p x = (c : List Kind) × (place lossy p c key_or_end ⊎ (place lossy p c key × (x ≢ 125)))
  row trailing_comma p x = (c : List Kind) × place lossy p c key × (x ≡ 125)
  row invalid_json_value p x = before_value p
  row control_character p x = in_string p [] × (x < 32)
  row invalid_escape p x = (e : List ℕ) × in_string p (92 ∷ e) × ¬ (is_surrogate lossy (92 ∷ e) x)
  row invalid_surrogate p x = (e : List ℕ) × in_string p e × is_surrogate lossy e x
  row trailing_characters p x = place lossy p [] done × ¬ (is_bad_number p x)
  row recursion_limit_exceeded p x = ⊥
  row duplicate_key p x = ⊥

  -- the fault of b at the offset k, where `viable` says which prefixes are viable, and `whole` that b lacks nothing
  abbrev pub fault_by : (List ℕ → Type 0) → Type 0 → ℕ → List ℕ → FaultCode → ℕ → Type 0
  fault_by viable whole limit b recursion_limit_exceeded k = too_deep viable limit b k
  fault_by viable whole limit b eof_while_parsing k = (k ≡ length b) × viable b × (opens b ≤ limit) × ¬ whole
  fault_by viable whole limit b code k = (p : List ℕ) × (x : ℕ) × longest viable b p x × (length p ≡ k) × (opens p ≤ limit) × row code p x

  -- b is no text of at most that many levels, and has this fault at the offset k
  abbrev pub fault : ℕ → List ℕ → FaultCode → ℕ → Type 0
  fault limit b code k = fault_by (viable_prefix lossy) ((t : Tree) × is_text lossy t b) limit b code k

  -- the same with less said, which is equivalent: no text goes on so, but it is not said that some
  -- text begins with p
  abbrev pub faulty : ℕ → List ℕ → FaultCode → ℕ → Type 0
  faulty limit b recursion_limit_exceeded k =
      (p : List ℕ) × (x : ℕ) × (rest : List ℕ) × (c : List Kind) × (w : ExpectedPart) × (b ≡ p ++ x ∷ rest) × (length p ≡ k) × place lossy (p ++ x ∷ []) c w
      × (opens p ≤ limit)
      × (limit < opens (p ++ x ∷ []))
  faulty limit b eof_while_parsing k =
      (k ≡ length b)
      × (((c : List Kind) × (w : ExpectedPart) × place lossy b c w) ⊎ (in_word b ⊎ (in_number b ⊎ ((e : List ℕ) × in_string b e))))
      × (opens b ≤ limit)
      × ((t : Tree) → ¬ (is_text lossy t b))
  faulty limit b code k =
      (p : List ℕ) × (x : ℕ) × (rest : List ℕ) × (b ≡ p ++ x ∷ rest) × (length p ≡ k) × (opens p ≤ limit) × row code p x
      × ¬ (viable_prefix lossy (p ++ x ∷ []))

  -- ---- one value, whatever follows it

  -- p begins whitespace and some value
  abbrev pub viable_value : List ℕ → Type 0
  viable_value p = (t : Tree) × (rest : List ℕ) × (ws then value lossy t) (p ++ rest)

  -- the first k bytes of b are whitespace and a value of t; where it is a number it goes no further, and no digit follows `0` or `-0`
  pub record reads (b : List ℕ) (t : Tree) (k : ℕ) : Type 0 where
    pub fits : k ≤ length b
    pub spells : (ws then value lossy t) (take k b)
    pub ends : TreeEnds t (drop k b)
    pub no_digit : (x : ℕ) (m : List ℕ) → drop k b ≡ x ∷ m → IsDigit x → (t ≡ num (48 ∷ [])) ⊎ (t ≡ num (45 ∷ 48 ∷ [])) → ⊥

  -- b reads as no value of at most that many levels, and has this fault at the offset k; nothing is
  -- wrong after a value
  abbrev pub value_fault : ℕ → List ℕ → FaultCode → ℕ → Type 0
  value_fault limit b trailing_characters k = ⊥
  value_fault limit b code k = fault_by viable_value ((t : Tree) × (k : ℕ) × reads b t k) limit b code k
