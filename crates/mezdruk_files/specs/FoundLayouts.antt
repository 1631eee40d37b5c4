-- The layout that a text has: the whitespace before its first member or element, and whether it ends with a newline.
use Rattle.std.specs.Prelude.{◌≡◌, ℕ, ◌-◌, ◌==◌, ◌||◌, Bool, true, cond, List, [], ◌∷◌, length, drop, get_or, Option, Some, None}
use Rattle.std.specs.List.{prefix_len, take_while}
use Rattle.json_layout.specs.Styles.{indent_of, is_sorted}
use Rattle.json_layout.specs.declared.style.Style.{Style}

-- a byte of whitespace (RFC 8259, section 2)
abbrev pub is_whitespace : ℕ → Bool
is_whitespace x = x == 32 || x == 9 || x == 10 || x == 13

-- the bytes from the first that is no whitespace on
abbrev pub after_whitespace : List ℕ → List ℕ
after_whitespace b = drop (prefix_len is_whitespace b) b

-- a bracket that opens, or one that closes, an object or an array
abbrev pub is_opening : ℕ → Bool
is_opening x = x == 91 || x == 123

abbrev pub is_closing : ℕ → Bool
is_closing x = x == 93 || x == 125

-- the bytes begin with no member and no element
abbrev pub is_empty_before : List ℕ → Bool
is_empty_before [] = true
is_empty_before (x ∷ rest) = is_closing x

-- the whitespace before the first member or element, of the bytes after the bracket
abbrev pub gap_before_first : List ℕ → List ℕ
gap_before_first b = cond (is_empty_before (after_whitespace b)) [] (take_while is_whitespace b)

-- the same of bytes that begin with the bracket
abbrev pub gap_after_bracket : List ℕ → List ℕ
gap_after_bracket [] = []
gap_after_bracket (x ∷ rest) = cond (is_opening x) (gap_before_first rest) []

-- the bytes after the last newline, if there is one
abbrev pub after_newline : List ℕ → Option (List ℕ)
after_newline [] = None
after_newline (x ∷ rest) = elim (after_newline rest) [ Some line ↦ Some line | None ↦ cond (x == 10) (Some rest) None ]

-- the indent: the whitespace before the first member or element of the value of a text, if that is on a line of its own
abbrev pub found_indent : List ℕ → Option (List ℕ)
found_indent b = after_newline (gap_after_bracket (after_whitespace b))

-- the style has the indent of the text, and sorts members or not
pub record IsFoundStyle (b : List ℕ) (sorts : Bool) (style : Style) : Type 0 where
  pub indent : indent_of style ≡ found_indent b
  pub sorted : is_sorted style ≡ sorts

-- the last byte is a newline
abbrev pub ends_line : List ℕ → Bool
ends_line b = get_or b (length b - 1) 0 == 10

-- the newline at the end, or nothing
abbrev pub line_end : List ℕ → List ℕ
line_end b = cond (ends_line b) (10 ∷ []) []
