-- The calls of a formatter, and the piece that each of the two formatters writes at it.
use Rattle.std.specs.Prelude.{ℕ, ℤ, ◌+◌, ◌-◌, ◌^◌, min, List, [], ◌∷◌, ◌++◌, Bool, true, false, Option}
use Rattle.std.specs.Fmt.{decimal, signed_decimal}
use Rattle.json_grammar.specs.declared.Kind.{Kind}
use Rattle.json_grammar.specs.Place.{bracket, closing}
use Rattle.json_grammar.specs.Grammar.{null_bytes, boolean_bytes}
use Rattle.json_model.specs.Print.{line, colon_bytes}
use Rattle.json_layout.specs.Pieces.{string_text, comma, closing_line, holds_any, byte_array}

-- a call of a formatter
pub data FormatterCall : Type 0 where
  null_call : FormatterCall
  boolean_call : Bool → FormatterCall
  -- an integer's decimal text, or a literal
  number_call : List ℕ → FormatterCall
  -- with the quotes or without them
  string_call : Bool → List ℕ → FormatterCall
  bytes_call : List ℕ → FormatterCall
  begin_string : FormatterCall
  end_string : FormatterCall
  begin_call : Kind → FormatterCall
  end_call : Kind → FormatterCall
  -- whether it is the first
  begin_element : Bool → FormatterCall
  end_element : FormatterCall
  begin_key : Bool → FormatterCall
  end_key : FormatterCall
  begin_member : FormatterCall
  end_member : FormatterCall
  raw_call : List ℕ → FormatterCall

-- an integer
abbrev pub signed_call : ℤ → FormatterCall
signed_call n = number_call (signed_decimal n)

-- an integer from zero on
abbrev pub unsigned_call : ℕ → FormatterCall
unsigned_call n = number_call (decimal n)

-- a level more, up to the last value of a usize
abbrev pub up : ℕ → ℕ
up d = min (d + 1) (2 ^ 64 - 1)

-- a level less, down to 0
abbrev pub down : ℕ → ℕ
down d = d - 1

-- the piece of a call at a level, with the indent of the layout or none; the flag says whether the innermost container holds something
abbrev pub piece_of : Option (List ℕ) → ℕ → Bool → FormatterCall → List ℕ
piece_of i d flag null_call = null_bytes
piece_of i d flag (boolean_call b) = boolean_bytes b
piece_of i d flag (number_call l) = l
piece_of i d flag (string_call q s) = string_text q s
piece_of i d flag (bytes_call bytes) = byte_array i (up d) (down (up d)) bytes
piece_of i d flag begin_string = 34 ∷ []
piece_of i d flag end_string = 34 ∷ []
piece_of i d flag (begin_call k) = bracket k ∷ []
piece_of i d flag (end_call k) = closing_line flag i (down d) ++ closing k ∷ []
piece_of i d flag (begin_element first) = comma first ++ line i d
piece_of i d flag end_element = []
piece_of i d flag (begin_key first) = comma first ++ line i d
piece_of i d flag end_key = []
piece_of i d flag begin_member = colon_bytes i
piece_of i d flag end_member = []
piece_of i d flag (raw_call t) = t

-- the level after a call
abbrev pub level_after : ℕ → FormatterCall → ℕ
level_after d (bytes_call bytes) = down (up d)
level_after d (begin_call k) = up d
level_after d (end_call k) = down d
level_after d call = d

-- the flag after a call
abbrev pub flag_after : Bool → FormatterCall → Bool
flag_after flag (bytes_call bytes) = holds_any bytes
flag_after flag (begin_call k) = false
flag_after flag end_element = true
flag_after flag end_member = true
flag_after flag call = flag
