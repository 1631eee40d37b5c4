-- The pieces of a text: strings, arrays of bytes, and what is between elements.
use Rattle.std.specs.Prelude.{ℕ, List, [], ◌∷◌, ◌++◌, Bool, true, false, Option}
use Rattle.std.specs.Fmt.{decimal}
use Rattle.json_model.specs.Print.{shown_bytes, quoted, line}

-- a string, between quotes where they are needed
abbrev pub string_text : Bool → List ℕ → List ℕ
string_text true s = quoted s
string_text false s = shown_bytes s

-- a comma, but before the first
abbrev pub comma : Bool → List ℕ
comma true = []
comma false = 44 ∷ []

-- a new line before a bracket that closes something
abbrev pub closing_line : Bool → Option (List ℕ) → ℕ → List ℕ
closing_line true i d = line i d
closing_line false i d = []

-- the bytes as numbers with d containers around them, each but the first after a comma
abbrev pub byte_elements : Option (List ℕ) → ℕ → Bool → List ℕ → List ℕ
byte_elements i d first [] = []
byte_elements i d first (x ∷ bytes) = comma first ++ (line i d ++ (decimal x ++ byte_elements i d false bytes))

-- whether there is a byte
abbrev pub holds_any : List ℕ → Bool
holds_any [] = false
holds_any (x ∷ bytes) = true

-- the bytes as an array: its level, and that of its end
abbrev pub byte_array : Option (List ℕ) → ℕ → ℕ → List ℕ → List ℕ
byte_array i level outer bytes = 91 ∷ (byte_elements i level true bytes ++ (closing_line (holds_any bytes) i outer ++ 93 ∷ []))
