-- What a formatter writes, call by call, and in which layout.
use Rattle.std.specs.Prelude.{◌≡◌, ℕ, List, [], ◌∷◌, Bool, false, Option, Some, None}
use Rattle.json_layout.specs.IndentBytes.{indent_bytes}
use Rattle.json_print.specs.declared.pretty.PrettyFormatter.{PrettyFormatter}
use Rattle.json_print.specs.Calls.{FormatterCall, piece_of, level_after, flag_after}

-- a formatter: the piece of a call, and the formatter after it
pub record FormatterModel (F : Type 0) : Type 0 where
  pub piece : F → FormatterCall → List ℕ
  pub next : F → FormatterCall → F

-- no whitespace, and the calls change nothing
abbrev pub plain_form : {F : Type 0} → FormatterModel F
plain_form = record { piece = λ _ c. piece_of None 0 false c; next = λ f _. f }

-- its indent at its level
abbrev pub pretty_form : FormatterModel PrettyFormatter
pretty_form = record { piece = λ s c. piece_of (Some (indent_bytes s.indent)) s.level s.flag c; next = λ s c. record s { level = level_after s.level c; flag = flag_after s.flag c } }

-- the pieces of calls in a row
abbrev pub pieces : {F : Type 0} → FormatterModel F → F → List FormatterCall → List (List ℕ)
pieces m f [] = []
pieces m f (c ∷ cs) = m.piece f c ∷ pieces m (m.next f c) cs

-- the pieces of calls in a row in the layout of an indent, from a level and a flag on
abbrev pub pieces_of : Option (List ℕ) → ℕ → Bool → List FormatterCall → List (List ℕ)
pieces_of i d flag [] = []
pieces_of i d flag (c ∷ cs) = piece_of i d flag c ∷ pieces_of i (level_after d c) (flag_after flag c) cs

-- the formatter writes in the layout of this indent, and is at that level
abbrev pub LaidOut : {F : Type 0} → FormatterModel F → F → Option (List ℕ) → ℕ → Bool → Type 0
LaidOut m f i d flag = (cs : List FormatterCall) → pieces m f cs ≡ pieces_of i d flag cs
