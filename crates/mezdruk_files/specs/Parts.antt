-- The parts of a document that are read by themselves: the whole document, or each of its lines.
use Rattle.std.specs.Prelude.{ℕ, ◌+◌, ◌==◌, cond, List, [], ◌∷◌, ◌<◌, ◌^◌, length}
use Rattle.std.specs.List.{onto_first}
use Rattle.mezdruk_files.specs.declared.part.DocumentPart as code
use Rattle.mezdruk_files.specs.declared.part.Scope.{Scope}
use Rattle.mezdruk_files.specs.declared.part.Scope.TheVariants.{Document, Line, Value}

-- the name of the document, the bytes in which places are counted, how many lines precede them, and
-- whether they are the whole document, a line, or the document of which a value is read
pub record DocumentPart : Type 0 where
  pub name : List ℕ
  pub bytes : List ℕ
  pub before : ℕ
  pub scope : Scope

abbrev pub part_view : code.DocumentPart → DocumentPart
part_view p = record { name = p.name.now; bytes = p.bytes.now; before = p.before; scope = p.scope }

-- a whole document
abbrev pub whole_part : List ℕ → List ℕ → DocumentPart
whole_part name bytes = record { name = name; bytes = bytes; before = 0; scope = Document }

-- a line after n others
abbrev pub line_part : List ℕ → ℕ → List ℕ → DocumentPart
line_part name n line = record { name = name; bytes = line; before = n; scope = Line }

-- a value of a document after n others
abbrev pub value_part : List ℕ → List ℕ → ℕ → DocumentPart
value_part name bytes n = record { name = name; bytes = bytes; before = 0; scope = Value n }

-- the lines of some bytes, without their newlines; the last line needs none
abbrev pub lines_of : List ℕ → List (List ℕ)
lines_of [] = []
lines_of (b ∷ bs) = cond (b == 10) ([] ∷ lines_of bs) (onto_first b (lines_of bs))

-- the lines after n others
abbrev pub line_parts : List ℕ → ℕ → List (List ℕ) → List DocumentPart
line_parts name n [] = []
line_parts name n (line ∷ later) = line_part name n line ∷ line_parts name (n + 1) later

-- the lines of a part
abbrev pub parts_of_lines : DocumentPart → List DocumentPart
parts_of_lines p = line_parts p.name p.before (lines_of p.bytes)

-- its lines can be counted in 64 bits
abbrev pub HasFewLines : DocumentPart → Type 0
HasFewLines p = p.before + length p.bytes + 1 < 2 ^ 64
