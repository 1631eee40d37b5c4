-- What C reads of a tree.
use Rattle.std.specs.Prelude.{ℕ, ℤ, pos, List, length, Bool, true, false, Option, Some, None, ◌==◌, if◌then◌else◌}
use Rattle.json_grammar.specs.Tree.{Tree, num, text}
use Rattle.json_number.specs.Integers.{integer_in}
use Rattle.json_doc.specs.Readings.{literal_unless, children}

-- 1 for true, and 0 for all else
abbrev pub boolean_number : Option Bool → ℕ
boolean_number (Some true) = 1
boolean_number b = 0

-- the integer of a form: 1 and 2 say where it is
abbrev pub integer_shown : ℕ → ℕ → ℤ → Option ℤ
integer_shown form natural negative = if form == 1 then Some (pos natural) else (if form == 2 then Some negative else None)

-- the bytes of a string, or the literal of a number that is no integer of 64 bits
abbrev pub text_or_literal : Tree → Option (List ℕ)
text_or_literal (text s) = Some s
text_or_literal (num l) = literal_unless (integer_in l) l
text_or_literal t = None

-- the length of the bytes, where there are some
abbrev pub length_or : Option (List ℕ) → ℕ → ℕ
length_or (Some s) n = length s
length_or None n = n

-- how many bytes, elements or members there are
abbrev pub length_shown : Tree → ℕ
length_shown t = length_or (text_or_literal t) (length (children t))
