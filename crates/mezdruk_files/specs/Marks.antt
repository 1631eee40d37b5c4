-- A byte order mark at the beginning of an input.
use Rattle.std.specs.Prelude.{ℕ, ◌==◌, ◌&&◌, Bool, false, cond, List, ◌∷◌, drop}

-- the bytes EF BB BF, in hexadecimal
abbrev pub begins_with_mark : List ℕ → Bool
begins_with_mark (x ∷ y ∷ z ∷ rest) = x == 239 && (y == 187 && z == 191)
begins_with_mark _ = false

-- three spaces in place of the mark: whitespace before a value means nothing (RFC 8259, section 2), and each offset stays
abbrev pub without_mark : List ℕ → List ℕ
without_mark b = cond (begins_with_mark b) (32 ∷ 32 ∷ 32 ∷ drop 3 b) b
