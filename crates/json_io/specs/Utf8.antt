-- Bytes that are no UTF-8 (RFC 8259, section 8.1).
use Rattle.std.specs.Prelude.{◌≡◌, ℕ, List}
use Rattle.std.specs.Str.{IsValidUpTo}
use Rattle.json_io.specs.declared.error.ErrorCode.{ErrorCode}
use Rattle.json_io.specs.declared.error.ErrorCode.TheVariants.{InvalidUTF8}
use Rattle.json_io.specs.declared.error.Place.{Place}
use Rattle.json_io.specs.Positions.{place_at}

-- the first k bytes are the longest prefix of b that is UTF-8, and more bytes follow
abbrev pub IsUtf8Fault : List ℕ → ℕ → Type 0
IsUtf8Fault b k = IsValidUpTo b k

-- why the bytes are refused
abbrev pub Utf8Cause : List ℕ → ErrorCode → Place → Type 0
Utf8Cause b InvalidUTF8 place = (k : ℕ) × IsUtf8Fault b k × (place ≡ place_at b k)
Utf8Cause b code place = ⊥
