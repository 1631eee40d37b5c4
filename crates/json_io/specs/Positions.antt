-- Lines and columns of the bytes of an input.
use Rattle.std.specs.Prelude.{ℕ, ◌+◌, ◌==◌, List, length, take, count_by}
use Rattle.std.specs.List.{after_last}
use Rattle.json_io.specs.declared.error.Place.{Place}
use Rattle.json_io.specs.declared.error.Place.TheVariants as place

-- 1 and the number of bytes 0A before the offset
abbrev pub line_at : List ℕ → ℕ → ℕ
line_at b k = 1 + count_by (λ x. x == 10) (take k b)

-- 1 and the number of bytes before the offset that follow the last 0A, or of all where there is
-- none
abbrev pub column_at : List ℕ → ℕ → ℕ
column_at b k = 1 + length (after_last (λ x. x == 10) (take k b))

-- the place of an offset
unfoldable pub place_at : List ℕ → ℕ → Place
place_at b k = place.At k (line_at b k) (column_at b k)
