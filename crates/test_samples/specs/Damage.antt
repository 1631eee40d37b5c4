-- Numbers up to the first that is damaged.
use Rattle.std.specs.Prelude.{ℕ, ◌^◌, pos, List, map, false, None}
use Rattle.json_model.specs.Datum.{Datum, integer_datum}
use Rattle.json_grammar.specs.Tree.{Tree}
use Rattle.json_io.specs.declared.error.Error.{Error}
use Rattle.json_data.specs.Reading.{Reading, read_integer, is_between}
use Rattle.json_stream.specs.Streams.{InputState, TakesValues, NextValueFails}

abbrev pub numbers : List ℕ → List Datum
numbers ns = map (λ n. integer_datum (pos n)) ns

abbrev pub read_damage_number : Tree → Reading
read_damage_number = read_integer (is_between 0 (2 ^ 64))

abbrev pub beginning : List ℕ → InputState
beginning b = record { text = b; index = 0; lossy = false; repaired = None }

-- the text has values of these data, one after another, and this is why no further one is given
abbrev pub UpToDamage : List ℕ → List Datum → Error → Type 0
UpToDamage b ds e = (s new : InputState) × TakesValues read_damage_number (beginning b) ds s × NextValueFails read_damage_number s e.code e.place new
