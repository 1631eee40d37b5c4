-- What is read of an object, one member after another: a datum represents what was read so far.
use Rattle.std.specs.Prelude.{ℕ, List}
use Rattle.json_grammar.specs.Tree.{Tree, pairs, Pairs, no_pairs, pair_and}
use Rattle.json_model.specs.Datum.{Datum}
use Rattle.json_io.specs.declared.error.ErrorCode.TheVariants.{TypeUnmatched}
use Rattle.json_data.specs.Reading.{Reading, gives, refuses}

-- what follows a datum, if it is given
abbrev pub reading_then : Reading → (Datum → Reading) → Reading
reading_then (refuses c) f = refuses c
reading_then (gives d) f = f d

-- the members in their order, where a step tells what is read after what was read so far, of a name
-- and its value
abbrev pub members_from : (Datum → List ℕ → Tree → Reading) → Datum → Pairs → Reading
members_from step d no_pairs = gives d
members_from step d (pair_and k t ps) = reading_then (step d k t) (λ e. members_from step e ps)

abbrev pub read_members : (Datum → List ℕ → Tree → Reading) → Datum → Tree → Reading
read_members step d (pairs ps) = members_from step d ps
read_members step d _ = refuses TypeUnmatched

-- and what is made of them
abbrev pub read_object : (Datum → List ℕ → Tree → Reading) → Datum → (Datum → Reading) → Tree → Reading
read_object step d made t = reading_then (read_members step d t) made
