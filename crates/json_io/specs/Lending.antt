-- A sink that is borrowed, and given back.
use Rattle.std.specs.Prelude.{◌≡◌, ℕ, List, Option, Some}
use Rattle.std.specs.Borrow.{GName}
use Rattle.json_io.specs.Known.{Grows}
use Rattle.json_io.specs.Outside.{SinkState}

-- a sink in this state, borrowed under a name when it had gained what began
abbrev pub lent_as : SinkState → GName → Option (List ℕ) → SinkState
lent_as s name began = record s { loan = Some (record { name = name; began = began }) }

-- a borrowed sink is given back as it is now: only more was gained
pub record ComesBack (lent now : SinkState) (name : GName) : Type 0 where
  pub began : Option (List ℕ)
  pub as_lent : lent ≡ lent_as now name began
  pub grew : Grows began now.gained
