-- What becomes of a sink to which the text of a datum is written.
use Rattle.std.specs.Prelude.{◌≡◌, ◌⊎◌, ℕ, ◌<◌, List, Option, Some, None, Result, OnOk, IfErr, IsErrOf, option_map, codes}
use Rattle.json_grammar.specs.Tree.{Tree}
use Rattle.json_io.specs.declared.error.Error.{Error}
use Rattle.json_io.specs.Errors.{no_memory, writing_failed, key_has_no_text}
use Rattle.json_io.specs.Known.{Appends}
use Rattle.json_io.specs.Outside.{SinkState}
use Rattle.json_io.specs.Transfer.{AppendsFront}
use Rattle.json_model.specs.Datum.{Datum, tree_of_datum}
use Rattle.json_model.specs.Print.{shown}
use Rattle.json_layout.specs.TextWriting.{StopCause}

-- the indent of the calls that ask for none
abbrev pub two_spaces : Option (List ℕ)
two_spaces = Some (codes "  ")

-- the text of the datum's tree with an indent or none; none where a key has no text
abbrev pub datum_text : Option (List ℕ) → Datum → Option (List ℕ)
datum_text i d = option_map (shown i 0) (tree_of_datum d)

-- the sink failed or memory ran out while the text was written, of which a front was gained
pub record StopsText (old new : SinkState) (text : List ℕ) (e : Error) : Type 0 where
  pub cause : StopCause old.faults new.faults e.code e.place
  pub front : AppendsFront old.gained new.gained text

-- why no text was written: a key has none, memory ran out before the first byte, or the text stopped
abbrev pub SendingFails : SinkState → SinkState → Option (List ℕ) → Datum → Error → Type 0
SendingFails old new i d e =
    ((e ≡ key_has_no_text) × (tree_of_datum d ≡ None) × (new ≡ old)) ⊎ (((e ≡ no_memory) × (new ≡ old)) ⊎ ((t : Tree) × (tree_of_datum d ≡ Some t) × StopsText old new (shown i 0 t) e))

-- the sink gained the text of the datum's tree, with an indent or none
pub record WritesDatum (old new : SinkState) (i : Option (List ℕ)) (d : Datum) (result : Result (Unit {0}) Error) : Type 0 where
  pub ok : OnOk result ((t : Tree) × (tree_of_datum d ≡ Some t) × Appends old.gained new.gained (shown i 0 t))
  pub err : IfErr result (SendingFails old new i d)
  pub reported : old.faults < new.faults → IsErrOf result writing_failed
