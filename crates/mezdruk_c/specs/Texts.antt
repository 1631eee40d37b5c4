-- Why a text is not read.
use Rattle.std.specs.Prelude.{ℕ, List, ⊤}
use Rattle.json_grammar.specs.Rules.{Rules}
use Rattle.json_io.specs.declared.error.ErrorCode.{ErrorCode}
use Rattle.json_io.specs.declared.error.ErrorCode.TheVariants.{NoMemory}
use Rattle.json_io.specs.declared.error.Place.{Place}
use Rattle.json_io.specs.declared.error.Place.TheVariants.{None as nowhere}
use Rattle.json_command.specs.Input.{InputFault}

-- memory ran out, or the text has this fault by the rules (RFC 8259)
abbrev pub ReadingTextFails : Rules → List ℕ → ErrorCode → Place → Type 0
ReadingTextFails rules b NoMemory nowhere = ⊤
ReadingTextFails rules b code place = InputFault rules b code place
