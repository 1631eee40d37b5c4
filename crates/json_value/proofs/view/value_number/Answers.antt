use Rattle.std.proofs.Common.{ap, ◌∙◌}
use Rattle.json_value.specs.Denotes.{tree_of}
use Rattle.json_value.proofs.Integers.{integer_read}
use Rattle.json_value.proofs.ValueLevels.{number_tree}
use Rattle.json_value.proofs.view.value_number.Goals as goal

pub returns-in-Number-clause-value : goal.returns-in-Number-clause-value
returns-in-Number-clause-value c = integer_read _ c.in-Number.number c.in-Number.is

pub returns-in-Number-clause-text : goal.returns-in-Number-clause-text
returns-in-Number-clause-text c = ap tree_of c.in-Number.is ∙ number_tree c.in-Number.number
