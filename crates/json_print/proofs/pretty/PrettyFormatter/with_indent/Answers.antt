use Rattle.json_print.proofs.Layouts.{pretty_from}
use Rattle.json_print.proofs.pretty.PrettyFormatter.with_indent.Goals as goal

pub returns-clause-laid : goal.returns-clause-laid
returns-clause-laid c = rw (← c.new.ensures) (pretty_from _)
