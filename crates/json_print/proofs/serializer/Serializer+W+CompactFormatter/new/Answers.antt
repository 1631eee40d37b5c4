use Rattle.json_print.proofs.Layouts.{plain_laid}
use Rattle.json_print.proofs.serializer.Serializer+W+CompactFormatter.new.Goals as goal

pub returns-clause-laid : goal.returns-clause-laid
returns-clause-laid g c = plain_laid c.with_formatter.result.formatter
