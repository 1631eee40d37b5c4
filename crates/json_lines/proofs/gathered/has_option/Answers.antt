use Rattle.std.specs.Prelude.{codes}
use Rattle.json_lines.proofs.WordsSpelled.{option_text}
use Rattle.json_lines.proofs.gathered.has_option.Goals as goal

pub returns : goal.returns
returns c = option_text c.args.word.now (codes "--has=") c.strip_prefix.result c.strip_prefix.ensures.cases
