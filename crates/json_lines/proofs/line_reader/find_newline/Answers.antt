use Rattle.json_lines.proofs.Newlines.{IsFirstNewline-found}
use Rattle.json_lines.proofs.line_reader.find_newline.Goals as goal

pub returns : goal.returns
returns c = IsFirstNewline-found c.args.bytes.now c.memchr.result c.memchr.ensures
