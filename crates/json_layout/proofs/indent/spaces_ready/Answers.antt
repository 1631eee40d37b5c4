use Rattle.std.proofs.Common.{refl}
use Rattle.json_layout.proofs.Breaks.{indents_spaces}
use Rattle.json_layout.proofs.indent.spaces_ready.Goals as goal

pub returns-then-is_spaces-clause-spaces : goal.returns-then-is_spaces-clause-spaces
returns-then-is_spaces-clause-spaces c = indents_spaces _ c.args.bytes.now (c.if-is_spaces.ensures.0 refl)
