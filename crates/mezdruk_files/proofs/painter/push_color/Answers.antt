use Rattle.mezdruk_files.proofs.Painted.{AppendsPainted-sequence}
use Rattle.mezdruk_files.proofs.painter.push_color.Goals as goal

pub returns : goal.returns
returns c = AppendsPainted-sequence c.sequence.result.now _ _ c.sequence.ensures c.in_ok-extend_from_slice.ensures.items
