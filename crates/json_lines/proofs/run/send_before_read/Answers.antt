use Rattle.json_lines.proofs.Flushing.{WritesText-flush}
use Rattle.json_lines.proofs.TextWriting.{WritesText-nil}
use Rattle.json_lines.proofs.run.send_before_read.Goals as goal

pub returns-then-needs_read : goal.returns-then-needs_read
returns-then-needs_read g c = WritesText-flush _ _ _ c.flush_all.ensures

pub returns-else-needs_read : goal.returns-else-needs_read
returns-else-needs_read g c = WritesText-nil _
