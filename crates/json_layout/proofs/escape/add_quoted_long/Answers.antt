use Rattle.json_layout.proofs.Escapes.{whole_plain}
use Rattle.json_layout.proofs.escape.add_quoted_long.Goals as goal

pub add_quoted_plain-requires : goal.add_quoted_plain-requires
add_quoted_plain-requires g c = whole_plain _ _ c.if-plain_run-value.true c.plain_run.ensures.ends.run
