use Rattle.std.proofs.Common.{refl}
use Rattle.json_lines.proofs.LineRows.{blank-known}
use Rattle.json_lines.proofs.table.is_blank.Goals as goal

pub returns : goal.returns
returns c = blank-known c.args.line.now c.ws_run.result _ refl c.ws_run.ensures.ends.within c.ws_run.ensures.ends.run c.ws_run.ensures.ends.stop
