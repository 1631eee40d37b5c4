use Rattle.std.proofs.Common.{refl}
use Rattle.json_lines.proofs.LineRows.{blank-known}
use Rattle.json_rpc.proofs.Messages.{blank_or_not}
use Rattle.json_rpc.proofs.message.is_blank.Goals as goal

pub returns : goal.returns
returns c = blank_or_not c.args.bytes.now _ (blank-known c.args.bytes.now c.ws_run.result _ refl c.ws_run.ensures.ends.within c.ws_run.ensures.ends.run c.ws_run.ensures.ends.stop)
