use Rattle.json_rpc.specs.Denoted.{message_denoted}
use Rattle.json_rpc.proofs.Messages.{tells_reads}
use Rattle.json_rpc.proofs.service.line_only_reads.Goals as goal

pub returns-clause-ok : goal.returns-clause-ok
returns-clause-ok c = tells_reads c.args.line (message_denoted c.in_ok-message.message) c.message_only_reads.result c.in_ok-message.ensures.ok c.message_only_reads.ensures
