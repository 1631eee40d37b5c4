use Rattle.std.proofs.Common.{ap}
use Rattle.std.proofs.lemmas.Result.{on_err_weaker}
use Rattle.json_history.specs.History.{history_of}
use Rattle.json_history.specs.declared.history.History.{History}
use Rattle.json_rpc.specs.declared.service.Service.{Service}
use Rattle.json_rpc.specs.Denoted.{message_denoted}
use Rattle.json_rpc.proofs.Messages.{message_reads}
use Rattle.json_rpc.proofs.service.Service.reply_to.Goals as goal

pub returns-clause-reads : goal.returns-clause-reads
returns-clause-reads g c =
    λ only.
    let service : History → Service = λ h. record { history = h } in
    ap service (c.serve_message.ensures.reads (message_reads c.args.line (message_denoted c.in_ok-message.message) c.in_ok-message.ensures.ok only))

pub returns-clause-kept : goal.returns-clause-kept
returns-clause-kept g c = on_err_weaker c.serve_message.result (λ same. ap history_of same) c.serve_message.ensures.kept
