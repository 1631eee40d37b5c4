use Rattle.std.proofs.Common.{option_map, subst}
use Rattle.json_rpc.specs.Denoted.{service_history, reply_tree}
use Rattle.json_rpc.specs.Serving.{Serves}
use Rattle.json_rpc.proofs.Replies.{reply_written, reply_unwritten}
use Rattle.json_rpc.proofs.reply.serve_line.Goals as goal

pub returns-in-Ok-Some-clause-ok : goal.returns-in-Ok-Some-clause-ok
returns-in-Ok-Some-clause-ok g c =
    reply_written (service_history c.args.service.now) (service_history c.reply_to.new.self) (reply_tree c.in-Ok-Some.reply) c.args.line _ _ c.write_reply.result
    (subst (λ o. Serves (service_history c.args.service.now) c.args.line (service_history c.reply_to.new.self) (option_map reply_tree o)) c.in-Ok-Some.field-0-is c.in-Ok-Some.ensures.ok) c.write_reply.ensures

pub returns-in-Ok-Some-clause-err : goal.returns-in-Ok-Some-clause-err
returns-in-Ok-Some-clause-err g c =
    reply_unwritten (service_history c.args.service.now) (service_history c.reply_to.new.self) (reply_tree c.in-Ok-Some.reply) c.args.line _ _ c.write_reply.result
    (subst (λ o. Serves (service_history c.args.service.now) c.args.line (service_history c.reply_to.new.self) (option_map reply_tree o)) c.in-Ok-Some.field-0-is c.in-Ok-Some.ensures.ok) c.write_reply.ensures
