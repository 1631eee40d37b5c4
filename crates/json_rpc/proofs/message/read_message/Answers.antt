use Rattle.std.proofs.Common.{◌≡◌, true, false, inr}
use Rattle.json_rpc.proofs.Messages.{utf8_no_text}
use Rattle.json_rpc.proofs.message.read_message.Goals as goal

pub returns-in-Err-clause-ok : goal.returns-in-Err-clause-ok
returns-in-Err-clause-ok c = inr (λ h. let e : false ≡ true = c.if-is_blank.ensures.1 h in cc, utf8_no_text c.args.bytes.now c.in-Err.field-0.code c.in-Err.field-0.place c.in-Err.ensures.cause)
