use Rattle.std.proofs.Common.{pos}
use Rattle.json_write.proofs.Building.{refused_token}
use Rattle.json_write.proofs.builder.ValueBuilderEvents.uint.Goals as goal

pub returns-in-Err : goal.returns-in-Err
returns-in-Err c = refused_token (pos c.args.n) c.in-Err.ensures.err c.refuse.ensures.err c.refuse.ensures.takes
