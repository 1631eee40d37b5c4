use Rattle.std.proofs.Common.{inr, length, ◌∙◌}
use Rattle.json_query.specs.declared.error.QueryCode.TheVariants as code
use Rattle.json_query.proofs.TextChars.{refused_as}
use Rattle.json_query.proofs.TextParts.{root_halts}
use Rattle.json_query.proofs.parse.read_query.Goals as goal

pub returns-in_default : goal.returns-in_default
returns-in_default c =
    let fault = refused_as c.before-in_default.result code.ExpectedRoot (length c.args.text.now) c.before-in_default.ensures.code c.before-in_default.ensures.left in
    inr (root_halts c.args.text.now c.split_class-class.result.1.now c.split_class-class.result.0 c.split_class-class.ensures c.in_default.not-Root ∙ fault)
