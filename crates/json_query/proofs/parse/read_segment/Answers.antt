use Rattle.std.proofs.Common.{inr, length, ◌∙◌}
use Rattle.json_query.specs.declared.error.QueryCode.TheVariants as code
use Rattle.json_query.proofs.TextChars.{refused_as}
use Rattle.json_query.proofs.TextParts.{segment_halts}
use Rattle.json_query.proofs.parse.read_segment.Goals as goal

pub returns-in_default : goal.returns-in_default
returns-in_default c =
    let fault = refused_as c.before-in_default.result code.ExpectedSegment (length c.args.text.now) c.before-in_default.ensures.code c.before-in_default.ensures.left in
    record {
      read = λ qs. inr (segment_halts qs c.args.text.now c.split_class-class.result.1.now c.split_class-class.result.0 c.split_class-class.ensures c.requires c.in_default.not-Opening c.in_default.not-Dot ∙ fault);
      within = tt;
    }
