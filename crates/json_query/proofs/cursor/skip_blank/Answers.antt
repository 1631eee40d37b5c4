use Rattle.std.proofs.Common.{◌<◌, length, arith, rules, ◌∙◌, subst}
use Rattle.json_query.specs.Reading.{ClassAt}
use Rattle.json_query.specs.declared.cursor.Class.TheVariants.{Blank}
use Rattle.json_query.proofs.TextChars.{blank_skipped, class_shorter}
use Rattle.json_query.proofs.cursor.skip_blank.Goals as goal

pub blank-preserved : goal.blank-preserved
blank-preserved c =
    let h : ClassAt Blank c.blank.rest.now c.split_class.result.1.now = subst (λ k. ClassAt k c.blank.rest.now c.split_class.result.1.now) c.in-Blank-default.is-0 c.split_class.ensures in
    let less : length c.split_class.result.1.now < length c.blank.rest.now = class_shorter Blank _ _ h (λ e. cc) (λ e. cc) in
    record { text = search rules; skipped = λ s k. c.blank.invariant.skipped s k ∙ blank_skipped s _ _ h k; within = omega arith }
