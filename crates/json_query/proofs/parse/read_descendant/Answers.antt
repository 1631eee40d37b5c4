use Rattle.std.proofs.Common.{true, subst, ◌∙◌}
use Rattle.std.proofs.lemmas.Result.{MatchResult-weaker}
use Rattle.json_query.specs.Reading.{ClassAt}
use Rattle.json_query.specs.TextStates.{after_dots, before_selector, opened}
use Rattle.json_query.proofs.TextParts.{after_dots_dotted, dots_opening_read, stops_alike}
use Rattle.json_query.proofs.parse.read_descendant.Goals as goal

pub returns-in-Opening-clause-read : goal.returns-in-Opening-clause-read
returns-in-Opening-clause-read c = λ qs.
    let rest = c.split_class-class.result.1.now in
    let first = dots_opening_read qs c.args.text.now rest (subst (λ k. ClassAt k c.args.text.now rest) c.in-Opening.is c.split_class-class.ensures) in
    MatchResult-weaker c.read_bracketed.result (c.read_bracketed.ensures.read qs true) (λ r e. first ∙ e) (λ f e. stops_alike (after_dots qs) (before_selector (opened qs true)) c.args.text.now rest f first e)

pub returns-in_default : goal.returns-in_default
returns-in_default c = record {
  read = λ qs. c.read_dotted.ensures.read (after_dots qs) qs true (after_dots_dotted qs c.args.text.now c.split_class-class.result.1.now c.split_class-class.result.0 c.split_class-class.ensures c.in_default.not-Opening);
  within = c.read_dotted.ensures.within;
}
