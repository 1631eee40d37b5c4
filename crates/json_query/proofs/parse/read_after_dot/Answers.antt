use Rattle.std.proofs.Common.{false}
use Rattle.std.proofs.lemmas.Result.{err_from_is_err_and}
use Rattle.json_query.specs.TextStates.{after_dot}
use Rattle.json_query.proofs.TextParts.{after_dot_dotted}
use Rattle.json_query.proofs.parse.read_after_dot.Goals as goal

pub returns-in_err-children-in_default : goal.returns-in_err-children-in_default
returns-in_err-children-in_default c =
    let p = err_from_is_err_and c.from_residual-in_err-children-in_default.result c.from_residual-in_err-children-in_default.ensures.1 in
    record {
      read = λ qs. rw (p.1, p.2) (c.in_err-children-in_default.ensures.read (after_dot qs) qs false (after_dot_dotted qs c.args.text.now c.split_class-class.result.1.now c.split_class-class.result.0 c.split_class-class.ensures c.in_default.not-Dot));
      within = rw p.1 tt;
    }

pub returns-in_ok-children-in_default : goal.returns-in_ok-children-in_default
returns-in_ok-children-in_default c = record {
  read = λ qs. c.in_ok-children-in_default.ensures.read (after_dot qs) qs false (after_dot_dotted qs c.args.text.now c.split_class-class.result.1.now c.split_class-class.result.0 c.split_class-class.ensures c.in_default.not-Dot);
  within = c.in_ok-children-in_default.ensures.within;
}
