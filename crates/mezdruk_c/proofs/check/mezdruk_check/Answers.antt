use Rattle.mezdruk_c.proofs.Settled.{check_complete, check_exact}
use Rattle.mezdruk_c.proofs.check.mezdruk_check.Goals as goal

pub returns-clause-complete : goal.returns-clause-complete
returns-clause-complete c = λ has valid. check_complete c.check.result c.report_outcome.result c.report_outcome.new.fault c.args.options.now c.args.text.now c.report_outcome.ensures c.check.ensures.failed has valid

pub returns-clause-exact : goal.returns-clause-exact
returns-clause-exact c = λ has code place h. check_exact c.check.result c.report_outcome.result c.report_outcome.new.fault c.args.options.now c.args.text.now code place c.report_outcome.ensures c.check.ensures.valid c.check.ensures.failed has h
