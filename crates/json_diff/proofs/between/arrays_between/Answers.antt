use Rattle.json_value.specs.Seen.{seen, elements_seen}
use Rattle.json_value.proofs.SameViews.{array_seen}
use Rattle.json_diff.proofs.between.arrays_between.Goals as goal

pub returns-clause-from : goal.returns-clause-from
returns-clause-from c = array_seen (seen c.args.from) (elements_seen c.in_ok-old.old) c.in_ok-old.ensures.trees

pub returns-clause-to : goal.returns-clause-to
returns-clause-to c = array_seen (seen c.args.to) (elements_seen c.in_ok-new.new) c.in_ok-new.ensures.trees
