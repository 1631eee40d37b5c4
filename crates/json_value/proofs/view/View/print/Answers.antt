use Rattle.std.proofs.Common.{zero-add}
use Rattle.json_value.proofs.view.View.print.Goals as goal

pub returns-clause-text : goal.returns-clause-text
returns-clause-text g c = c.answered.ensures.text _ _ _ _ c.show.ensures

pub returns-clause-ran_out : goal.returns-clause-ran_out
returns-clause-ran_out g c e = rw zero-add at (c.answered.ensures.ran_out 0 _ _ _ c.show.ensures e)
