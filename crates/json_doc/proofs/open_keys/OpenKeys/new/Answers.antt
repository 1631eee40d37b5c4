use Rattle.json_doc.proofs.NameSets.{state_start}
use Rattle.json_doc.proofs.open_keys.OpenKeys.new.Goals as goal

pub returns : goal.returns
returns c = state_start _ _ _ c.new.ensures.items c.new-2.ensures.empty c.new-3.ensures.items
