use Rattle.json_doc.proofs.Properness.{doc_proper}
use Rattle.json_doc.proofs.laws.trees_are_proper.Goals as goal

pub returns : goal.returns
returns c = doc_proper c.args._doc.now
