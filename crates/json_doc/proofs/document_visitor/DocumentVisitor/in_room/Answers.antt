use Rattle.std.proofs.Common.{[], refl}
use Rattle.json_doc.specs.Building.{nowhere}
use Rattle.json_doc.proofs.Holding.{held_same, held_nothing}
use Rattle.json_doc.proofs.document_visitor.DocumentVisitor.in_room.Goals as goal

pub returns-clause-held : goal.returns-clause-held
returns-clause-held c = held_same [] _ [] _ nowhere _ 0 _ [] (cc) (cc) refl refl held_nothing
