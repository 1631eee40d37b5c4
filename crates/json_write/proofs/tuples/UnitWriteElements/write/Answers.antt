use Rattle.json_write.proofs.Elements.{element_ends}
use Rattle.json_write.proofs.tuples.UnitWriteElements.write.Goals as goal

pub end_list-requires : goal.end_list-requires
end_list-requires g c = λ f. element_ends (c.requires f)
