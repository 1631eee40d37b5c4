use Rattle.std.proofs.Common.{refl}
use Rattle.std.proofs.lemmas.Result.{on_ok_weaker}
use Rattle.json_value.specs.declared.value.Value.{Object}
use Rattle.json_value.proofs.EditedValues.{object_touched}
use Rattle.json_patch.specs.Touched.{InsertsMember}
use Rattle.json_patch.proofs.change.insert_member.Goals as goal

pub returns-clause-children : goal.returns-clause-children
returns-clause-children c =
    on_ok_weaker c.upsert_member.result
    (object_touched (InsertsMember c.args.key.now c.args.value) (Object c.args.object.now) c.args.object.now c.in_ok-pairs.pairs.now c.upsert_member.new.pairs refl c.in_ok-pairs.ensures.pairs c.in_ok-pairs.ensures.children)
    c.upsert_member.ensures.children
