use Rattle.std.proofs.Common.{inl}
use Rattle.std.proofs.lemmas.Result.{on_ok_weaker}
use Rattle.json_value.specs.Denotes.{tree_of}
use Rattle.json_patch.proofs.Changes.{object_added}
use Rattle.json_patch.specs.Touched.{InsertsMember}
use Rattle.json_patch.proofs.Touched.{object_was}
use Rattle.json_patch.proofs.change.insert_in_object.Goals as goal

pub returns-clause-ok : goal.returns-clause-ok
returns-clause-ok c =
    on_ok_weaker c.insert_member.result (object_added c.args.key.now (tree_of c.args.value) c.args.container.now c.in-Some.object.now c.insert_member.new.object c.in-Some.ensures.value) c.insert_member.ensures.ok

pub returns-clause-children : goal.returns-clause-children
returns-clause-children c =
    on_ok_weaker c.insert_member.result (λ h. inl (object_was (InsertsMember c.args.key.now c.args.value) c.args.container.now _ c.in-Some.object.now c.in-Some.ensures.value h)) c.insert_member.ensures.children
