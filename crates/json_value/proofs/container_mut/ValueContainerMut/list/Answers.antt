use Rattle.std.proofs.Common.{refl}
use Rattle.json_value.specs.Rows.{owned}
use Rattle.json_value.specs.Touched.{ReplacedBy}
use Rattle.json_value.proofs.ValueLevels.{array_tree}
use Rattle.json_value.proofs.AppliedTrees.{array_before}
use Rattle.json_value.proofs.EditedValues.{array_touched}
use Rattle.json_value.proofs.container_mut.ValueContainerMut.list.Goals as goal

pub returns-in_ok-list-in-Some : goal.returns-in_ok-list-in-Some
returns-in_ok-list-in-Some c =
    let self = c.args.self.now in
    let array = c.in-Some.array.now in
    let list = c.in_ok-list-in-Some.list.now in
    let was = c.in-Some.ensures.value in
    let told = c.in_ok-list-in-Some.ensures in (
      (refl, (λ w ok. (array_tree (owned w), array_touched (ReplacedBy list.items w.items) self array list w was told.list told.children (refl, refl))), tt),
      record { writes_back = tt; value = array_before self array list was told.list; refused = tt },
    )
