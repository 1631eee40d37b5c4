use Rattle.std.proofs.Common.{refl}
use Rattle.json_value.specs.Rows.{owned}
use Rattle.json_value.specs.Touched.{ReplacedBy}
use Rattle.json_value.proofs.ValueLevels.{object_tree}
use Rattle.json_value.proofs.AppliedTrees.{object_before}
use Rattle.json_value.proofs.EditedValues.{object_touched}
use Rattle.json_value.proofs.container_mut.ValueContainerMut.pairs.Goals as goal

pub returns-in_ok-pairs-in-Some : goal.returns-in_ok-pairs-in-Some
returns-in_ok-pairs-in-Some c =
    let self = c.args.self.now in
    let object = c.in-Some.object.now in
    let pairs = c.in_ok-pairs-in-Some.pairs.now in
    let was = c.in-Some.ensures.value in
    let told = c.in_ok-pairs-in-Some.ensures in (
      (refl, (λ w ok. (object_tree (owned w), object_touched (ReplacedBy pairs.items w.items) self object pairs w was told.pairs told.children (refl, refl))), tt),
      record { writes_back = tt; value = object_before self object pairs was told.pairs; refused = tt },
    )
