use Rattle.std.proofs.Common.{refl, sym, ap, ◌∙◌}
use Rattle.json_io.specs.Errors.{type_unmatched}
use Rattle.json_model.specs.Edit.{on_pairs}
use Rattle.json_value.specs.Denotes.{tree_of}
use Rattle.json_value.specs.Lending.{null_as_object}
use Rattle.json_value.specs.Rows.{owned}
use Rattle.json_value.specs.Touched.{ReplacedBy}
use Rattle.json_value.proofs.ValueLevels.{object_tree}
use Rattle.json_value.proofs.AppliedTrees.{object_before, refused_as}
use Rattle.json_value.proofs.Lent.{unopened}
use Rattle.json_value.proofs.EditedValues.{object_touched, opened_touched}
use Rattle.json_value.proofs.RefusedCalls.{unopened_same}
use Rattle.json_value.proofs.container_mut.ValueContainerMut.pairs_with.Goals as goal

pub returns-in_ok-pairs-in-Some : goal.returns-in_ok-pairs-in-Some
returns-in_ok-pairs-in-Some c =
    let self = c.args.self.now in
    let filled = c.open_with.new.self in
    let object = c.in-Some.object.now in
    let pairs = c.in_ok-pairs-in-Some.pairs.now in
    let was = c.in-Some.ensures.value in
    let told = c.in_ok-pairs-in-Some.ensures in (
      (
        refl,
        (λ w ok. (
          object_tree (owned w),
          opened_touched (ReplacedBy pairs.items w.items) self filled _ c.in_ok-open_with.ensures.made (object_touched (ReplacedBy pairs.items w.items) filled object pairs w was told.pairs told.children (refl, refl)),
        )),
        tt,
      ),
      (sym c.in_ok-open_with.ensures.ok ∙ object_before filled object pairs was told.pairs, tt),
    )

pub returns-in-None : goal.returns-in-None
returns-in-None c =
    let old = tree_of c.args.self.now in
    let is = c.in_ok-open_with.ensures.ok in
    let no = unopened c.args.key.now old (λ f. ap (on_pairs f) (sym is) ∙ c.in-None.ensures.none f) in
    ((refl, (λ w never. search), unopened_same c.args.self.now c.open_with.new.self c.in_ok-open_with.ensures.made c.in-None.ensures.none), (tt, λ f. refused_as (on_pairs f (null_as_object old)) c.type_unmatched_error.result type_unmatched c.type_unmatched_error.ensures (no.1 f)))
