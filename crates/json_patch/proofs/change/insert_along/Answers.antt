use Rattle.std.proofs.Common.{refl}
use Rattle.std.proofs.lemmas.Result.{on_ok_weaker, IfErr-weaker}
use Rattle.json_model.specs.Edit.{at_path}
use Rattle.json_patch.specs.Patch.{with_child}
use Rattle.json_value.specs.Denotes.{tree_of}
use Rattle.json_value.specs.Edits.{RefusesChange, steps_of}
use Rattle.json_value.proofs.AppliedTrees.{refuses_so}
use Rattle.json_value.proofs.WhereStepsLead.{change_refused_there}
use Rattle.json_patch.proofs.Changes.{changed_at_path}
use Rattle.json_value.specs.Touched.{ReplacedBy}
use Rattle.json_value.proofs.EditedValues.{along_as, became}
use Rattle.json_patch.specs.Touched.{AddTouches}
use Rattle.json_patch.proofs.change.insert_along.Goals as goal

pub returns-clause-ok : goal.returns-clause-ok
returns-clause-ok g c =
    let p = steps_of c.args.path.now in
    let f = with_child c.args.token.now (tree_of c.args.value) in
    let t = tree_of (g.V.Places.held c.args.target.now) in
    let put = (((rw c.in_ok-place.was at (c.place_mut.follows.holds c.insert_in.new.container)) refl).0) in
    on_ok_weaker c.insert_in.result (λ e. changed_at_path p f t (tree_of c.in_ok-place.place.now) (tree_of c.insert_in.new.container) _ c.in_ok-place.ensures.leads e put) c.insert_in.ensures.ok

pub returns-clause-refused : goal.returns-clause-refused
returns-clause-refused g c =
    let p = steps_of c.args.path.now in
    let f = with_child c.args.token.now (tree_of c.args.value) in
    let t = tree_of (g.V.Places.held c.args.target.now) in
    IfErr-weaker c.insert_in.result (λ e. RefusesChange (f (tree_of c.in_ok-place.place.now)) e.code e.place) (λ e. RefusesChange (at_path p f t) e.code e.place)
    (λ e. refuses_so (f (tree_of c.in_ok-place.place.now)) (at_path p f t) (λ r h. change_refused_there p f t (tree_of c.in_ok-place.place.now) r c.in_ok-place.ensures.leads h) e.code e.place)
    c.insert_in.ensures.refused

pub returns-clause-children : goal.returns-clause-children
returns-clause-children g c =
    let x = c.in_ok-place.place.now in
    let w = c.insert_in.new.container in
    let Changes = AddTouches c.args.token.now c.args.value in
    let put = (((rw c.in_ok-place.was at (c.place_mut.follows.holds w)) refl).1) in
    on_ok_weaker c.insert_in.result
    (λ h. along_as (steps_of c.args.path.now) (ReplacedBy x w) Changes (λ before after. became Changes x w before after h) (g.V.Places.held c.args.target.now) _ put)
    c.insert_in.ensures.children
