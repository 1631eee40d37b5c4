use Rattle.std.proofs.Common.{IsOk, MutBor, Vec, Global, refl, sym, ap, subst, ◌∙◌}
use Rattle.std.proofs.lemmas.Result.{err_from_is_err_and}
use Rattle.std.specs.Borrow.{name_if_ok}
use Rattle.json_value.specs.declared.value.Value.{Value}
use Rattle.json_value.proofs.AppliedTrees.{anyway}
use Rattle.json_value.proofs.LentNames.{never_ok}
use Rattle.json_containers.specs.Slices.{LendsElements}
use Rattle.json_containers.proofs.slices.elements_of.Goals as goal

pub returns-in_err-list : goal.returns-in_err-list
returns-in_err-list c =
    let r = c.from_residual.result in
    let q = err_from_is_err_and r c.from_residual.ensures.1 in
    let lends = subst (LendsElements c.args.array.now) (sym q.1) (q.2 ∙ c.in_err-list.ensures.only, λ own. never_ok (c.in_err-list.ensures.free own)) in
    ((ap (name_if_ok (λ (x : MutBor (Vec Value Global)). x.ghost_name)) (sym q.1), λ w is. never_ok (subst IsOk q.1 is), anyway r refl), record { writes_back = tt; lends = lends })

pub returns : goal.returns
returns c = ((refl, λ w is. refl, tt), record { writes_back = tt; lends = (c.in_ok-list.ensures.list, c.in_ok-list.ensures.children) })
