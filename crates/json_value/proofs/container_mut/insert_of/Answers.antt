use Rattle.std.proofs.Common.{refl}
use Rattle.std.proofs.lemmas.Result.{err_from_is_err_and}
use Rattle.json_value.specs.Denotes.{tree_of}
use Rattle.json_value.proofs.Lent.{pairs_memory}
use Rattle.json_value.proofs.LentNames.{never_ok}
use Rattle.json_value.proofs.container_mut.insert_of.Goals as goal

pub returns-in_err-place : goal.returns-in_err-place
returns-in_err-place g c =
    let p = err_from_is_err_and c.from_residual.result c.from_residual.ensures.1 in
    let only = pairs_memory (tree_of (g.S.ContainerMut.held c.args.container.now)) c.in_err-place.field-0.0 c.requires c.in_err-place.ensures.refused in
    rw (p.1, p.2) ((refl, (λ w never. never_ok never), (rw c.in_err-place.was at c.key_value_mut.follows.holds-at-none)), (tt, only))
