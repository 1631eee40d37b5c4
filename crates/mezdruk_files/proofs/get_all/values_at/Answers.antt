use Rattle.std.proofs.Common.{◌+◌, sym, subst, inl, inr}
use Rattle.json_value.specs.Seen.{seen}
use Rattle.mezdruk_files.proofs.ValuePaths.{IsSoFar, none_yet, one_more, fails_at, all_found}
use Rattle.mezdruk_files.proofs.get_all.values_at.Goals as goal

pub paths-init : goal.paths-init
paths-init c =
    let paths = c.args.paths.now in
    subst (λ vs. IsSoFar paths (seen c.args.root) vs 0) (sym c.new-values.ensures.items) (none_yet paths (seen c.args.root))

pub paths-preserved : goal.paths-preserved
paths-preserved c =
    let paths = c.args.paths.now in
    subst (λ vs. IsSoFar paths (seen c.args.root) vs (c.paths.i + 1)) (sym c.in-Ok-push.ensures.items)
    (one_more paths (seen c.args.root) c.paths.values.items c.paths.i c.index-paths-i.result c.in-Ok.value c.paths-test.true c.index-paths-i.is c.in-Ok.ensures.ok c.paths.invariant)

pub returns-in-Err-clause-err : goal.returns-in-Err-clause-err
returns-in-Err-clause-err c =
    elim c.in-Err.ensures.err [ inl only ↦ inl only | inr fails ↦ inr (fails_at c.args.paths.now (seen c.args.root) c.paths.values.items c.paths.i c.index-paths-i.result c.in-Err.error c.paths-test.true c.index-paths-i.is fails c.paths.invariant) ]

pub returns-clause-ok : goal.returns-clause-ok
returns-clause-ok c = all_found c.args.paths.now (seen c.args.root) c.paths.values.items c.paths.i c.paths-test.false c.paths.invariant
