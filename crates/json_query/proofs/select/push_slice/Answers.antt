use Rattle.std.proofs.Common.{map, ap, sym, ◌∙◌, ◌++◌}
use Rattle.std.proofs.lemmas.Result.{on_ok_weaker}
use Rattle.json_query.specs.ViewedNodes.{viewed}
use Rattle.json_query.proofs.Appending.{appended_none}
use Rattle.json_query.proofs.ViewedParts.{array_slice, no_slice}
use Rattle.json_query.proofs.select.push_slice.Goals as goal

pub returns-in-Some-clause-ok : goal.returns-in-Some-clause-ok
returns-in-Some-clause-ok c =
    let s = c.args.slice in
    let is = array_slice s.start s.end s.step c.args.view c.in-Some.array c.in-Some.ensures.trees c.in-Some.ensures.targets in
    on_ok_weaker c.push_slice_of.result (λ e. e ∙ ap (λ vs. map viewed c.args.found.now.items ++ vs) (sym is)) c.push_slice_of.ensures.ok

pub returns-in-None-clause-ok : goal.returns-in-None-clause-ok
returns-in-None-clause-ok c =
    let s = c.args.slice in
    appended_none _ _ (no_slice s.start s.end s.step c.args.view c.in-None.ensures.trees)
