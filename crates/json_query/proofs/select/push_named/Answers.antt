use Rattle.std.proofs.Common.{map, ap, sym, ◌∙◌, ◌++◌}
use Rattle.std.proofs.lemmas.Result.{on_ok_weaker}
use Rattle.json_query.specs.ViewedNodes.{viewed}
use Rattle.json_query.proofs.Appending.{appended_none}
use Rattle.json_query.proofs.ViewedParts.{object_named, no_named}
use Rattle.json_query.proofs.select.push_named.Goals as goal

pub returns-in-Some-clause-ok : goal.returns-in-Some-clause-ok
returns-in-Some-clause-ok c =
    let is = object_named c.args.name.now c.args.view c.in-Some.object c.in-Some.ensures.trees c.in-Some.ensures.targets in
    on_ok_weaker c.push_each_named.result (λ e. e ∙ ap (λ vs. map viewed c.args.found.now.items ++ vs) (sym is)) c.push_each_named.ensures.ok

pub returns-in-None-clause-ok : goal.returns-in-None-clause-ok
returns-in-None-clause-ok c = appended_none _ _ (no_named c.args.name.now c.args.view c.in-None.ensures.trees)
