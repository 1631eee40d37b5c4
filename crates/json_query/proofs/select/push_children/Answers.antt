use Rattle.std.proofs.Common.{map, ap, sym, ◌∙◌, ◌++◌}
use Rattle.std.proofs.lemmas.Result.{on_ok_weaker}
use Rattle.json_query.specs.ViewedNodes.{viewed}
use Rattle.json_query.proofs.Appending.{appended_none}
use Rattle.json_query.proofs.ViewedParts.{array_wildcard, object_wildcard, no_wildcard}
use Rattle.json_query.proofs.select.push_children.Goals as goal

pub returns-in-Some-clause-ok : goal.returns-in-Some-clause-ok
returns-in-Some-clause-ok c =
    let is = array_wildcard c.args.view c.in-Some.array c.in-Some.ensures.trees c.in-Some.ensures.targets in
    on_ok_weaker c.push_each_element.result (λ e. e ∙ ap (λ vs. map viewed c.args.found.now.items ++ vs) (sym is)) c.push_each_element.ensures.ok

pub returns-in-Some-as_object-clause-ok : goal.returns-in-Some-as_object-clause-ok
returns-in-Some-as_object-clause-ok c =
    let is = object_wildcard c.args.view c.in-Some-as_object.object c.in-Some-as_object.ensures.trees c.in-Some-as_object.ensures.targets in
    on_ok_weaker c.push_each_member.result (λ e. e ∙ ap (λ vs. map viewed c.args.found.now.items ++ vs) (sym is)) c.push_each_member.ensures.ok

pub returns-in-None-clause-ok : goal.returns-in-None-clause-ok
returns-in-None-clause-ok c = appended_none _ _ (no_wildcard c.args.view c.in_default.ensures.trees c.in-None.ensures.trees)
