use Rattle.std.proofs.Common.{◌≡◌, sym, ◌∙◌, option_map, codes}
use Rattle.std.proofs.lemmas.Result.{IfOk-weaker}
use Rattle.json_grammar.specs.Tree.{list_pairs}
use Rattle.json_patch.specs.Patch.{single_value, pointer_in, operation_named, operation_of}
use Rattle.json_value.specs.Seen.{seen, members_seen}
use Rattle.json_patch.specs.Operations.{model_operation}
use Rattle.json_patch.proofs.Members.{operation_is, operation_not}
use Rattle.json_patch.proofs.operation.read_operation.Goals as goal

pub returns-in-Some-single_text-clause-ok : goal.returns-in-Some-single_text-clause-ok
returns-in-Some-single_text-clause-ok c =
    let xs = members_seen c.in-Some.object in
    let ps = list_pairs xs in
    let is = operation_is (seen c.args.view) xs c.in-Some-single_text.name.now c.in-Some.ensures.trees c.in-Some-single_text.ensures in
    IfOk-weaker c.read_named.result
    (λ o. option_map model_operation o ≡ operation_named c.in-Some-single_text.name.now (pointer_in (single_value (codes "path") ps)) (pointer_in (single_value (codes "from") ps)) (single_value (codes "value") ps))
    (λ o. option_map model_operation o ≡ operation_of (seen c.args.view)) (λ o h. h ∙ sym is) c.read_named.ensures.ok

pub returns-in-None-single_text-clause-ok : goal.returns-in-None-single_text-clause-ok
returns-in-None-single_text-clause-ok c = sym (operation_not (seen c.args.view) (members_seen c.in-Some.object) c.in-Some.ensures.trees c.in-None-single_text.ensures)
