use Rattle.std.proofs.Common.{◌≡◌, ◌<◌, ◌≤◌, map, length, cond, Ok, Err, inr, refl, sym, ap, ◌∙◌, arith}
use Rattle.std.specs.Prelude.{remove}
use Rattle.json_grammar.specs.Tree.{list_trees, list_pairs}
use Rattle.json_io.specs.Errors.{not_found}
use Rattle.json_model.specs.Edit.{removed, without_index, without_key, not_found as missing}
use Rattle.json_value.specs.Denotes.{tree_of, pair_of}
use Rattle.json_value.specs.Edits.{step_of}
use Rattle.json_value.proofs.AppliedTrees.{removal, remove_key, remove_index, object_changed, object_kept, object_missed, array_changed, array_kept, array_missed, element_removed, removal_missed, refused_as}
use Rattle.json_value.specs.Touched.{unkeyed, Same}
use Rattle.json_value.proofs.EditedValues.{array_touched, object_touched, removal_touches_key, removal_touches_index}
use Rattle.json_value.proofs.RefusedCalls.{removal_keeps_key, removal_keeps_index}
use Rattle.json_value.proofs.value.Value.remove.Goals as goal

pub returns-then-remove_pairs-clause-ok : goal.returns-then-remove_pairs-clause-ok
returns-then-remove_pairs-clause-ok c =
    let self = c.args.self.now in
    let pairs = c.in_ok-pairs-in-Some.pairs.now in
    let k = c.as_str.result.now in
    let before = list_pairs (map pair_of pairs.items) in
    let h = c.remove_pairs.ensures.removed c.if-remove_pairs.true in
    remove_key c.args.step.now c.in-Key.key k (tree_of self) c.in-Key.is c.as_str.ensures
    ∙ object_changed self c.in-Some.object.now pairs c.in-Some.ensures.value c.in_ok-pairs-in-Some.ensures.pairs (removal k) c.remove_pairs.new.pairs
    (ap (λ b. cond b (Ok (without_key k before)) (Err missing)) h.0 ∙ ap Ok h.1)

pub returns-else-remove_pairs-clause-kept : goal.returns-else-remove_pairs-clause-kept
returns-else-remove_pairs-clause-kept c =
    object_kept c.args.self.now c.in-Some.object.now c.in_ok-pairs-in-Some.pairs.now c.in-Some.ensures.value c.in_ok-pairs-in-Some.ensures.pairs c.remove_pairs.new.pairs
    (ap (map pair_of) (c.remove_pairs.ensures.kept c.if-remove_pairs.false).1)

pub returns-else-remove_pairs-clause-refused : goal.returns-else-remove_pairs-clause-refused
returns-else-remove_pairs-clause-refused c =
    let self = c.args.self.now in
    let pairs = c.in_ok-pairs-in-Some.pairs.now in
    let k = c.as_str.result.now in
    let before = list_pairs (map pair_of pairs.items) in
    let h = c.remove_pairs.ensures.kept c.if-remove_pairs.false in
    refused_as (removed (step_of c.args.step.now) (tree_of self)) c.not_found_error.result not_found c.not_found_error.ensures
    (remove_key c.args.step.now c.in-Key.key k (tree_of self) c.in-Key.is c.as_str.ensures
    ∙ object_missed self c.in-Some.object.now pairs c.in-Some.ensures.value c.in_ok-pairs-in-Some.ensures.pairs (removal k) missing (ap (λ b. cond b (Ok (without_key k before)) (Err missing)) h.0))

pub returns-then-i-len-clause-ok : goal.returns-then-i-len-clause-ok
returns-then-i-len-clause-ok c =
    let self = c.args.self.now in
    let list = c.in_ok-list-in-Some-array_mut.list.now in
    let low : c.in-Index.i < length list.items = omega (arith, c.if-i-len.true, c.len.ensures, list.ok.0) in
    remove_index c.args.step.now c.in-Index.i (tree_of self) c.in-Index.is
    ∙ array_changed self c.in-Some-array_mut.array.now list c.in-Some-array_mut.ensures.value c.in_ok-list-in-Some-array_mut.ensures.list (without_index c.in-Index.i) c.remove.new.self
    (element_removed list.items c.in-Index.i low ∙ ap (λ vs. Ok (list_trees (map tree_of vs))) (sym c.remove.ensures.items))

pub returns-else-i-len-clause-kept : goal.returns-else-i-len-clause-kept
returns-else-i-len-clause-kept c =
    let list = c.in_ok-list-in-Some-array_mut.list.now in
    array_kept c.args.self.now c.in-Some-array_mut.array.now list c.in-Some-array_mut.ensures.value c.in_ok-list-in-Some-array_mut.ensures.list list refl

pub returns-else-i-len-clause-refused : goal.returns-else-i-len-clause-refused
returns-else-i-len-clause-refused c =
    let self = c.args.self.now in
    let list = c.in_ok-list-in-Some-array_mut.list.now in
    let past : length list.items ≤ c.in-Index.i = omega (arith, c.if-i-len.false, c.len.ensures, list.ok.0) in
    refused_as (removed (step_of c.args.step.now) (tree_of self)) c.not_found_error-else-i-len.result not_found c.not_found_error-else-i-len.ensures
    (remove_index c.args.step.now c.in-Index.i (tree_of self) c.in-Index.is
    ∙ array_missed self c.in-Some-array_mut.array.now list c.in-Some-array_mut.ensures.value c.in_ok-list-in-Some-array_mut.ensures.list (without_index c.in-Index.i) missing (removal_missed list.items c.in-Index.i past))

pub returns-then-remove_pairs-clause-children : goal.returns-then-remove_pairs-clause-children
returns-then-remove_pairs-clause-children c =
    let self = c.args.self.now in
    let lent = c.in_ok-pairs-in-Some in
    let k = c.as_str.result.now in
    removal_touches_key c.args.step.now c.in-Key.key k self _ c.in-Key.is c.as_str.ensures
    (object_touched (λ items now. now ≡ unkeyed k items) self c.in-Some.object.now lent.pairs.now c.remove_pairs.new.pairs c.in-Some.ensures.value lent.ensures.pairs lent.ensures.children
    (c.remove_pairs.ensures.children c.if-remove_pairs.true))

pub returns-then-i-len-clause-children : goal.returns-then-i-len-clause-children
returns-then-i-len-clause-children c =
    let self = c.args.self.now in
    let lent = c.in_ok-list-in-Some-array_mut in
    let i = c.in-Index.i in
    removal_touches_index c.args.step.now i self _ c.in-Index.is
    (array_touched (λ items now. now ≡ remove items i) self c.in-Some-array_mut.array.now lent.list.now c.remove.new.self c.in-Some-array_mut.ensures.value lent.ensures.list lent.ensures.children c.remove.ensures.items)

pub returns-else-remove_pairs-clause-kept_along : goal.returns-else-remove_pairs-clause-kept_along
returns-else-remove_pairs-clause-kept_along c =
    let self = c.args.self.now in
    let lent = c.in_ok-pairs-in-Some in
    removal_keeps_key c.args.step.now c.in-Key.key self _ c.in-Key.is
    (inr (object_touched Same self c.in-Some.object.now lent.pairs.now c.remove_pairs.new.pairs c.in-Some.ensures.value lent.ensures.pairs lent.ensures.children (c.remove_pairs.ensures.kept c.if-remove_pairs.false).1))

pub returns-else-i-len-clause-kept_along : goal.returns-else-i-len-clause-kept_along
returns-else-i-len-clause-kept_along c =
    let self = c.args.self.now in
    let lent = c.in_ok-list-in-Some-array_mut in
    removal_keeps_index c.args.step.now c.in-Index.i self _ c.in-Index.is
    (inr (array_touched Same self c.in-Some-array_mut.array.now lent.list.now lent.list.now c.in-Some-array_mut.ensures.value lent.ensures.list lent.ensures.children refl))
