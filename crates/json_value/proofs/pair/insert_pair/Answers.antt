use Rattle.std.proofs.Common.{◌≡◌, map, inl, inr, refl, sym, ap, ◌∙◌}
use Rattle.json_grammar.specs.Tree.{list_pairs}
use Rattle.json_value.specs.Denotes.{text_bytes, pair_of}
use Rattle.json_value.proofs.AppliedTrees.{first_moved, none_moved, insert_over, insert_beside}
use Rattle.json_value.specs.Rows.{keyed_so}
use Rattle.json_value.specs.Places.{value_origin}
use Rattle.json_value.proofs.EditedValues.{at_member}
use Rattle.json_value.proofs.pair.insert_pair.Goals as goal

pub returns-in-Some-clause-ok : goal.returns-in-Some-clause-ok
returns-in-Some-clause-ok c =
    let k = text_bytes c.args.key.now in
    let items = c.args.pairs.now.items in
    let first = first_moved c.as_str.result.now k c.as_slice.result.now items c.in-Some.i c.as_str.ensures c.as_slice.ensures.value c.in-Some.ensures.first in
    insert_over k items c.in-Some.i c.index_mut.result.now c.index_mut.ensures.value first c.args.value

pub returns-in_ok-push-in-None-clause-ok : goal.returns-in_ok-push-in-None-clause-ok
returns-in_ok-push-in-None-clause-ok c =
    let k = text_bytes c.args.key.now in
    let items = c.args.pairs.now.items in
    let none = none_moved c.as_str.result.now k c.as_slice.result.now items c.as_str.ensures c.as_slice.ensures.value c.in-None.ensures.none in
    insert_beside k items c.in_ok-key-in-None.key c.args.value c.in_ok-key-in-None.ensures.same none
    ∙ ap (λ vs. list_pairs (map pair_of vs)) (sym c.in_ok-push-in-None.ensures.items)

pub returns-in-Some-clause-children : goal.returns-in-Some-clause-children
returns-in-Some-clause-children c =
    let k = text_bytes c.args.key.now in
    let items = c.args.pairs.now.items in
    let first = first_moved c.as_str.result.now k c.as_slice.result.now items c.in-Some.i c.as_str.ensures c.as_slice.ensures.value c.in-Some.ensures.first in
    inl (at_member (λ before after. value_origin after ≡ value_origin c.args.value) k items c.in-Some.i c.index_mut.result.now c.args.value c.index_mut.ensures.value first refl)

pub returns-in_ok-push-in-None-clause-children : goal.returns-in_ok-push-in-None-clause-children
returns-in_ok-push-in-None-clause-children c =
    let k = text_bytes c.args.key.now in
    let items = c.args.pairs.now.items in
    let none = none_moved c.as_str.result.now k c.as_slice.result.now items c.as_str.ensures c.as_slice.ensures.value c.in-None.ensures.none in
    inr (record { member = keyed_so c.in_ok-key-in-None.key c.args.value; none = none; more = c.in_ok-push-in-None.ensures.items; is = (c.in_ok-key-in-None.ensures.position, refl) })
