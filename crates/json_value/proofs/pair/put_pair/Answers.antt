use Rattle.std.proofs.Common.{map, refl, sym, ap, ◌∙◌}
use Rattle.json_grammar.specs.Tree.{list_pairs}
use Rattle.json_value.specs.Denotes.{text_bytes, pair_of}
use Rattle.json_value.proofs.AppliedTrees.{first_moved, none_moved, insert_over, insert_beside}
use Rattle.json_value.proofs.Merging.{member_over, member_beside}
use Rattle.json_value.proofs.pair.put_pair.Goals as goal

pub returns-in-Some-clause-ok : goal.returns-in-Some-clause-ok
returns-in-Some-clause-ok c =
    let k = text_bytes c.args.pair.key in
    let items = c.args.members.now.items in
    let first = first_moved c.key.result.now k c.as_slice.result.now items c.in-Some.i c.key.ensures c.as_slice.ensures.value c.in-Some.ensures.first in
    insert_over k items c.in-Some.i c.index_mut.result.now c.index_mut.ensures.value first c.args.pair.value

pub returns-in_ok-push-in-None-clause-ok : goal.returns-in_ok-push-in-None-clause-ok
returns-in_ok-push-in-None-clause-ok c =
    let k = text_bytes c.args.pair.key in
    let items = c.args.members.now.items in
    let none = none_moved c.key.result.now k c.as_slice.result.now items c.key.ensures c.as_slice.ensures.value c.in-None.ensures.none in
    insert_beside k items c.args.pair.key c.args.pair.value refl none
    ∙ ap (λ vs. list_pairs (map pair_of vs)) (sym c.in_ok-push-in-None.ensures.items)

pub returns-in-Some-clause-members : goal.returns-in-Some-clause-members
returns-in-Some-clause-members c =
    let k = text_bytes c.args.pair.key in
    let items = c.args.members.now.items in
    let first = first_moved c.key.result.now k c.as_slice.result.now items c.in-Some.i c.key.ensures c.as_slice.ensures.value c.in-Some.ensures.first in
    member_over c.args.pair items c.in-Some.i c.index_mut.result.now c.index_mut.ensures.value first

pub returns-in_ok-push-in-None-clause-members : goal.returns-in_ok-push-in-None-clause-members
returns-in_ok-push-in-None-clause-members c =
    let k = text_bytes c.args.pair.key in
    let items = c.args.members.now.items in
    let none = none_moved c.key.result.now k c.as_slice.result.now items c.key.ensures c.as_slice.ensures.value c.in-None.ensures.none in
    c.in_ok-push-in-None.ensures.items ∙ member_beside c.args.pair items none
