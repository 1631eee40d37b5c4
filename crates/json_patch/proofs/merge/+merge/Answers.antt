use Rattle.std.proofs.Common.{map, refl, sym, ap, ◌∙◌, arith}
use Rattle.std.proofs.lemmas.Result.{on_ok_weaker}
use Rattle.json_grammar.specs.Sizes.{nodes}
use Rattle.json_grammar.specs.Tree.{Tree, list_pairs}
use Rattle.json_model.specs.Edit.{inserted}
use Rattle.json_patch.specs.KeyIndex.{HasStarts}
use Rattle.json_patch.specs.Merge.{merge_patched, members_or_none}
use Rattle.json_value.specs.Denotes.{tree_of, pair_of}
use Rattle.json_value.specs.Left.{members_left}
use Rattle.json_value.specs.Seen.{seen, members_seen}
use Rattle.json_value.specs.declared.value.Value.{Value}
use Rattle.json_value.proofs.AppliedTrees.{first_moved, none_moved, insert_over}
use Rattle.json_value.proofs.SameViews.{object_seen}
use Rattle.json_patch.proofs.KeyStarts.{starts_set}
use Rattle.json_patch.proofs.MergedMembers.{fewer_nodes, first_is, first_null, merged_more, object_merged}
use Rattle.json_patch.proofs.merge.+merge.Goals as goal

pub merge_in-merge_object_in-requires : goal.merge_in-merge_object_in-requires
merge_in-merge_object_in-requires t c = (omega (arith, ap nodes (object_seen (seen c.args.patch) _ c.in-Some.ensures.trees)), tt)

pub merge_in-returns-in-Some-clause-ok : goal.merge_in-returns-in-Some-clause-ok
merge_in-returns-in-Some-clause-ok t c =
    on_ok_weaker c.merge_object_in.result (λ e. e ∙ sym (ap (merge_patched (tree_of c.args.value.now)) (object_seen (seen c.args.patch) (members_seen c.in-Some.members) c.in-Some.ensures.trees))) c.merge_object_in.ensures.ok

pub merge_members-members-preserved : goal.merge_members-members-preserved
merge_members-members-preserved t c =
    let k = c.in-Some.key.now in
    let v = seen c.in-Some.value in
    let all = members_left c.members.key-iterator in
    let left = members_left c.next.new.self in
    let more = merged_more (list_pairs (map pair_of c.members.pairs.items)) (list_pairs (map pair_of c.merge_member.new.pairs.items)) all left k v c.in-Some.ensures.steps.0 c.in_ok-merge_member.ensures.ok in
    (c.members.invariant.0 ∙ more, omega (arith, fewer_nodes all left k v c.in-Some.ensures.steps.0, c.members.invariant.1), c.in_ok-merge_member.ensures.starts)

pub merge_object_in-returns-clause-ok : goal.merge_object_in-returns-clause-ok
merge_object_in-returns-clause-ok t c =
    on_ok_weaker c.merge_object.result
    (object_merged (members_or_none (tree_of c.args.value.now)) (list_pairs (members_seen c.args.members)) c.become_object.new.value c.in-Some.object.now c.merge_object.new.object c.become_object.ensures c.in-Some.ensures.value)
    c.merge_object.ensures.ok

pub merge_value-returns-in-Some-clause-ok : goal.merge_value-returns-in-Some-clause-ok
merge_value-returns-in-Some-clause-ok t c =
    let k = c.args.key.now in
    let items = c.args.pairs.now.items in
    let ps = list_pairs (map pair_of items) in
    let p = c.index_mut-member.result.now in
    let first = first_moved k k c.as_slice.result.now items c.in-Some.i refl c.as_slice.ensures.value c.in-Some.ensures.first in
    let v = seen c.args.value in
    let was = ap (λ (x : Value). merge_patched (tree_of x) v) c.value_mut.ensures.value ∙ ap (λ (u : Tree). merge_patched u v) (sym (first_is k items c.in-Some.i p c.index_mut-member.ensures.value first)) in
    on_ok_weaker c.merge_in.result (λ e. sym (insert_over k items c.in-Some.i p c.index_mut-member.ensures.value first c.merge_in.new.value) ∙ ap (λ (u : Tree). inserted k u ps) (e ∙ was)) c.merge_in.ensures.ok

pub merge_value-returns-in-Some-clause-starts : goal.merge_value-returns-in-Some-clause-starts
merge_value-returns-in-Some-clause-starts t c =
    let items = c.args.pairs.now.items in
    let p = c.index_mut-member.result.now in
    let before : HasStarts c.args.index.now items = assumption (c.requires) in
    let kept = starts_set c.args.index.now.starts.items c.args.index.now.removed items c.in-Some.i p c.merge_in.new.value c.index_mut-member.ensures.value before in
    on_ok_weaker c.merge_in.result (λ e. kept) c.merge_in.ensures.ok

pub merge_value-returns-in_ok-merge_in-in-None-clause-ok : goal.merge_value-returns-in_ok-merge_in-in-None-clause-ok
merge_value-returns-in_ok-merge_in-in-None-clause-ok t c =
    let k = c.args.key.now in
    let items = c.args.pairs.now.items in
    let ps = list_pairs (map pair_of items) in
    let none = none_moved k k c.as_slice.result.now items refl c.as_slice.ensures.value c.in-None.ensures.none in
    let v = seen c.args.value in
    let was = c.in_ok-merge_in-in-None.ensures.ok ∙ ap (λ (u : Tree). merge_patched u v) (c.new_null-member.ensures ∙ sym (first_null k ps none)) in
    on_ok_weaker c.append_member.result (λ e. e ∙ ap (λ (u : Tree). inserted k u ps) was) c.append_member.ensures.ok
