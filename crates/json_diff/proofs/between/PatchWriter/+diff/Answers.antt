use Rattle.std.proofs.Common.{◌≡◌, refl, sym, ap, ap₂, ◌∙◌, take, ◌+◌, ◌-◌, ◌++◌, map, drop, length, arith, option_map}
use Rattle.std.proofs.lemmas.Result.{on_ok_weaker}
use Rattle.std.proofs.lemmas.List.{drop-map, length-map, take_rest}
use Rattle.json_grammar.specs.Tree.{list, list_pairs, list_trees}
use Rattle.json_diff.specs.Diff.{key_removals, common_back, element_removals, operations_between, members_operations, element_operations}
use Rattle.json_diff.specs.DiffParts.{operations_at}
use Rattle.json_value.specs.Left.{members_left}
use Rattle.json_value.specs.Seen.{seen, elements_seen, members_seen}
use Rattle.json_diff.proofs.DiffParts.{member_more, element_more, elements_end, items_left, element_nodes, keyed_operations, cut_operations, fewer_seen}
use Rattle.json_diff.proofs.DiffWriting.{writes_child, writes_both, writes_as, remains_more, remains_last}
use Rattle.json_diff.proofs.MergeDiffViews.{first_seen}
use Rattle.json_patch.proofs.MergedMembers.{fewer_nodes}
use Rattle.json_diff.proofs.between.PatchWriter.+diff.Goals as goal

pub push_child_at-returns-clause-ok : goal.push_child_at-returns-clause-ok
push_child_at-returns-clause-ok t c =
    writes_child c.args.self.now c.push_token.new.self c.push_child.new.self (record c.push_child.new.self { path = c.truncate.new.self }) c.args.token.now c.in_ok-len.len (option_map seen c.args.from) (seen c.args.to) c.in_ok-len.ensures.path
    c.in_ok-len.ensures.operations c.in_ok-len.ensures.ok c.in_ok-push_child.ensures.ok refl c.truncate.ensures.bytes

pub push_members-members-preserved : goal.push_members-members-preserved
push_members-members-preserved t c =
    let k = c.in-Some.key.now in
    let v = seen c.in-Some.value in
    let all = members_left c.members.key-iterator in
    let left = members_left c.next.new.self in
    let from = members_seen c.args.from in
    let o = option_map seen c.get.result in
    let rest = members_operations (list_pairs from) in
    let more = member_more (list_pairs from) k v o all left c.in-Some.ensures.steps.0 (c.get.ensures.tree ∙ sym (first_seen k from)) in (
      remains_more c.args.self.now c.members.self c.push_child_at.new.self (operations_at k o v) (rest (list_pairs left)) (rest (list_pairs all)) (rest (list_pairs (members_seen c.args.to))) more c.members.invariant.0 c.in_ok-push_child_at.ensures.ok,
      omega (arith, fewer_nodes all left k v c.in-Some.ensures.steps.0, c.members.invariant.1),
    )

pub push_elements-push_child_at-requires : goal.push_elements-push_child_at-requires
push_elements-push_child_at-requires t c =
    let to = c.args.to.now in
    let i = c.loop-i.i in
    let x = c.index-to-i.result in (omega (arith, element_nodes (map seen to) i (seen x) (items_left seen to i x c.loop-i-test.true c.index-to-i.is)), tt)

pub push_elements-loop-i-preserved : goal.push_elements-loop-i-preserved
push_elements-loop-i-preserved t c =
    let to = c.args.to.now in
    let i = c.loop-i.i in
    let n = length to in
    let x = c.index-to-i.result in
    let ts = map seen c.args.from.now in
    let us = map seen to in
    let o = option_map seen c.element_at.result in
    let rest = element_operations (i + 1) (drop (i + 1) ts) (n - (i + 1)) (list_trees (drop (i + 1) us)) in
    let more = element_more ts us i n (seen x) o c.loop-i-test.true c.element_at.ensures (items_left seen to i x c.loop-i-test.true c.index-to-i.is) ∙ ap (λ k. operations_at k o (seen x) ++ rest) (sym c.format.ensures.text) in
    remains_more c.args.self.now c.loop-i.self c.push_child_at.new.self (operations_at c.format.result.now o (seen x)) rest (element_operations i (drop i ts) (n - i) (list_trees (drop i us))) (element_operations 0 ts n (list_trees us)) more c.loop-i.invariant
    c.in_ok-push_child_at.ensures.ok

pub push_elements-returns-clause-ok : goal.push_elements-returns-clause-ok
push_elements-returns-clause-ok t c =
    let from = c.args.from.now in
    let to = c.args.to.now in
    let i = c.loop-i.i in
    let n = length to in
    let ts = map seen from in
    let us = map seen to in
    let long : length us ≡ n = length-map to seen in
    let rest = take (length from - n) (drop n from) in
    let left = elements_end ts us i n (n - i) (omega arith) (omega arith) ∙ ap (element_removals n) (drop-map seen n from ∙ ap (map seen) (sym (take_rest from n))) in
    on_ok_weaker c.push_element_removals.result
    (remains_last c.args.self.now c.loop-i.self c.push_element_removals.new.self (element_removals n (map seen rest)) (element_operations i (drop i ts) (n - i) (list_trees (drop i us))) (element_operations 0 ts n (list_trees us)) left c.loop-i.invariant)
    c.push_element_removals.ensures.ok

pub push_arrays-push_elements-requires : goal.push_arrays-push_elements-requires
push_arrays-push_elements-requires t c =
    let k = c.len-2.result - c.in_ok-back.back in (omega (arith, fewer_seen seen k c.deref-2.result.now (elements_seen c.args.to) (ap (map seen) c.deref-2.ensures.value ∙ c.in_ok-new.ensures.ok)), tt)

pub push_arrays-returns-clause-ok : goal.push_arrays-returns-clause-ok
push_arrays-returns-clause-ok t c =
    let ts = elements_seen c.args.from in
    let us = elements_seen c.args.to in
    let n = c.in_ok-back.back in
    let xs = c.deref.result.now in
    let ys = c.deref-2.result.now in
    let k = c.len.result - n in
    let l = c.len-2.result - n in
    let back = c.in_ok-back.ensures.ok ∙ ap₂ common_back (ap (map seen) c.as_slice.ensures.value ∙ c.in_ok-old.ensures.ok) (ap (map seen) c.as_slice-2.ensures.value ∙ c.in_ok-new.ensures.ok) in
    let same = cut_operations seen xs ys ts us n k l (ap (map seen) c.deref.ensures.value ∙ c.in_ok-old.ensures.ok) (ap (map seen) c.deref-2.ensures.value ∙ c.in_ok-new.ensures.ok) (omega arith) (omega arith) back (omega arith) (omega arith) in
    on_ok_weaker c.push_elements.result
    (writes_as c.args.self.now c.push_elements.new.self (element_operations 0 (map seen (take k xs)) (length (take l ys)) (list_trees (map seen (take l ys)))) (operations_between (list (list_trees ts)) (list (list_trees us))) same) c.push_elements.ensures.ok

pub push_operations-returns-in-Some-clause-ok : goal.push_operations-returns-in-Some-clause-ok
push_operations-returns-in-Some-clause-ok t c =
    let from = seen c.args.from in
    let to = seen c.args.to in
    let ps = members_seen c.in-Some.old in
    let qs = members_seen c.in-Some.new in
    let all = keyed_operations from to ps qs (sym c.in-Some.ensures.found) c.in-Some.ensures.from c.in-Some.ensures.to in
    on_ok_weaker c.push_members.result
    (writes_both c.args.self.now c.push_key_removals.new.self c.push_members.new.self (key_removals (list_pairs qs) (list_pairs ps)) (members_operations (list_pairs ps) (list_pairs qs)) (operations_between from to) all c.in_ok-push_key_removals.ensures.ok) c.push_members.ensures.ok
