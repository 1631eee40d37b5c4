use Rattle.std.proofs.Common.{ap, sym, ◌∙◌, map, arith, option_map}
use Rattle.std.proofs.lemmas.Result.{IfOk-weaker}
use Rattle.json_grammar.specs.Sizes.{nodes}
use Rattle.json_grammar.specs.Tree.{Pairs, list_pairs}
use Rattle.json_diff.specs.MergeDiff.{object_patch, differing_patch, changes}
use Rattle.json_diff.specs.MergeDiffViews.{members_in}
use Rattle.json_value.specs.Denotes.{pair_of}
use Rattle.json_value.specs.Left.{members_left}
use Rattle.json_value.specs.Seen.{seen, members_seen}
use Rattle.json_value.proofs.SameViews.{object_seen}
use Rattle.json_value.specs.Steps.{tree_or_null}
use Rattle.json_diff.proofs.MergeDiffViews.{changes_after}
use Rattle.json_patch.proofs.MergedMembers.{fewer_nodes}
use Rattle.json_diff.proofs.merge_between.+merge_diff.Goals as goal

pub changed_member-object_patch-requires : goal.changed_member-object_patch-requires
changed_member-object_patch-requires t c = (omega (arith, ap nodes (object_seen (seen c.args.new) _ c.in-Some.ensures.trees)), tt)

pub changed_member-returns-in-Some-clause-ok : goal.changed_member-returns-in-Some-clause-ok
changed_member-returns-in-Some-clause-ok t c =
    let qs = list_pairs (members_seen c.in-Some.members) in
    let was = ap (differing_patch (tree_or_null (option_map seen c.args.old))) (object_seen (seen c.args.new) (members_seen c.in-Some.members) c.in-Some.ensures.trees) in
    IfOk-weaker c.object_patch.result _ _ (λ o e. was ∙ ap (λ (ps : Pairs). object_patch ps qs (changes ps qs)) (sym c.object_in.ensures) ∙ e) c.object_patch.ensures.ok

pub push_changes-members-preserved : goal.push_changes-members-preserved
push_changes-members-preserved t c =
    let k = c.in-Some.key.now in
    let v = seen c.in-Some.value in
    let all = members_left c.members.key-iterator in
    let left = members_left c.next.new.self in
    let after = changes_after (map pair_of c.members.members.items) (map pair_of c.push_change.new.members.items) k v (members_in c.args.from) all left (option_map seen c.find_member.result) c.in_ok-push_change.field-0 c.in-Some.ensures.steps.0 c.find_member.ensures c.in_ok-push_change.ensures.ok c.if-not-branch.false in
    (c.members.invariant.0 ∙ after, omega (arith, fewer_nodes all left k v c.in-Some.ensures.steps.0, c.members.invariant.1))
