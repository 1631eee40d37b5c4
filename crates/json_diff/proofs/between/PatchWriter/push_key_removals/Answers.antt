use Rattle.std.proofs.Common.{ap, ◌∙◌, ◌∷◌, [], not}
use Rattle.json_grammar.specs.Tree.{list_pairs}
use Rattle.json_diff.specs.Diff.{key_removals}
use Rattle.json_patch.specs.Patch.{remove}
use Rattle.json_value.specs.Left.{members_left}
use Rattle.json_value.specs.Seen.{seen, members_seen}
use Rattle.json_diff.proofs.DiffParts.{removal_more, removal_none}
use Rattle.json_diff.proofs.DiffWriting.{remains_as, remains_more}
use Rattle.json_diff.proofs.MergeDiffViews.{key_seen}
use Rattle.json_diff.proofs.between.PatchWriter.push_key_removals.Goals as goal

pub members-preserved-in-Continue-1 : goal.members-preserved-in-Continue-1
members-preserved-in-Continue-1 c =
    let qs = members_seen c.args.to in
    let k = c.in-Some.key.now in
    let v = seen c.in-Some.field-0-1 in
    let all = members_left c.members.key-iterator in
    let left = members_left c.next.new.self in
    let none = key_seen seen k qs c.get.result c.get.ensures.tree ∙ c.is_none.ensures ∙ ap not c.if-is_none.true in
    remains_more c.args.self.now c.members.self c.push_removal_at.new.self (remove (k ∷ []) ∷ []) (key_removals (list_pairs qs) (list_pairs left)) (key_removals (list_pairs qs) (list_pairs all)) (key_removals (list_pairs qs) (list_pairs (members_seen c.args.from)))
    (removal_more (list_pairs qs) k v all left c.in-Some.ensures.steps.0 none) c.members.invariant c.in_ok-push_removal_at.ensures.ok

pub members-preserved : goal.members-preserved
members-preserved c =
    let qs = members_seen c.args.to in
    let k = c.in-Some.key.now in
    let v = seen c.in-Some.field-0-1 in
    let all = members_left c.members.key-iterator in
    let left = members_left c.next.new.self in
    let there = key_seen seen k qs c.get.result c.get.ensures.tree ∙ c.is_none.ensures ∙ ap not c.if-is_none.false in
    remains_as c.args.self.now c.members.self (key_removals (list_pairs qs) (list_pairs all)) (key_removals (list_pairs qs) (list_pairs left)) (key_removals (list_pairs qs) (list_pairs (members_seen c.args.from)))
    (removal_none (list_pairs qs) k v all left c.in-Some.ensures.steps.0 there) c.members.invariant
