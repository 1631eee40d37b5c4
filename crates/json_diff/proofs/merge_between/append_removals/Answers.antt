use Rattle.std.proofs.Common.{List, ◌++◌, ℕ, sym, ap, ◌∙◌, map, not}
use Rattle.json_grammar.specs.Tree.{Tree, list_pairs}
use Rattle.json_diff.specs.MergeDiff.{removals}
use Rattle.json_value.specs.Denotes.{pair_of}
use Rattle.json_value.specs.Left.{members_left}
use Rattle.json_value.specs.Seen.{seen, members_seen}
use Rattle.json_diff.proofs.MergeDiffViews.{removal_more, removal_none, key_seen, pushed}
use Rattle.json_diff.proofs.merge_between.append_removals.Goals as goal

pub members-preserved-in-Continue-branch-2 : goal.members-preserved-in-Continue-branch-2
members-preserved-in-Continue-branch-2 c =
    let qs = members_seen c.args.to in
    let k = c.in-Some.name.now in
    let items = c.members.members.items in
    let left = members_left c.next.new.self in
    let none = key_seen seen k qs c.get.result c.get.ensures.tree ∙ c.is_none.ensures ∙ ap not c.if-is_none.true in
    c.members.invariant ∙ ap (λ (ms : List (List ℕ × Tree)). map pair_of items ++ removals (list_pairs qs) (list_pairs ms)) c.in-Some.ensures.steps.0
    ∙ removal_more (map pair_of items) (list_pairs qs) k (seen c.in-Some.field-0-1) left none
    ∙ ap (λ (ms : List (List ℕ × Tree)). ms ++ removals (list_pairs qs) (list_pairs left)) (sym (pushed items _ c.new.result _ k _ _ c.in_ok-push.ensures.items c.new.ensures.pair c.in_ok-key.ensures.text c.new_null.ensures))

pub members-preserved : goal.members-preserved
members-preserved c =
    let qs = members_seen c.args.to in
    let k = c.in-Some.name.now in
    let items = c.members.members.items in
    let there = key_seen seen k qs c.get.result c.get.ensures.tree ∙ c.is_none.ensures ∙ ap not c.if-is_none.false in
    c.members.invariant ∙ ap (λ (ms : List (List ℕ × Tree)). map pair_of items ++ removals (list_pairs qs) (list_pairs ms)) c.in-Some.ensures.steps.0
    ∙ removal_none (map pair_of items) (list_pairs qs) k (seen c.in-Some.field-0-1) (members_left c.next.new.self) there
