use Rattle.std.proofs.Common.{map, Some, sym, ap, ◌∙◌}
use Rattle.json_grammar.specs.Tree.{list_pairs}
use Rattle.json_value.specs.Denotes.{text_bytes}
use Rattle.json_value.specs.Edits.{path_steps}
use Rattle.json_value.specs.Seen.{seen, members_seen}
use Rattle.json_value.specs.TargetParts.{members_targets, target_along}
use Rattle.json_value.specs.ViewTargets.{view_target}
use Rattle.json_history.specs.Change.{put_pairs, members_named}
use Rattle.json_history.specs.ChangeTrees.{removed_member}
use Rattle.json_history.proofs.EditChanges.{key_change_none, key_change_some, removed_members_empty, removed_members_nonempty}
use Rattle.json_history.proofs.edit_change.change_of_removed_members.Goals as goal

pub returns-then-is_empty-clause-tree_change : goal.returns-then-is_empty-clause-tree_change
returns-then-is_empty-clause-tree_change c =
    let k = text_bytes c.args.key.now in
    let ps = list_pairs (members_seen c.in-Some.object) in
    key_change_none (path_steps c.args.path.now) k (seen c.args.target) (members_seen c.in-Some.object) (sym c.in-Some.ensures.trees)
    (ap (λ n. members_named 0 n ps) (sym c.as_str.ensures) ∙ sym c.in_ok-list.ensures.members ∙ removed_members_empty c.in_ok-list.list.items _ c.in_ok-list.list.ok.0 (sym c.is_empty.ensures ∙ c.if-is_empty.true))

pub returns-clause-tree_change : goal.returns-clause-tree_change
returns-clause-tree_change c =
    let k = text_bytes c.args.key.now in
    let p = path_steps c.args.path.now in
    let ps = list_pairs (members_seen c.in-Some.object) in
    let same = c.in_ok-list.ensures.members ∙ ap (λ n. members_named 0 n ps) c.as_str.ensures in
    ap (λ q. Some (put_pairs q (map removed_member c.in_ok-list.list.items))) c.in_ok-path.ensures.path
    ∙ ap (λ es. Some (put_pairs p es)) same
    ∙ key_change_some p k (seen c.args.target) (members_seen c.in-Some.object) (sym c.in-Some.ensures.trees)
    (λ e. removed_members_nonempty c.in_ok-list.list.items _ c.in_ok-list.list.ok.0 (sym c.is_empty.ensures ∙ c.if-is_empty.false) (same ∙ e))

pub returns-clause-shares : goal.returns-clause-shares
returns-clause-shares c root there =
    record {
      target = view_target c.args.target;
      members = members_targets c.in-Some.object;
      there = ap (λ q. target_along q root) c.in_ok-path.ensures.path ∙ there;
      object = sym c.in-Some.ensures.targets;
      shared = c.in_ok-list.ensures.shares;
    }
