use Rattle.std.proofs.Common.{◌≡◌, ◌-◌, ◌++◌, suc, sym, ap, subst, ◌∙◌, length, map, arith}
use Rattle.std.proofs.lemmas.List.Elements.{All-push}
use Rattle.std.specs.List.{All}
use Rattle.json_grammar.specs.Tree.{list_pairs}
use Rattle.json_value.specs.Left.{members_left, members_targets_left}
use Rattle.json_value.specs.Seen.{seen}
use Rattle.json_value.specs.TargetParts.{members_targets}
use Rattle.json_value.specs.ViewTargets.{view_target}
use Rattle.json_history.specs.Change.{members_named}
use Rattle.json_history.specs.ChangeTrees.{removed_member}
use Rattle.json_history.specs.SharedParts.{MemberShares}
use Rattle.json_history.proofs.SharedTargets.{left_behind, member_shares, named_here, named_after, copied_before}
use Rattle.json_history.proofs.edit_change.members_with_key.Goals as goal
use Rattle.json_history.proofs.edit_change.members_with_key.Goals.{then-eq+in_ok-copy_member_at+in_ok-push, else-eq}

pub loop-name-preserved : goal.loop-name-preserved
loop-name-preserved c =
    let l = c.loop-name in
    let h = l.invariant in
    let k = c.args.key.now in
    let name = c.in-Some.name.now in
    let value = c.in-Some.value in
    let len = c.len-len.result in
    let all = members_targets c.args.object in
    let rest = members_left c.next.new.self in
    let more : l.left ≡ suc (length rest) = h.count ∙ ap length c.in-Some.ensures.steps.0 in
    let next : suc (len - l.left) ≡ len - (l.left - 1) = omega arith in
    record {
      again = tt;
      ends = tt;
      count = omega arith;
      below = omega arith;
      members =
          ap (λ n. map removed_member c.if-eq.list.items ++ members_named n k (list_pairs rest)) (sym next)
          ∙ elim c.if-eq.branch [
            | then-eq+in_ok-copy_member_at+in_ok-push w ↦
                ap (λ es. map removed_member es ++ members_named (suc (len - l.left)) k (list_pairs rest)) (ap (λ v. v.items) w.list-is ∙ w.in_ok-push.ensures.items)
                ∙ copied_before l.list.items w.in_ok-copy_member_at.field-0 _ _ w.in_ok-copy_member_at.ensures.member
                ∙ ap (λ xs. map removed_member l.list.items ++ xs) (sym (named_here (len - l.left) k name (seen value) _ rest (sym c.eq.ensures ∙ w.if-eq.true) c.in-Some.ensures.steps.0)) ∙ h.members
            | else-eq w ↦
                ap (λ v. map removed_member v.items ++ members_named (suc (len - l.left)) k (list_pairs rest)) w.list-is
                ∙ ap (λ xs. map removed_member l.list.items ++ xs) (sym (named_after (len - l.left) k name (seen value) _ rest (sym c.eq.ensures ∙ w.if-eq.false) c.in-Some.ensures.steps.0)) ∙ h.members
          ];
      targets = left_behind all len l.left (length rest) (name, view_target value) (members_targets_left l.name-iterator) _ more h.below h.targets c.in-Some.ensures.steps.1;
      shares = elim c.if-eq.branch [
        | then-eq+in_ok-copy_member_at+in_ok-push w ↦
            let new = member_shares all (len - l.left) (name, view_target value) _ _ w.in_ok-copy_member_at.field-0 h.targets c.in-Some.ensures.steps.1 w.in_ok-copy_member_at.ensures.index w.in_ok-copy_member_at.ensures.shares in
            subst (All (MemberShares all)) (sym (ap (λ v. v.items) w.list-is ∙ w.in_ok-push.ensures.items)) (All-push (MemberShares all) l.list.items w.in_ok-copy_member_at.field-0 h.shares new)
        | else-eq w ↦ subst (λ v. All (MemberShares all) v.items) (sym w.list-is) h.shares
      ];
    }
