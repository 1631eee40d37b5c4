use Rattle.std.proofs.Common.{◌+◌, ◌&&◌, is_some, option_map, drop, take, sym, ap, ap₂, ◌∙◌, arith}
use Rattle.std.specs.List.{list_all}
use Rattle.std.specs.Option.{option_eq}
use Rattle.json_grammar.specs.Sizes.{nodes}
use Rattle.json_grammar.specs.Tree.{list_trees}
use Rattle.json_model.specs.Same.{same, trees_same}
use Rattle.json_value.specs.SameMembers.{agree_at, keys_in}
use Rattle.json_value.specs.Left.{elements_left, members_left}
use Rattle.json_value.specs.Seen.{member_seen}
use Rattle.json_value.specs.Seen.{seen, elements_seen, members_seen, first_of}
use Rattle.json_value.proofs.Iterations.{next_got}
use Rattle.json_value.proofs.MatchedMembers.{matched_same, matched_next, matched_whole, differ_there, equal_keys}
use Rattle.json_value.proofs.SameViews.{nodes_in, element_nodes, member_nodes, array_seen, object_seen, lengths_apart, trees_step, key_of_pair, no_key_at, value_first, passed_before, all_fail, all_more, take_more, members_apart, members_same}
use Rattle.json_value.proofs.equality.+same.Goals.{are_firsts_same-in-Some+else-not-has_before, are_firsts_same-else-not-has_before-via-then-not-has_before+else-not-are_both_same, are_firsts_same-else-not-has_before-via-else-not-has_before, are_firsts_same-in_default}
use Rattle.json_value.proofs.equality.+same.Goals as goal

pub are_arrays_same-returns-then-len : goal.are_arrays_same-returns-then-len
are_arrays_same-returns-then-len t c = sym (lengths_apart _ _ (λ e. c.if-len.true (c.len-len.ensures ∙ e ∙ sym c.len.ensures)))

pub are_arrays_same-are_both_same-requires : goal.are_arrays_same-are_both_same-requires
are_arrays_same-are_both_same-requires t c =
    let xs = elements_seen c.args.first in let i = c.elements.step in
    let a = next_got seen elements_left c.elements.elements c.next.new.self c.next.result xs i c.next.ensures.steps.0 c.elements.invariant.0 in
    (omega (arith, element_nodes xs i, ap nodes_in a.0), tt)

pub are_arrays_same-returns-then-not-are_both_same : goal.are_arrays_same-returns-then-not-are_both_same
are_arrays_same-returns-then-not-are_both_same t c =
    let xs = elements_seen c.args.first in let ys = elements_seen c.args.second in let i = c.elements.step in let h = c.elements.invariant in
    let a = next_got seen elements_left c.elements.elements c.next.new.self c.next.result xs i c.next.ensures.steps.0 h.0 in
    let b = next_got seen elements_left c.elements.others c.next-in-elements.new.self c.next-in-elements.result ys i c.next-in-elements.ensures.steps.0 h.1 in
    sym (
    h.2
    ∙ trees_step xs ys i c.are_both_same.result (omega (arith, c.len-len.ensures, c.elements-test.true)) (sym c.len-len.ensures ∙ c.if-len.false ∙ c.len.ensures) (c.are_both_same.ensures ∙ ap₂ (option_eq same) a.0 b.0)
    ∙ ap (λ r. r && trees_same (list_trees (drop (i + 1) xs)) (list_trees (drop (i + 1) ys))) c.if-not-are_both_same.true
    )

pub are_arrays_same-elements-preserved : goal.are_arrays_same-elements-preserved
are_arrays_same-elements-preserved t c =
    let xs = elements_seen c.args.first in let ys = elements_seen c.args.second in let i = c.elements.step in let h = c.elements.invariant in
    let a = next_got seen elements_left c.elements.elements c.next.new.self c.next.result xs i c.next.ensures.steps.0 h.0 in
    let b = next_got seen elements_left c.elements.others c.next-in-elements.new.self c.next-in-elements.result ys i c.next-in-elements.ensures.steps.0 h.1 in (
      a.1,
      b.1,
      h.2
          ∙ trees_step xs ys i c.are_both_same.result (omega (arith, c.len-len.ensures, c.elements-test.true)) (sym c.len-len.ensures ∙ c.if-len.false ∙ c.len.ensures) (c.are_both_same.ensures ∙ ap₂ (option_eq same) a.0 b.0)
          ∙ ap (λ r. r && trees_same (list_trees (drop (i + 1) xs)) (list_trees (drop (i + 1) ys))) c.if-not-are_both_same.false,
    )

pub are_firsts_same-are_both_same-requires : goal.are_firsts_same-are_both_same-requires
are_firsts_same-are_both_same-requires t c =
    let ps = members_seen c.args.first in let i = c.members.i in
    let got = next_got member_seen members_left c.members.members c.next.new.self c.next.result ps i c.next.ensures.steps.0 c.members.invariant.0 in
    (omega (arith, member_nodes ps i _ _ (sym got.0 ∙ ap (option_map member_seen) c.in-Some.is)), tt)

pub are_firsts_same-returns-then-not-are_both_same : goal.are_firsts_same-returns-then-not-are_both_same
are_firsts_same-returns-then-not-are_both_same t c =
    let ps = members_seen c.args.first in let qs = members_seen c.args.second in let i = c.members.i in
    let got = next_got member_seen members_left c.members.members c.next.new.self c.next.result ps i c.next.ensures.steps.0 c.members.invariant.0 in
    let e = sym got.0 ∙ ap (option_map member_seen) c.in-Some.is in
    sym (all_fail (agree_at ps qs) (keys_in ps) i _ (key_of_pair ps i _ _ e)
    (ap₂ (option_eq same) (value_first ps i _ _ e (sym c.has_before.ensures ∙ c.if-not-has_before.true)) (sym c.get.ensures.tree) ∙ sym c.are_both_same.ensures ∙ c.if-not-are_both_same.true))

pub are_firsts_same-members-preserved : goal.are_firsts_same-members-preserved
are_firsts_same-members-preserved t c =
    let ps = members_seen c.args.first in let qs = members_seen c.args.second in let i = c.members.i in let h = c.members.invariant in
    let got = next_got member_seen members_left c.members.members c.next.new.self c.next.result ps i c.next.ensures.steps.0 h.0 in (
      got.1,
      elim c.match-next.branch [
        | are_firsts_same-in-Some+else-not-has_before w ↦
            let e = sym got.0 ∙ ap (option_map member_seen) w.in-Some.is in
            all_more (agree_at ps qs) (keys_in ps) i _ (key_of_pair ps i _ _ e) h.1 (
            elim w.else-not-has_before.branch [
              | are_firsts_same-else-not-has_before-via-then-not-has_before+else-not-are_both_same w' ↦
                  ap₂ (option_eq same) (value_first ps i _ _ e (sym w.has_before.ensures ∙ w'.if-not-has_before.true)) (sym w'.get.ensures.tree) ∙ sym w'.are_both_same.ensures ∙ w'.if-not-are_both_same.false
              | are_firsts_same-else-not-has_before-via-else-not-has_before w' ↦ passed_before (agree_at ps qs) (take i (keys_in ps)) _ (sym w.has_before.ensures ∙ w'.if-not-has_before.false) h.1
            ]
            )
        | are_firsts_same-in_default w ↦ ap (list_all (agree_at ps qs)) (take_more (keys_in ps) i (no_key_at ps i (sym got.0 ∙ ap (option_map member_seen) w.in_default.is))) ∙ h.1
      ],
    )

pub are_members_same-are_same-requires : goal.are_members_same-are_same-requires
are_members_same-are_same-requires t c =
    let ps = members_seen c.args.first in let i = c.members.i in
    let a = next_got member_seen members_left c.members.members c.next.new.self c.next.result ps i c.next.ensures.steps.0 c.members.invariant.0 in
    (omega (arith, member_nodes ps i _ _ (sym a.0 ∙ ap (option_map member_seen) c.in-Some.is)), tt)

pub are_members_same-returns-then-not-are_same : goal.are_members_same-returns-then-not-are_same
are_members_same-returns-then-not-are_same t c =
    let ps = members_seen c.args.first in let qs = members_seen c.args.second in let i = c.members.i in let h = c.members.invariant in
    let a = next_got member_seen members_left c.members.members c.next.new.self c.next.result ps i c.next.ensures.steps.0 h.0 in
    let b = next_got member_seen members_left c.members.others c.next-in-members.new.self c.next-in-members.result qs i c.next-in-members.ensures.steps.0 h.1 in
    sym (differ_there ps qs i _ _ _ _ c.requires h.2 (sym a.0 ∙ ap (option_map member_seen) c.in-Some.is) (sym b.0 ∙ ap (option_map member_seen) c.in-Some-next.is) (equal_keys _ _ c.ne.result c.ne.ensures c.if-ne.false) (sym c.are_same.ensures ∙ c.if-not-are_same.true) (sym c.has_before.ensures ∙ c.if-has_before.false))

pub are_members_same-members-preserved : goal.are_members_same-members-preserved
are_members_same-members-preserved t c =
    let ps = members_seen c.args.first in let qs = members_seen c.args.second in let i = c.members.i in let h = c.members.invariant in
    let a = next_got member_seen members_left c.members.members c.next.new.self c.next.result ps i c.next.ensures.steps.0 h.0 in
    let b = next_got member_seen members_left c.members.others c.next-in-members.new.self c.next-in-members.result qs i c.next-in-members.ensures.steps.0 h.1 in
    (a.1, b.1, matched_next ps qs i _ _ _ _ h.2 (sym a.0 ∙ ap (option_map member_seen) c.in-Some.is) (sym b.0 ∙ ap (option_map member_seen) c.in-Some-next.is) (equal_keys _ _ c.ne.result c.ne.ensures c.if-ne.false) (sym c.are_same.ensures ∙ c.if-not-are_same.false))

pub are_members_same-returns : goal.are_members_same-returns
are_members_same-returns t c =
    let ps = members_seen c.args.first in let qs = members_seen c.args.second in let h = c.members.invariant in
    sym (matched_same ps qs c.requires (matched_whole ps qs c.members.i (omega (arith, c.len-i-end.ensures, c.members-test.false)) c.requires h.2))

pub are_objects_same-returns-then-len : goal.are_objects_same-returns-then-len
are_objects_same-returns-then-len t c = sym (members_apart _ _ (λ e. c.if-len.true (c.len.ensures ∙ e ∙ sym c.len-2.ensures)))

pub are_objects_same-returns-then-are_firsts_same : goal.are_objects_same-returns-then-are_firsts_same
are_objects_same-returns-then-are_firsts_same t c =
    let ps = members_seen c.args.first in let qs = members_seen c.args.second in
    sym (
    members_same ps qs c.are_firsts_same.result (sym c.len.ensures ∙ c.if-len.false ∙ c.len-2.ensures) c.are_firsts_same.ensures
    ∙ ap (λ b. b && list_all (λ k. is_some (first_of k ps)) (keys_in qs)) c.if-are_firsts_same.true
    ∙ sym c.has_keys.ensures
    )

pub are_objects_same-returns-else-are_firsts_same : goal.are_objects_same-returns-else-are_firsts_same
are_objects_same-returns-else-are_firsts_same t c =
    let ps = members_seen c.args.first in let qs = members_seen c.args.second in
    sym (
    members_same ps qs c.are_firsts_same.result (sym c.len.ensures ∙ c.if-len.false ∙ c.len-2.ensures) c.are_firsts_same.ensures
    ∙ ap (λ b. b && list_all (λ k. is_some (first_of k ps)) (keys_in qs)) c.if-are_firsts_same.false
    ∙ sym c.if-are_firsts_same.false
    )

pub are_same-are_arrays_same-requires : goal.are_same-are_arrays_same-requires
are_same-are_arrays_same-requires t c = (omega (arith, ap nodes (array_seen (seen c.args.first) _ c.in-Some.ensures.trees)), tt)

pub are_same-are_objects_same-requires : goal.are_same-are_objects_same-requires
are_same-are_objects_same-requires t c = (omega (arith, ap nodes (object_seen (seen c.args.first) _ c.in-Some-as_object.ensures.trees)), tt)

pub are_same-returns-in-Some-as_array : goal.are_same-returns-in-Some-as_array
are_same-returns-in-Some-as_array t c = c.are_arrays_same.ensures ∙ sym (ap₂ same (array_seen (seen c.args.first) _ c.in-Some.ensures.trees) (array_seen (seen c.args.second) _ c.in-Some-as_array.ensures.trees))

pub are_same-returns-in-Some-as_object-2 : goal.are_same-returns-in-Some-as_object-2
are_same-returns-in-Some-as_object-2 t c =
    c.are_objects_same.ensures ∙ sym (ap₂ same (object_seen (seen c.args.first) _ c.in-Some-as_object.ensures.trees) (object_seen (seen c.args.second) _ c.in-Some-as_object-2.ensures.trees))
