use Rattle.std.proofs.Common.{None, option_map, refl, sym, ap, ◌∙◌, arith}
use Rattle.std.proofs.Output.{has_written_append, has_written_of_eq}
use Rattle.json_grammar.specs.Sizes.{nodes}
use Rattle.json_model.specs.Print.{shown}
use Rattle.json_value.specs.Left.{elements_left, members_left}
use Rattle.json_value.specs.Seen.{member_seen, seen, elements_seen, members_seen}
use Rattle.json_doc_print.proofs.TokensGiven.{element_within}
use Rattle.json_value.proofs.Iterations.{next_got}
use Rattle.json_value.proofs.CompactTexts.{list_itself, element_shown, pairs_itself, member_shown, member_within, past_end}
use Rattle.json_value.proofs.display.+text.Goals.{display_elements-in-Some+in_ok-write_str-2+in_ok-show, display_elements-in_default, display_members-in-Some+in_ok-write+in_ok-show, display_members-in_default}
use Rattle.json_value.proofs.display.+text.Goals as goal

pub show-display_elements-requires : goal.show-display_elements-requires
show-display_elements-requires g t c κs within = (omega (arith, ap nodes (list_itself (seen c.args.view) _ c.in-Some.ensures.trees)), within)

pub show-returns-in-Some : goal.show-returns-in-Some
show-returns-in-Some g t c plain ok = has_written_of_eq _ _ _ _ _ (ap (shown None 0) (list_itself (seen c.args.view) _ c.in-Some.ensures.trees)) (c.display_elements.ensures plain ok)

pub show-display_members-requires : goal.show-display_members-requires
show-display_members-requires g t c κs within = (omega (arith, ap nodes (pairs_itself (seen c.args.view) _ c.in-Some-as_object.ensures.trees)), within)

pub show-returns-in-Some-as_object : goal.show-returns-in-Some-as_object
show-returns-in-Some-as_object g t c plain ok = has_written_of_eq _ _ _ _ _ (ap (shown None 0) (pairs_itself (seen c.args.view) _ c.in-Some-as_object.ensures.trees)) (c.display_members.ensures plain ok)

pub display_elements-show-requires : goal.display_elements-show-requires
display_elements-show-requires g t c κs within =
    let ts = elements_seen c.args.array in let i = c.elements.i in
    let got = next_got seen elements_left c.elements.elements c.next.new.self c.next.result ts i c.next.ensures.steps.0 c.elements.invariant.0 in
    (omega (arith, element_within ts i (seen c.in-Some.element) (sym got.0 ∙ ap (option_map seen) c.in-Some.is)), within)

pub display_elements-elements-preserved : goal.display_elements-elements-preserved
display_elements-elements-preserved g t c =
    let ts = elements_seen c.args.array in let i = c.elements.i in
    let got = next_got seen elements_left c.elements.elements c.next.new.self c.next.result ts i c.next.ensures.steps.0 c.elements.invariant.0 in (
      got.1,
      λ plain. let so_far = c.elements.invariant.1 plain in
          elim c.match-next.branch [
            | display_elements-in-Some+in_ok-write_str-2+in_ok-show w ↦
                let comma = has_written_append _ _ _ _ _ _ so_far (w.in_ok-write_str-2.ensures.writes so_far.plain refl) in
                rw w.f-is (has_written_of_eq _ _ _ _ _ (element_shown ts i w.element_separator.result.now (seen w.in-Some.element) w.element_separator.ensures (sym got.0 ∙ ap (option_map seen) w.in-Some.is)) (has_written_append _ _ _ _ _ _ comma (w.in_ok-show.ensures comma.plain refl)))
            | display_elements-in_default w ↦ absurd (omega (arith, past_end ts i (sym got.0 ∙ ap (option_map seen) w.in_default.is)))
          ],
    )

pub display_members-show-requires : goal.display_members-show-requires
display_members-show-requires g t c κs within =
    let ps = members_seen c.args.object in let i = c.members.i in
    let got = next_got member_seen members_left c.members.members c.next.new.self c.next.result ps i c.next.ensures.steps.0 c.members.invariant.0 in
    (omega (arith, member_within ps i c.in-Some.key.now (seen c.in-Some.value) (sym got.0 ∙ ap (option_map member_seen) c.in-Some.is)), within)

pub display_members-members-preserved : goal.display_members-members-preserved
display_members-members-preserved g t c =
    let ps = members_seen c.args.object in let i = c.members.i in
    let got = next_got member_seen members_left c.members.members c.next.new.self c.next.result ps i c.next.ensures.steps.0 c.members.invariant.0 in (
      got.1,
      λ plain. let so_far = c.members.invariant.1 plain in
          elim c.match-next.branch [
            | display_members-in-Some+in_ok-write+in_ok-show w ↦
                let key = has_written_append _ _ _ _ _ _ so_far (w.in_ok-write.ensures.writes so_far.plain refl) in
                rw w.f-is (has_written_of_eq _ _ _ _ _ (member_shown ps i w.element_separator.result.now w.in-Some.key.now (seen w.in-Some.value) w.element_separator.ensures (sym got.0 ∙ ap (option_map member_seen) w.in-Some.is)) (has_written_append _ _ _ _ _ _ key (w.in_ok-show.ensures key.plain refl)))
            | display_members-in_default w ↦ absurd (omega (arith, past_end ps i (sym got.0 ∙ ap (option_map member_seen) w.in_default.is)))
          ],
    )
