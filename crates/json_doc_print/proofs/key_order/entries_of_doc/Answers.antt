use Rattle.std.proofs.Common.{[], ◌∷◌, ◌++◌, sym, ap, subst, ◌∙◌, append_assoc}
use Rattle.json_doc.specs.Left.{places_of_pairs}
use Rattle.json_doc_print.specs.KeyOrder.{AreEntries, numbers_in, key_before}
use Rattle.json_doc_print.proofs.KeyFronts.{one_more_entry, one_more_number}
use Rattle.json_doc_print.proofs.key_order.entries_of_doc.Goals as goal

pub loop-value-preserved : goal.loop-value-preserved
loop-value-preserved c =
    let es = c.loop-value.entries.items in let e = c.entry_of.result in let h = c.loop-value.invariant in
    let rest = places_of_pairs c.next.new.self in (
      tt,
      tt,
      ap (λ xs. numbers_in xs ++ rest) c.in_ok-push.ensures.items ∙ ap (λ ns. ns ++ rest) (one_more_number es e) ∙ append_assoc (numbers_in es) (e.number ∷ []) rest ∙ ap (λ n. numbers_in es ++ n ∷ rest) (c.entry_of.ensures.number ∙ c.place.ensures.at)
          ∙ ap (λ ns. numbers_in es ++ ns) (sym c.in-Some.ensures.steps.1) ∙ h.2,
      subst (AreEntries (key_before c.args.doc.now)) (sym c.in_ok-push.ensures.items) (one_more_entry (key_before c.args.doc.now) es e h.3 c.entry_of.ensures.entry),
    )
