use Rattle.std.proofs.Common.{ap, sym, ◌∙◌, ◌+◌, ◌∷◌, [], map, drop}
use Rattle.json_diff.specs.Diff.{element_removals}
use Rattle.json_patch.specs.Patch.{remove}
use Rattle.json_value.specs.Seen.{seen}
use Rattle.json_diff.proofs.DiffParts.{items_left}
use Rattle.json_diff.proofs.DiffWriting.{remains_more}
use Rattle.json_diff.proofs.between.PatchWriter.push_element_removals.Goals as goal

pub elements-preserved : goal.elements-preserved
elements-preserved c =
    let xs = c.args.elements.now in
    let i = c.elements._element-index in
    let j = c.args.index in
    let rest = element_removals j (drop (i + 1) (map seen xs)) in
    remains_more c.args.self.now c.elements.self c.push_removal_at.new.self (remove (c.format-token.result.now ∷ []) ∷ []) rest (element_removals j (drop i (map seen xs))) (element_removals j (map seen xs))
    (ap (element_removals j) (items_left seen xs i c._element-item.result c.elements-test.true c._element-item.is) ∙ ap (λ k. remove (k ∷ []) ∷ rest) (sym c.format-token.ensures.text)) c.elements.invariant c.in_ok-push_removal_at.ensures.ok
