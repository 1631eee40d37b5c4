use Rattle.std.proofs.Common.{◌≡◌, sym, ap, ◌∙◌}
use Rattle.json_grammar.specs.Tree.{list_pairs}
use Rattle.json_model.specs.Edit.{without_key}
use Rattle.json_value.specs.Touched.{unkeyed}
use Rattle.json_value.proofs.AppliedTrees.{all_taken_out}
use Rattle.json_value.proofs.HasLists.{has_items}
use Rattle.json_containers.specs.Members.{own_members, key_at}
use Rattle.json_containers.proofs.Entries.{own_pairs}
use Rattle.json_containers.proofs.entry.OccupiedEntry.remove.Goals as goal

pub returns-clause-removal : goal.returns-clause-removal
returns-clause-removal c =
    let o = c.args.self.object.now in
    let at = c.args.self.at in
    let ms = own_members o in
    let k = key_at ms at in
    let same : c.owned_mut-pairs.result.now.items ≡ ms = sym (ap own_members c.owned_mut-pairs.ensures.value) in
    let left : c.take_all.new.pairs.items ≡ unkeyed k ms = c.take_all.ensures.left ∙ ap (λ ns. unkeyed (key_at ns at) ns) same in
    sym (all_taken_out k ms c.take_all.new.pairs.items left) ∙ ap (λ ps. without_key k (list_pairs ps)) (sym (own_pairs o (has_items o at c.args.self.within)))
