use Rattle.std.proofs.Common.{map, sym, ap, ◌∙◌}
use Rattle.json_grammar.specs.Tree.{list, list_trees}
use Rattle.json_model.specs.Same.{same}
use Rattle.json_value.specs.Denotes.{tree_of}
use Rattle.json_value.specs.Seen.{list_of}
use Rattle.json_value.proofs.SameViews.{array_seen}
use Rattle.json_value.proofs.value.Value.eq_slice.Goals as goal

pub returns-in-Some : goal.returns-in-Some
returns-in-Some c =
    c.are_arrays_same.ensures ∙ sym (ap (λ t. same t (list (list_trees (map tree_of c.args.items.now)))) (array_seen (tree_of c.args.self.now) _ (c.in-Some.ensures.trees ∙ ap list_of c.view.ensures.tree)))
