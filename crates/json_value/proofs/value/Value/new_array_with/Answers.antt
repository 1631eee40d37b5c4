use Rattle.std.proofs.Common.{◌∙◌, ap, map, List}
use Rattle.json_grammar.specs.Tree.{list, list_trees}
use Rattle.json_value.specs.Denotes.{tree_of}
use Rattle.json_value.specs.Rows.{owned}
use Rattle.json_value.specs.declared.value.Value.{Value}
use Rattle.json_value.proofs.ValueLevels.{array_tree}
use Rattle.json_value.proofs.value.Value.new_array_with.Goals as goal

pub returns-clause-tree : goal.returns-clause-tree
returns-clause-tree c = array_tree (owned c.in_ok-items.items) ∙ ap (λ (vs : List Value). list (list_trees (map tree_of vs))) c.in_ok-items.ensures.items
