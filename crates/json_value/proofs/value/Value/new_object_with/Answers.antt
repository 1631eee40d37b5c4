use Rattle.std.proofs.Common.{List, map, ap, ◌∙◌}
use Rattle.json_grammar.specs.Tree.{pairs, list_pairs}
use Rattle.json_value.specs.Denotes.{pair_of}
use Rattle.json_value.specs.Rows.{owned}
use Rattle.json_value.specs.declared.pair.Keyed.{Keyed}
use Rattle.json_value.specs.declared.value.Value.{Value}
use Rattle.json_value.proofs.ValueLevels.{object_tree}
use Rattle.json_value.proofs.value.Value.new_object_with.Goals as goal

pub returns-clause-tree : goal.returns-clause-tree
returns-clause-tree c =
    object_tree (owned c.in_ok-members.members) ∙ ap (λ (ps : List (Keyed Value)). pairs (list_pairs (map pair_of ps))) c.in_ok-members.ensures.items
