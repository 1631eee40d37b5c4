use Rattle.std.proofs.Common.{◌≡◌, ◌++◌, map}
use Rattle.json_doc.specs.Left.{children_doc, children_places, children_left}
use Rattle.json_value.specs.Denotes.{tree_of}
use Rattle.json_value.specs.Positions.{doc_position, read_position}
use Rattle.json_value.proofs.array.unpack_elements.Given as goal

abbrev pub invariant-loop-element : goal.invariant-loop-element
invariant-loop-element l =
    (goal.iterator-loop-element).can_next l.element-iterator × (goal.iterator-loop-element).is_finite l.element-iterator × (children_doc l.element-iterator ≡ l.doc.value)
    × (map tree_of l.list.items ++ children_left l.element-iterator ≡ children_left l.fn.elements)
    × (map doc_position l.list.items ++ map (read_position l.doc.value) (children_places l.element-iterator) ≡ map (read_position l.doc.value) (children_places l.fn.elements))
