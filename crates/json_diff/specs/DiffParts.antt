-- The parts of a patch between two trees, as the calls make them.
use Rattle.std.specs.Prelude.{List, [], ◌∷◌, Bool, false, ◌&&◌, Option, None, Some}
use Rattle.json_grammar.specs.Tree.{Tree, list, pairs}
use Rattle.json_patch.specs.Pointer.{ReferenceToken}
use Rattle.json_patch.specs.Patch.{Operation, add_at}
use Rattle.json_patch.specs.Merge.{members_or_none}
use Rattle.json_diff.specs.MergeDiff.{has_unique_keys, is_object}
use Rattle.json_diff.specs.Diff.{is_array, operations_between, member_operations}
use Rattle.json_value.specs.Steps.{tree_or_null}

-- both trees are objects, and no key repeats in either
abbrev pub are_keyed : Tree → Tree → Bool
are_keyed t (pairs qs) = is_object t && (has_unique_keys (members_or_none t) && has_unique_keys qs)
are_keyed t _ = false

-- both trees are arrays
abbrev pub are_arrays : Tree → Tree → Bool
are_arrays t (list us) = is_array t
are_arrays t _ = false

-- a value that is missing is added, and any other is led to the new one
abbrev pub child_operations : Option Tree → Tree → List Operation
child_operations None u = add_at [] u ∷ []
child_operations (Some t) u = operations_between t u

-- so at the value that the token references
abbrev pub operations_at : ReferenceToken → Option Tree → Tree → List Operation
operations_at k o u = member_operations k o u (operations_between (tree_or_null o) u)
