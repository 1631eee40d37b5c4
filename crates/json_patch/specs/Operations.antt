-- Operations of a patch, as values hold them.
use Rattle.std.specs.Prelude.{List, Option, None, Some, true, false, Ok}
use Rattle.json_grammar.specs.Tree.{Tree}
use Rattle.json_model.specs.Edit.{Changed, and_then}
use Rattle.json_patch.specs.Pointer.{ReferenceToken, value_at_pointer}
use Rattle.json_patch.specs.Patch as model
use Rattle.json_value.specs.Denotes.{tree_of}
use Rattle.json_value.specs.declared.value.Value.{Value}
use Rattle.json_patch.specs.Lookups.{pointer_tokens}
use Rattle.json_patch.specs.declared.pointer.Pointer.{Pointer}
use Rattle.json_patch.specs.declared.operation.Operation.{Operation}
use Rattle.json_patch.specs.declared.operation.Operation.TheVariants.{Add, Remove, Replace, Move, Copy, Test}

-- the operation on trees that an `Operation` represents
abbrev pub model_operation : Operation → model.Operation
model_operation (Add p v) = model.add_at (pointer_tokens p) (tree_of v)
model_operation (Remove p) = model.remove (pointer_tokens p)
model_operation (Replace p v) = model.replace (pointer_tokens p) (tree_of v)
model_operation (Move q p) = model.move (pointer_tokens q) (pointer_tokens p)
model_operation (Copy q p) = model.copy (pointer_tokens q) (pointer_tokens p)
model_operation (Test p v) = model.test (pointer_tokens p) (tree_of v)

-- both, if both are there
abbrev pub both_of : {A B : Type 0} → Option A → Option B → Option (A × B)
both_of (Some a) (Some b) = Some (a, b)
both_of _ _ = None

-- the tokens and the tree, or the two lists of tokens, that two members hold
abbrev pub path_and_value_of : Pointer × Value → List ReferenceToken × Tree
path_and_value_of r = (pointer_tokens r.0, tree_of r.1)

abbrev pub from_and_path_of : Pointer × Pointer → List ReferenceToken × List ReferenceToken
from_and_path_of r = (pointer_tokens r.0, pointer_tokens r.1)

-- what `move` and `copy` make of a tree
abbrev pub moved : List ReferenceToken → List ReferenceToken → Tree → Changed Tree
moved q p t = and_then (value_at_pointer q t) (λ u. elim (model.tokens_eq q p) [ true ↦ Ok t | false ↦ and_then (model.removed_at q t) (model.added_at p u) ])

abbrev pub copied_to : List ReferenceToken → List ReferenceToken → Tree → Changed Tree
copied_to q p t = and_then (value_at_pointer q t) (λ u. model.added_at p u t)

-- a `move`, if both pointers are there
abbrev pub moved_from : Option (List ReferenceToken) → Option (List ReferenceToken) → Option model.Operation
moved_from q p = model.with_from model.move q p
