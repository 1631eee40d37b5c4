-- The changes of trees that changes of values represent.
use Rattle.std.specs.Prelude.{ℕ, List, map}
use Rattle.json_grammar.specs.Tree.{Tree}
use Rattle.json_model.specs.Edit.{Step}
use Rattle.json_value.specs.Denotes.{tree_of, pair_of}
use Rattle.json_value.specs.Edits.{path_steps}
use Rattle.json_value.specs.declared.pair.Keyed.{Keyed}
use Rattle.json_value.specs.declared.value.Value.{Value}
use Rattle.json_history.specs.Change.{TreeChange, put, drop_last, put_back, put_pairs, RemovedMembers}
use Rattle.json_history.specs.declared.taken.Taken.{Taken}
use Rattle.json_history.specs.declared.change.Change.{Change}
use Rattle.json_history.specs.declared.change.Change.TheVariants.{Put, DropLast, PutBack, PutPairs}

-- the index, the key and the tree of a removed member
abbrev pub removed_member : ℕ × Keyed Value → ℕ × List ℕ × Tree
removed_member e = (e.0, (pair_of e.1).0, (pair_of e.1).1)

-- the removed members that a list of them represents
abbrev pub removed_members : Taken → RemovedMembers
removed_members t = map removed_member t.list.items

-- the change of trees that a change represents
abbrev pub tree_change_of : Change → TreeChange
tree_change_of (Put p old) = put (path_steps p) (tree_of old)
tree_change_of (DropLast p) = drop_last (path_steps p)
tree_change_of (PutBack p i old) = put_back (path_steps p) i (tree_of old)
tree_change_of (PutPairs p es) = put_pairs (path_steps p) (removed_members es)

-- the path of a change
abbrev pub change_path : Change → List Step
change_path (Put p old) = path_steps p
change_path (DropLast p) = path_steps p
change_path (PutBack p i old) = path_steps p
change_path (PutPairs p es) = path_steps p
