-- The edits that a command asks for.
use Rattle.std.specs.Prelude.{◌≡◌, ℕ, List, [], ◌∷◌, Option, Some, None, option_and_then, drop, codes}
use Rattle.json_grammar.specs.Tree.{Tree, text, list, list_trees, no_trees, tree_and}
use Rattle.json_doc.specs.Readings.{string_of}
use Rattle.json_patch.specs.Pointer.{pointer_of}
use Rattle.json_patch.specs.Lookups.{pointer_tokens}
use Rattle.json_patch.specs.declared.pointer.Pointer.{Pointer}
use Rattle.mezdruk_arguments.specs.declared.verb.Verb.{Verb}
use Rattle.mezdruk_arguments.specs.declared.verb.Verb.TheVariants as verb

-- the name of a command
abbrev pub verb_name : Verb → List ℕ
verb_name verb.Fmt = codes "fmt"
verb_name verb.Check = codes "check"
verb_name verb.Get = codes "get"
verb_name verb.Keys = codes "keys"
verb_name verb.Length = codes "length"
verb_name verb.Query = codes "query"
verb_name verb.Edit = codes "edit"
verb_name verb.Set = codes "set"
verb_name verb.Insert = codes "insert"
verb_name verb.Push = codes "push"
verb_name verb.Remove = codes "remove"
verb_name verb.Patch = codes "patch"
verb_name verb.Merge = codes "merge"
verb_name verb.Diff = codes "diff"
verb_name verb.Overlay = codes "overlay"

-- the tree of one edit: its name and its operands
abbrev pub edit_tree : Verb → List Tree → Tree
edit_tree v operands = list (tree_and (text (verb_name v)) (list_trees operands))

-- the tree of the edits: that of the operand of `edit`, and of the other commands one edit
abbrev pub edits_tree : Verb → List Tree → Tree
edits_tree verb.Edit (t ∷ []) = t
edits_tree v operands = list (tree_and (edit_tree v operands) no_trees)

-- ---- the pointer to the place of an edit

-- the string that the first operand is
abbrev pub pointer_operand : List Tree → Option (List ℕ)
pointer_operand [] = None
pointer_operand (t ∷ ts) = string_of t

-- the first operand is this pointer, and the path without steps is left in its place; or it is no string, and all is left
abbrev pub SplitsPointer : List Tree → Option Pointer → List Tree → Type 0
SplitsPointer ts (Some p) left = (option_and_then pointer_of (pointer_operand ts) ≡ Some (pointer_tokens p)) × (left ≡ list no_trees ∷ drop 1 ts)
SplitsPointer ts None left = (pointer_operand ts ≡ None) × (left ≡ ts)

-- the first operand is a string and no pointer
abbrev pub LacksPointer : List Tree → Type 0
LacksPointer ts = (s : List ℕ) × (pointer_operand ts ≡ Some s) × (pointer_of s ≡ None)
