-- The document of a JSON Patch (RFC 6902, section 3): an array of its operations.
use Rattle.std.specs.Prelude.{◌≡◌, ℕ, List, [], ◌++◌, length, map, Ok, codes, true}
use Rattle.json_grammar.specs.Tree.{Tree, text, list, pairs, Pairs, no_pairs, pair_and, no_trees, list_trees}
use Rattle.json_model.specs.Same.{same}
use Rattle.json_patch.specs.Pointer.{ReferenceToken, pointer_text}
use Rattle.json_patch.specs.Patch.{Operation, add_at, remove, replace, move, copy, test, patched}
use Rattle.json_diff.specs.Diff.{array_elements, operations_between}

-- the text of the pointer from the value at b
abbrev pub pointer_below : List ℕ → List ReferenceToken → Tree
pointer_below b p = text (b ++ pointer_text p)

-- the members of an operation: its name, its path, and others
abbrev pub operation_members : List ℕ → Tree → Pairs → Tree
operation_members n p ms = pairs (pair_and (codes "op") (text n) (pair_and (codes "path") p ms))

-- an operation on the value at the pointer of the text b
abbrev pub operation_below : List ℕ → Operation → Tree
operation_below b (add_at p u) = operation_members (codes "add") (pointer_below b p) (pair_and (codes "value") u no_pairs)
operation_below b (remove p) = operation_members (codes "remove") (pointer_below b p) no_pairs
operation_below b (replace p u) = operation_members (codes "replace") (pointer_below b p) (pair_and (codes "value") u no_pairs)
operation_below b (move q p) = operation_members (codes "move") (pointer_below b p) (pair_and (codes "from") (pointer_below b q) no_pairs)
operation_below b (copy q p) = operation_members (codes "copy") (pointer_below b p) (pair_and (codes "from") (pointer_below b q) no_pairs)
operation_below b (test p u) = operation_members (codes "test") (pointer_below b p) (pair_and (codes "value") u no_pairs)

-- the document of operations
abbrev pub patch_document : List Operation → Tree
patch_document os = list (list_trees (map (operation_below []) os))

-- the patch between two trees
abbrev pub patch_between : Tree → Tree → Tree
patch_between t u = patch_document (operations_between t u)

-- how many operations a patch has
abbrev pub operation_count : Tree → ℕ
operation_count p = length (array_elements p)

-- ---- laws

-- read as a patch and applied, it makes a tree that is the same as the second
abbrev pub PatchLeads : Type 0
PatchLeads = (t u : Tree) → (w : Tree) × (patched t (patch_between t u) ≡ Ok w) × (same w u ≡ true)

-- it is the empty array exactly if the trees are the same
abbrev pub EmptyPatchBetweenSame : Type 0
EmptyPatchBetweenSame =
    (t u : Tree) → (same t u ≡ true → patch_between t u ≡ list no_trees) × (patch_between t u ≡ list no_trees → same t u ≡ true)
