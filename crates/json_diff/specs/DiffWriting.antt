-- What a writer of a patch appends.
use Rattle.std.specs.Prelude.{◌≡◌, List, ◌++◌, map, string_bytes}
use Rattle.json_grammar.specs.Tree.{Tree}
use Rattle.json_patch.specs.Patch.{Operation}
use Rattle.json_diff.specs.DiffDocument.{operation_below}
use Rattle.json_diff.specs.declared.between.PatchWriter.{PatchWriter}
use Rattle.json_value.specs.Denotes.{tree_of}

-- the trees are appended, and the pointer stays
abbrev pub AppendsTrees : PatchWriter → PatchWriter → List Tree → Type 0
AppendsTrees old new us = (map tree_of new.operations.items ≡ map tree_of old.operations.items ++ us) × (string_bytes new.path ≡ string_bytes old.path)

-- operations on the value that the pointer references are appended
abbrev pub AppendsOperations : PatchWriter → PatchWriter → List Operation → Type 0
AppendsOperations old new os = AppendsTrees old new (map (operation_below (string_bytes old.path)) os)
