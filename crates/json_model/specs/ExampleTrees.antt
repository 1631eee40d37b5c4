-- Trees, as examples write them.
use Rattle.std.specs.Prelude.{ℕ, List, codes}
use Rattle.json_grammar.specs.Tree.{Tree, pairs, list_pairs, list, list_trees, text, num}
use Prim.Native.String.{String}

-- an object, an array, a member, a string and a number
abbrev pub example_object : List (List ℕ × Tree) → Tree
example_object ms = pairs (list_pairs ms)

abbrev pub example_array : List Tree → Tree
example_array ts = list (list_trees ts)

abbrev pub example_member : String → Tree → List ℕ × Tree
example_member k t = (codes k, t)

abbrev pub example_string : String → Tree
example_string s = text (codes s)

abbrev pub example_number : String → Tree
example_number s = num (codes s)
