-- What two objects agree on, member lists as they are seen.
use Rattle.std.specs.Prelude.{ℕ, List, map, Bool, Option, option_map}
use Rattle.std.specs.Option.{option_eq}
use Rattle.json_grammar.specs.Tree.{Tree, list, pairs, list_trees, list_pairs}
use Rattle.json_model.specs.Same.{same}
use Rattle.json_value.specs.Denotes.{list_in, pairs_in}
use Rattle.json_value.specs.Seen.{first_of}
use Rattle.json_value.specs.declared.container.Container.{Container}
use Rattle.json_value.specs.declared.pair.Keyed.{Keyed}
use Rattle.json_value.specs.declared.value.Value.{Value}

-- the value of the first member of the key
abbrev pub value_at : List ℕ → List (List ℕ × Tree) → Option Tree
value_at k ps = option_map (λ p. p.1) (first_of k ps)

-- the keys of the members
abbrev pub keys_in : List (List ℕ × Tree) → List (List ℕ)
keys_in ps = map (λ p. p.0) ps

-- the first values of the key are the same, or neither has the key
abbrev pub agree_at : List (List ℕ × Tree) → List (List ℕ × Tree) → List ℕ → Bool
agree_at ps qs k = option_eq same (value_at k ps) (value_at k qs)

-- the tree of an array, and of an object
abbrev pub tree_of_array : Container Value → Tree
tree_of_array a = list (list_trees (list_in a))

abbrev pub tree_of_object : Container (Keyed Value) → Tree
tree_of_object o = pairs (list_pairs (pairs_in o))
