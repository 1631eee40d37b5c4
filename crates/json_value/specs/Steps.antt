-- Steps into trees: what they name, and where they lead.
use Rattle.std.specs.Prelude.{ℕ, List, [], ◌∷◌, Option, None, Some, option_map, slice_get}
use Rattle.json_grammar.specs.Tree.{Tree, null}
use Rattle.json_model.specs.Edit.{Step, key_step, index_step}
use Rattle.json_doc.specs.Readings.{elements}
use Rattle.json_doc_print.specs.Readings.{members}
use Rattle.json_value.specs.Seen.{first_of}

-- the key of a key step
abbrev pub key_in : Step → Option (List ℕ)
key_in (key_step k) = Some k
key_in (index_step i) = None

-- the index of an index step
abbrev pub index_in : Step → Option ℕ
index_in (key_step k) = None
index_in (index_step i) = Some i

-- the value of the first member of a key, or the element of an index, counted from 0
abbrev pub child : Step → Tree → Option Tree
child (key_step k) t = option_map (λ p. p.1) (first_of k (members t))
child (index_step i) t = slice_get (elements t) i

-- the tree to which the steps lead
abbrev pub tree_at : List Step → Tree → Option Tree
tree_at [] t = Some t
tree_at (s ∷ p) t = elim (child s t) [ None ↦ None | Some u ↦ tree_at p u ]

-- the tree, or null where there is none
abbrev pub tree_or_null : Option Tree → Tree
tree_or_null None = null
tree_or_null (Some t) = t
