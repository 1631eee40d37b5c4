-- Edits at the places of pointers.
use Rattle.std.specs.Prelude.{List}
use Rattle.json_grammar.specs.Tree.{Tree}
use Rattle.json_model.specs.Edit.{Changed, and_then, edited_once}
use Rattle.json_patch.specs.Pointer.{ReferenceToken, path_of_tokens}
use Rattle.json_value.specs.Edits.{edit_at}
use Rattle.json_value.specs.declared.path.Edit.{Edit}

-- what the edit makes of a tree at the place that the tokens reference
abbrev pub edited_at : List ReferenceToken → Edit → Tree → Changed Tree
edited_at tokens e t = and_then (path_of_tokens tokens t) (λ p. edited_once (edit_at p e) t)
