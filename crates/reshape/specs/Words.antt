-- The edits that an edits word spells.
use Rattle.std.specs.Prelude.{◌≡◌, ℕ, List, [], ◌∷◌, Some}
use Rattle.json_grammar.specs.Tree.{Tree}
use Rattle.json_model.specs.Edit.{Edit}
use Rattle.json_text.specs.Ruled.{usual_rules}
use Rattle.json_command.specs.Input.{IsInput}
use Rattle.json_value.specs.EditTrees.{edits_in}

-- the word is a text, by the usual rules, of a tree that spells these edits
pub record SpellsEdits (word : List ℕ) (es : List Edit) : Type 0 where
  pub tree : Tree
  pub input : IsInput usual_rules word tree
  pub edits : edits_in tree ≡ Some es

-- these words ask for these edits: no word asks for none, and one word for those that it spells
abbrev pub AsksEdits : List (List ℕ) → List Edit → Type 0
AsksEdits [] es = es ≡ []
AsksEdits (w ∷ []) es = SpellsEdits w es
AsksEdits _ es = ⊥
