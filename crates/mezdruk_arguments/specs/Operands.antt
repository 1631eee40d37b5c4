-- What an operand spells.
use Rattle.std.specs.Prelude.{◌≡◌, ℕ, ⊤, Bool, true, false, ◌||◌, ◌==◌, List, length, take, is_some, bytes_eq, codes}
use Rattle.json_grammar.specs.Tree.{Tree, text}
use Rattle.json_text.specs.Ruled.{usual_rules}
use Rattle.json_doc.specs.Readings.{string_of}
use Rattle.json_value.specs.EditTrees.{step_in, path_in, edits_in}
use Rattle.json_command.specs.Input.{IsInput}
use Rattle.json_patch.specs.Pointer.{pointer_of}
use Rattle.json_query.specs.Query.{Query}
use Rattle.json_query.specs.Text.{IsQuery}
use Rattle.mezdruk_arguments.specs.declared.operand.OperandKind.{OperandKind}
use Rattle.mezdruk_arguments.specs.declared.operand.OperandKind.TheVariants as kind

-- ---- the forms of trees

abbrev pub path_formed : Tree → Bool
path_formed t = is_some (path_in t)

abbrev pub edits_formed : Tree → Bool
edits_formed t = is_some (edits_in t)

-- a path that is empty or begins with a slash is a pointer (RFC 6901, section 3)
abbrev pub begins_as_pointer : List ℕ → Bool
begins_as_pointer w = length w == 0 || bytes_eq (take 1 w) (codes "/")

-- ---- words

-- the operand is the word as it is: a pointer, a query, a string that is asked for, or a file
abbrev pub taken_verbatim : OperandKind → List ℕ → Bool
taken_verbatim kind.Path w = begins_as_pointer w
taken_verbatim kind.Query w = true
taken_verbatim kind.Text w = true
taken_verbatim kind.File w = true
taken_verbatim _ w = false

-- the tree of a word: a string of the word as it is, or that of a JSON text (RFC 8259, section 2)
-- by the usual rules
abbrev pub SpellsTree : OperandKind → List ℕ → Tree → Type 0
SpellsTree kind w t = elim (taken_verbatim kind w) [ true ↦ t ≡ text w | false ↦ IsInput usual_rules w t ]

-- a path: a pointer, or an array of steps
abbrev pub path_form : List ℕ → Tree → Bool
path_form w t = elim (begins_as_pointer w) [ true ↦ is_some (pointer_of w) | false ↦ path_formed t ]

-- the word and its tree have the form of the operand
abbrev pub has_form : OperandKind → List ℕ → Tree → Bool
has_form kind.Path w t = path_form w t
has_form kind.Edits w t = edits_formed t
has_form kind.Key w t = is_some (string_of t)
has_form kind.Step w t = is_some (step_in t)
has_form _ w t = true

-- the word is a query without filters (RFC 9535, section 2.1), where the operand is one
abbrev pub IsQueryText : List ℕ → Type 0
IsQueryText w = (q : Query) × IsQuery q w

abbrev pub IsQueryIfAsked : OperandKind → List ℕ → Type 0
IsQueryIfAsked kind.Query w = IsQueryText w
IsQueryIfAsked _ w = ⊤

-- the word spells this tree, which has the form of the operand
pub record SpellsOperand (kind : OperandKind) (w : List ℕ) (tree : Tree) : Type 0 where
  pub text : SpellsTree kind w tree
  pub form : has_form kind w tree ≡ true
  pub query : IsQueryIfAsked kind w

-- the word is such an operand
abbrev pub IsOperand : OperandKind → List ℕ → Type 0
IsOperand kind w = (tree : Tree) × SpellsOperand kind w tree
