-- The calls of a history that a word of the command line spells.
use Rattle.std.specs.Prelude.{◌≡◌, ◌⊎◌, ℕ, List, [], ◌∷◌, Option, Some, None, cond, bytes_eq, codes, option_map, option_and_then}
use Rattle.json_grammar.specs.Tree.{Tree}
use Rattle.json_doc.specs.Readings.{string_of}
use Rattle.json_io.specs.Errors.{no_memory, bad_words}
use Rattle.json_text.specs.Ruled.{usual_rules}
use Rattle.json_io.specs.declared.error.Error.{Error}
use Rattle.json_value.specs.EditTrees.{each_in, edit_in}
use Rattle.json_value.specs.Seen.{list_of}
use Rattle.json_command.specs.Input.{IsInput}
use Rattle.json_history.specs.History.{TreeCall, edit, undo, redo}

-- undo or redo, by name
abbrev pub call_named : List ℕ → Option TreeCall
call_named name = cond (bytes_eq name (codes "undo")) (Some undo) (cond (bytes_eq name (codes "redo")) (Some redo) None)

-- an array whose only element is the name
abbrev pub single_call : List Tree → Option TreeCall
single_call (t ∷ []) = option_and_then call_named (string_of t)
single_call _ = None

-- the first of two, where there is one
abbrev pub or_else : {A : Type 0} → Option A → Option A → Option A
or_else (Some x) o = Some x
or_else None o = o

-- a call: ["undo"], ["redo"], or an edit
abbrev pub call_in : Tree → Option TreeCall
call_in t = or_else (option_and_then single_call (list_of t)) (option_map edit (edit_in t))

-- the calls of a tree: an array of them
abbrev pub calls_in : Tree → Option (List TreeCall)
calls_in t = option_and_then (each_in call_in) (list_of t)

-- the word is a text, by the usual rules, of a tree that spells these calls
pub record SpellsCalls (word : List ℕ) (cs : List TreeCall) : Type 0 where
  pub tree : Tree
  pub input : IsInput usual_rules word tree
  pub calls : calls_in tree ≡ Some cs

-- the words ask for these calls: one word that spells them
abbrev pub AsksForCalls : List (List ℕ) → List TreeCall → Type 0
AsksForCalls (w ∷ []) cs = SpellsCalls w cs
AsksForCalls _ cs = ⊥

-- memory ran out, or nothing is spelled and the words are bad
abbrev pub SpellsNoCalls : {A : Type 0} → Option A → Error → Type 0
SpellsNoCalls o e = (e ≡ no_memory) ⊎ ((e ≡ bad_words) × (o ≡ None))
