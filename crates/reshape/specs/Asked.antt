-- What was asked for, as edits of trees and the layout of their text.
use Rattle.std.specs.Prelude.{ℕ, List, [], map}
use Rattle.json_grammar.specs.Rules.{Rules}
use Rattle.json_text.specs.Ruled.{rules_of, usual_rules}
use Rattle.json_model.specs.Edit as model
use Rattle.json_value.specs.Edits.{edit_of}
use Rattle.reshape.specs.Reshape.{TextLayout, layout_of}
use Rattle.reshape.specs.Options.{Command, Asks, AsksMade}
use Rattle.reshape.specs.Made.{sorted_compact}
use Rattle.reshape.specs.declared.edits.Edits.{Edits}
use Rattle.reshape.specs.declared.asked_style.AskedStyle.{AskedStyle}
use Rattle.reshape.specs.declared.command.Asked.{Asked}
use Rattle.reshape.specs.declared.command.Asked.TheVariants.{Reshape, Made}

-- the edits of trees that these edits are
abbrev pub edits_of : Edits → List model.Edit
edits_of e = map edit_of e.list.items

-- the layout that is asked for
abbrev pub layout_asked : AskedStyle → TextLayout
layout_asked a = layout_of a.style

-- the rules that are asked for
abbrev pub rules_asked : AskedStyle → Rules
rules_asked a = rules_of a.rules

-- what is done: made input is printed without edits, compact and sorted, and read by the usual rules
abbrev pub asked_command : Asked → Command
asked_command (Reshape e a) = record { es = edits_of e; layout = layout_asked a; rules = rules_asked a }
asked_command (Made n) = record { es = []; layout = sorted_compact; rules = usual_rules }

-- the words ask for this
abbrev pub AsksFor : List (List ℕ) → Asked → Type 0
AsksFor words (Reshape e a) = Asks words (asked_command (Reshape e a))
AsksFor words (Made n) = AsksMade words n
