-- What the arguments that were read so far hold of what they ask for.
use Rattle.std.specs.Prelude.{◌≡◌, ℕ, ⊤, List, [], ◌∷◌, map, option_map}
use Rattle.mezdruk_arguments.specs.declared.line.ArgumentLine.{ArgumentLine}
use Rattle.mezdruk_arguments.specs.declared.line.ArgumentRole.{ArgumentRole}
use Rattle.mezdruk_arguments.specs.CommandLine.{ParsedArguments, MayTake, add_argument}
use Rattle.json_grammar.specs.Tree.{Tree}
use Rattle.json_value.specs.Denotes.{tree_of}
use Rattle.mezdruk_arguments.specs.declared.operand.OperandKind.{OperandKind}
use Rattle.mezdruk_arguments.specs.Operands.{SpellsOperand}

-- the words spell these trees, each by its kind
abbrev pub SpellAll : List (OperandKind × List ℕ) → List Tree → Type 0
SpellAll [] [] = ⊤
SpellAll ((kind, w) ∷ os) (t ∷ ts) = SpellsOperand kind w t × SpellAll os ts
SpellAll _ _ = ⊥

pub record HoldsAsked (line : ArgumentLine) (s : ParsedArguments) : Type 0 where
  pub verb : line.verb ≡ s.verb
  pub settings : line.settings ≡ s.settings
  pub ended : line.ended ≡ s.ended
  pub awaits_width : line.awaits_width ≡ s.awaits_width
  pub source : option_map (λ f. f.now) line.source ≡ s.source
  pub operands : SpellAll s.operands (map tree_of line.operands.items)
  pub files : map (λ f. f.now) line.files.items ≡ s.files

-- an argument of this role may follow and was added
pub record TakesArgument (line : ArgumentLine) (s : ParsedArguments) (w : List ℕ) (r : ArgumentRole) : Type 0 where
  pub may : MayTake s w r
  pub holds : HoldsAsked line (add_argument s w r)
