-- Why a text that C hands over is not read.
use Rattle.std.specs.Prelude.{ℕ, List}
use Rattle.json_grammar.specs.Rules.{Rules}
use Rattle.mezdruk_c.specs.declared.failure.Failure.{Failure}
use Rattle.mezdruk_c.specs.declared.failure.Failure.TheVariants.{Options as bad_options, Argument, Text}
use Rattle.mezdruk_c.specs.declared.options.Options.{Options}
use Rattle.mezdruk_c.specs.Asked.{HasRules, rules_of_options}
use Rattle.mezdruk_c.specs.Texts.{ReadingTextFails}

-- a text that is an argument fails so, by rules
abbrev pub IsArgumentFailure : Rules → List ℕ → Failure → Type 0
IsArgumentFailure rules b (Argument e) = ReadingTextFails rules b e.code e.place
IsArgumentFailure rules b failure = ⊥

-- a text fails so, by rules
abbrev pub IsTextFailure : Rules → List ℕ → Failure → Type 0
IsTextFailure rules b (Text e) = ReadingTextFails rules b e.code e.place
IsTextFailure rules b failure = ⊥

-- the options are not valid, or the text is not by their rules, or memory ran out
abbrev pub CheckFails : Options → List ℕ → Failure → Type 0
CheckFails o text bad_options = ¬ (HasRules o)
CheckFails o text (Text e) = HasRules o × ReadingTextFails (rules_of_options o) text e.code e.place
CheckFails o text failure = ⊥
