-- The test whether a text is a number, by the states of the grammar.
use Rattle.std.specs.Prelude.{ℕ, List, Bool}
use Rattle.json_grammar.specs.NumberStates.{at_start, number_run, is_whole_number}

-- the text is a number
abbrev pub is_number_text : List ℕ → Bool
is_number_text l = is_whole_number (number_run at_start l)
