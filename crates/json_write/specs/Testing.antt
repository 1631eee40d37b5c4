-- What may follow after what was tested.
use Rattle.std.specs.Prelude.{◌≡◌, Result}
use Rattle.json_grammar.specs.TokenStates.{TokenState, state_after_value, after_token}
use Rattle.json_io.specs.declared.error.Error.{Error}
use Rattle.json_io.specs.Errors.{no_memory}
use Rattle.json_print.specs.Given.{TokenOrInteger, token_of}
use Rattle.json_print.specs.Taking.{Takes}
use Rattle.json_write.specs.Nesting.{nesting_state}
use Rattle.json_write.specs.declared.key_test.KeyTest.{KeyTest}

abbrev pub expected_in_test : KeyTest → TokenState
expected_in_test s = nesting_state s.nesting

abbrev pub state_given : TokenState → TokenOrInteger → TokenState
state_given s g = after_token s (token_of g)

-- after a value
abbrev pub passed : TokenState → TokenOrInteger → TokenState
passed s g = state_after_value s

-- want of memory alone stops it
abbrev pub StopsTest : TokenState → TokenOrInteger → TokenState → Error → Type 0
StopsTest s g s' e = e ≡ no_memory

-- a call of a test: what may follow changes so, or memory ran out
abbrev pub Tests : (TokenState → TokenOrInteger → TokenState) → KeyTest → KeyTest → TokenOrInteger → Result (Unit {0}) Error → Type 0
Tests next old new g result = Takes next StopsTest (expected_in_test old) (expected_in_test new) old.failed new.failed g result
