-- What a turn expects of the tokens of a value, and what events accept.
use Rattle.std.specs.Prelude.{[], ◌∷◌, true, ◌≡◌, Option, None}
use Rattle.json_grammar.specs.declared.Kind.{Kind}
use Rattle.json_grammar.specs.declared.Kind.TheVariants.{Array as array, Object as object}
use Rattle.json_grammar.specs.TokenStates.{Expected, a_value, element_or_end, name_or_end, nothing, TokenState, initial_state, state_in, ValueMayCome, NameMayCome, EndMayCome}
use Rattle.json_print.specs.declared.events.ExpectedEvent.{ExpectedEvent}
use Rattle.json_print.specs.declared.events.ExpectedEvent.TheVariants.{Value as at_value, Element as at_element, Key as at_key, Member as at_member, Done as at_done}
use Rattle.json_io.specs.declared.error.Error.{Error}

-- what may follow at a turn
abbrev pub expected_at_turn : ExpectedEvent → Expected
expected_at_turn at_value = a_value
expected_at_turn (at_element first) = element_or_end
expected_at_turn (at_key first) = name_or_end
expected_at_turn at_member = a_value
expected_at_turn at_done = nothing

-- the turn after the bracket that opens a container
abbrev pub first_turn : Kind → ExpectedEvent
first_turn array = at_element true
first_turn object = at_key true

-- a value may follow, unless an error is kept
abbrev pub AcceptsValue : Option Error → TokenState → Type 0
AcceptsValue failed s = failed ≡ None → ValueMayCome s.expected

-- so may a key
abbrev pub AcceptsKey : Option Error → TokenState → Type 0
AcceptsKey failed s = failed ≡ None → NameMayCome s.expected

-- so may the end of a container of the kind
abbrev pub AcceptsEnd : Option Error → TokenState → Kind → Type 0
AcceptsEnd failed s k = failed ≡ None → EndMayCome s.expected k

-- one tree is awaited, and nothing is open
abbrev pub AwaitsTree : TokenState → Type 0
AwaitsTree s = s ≡ initial_state

-- a member of the one open object is awaited, or its end
abbrev pub AwaitsMember : TokenState → Type 0
AwaitsMember s = s ≡ state_in (object ∷ [])
