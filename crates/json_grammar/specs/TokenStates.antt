-- Which tokens may follow those of a value so far, by the containers that are open (RFC 8259,
-- sections 2, 4 and 5). A comma and a colon are no tokens.
use Rattle.std.specs.Prelude.{◌≡◌, List, [], ◌∷◌, ◌++◌}
use Rattle.json_grammar.specs.declared.Kind.{Kind}
use Rattle.json_grammar.specs.declared.Kind.TheVariants.{Array as array, Object as object}
use Rattle.json_grammar.specs.declared.ExpectedPart.{ExpectedPart}
use Rattle.json_grammar.specs.declared.ExpectedPart.TheVariants.{Value as at_value, First as first, Key as key, KeyOrEnd as key_or_end, Colon as colon, Done as done}
use Rattle.json_grammar.specs.Tree.{Tree, Token, null_token, boolean_token, num_token, text_token, begin, end, key_token, tokens}
use Rattle.json_grammar.specs.Place.{outside}

-- what follows: a value and nothing else, an element of an array or its end, a name of an object or
-- its end, or nothing
pub data Expected : Type 0 where
  a_value : Expected
  element_or_end : Expected
  name_or_end : Expected
  nothing : Expected

pub record TokenState : Type 0 where
  -- the open containers, the innermost first
  pub opened : List Kind
  -- what follows in the innermost of them
  pub expected : Expected

-- ---- the state after each token

-- before the value
abbrev pub initial_state : TokenState
initial_state = record { opened = []; expected = a_value }

-- what follows in the open containers after a value, or after the bracket that opens the innermost
-- of them
abbrev pub expected_in : List Kind → Expected
expected_in [] = nothing
expected_in (array ∷ c) = element_or_end
expected_in (object ∷ c) = name_or_end

abbrev pub state_in : List Kind → TokenState
state_in c = record { opened = c; expected = expected_in c }

-- after a value, whatever its tokens are
abbrev pub state_after_value : TokenState → TokenState
state_after_value s = state_in s.opened

-- a name is followed by a value
abbrev pub after_token : TokenState → Token → TokenState
after_token s null_token = state_after_value s
after_token s (boolean_token b) = state_after_value s
after_token s (num_token l) = state_after_value s
after_token s (text_token t) = state_after_value s
after_token s (begin k) = state_in (k ∷ s.opened)
after_token s (end k) = state_in (outside s.opened)
after_token s (key_token n) = record s { expected = a_value }

abbrev pub after_tokens : TokenState → List Token → TokenState
after_tokens s [] = s
after_tokens s (x ∷ ts) = after_tokens (after_token s x) ts

-- ---- the tokens that are accepted

-- a value may follow, whole or by the bracket that opens it
abbrev pub ValueMayCome : Expected → Type 0
ValueMayCome a_value = Unit {0}
ValueMayCome element_or_end = Unit {0}
ValueMayCome name_or_end = ⊥
ValueMayCome nothing = ⊥

-- a name of a member may follow
abbrev pub NameMayCome : Expected → Type 0
NameMayCome a_value = ⊥
NameMayCome element_or_end = ⊥
NameMayCome name_or_end = Unit {0}
NameMayCome nothing = ⊥

-- the end of a container of the kind may follow
abbrev pub EndMayCome : Expected → Kind → Type 0
EndMayCome a_value k = ⊥
EndMayCome element_or_end array = Unit {0}
EndMayCome element_or_end object = ⊥
EndMayCome name_or_end array = ⊥
EndMayCome name_or_end object = Unit {0}
EndMayCome nothing k = ⊥

-- the token may follow
abbrev pub MayCome : TokenState → Token → Type 0
MayCome s null_token = ValueMayCome s.expected
MayCome s (boolean_token b) = ValueMayCome s.expected
MayCome s (num_token l) = ValueMayCome s.expected
MayCome s (text_token t) = ValueMayCome s.expected
MayCome s (begin k) = ValueMayCome s.expected
MayCome s (end k) = EndMayCome s.expected k
MayCome s (key_token n) = NameMayCome s.expected

-- each of the tokens may follow those before it
abbrev pub Accepts : TokenState → List Token → Type 0
Accepts s [] = Unit {0}
Accepts s (x ∷ ts) = MayCome s x × Accepts (after_token s x) ts

-- ---- trees and texts

-- some tree's tokens begin with these
abbrev pub BeginsTree : List Token → Type 0
BeginsTree ts = (t : Tree) × (more : List Token) × (tokens t ≡ ts ++ more)

-- what follows in the open containers where a value may begin in a text: in an array it may be the
-- end instead
abbrev pub expected_before_value : List Kind → Expected
expected_before_value [] = a_value
expected_before_value (array ∷ c) = element_or_end
expected_before_value (object ∷ c) = a_value

-- which tokens may follow in the open containers, in a state of a text
abbrev pub expected_at : ExpectedPart → List Kind → Expected
expected_at at_value c = expected_before_value c
expected_at first c = element_or_end
expected_at key c = name_or_end
expected_at key_or_end c = name_or_end
expected_at colon c = expected_before_value c
expected_at done c = expected_in c

-- the state at a place of a text
abbrev pub state_at : ExpectedPart → List Kind → TokenState
state_at w c = record { opened = c; expected = expected_at w c }
