-- Kinds of tokens where tokens may follow, and the state before a token, from the containers that
-- are open after it.
use Rattle.std.proofs.Common.{◌≡◌, ℕ, ℤ, List, [], ◌∷◌, true, Option, Some, None, refl}
use Rattle.json_grammar.specs.declared.Kind.{Kind}
use Rattle.json_grammar.specs.declared.Kind.TheVariants.{Array as array, Object as object}
use Rattle.json_grammar.specs.Tree.{Token as Tok, null_token, boolean_token, num_token, text_token, begin, end, key_token}
use Rattle.json_grammar.specs.Place.{outside}
use Rattle.json_number.specs.Integers.{integer_in}
use Rattle.json_grammar.specs.TokenStates.{TokenState, a_value, initial_state, state_in, after_token, after_tokens, ValueMayCome, MayCome, Accepts}
use Rattle.json_tokens.specs.declared.token.TokenKind.{TokenKind}
use Rattle.json_tokens.specs.declared.token.TokenKind.TheVariants as kind
use Rattle.json_tokens.specs.Kinds.{kind_of, number_kind}
use Rattle.json_tokens.specs.ExpectedTokens.{KindMayCome, begins_value}
use Rattle.json_tokens.specs.Text.{state_before_value, before}

-- ---- kinds

pub value_kind : (s : TokenState) (k : TokenKind) → begins_value k ≡ true → ValueMayCome s.expected → KindMayCome s k
value_kind s kind.Null e v = v
value_kind s kind.Bool e v = v
value_kind s kind.Int e v = v
value_kind s kind.Raw e v = v
value_kind s kind.Text e v = v
value_kind s kind.Key e v = absurd (cc)
value_kind s kind.BeginArray e v = v
value_kind s kind.EndArray e v = absurd (cc)
value_kind s kind.BeginObject e v = v
value_kind s kind.EndObject e v = absurd (cc)

number_may : (s : TokenState) (o : Option ℤ) → ValueMayCome s.expected → KindMayCome s (number_kind o)
number_may s None v = v
number_may s (Some n) v = v

-- where a token may follow, its kind may
pub kind_may : (s : TokenState) (x : Tok) → MayCome s x → KindMayCome s (kind_of x)
kind_may s null_token m = m
kind_may s (boolean_token b) m = m
kind_may s (num_token l) m = number_may s (integer_in l) m
kind_may s (text_token t) m = m
kind_may s (begin array) m = m
kind_may s (begin object) m = m
kind_may s (end array) m = m
kind_may s (end object) m = m
kind_may s (key_token n) m = m

-- ---- the states after tokens that are accepted

pub data Reached : TokenState → Type 0 where
  first : Reached initial_state
  between : (c : List Kind) → Reached (state_in c)
  named : (c : List Kind) → Reached (record { opened = object ∷ c; expected = a_value })

reached_name : (s : TokenState) (n : List ℕ) → Reached s → MayCome s (key_token n) → Reached (after_token s (key_token n))
reached_name s n first m = absurd m
reached_name s n (between []) m = absurd m
reached_name s n (between (array ∷ c)) m = absurd m
reached_name s n (between (object ∷ c)) m = named c
reached_name s n (named c) m = absurd m

reached_token : (s : TokenState) (x : Tok) → Reached s → MayCome s x → Reached (after_token s x)
reached_token s null_token r m = between s.opened
reached_token s (boolean_token b) r m = between s.opened
reached_token s (num_token l) r m = between s.opened
reached_token s (text_token t) r m = between s.opened
reached_token s (begin k) r m = between (k ∷ s.opened)
reached_token s (end k) r m = between (outside s.opened)
reached_token s (key_token n) r m = reached_name s n r m

reached_from : (s : TokenState) (ts : List Tok) → Reached s → Accepts s ts → Reached (after_tokens s ts)
reached_from s [] r a = r
reached_from s (x ∷ ts) r a = reached_from (after_token s x) ts (reached_token s x r a.0) a.1

pub reached : (ts : List Tok) → Accepts initial_state ts → Reached (after_tokens initial_state ts)
reached ts a = reached_from initial_state ts first a

-- ---- the state before a token

value_before : (s : TokenState) → Reached s → ValueMayCome s.expected → state_before_value s.opened ≡ s
value_before s first v = refl
value_before s (between []) v = absurd v
value_before s (between (array ∷ c)) v = refl
value_before s (between (object ∷ c)) v = absurd v
value_before s (named c) v = refl

number_before : (s : TokenState) (o : Option ℤ) → Reached s → ValueMayCome s.expected → before (number_kind o) s.opened ≡ s
number_before s None r v = value_before s r v
number_before s (Some n) r v = value_before s r v

name_before : (s : TokenState) (n : List ℕ) → Reached s → MayCome s (key_token n) → before kind.Key s.opened ≡ s
name_before s n first m = absurd m
name_before s n (between []) m = absurd m
name_before s n (between (array ∷ c)) m = absurd m
name_before s n (between (object ∷ c)) m = refl
name_before s n (named c) m = absurd m

end_before : (s : TokenState) (k : Kind) → Reached s → MayCome s (end k) → before (kind_of (end k)) (outside s.opened) ≡ s
end_before s k first m = absurd m
end_before s k (between []) m = absurd m
end_before s array (between (array ∷ c)) m = refl
end_before s object (between (array ∷ c)) m = absurd m
end_before s array (between (object ∷ c)) m = absurd m
end_before s object (between (object ∷ c)) m = refl
end_before s k (named c) m = absurd m

pub before_after : (s : TokenState) (x : Tok) → Reached s → MayCome s x → before (kind_of x) (after_token s x).opened ≡ s
before_after s null_token r m = value_before s r m
before_after s (boolean_token b) r m = value_before s r m
before_after s (num_token l) r m = number_before s (integer_in l) r m
before_after s (text_token t) r m = value_before s r m
before_after s (begin array) r m = value_before s r m
before_after s (begin object) r m = value_before s r m
before_after s (end k) r m = end_before s k r m
before_after s (key_token n) r m = name_before s n r m
