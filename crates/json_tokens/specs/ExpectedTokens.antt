-- Which kinds of tokens a source may give next.
use Rattle.std.specs.Prelude.{List, [], ◌∷◌, Bool, true, false}
use Rattle.json_grammar.specs.declared.Kind.{Kind}
use Rattle.json_grammar.specs.declared.Kind.TheVariants.{Array as array, Object as object}
use Rattle.json_grammar.specs.Place.{outside}
use Rattle.json_grammar.specs.TokenStates.{TokenState, Expected, a_value, element_or_end, name_or_end, nothing, state_in, ValueMayCome, NameMayCome, EndMayCome}
use Rattle.json_tokens.specs.declared.token.TokenKind.{TokenKind}
use Rattle.json_tokens.specs.declared.token.TokenKind.TheVariants as kind

-- after the innermost container
abbrev pub around : TokenState → TokenState
around s = state_in (outside s.opened)

-- a token of the kind begins a value
abbrev pub begins_value : TokenKind → Bool
begins_value kind.Key = false
begins_value kind.EndArray = false
begins_value kind.EndObject = false
begins_value _ = true

-- a token of the kind may follow
abbrev pub KindMayCome : TokenState → TokenKind → Type 0
KindMayCome s kind.Key = NameMayCome s.expected
KindMayCome s kind.EndArray = EndMayCome s.expected array
KindMayCome s kind.EndObject = EndMayCome s.expected object
KindMayCome s _ = ValueMayCome s.expected

-- the innermost of the open containers has the kind
abbrev pub Innermost : Kind → List Kind → Type 0
Innermost k [] = ⊥
Innermost array (array ∷ c) = Unit {0}
Innermost array (object ∷ c) = ⊥
Innermost object (array ∷ c) = ⊥
Innermost object (object ∷ c) = Unit {0}

-- a container is open
abbrev pub WithinContainer : Expected → List Kind → Type 0
WithinContainer a_value c = Innermost object c
WithinContainer element_or_end c = Innermost array c
WithinContainer name_or_end c = Innermost object c
WithinContainer nothing c = ⊥

abbrev pub IsOpen : TokenState → Type 0
IsOpen s = WithinContainer s.expected s.opened

-- before an element or the end of a list
abbrev pub BeforeElement : Expected → List Kind → Type 0
BeforeElement a_value c = ⊥
BeforeElement element_or_end c = Innermost array c
BeforeElement name_or_end c = ⊥
BeforeElement nothing c = ⊥

abbrev pub InArray : TokenState → Type 0
InArray s = BeforeElement s.expected s.opened

-- before a key or the end of an object
abbrev pub BeforeName : Expected → List Kind → Type 0
BeforeName a_value c = ⊥
BeforeName element_or_end c = ⊥
BeforeName name_or_end c = Innermost object c
BeforeName nothing c = ⊥

abbrev pub InObject : TokenState → Type 0
InObject s = BeforeName s.expected s.opened
