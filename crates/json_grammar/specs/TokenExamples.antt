-- Examples of the tokens that may follow.
use Rattle.std.specs.Prelude.{◌≡◌, List, [], ◌∷◌, codes}
use Rattle.json_grammar.specs.declared.Kind.TheVariants.{Array as array, Object as object}
use Rattle.json_grammar.specs.Tree.{Token, null_token, num_token, begin, end, key_token}
use Rattle.json_grammar.specs.TokenStates.{TokenState, element_or_end, name_or_end, a_value, nothing, initial_state, after_tokens, Accepts}

-- tokens are accepted, and lead to a state
abbrev pub Becomes : List Token → TokenState → Type 0
Becomes ts s = Accepts initial_state ts × (after_tokens initial_state ts ≡ s)

-- after `{"a":[1` the array may go on or end
abbrev pub WithinArray : Type 0
WithinArray =
    Becomes (begin object ∷ key_token (codes "a") ∷ begin array ∷ num_token (codes "1") ∷ [])
    (record { opened = array ∷ object ∷ []; expected = element_or_end })

-- and after `{"a":[1]` the object
abbrev pub WithinObject : Type 0
WithinObject =
    Becomes (begin object ∷ key_token (codes "a") ∷ begin array ∷ num_token (codes "1") ∷ end array ∷ [])
    (record { opened = object ∷ []; expected = name_or_end })

-- after `{"a"` a value may follow, and no end
abbrev pub AfterName : Type 0
AfterName =
    Becomes (begin object ∷ key_token (codes "a") ∷ []) (record { opened = object ∷ []; expected = a_value })
    × ¬ (Accepts initial_state (begin object ∷ key_token (codes "a") ∷ end object ∷ []))

-- after `[]` nothing may follow
abbrev pub AfterWhole : Type 0
AfterWhole =
    Becomes (begin array ∷ end array ∷ []) (record { opened = []; expected = nothing })
    × ((x : Token) → ¬ (Accepts initial_state (begin array ∷ end array ∷ x ∷ [])))

-- no name may follow in an array, no element in an object, and no bracket closes another
abbrev pub Misplaced : Type 0
Misplaced =
    ¬ (Accepts initial_state (begin array ∷ key_token (codes "a") ∷ []))
    × ¬ (Accepts initial_state (begin object ∷ null_token ∷ []))
    × ¬ (Accepts initial_state (begin array ∷ end object ∷ []))
    × ¬ (Accepts initial_state (end array ∷ []))
