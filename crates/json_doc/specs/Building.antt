-- What a builder holds while containers are open.
use Rattle.std.specs.Prelude.{ℕ, ◌+◌, ◌*◌, List, [], ◌∷◌, ◌++◌, length}
use Rattle.json_grammar.specs.declared.Kind.TheVariants.{Array as array, Object as object}
use Rattle.json_grammar.specs.Tree.{Tree, Trees, Pairs, Token, begin, key_token, tokens, trees_tokens, pairs_tokens}
use Rattle.json_grammar.specs.TokenStates.{TokenState, a_value, initial_state, state_in, ValueMayCome}
use Rattle.json_doc.specs.Segment.{node, trees_row, pairs_row, text_cell}
use Rattle.json_doc.specs.Texts.{trees_count, pairs_count}
use Rattle.json_doc.specs.declared.cell.Cell.{Cell}
use Rattle.json_doc.specs.declared.cell.Cell.TheVariants as cell

-- where the container around the outermost one would be
abbrev pub nowhere : ℕ
nowhere = 4294967295

-- p is the place of the innermost open container, and n counts its elements, or its keys and values, so far. Its cell keeps the place and the count of the container around
-- it until it ends, and its children follow. The state s is that after the tokens ts.
pub data BuilderState (bytes : List ℕ) : List Cell → ℕ → ℕ → TokenState → List Token → Type 0 where
  nothing : BuilderState bytes [] nowhere 0 initial_state []
  whole : {cs : List Cell} (t : Tree) → node bytes 0 cs t → BuilderState bytes cs nowhere 1 (state_in []) (tokens t)
  in_array : {front : List Cell} {p n : ℕ} {s : TokenState} {ts : List Token} (cs : List Cell) (us : Trees)
      → BuilderState bytes front p n s ts → ValueMayCome s.expected → trees_row bytes (length front + 1) cs us
      → BuilderState bytes (front ++ cell.Array p n ∷ cs) (length front) (trees_count us) (state_in (array ∷ s.opened)) (ts ++ begin array ∷ trees_tokens us)
  in_object : {front : List Cell} {p n : ℕ} {s : TokenState} {ts : List Token} (cs : List Cell) (us : Pairs)
      → BuilderState bytes front p n s ts → ValueMayCome s.expected → pairs_row bytes (length front + 1) cs us
      → BuilderState bytes (front ++ cell.Object p n ∷ cs) (length front) (2 * pairs_count us) (state_in (object ∷ s.opened)) (ts ++ begin object ∷ pairs_tokens us)
  in_pair : {front : List Cell} {p n : ℕ} {s : TokenState} {ts : List Token} {key : Cell} (cs : List Cell) (us : Pairs) (k : List ℕ)
      → BuilderState bytes front p n s ts → ValueMayCome s.expected → pairs_row bytes (length front + 1) cs us → text_cell bytes key k
      → BuilderState bytes (front ++ cell.Object p n ∷ (cs ++ key ∷ [])) (length front) (2 * pairs_count us + 1) (record { opened = object ∷ s.opened; expected = a_value }) (ts ++ begin object ∷ (pairs_tokens us ++ key_token k ∷ []))
