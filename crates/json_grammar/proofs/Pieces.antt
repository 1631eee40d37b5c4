-- Pieces of an input, cut in two.
use Rattle.std.proofs.Common.{◌≡◌, ℕ, ◌-◌, ◌≤◌, List, ◌++◌, length, take, drop, sym, ap, ◌∙◌, arith, append_assoc, length-take, length-drop}
use Rattle.std.proofs.lemmas.List.{take-append-drop, append_cancel_left}
use Rattle.json_grammar.specs.Given.{piece}
use Rattle.json_grammar.proofs.Moves.{take_on}

pub piece_append : (b : List ℕ) (i j k : ℕ)
    → i ≤ j
    → j ≤ k
    → piece b i k ≡ piece b i j ++ piece b j k
piece_append b i j k h l =
    append_cancel_left (take i b) (piece b i k) (piece b i j ++ piece b j k)
    (sym (take_on b i k (omega arith)) ∙ take_on b j k l ∙ ap (λ o. o ++ piece b j k) (take_on b i j h)
    ∙ append_assoc (take i b) (piece b i j) (piece b j k))

pub drop_piece : (b : List ℕ) (i j : ℕ) → i ≤ j → drop i b ≡ piece b i j ++ drop j b
drop_piece b i j h =
    append_cancel_left (take i b) (drop i b) (piece b i j ++ drop j b)
    (take-append-drop i b ∙ sym (take-append-drop j b) ∙ ap (λ o. o ++ drop j b) (take_on b i j h)
    ∙ append_assoc (take i b) (piece b i j) (drop j b))

pub piece_length : (b : List ℕ) (i j : ℕ) → i ≤ j → j ≤ length b → length (piece b i j) ≡ j - i
piece_length b i j h k = omega (arith, length-take (j - i) (drop i b), length-drop i b)
