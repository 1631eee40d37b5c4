-- A builder that was given a whole tree holds its document.
use Rattle.std.proofs.Common.{◌≡◌, ℕ, ◌+◌, List, length, refl, ap, subst, ◌∙◌, arith}
use Rattle.json_grammar.specs.Tree.{Tree, Token, tokens}
use Rattle.json_grammar.proofs.TokensUnique.{tokens_injective}
use Rattle.json_grammar.proofs.Sizes.{nodes_tree}
use Rattle.json_grammar.specs.TokenStates.{TokenState, nothing as nothing_next, initial_state}
use Rattle.json_doc.specs.Segment.{node}
use Rattle.json_doc.specs.Building.{BuilderState, nothing, whole, in_array, in_object, in_pair}
use Rattle.json_doc.specs.Recorded.{RecordsTokens}
use Rattle.json_doc.specs.Shape.{CellsInPlace}
use Rattle.json_doc.specs.Spells.{CellsDenote, spells}
use Rattle.json_doc.specs.declared.cell.Cell.{Cell}
use Rattle.json_grammar.proofs.TokenStates.{after_tree}
use Rattle.json_doc.proofs.Spelling.{node_spells}
use Rattle.json_doc.proofs.Shaping.{itself, all_in_place}

whole_in : {bytes : List ℕ} {cells : List Cell} {p n : ℕ} {s : TokenState} {ts : List Token} (t : Tree) → BuilderState bytes cells p n s ts → s.expected ≡ nothing_next → ts ≡ tokens t → node bytes 0 cells t
whole_in t nothing e f = absurd (cc)
whole_in {bytes = bytes} t (whole {cs = cs} u h) e f = subst (λ (x : Tree). node bytes 0 cs x) (tokens_injective u t f) h
whole_in t (in_array cs us b v h) e f = absurd (cc)
whole_in t (in_object cs us b v h) e f = absurd (cc)
whole_in t (in_pair cs us k b v h n) e f = absurd (cc)

pub finished : (cells : List Cell) (bytes : List ℕ) (p n : ℕ) (t : Tree) → RecordsTokens cells bytes p n (tokens t) → node bytes 0 cells t
finished cells bytes p n t h =
    whole_in t h.built (ap (λ (s : TokenState). s.expected) (after_tree initial_state t)) refl

pub is_there_for : (cells : List Cell) (bytes : List ℕ) (p n : ℕ) (t : Tree) → RecordsTokens cells bytes p n (tokens t) → CellsDenote cells bytes 0 t
is_there_for cells bytes p n t h =
    let all : 0 + length cells ≡ length cells = omega arith in
    record {
      first = refl;
      spelled = subst (λ (k : ℕ). spells cells bytes 0 t k) all (node_spells cells bytes 0 cells t (finished cells bytes p n t h) (itself cells));
      counted = h.counted ∙ nodes_tree t;
      in_order = h.texts;
    }

pub in_place : (cells : List Cell) (bytes : List ℕ) (p n : ℕ) (t : Tree) → RecordsTokens cells bytes p n (tokens t) → CellsInPlace cells bytes
in_place cells bytes p n t h = all_in_place cells bytes h.utf8 t (finished cells bytes p n t h)
