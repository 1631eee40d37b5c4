-- Consecutive cells that represent a tree: a container's cell, and after it all that is below it.
use Rattle.std.specs.Prelude.{◌≡◌, ℕ, ℤ, Option, Some, None, ◌+◌, List, [], ◌∷◌, ◌++◌, length}
use Rattle.std.specs.Str.{IsUtf8}
use Rattle.std.specs.Fmt.{signed_decimal}
use Rattle.json_grammar.specs.Tree.{Tree, null, boolean, num, text, list, pairs, Trees, no_trees, tree_and, Pairs, no_pairs, pair_and}
use Rattle.json_grammar.specs.Grammar.{number}
use Rattle.json_number.specs.Integers.{integer_in}
use Rattle.json_doc.specs.ByValue.{integer_cell}
use Rattle.json_doc.specs.Texts.{trees_count, pairs_count}
use Rattle.json_doc.specs.declared.cell.Cell.{Cell}
use Rattle.json_doc.specs.declared.cell.Cell.TheVariants as cell

-- xs has ys from the place at on
pub record SegmentAt {X : Type 0} (xs : List X) (at : ℕ) (ys : List X) : Type 0 where
  pub before : List X
  pub after : List X
  pub row : xs ≡ before ++ (ys ++ after)
  pub place : length before ≡ at

-- the bytes of a text are at the place at, and texts follow
abbrev pub TextAt : List ℕ → ℕ → List ℕ → Type 0
TextAt bytes at s = (h : SegmentAt bytes at s) × IsUtf8 s × IsUtf8 h.after

-- c names the bytes of a text
abbrev pub text_cell : List ℕ → Cell → List ℕ → Type 0
text_cell bytes c s = (start : ℕ) × (c ≡ cell.Str start (length s)) × TextAt bytes start s

-- c is the integer, whose decimal text the literal is, or where there is none it names the bytes of the literal
abbrev pub number_cell : Option ℤ → List ℕ → Cell → List ℕ → Type 0
number_cell (Some n) bytes c l = (c ≡ integer_cell n) × (l ≡ signed_decimal n)
number_cell None bytes c l = (start : ℕ) × (c ≡ cell.Raw start (length l)) × TextAt bytes start l

-- the cells cs, from the place at on, represent a tree; each literal is a number
abbrev mutual
  pub node : List ℕ → ℕ → List Cell → Tree → Type 0
  node bytes at cs null = cs ≡ cell.Null ∷ []
  node bytes at cs (boolean b) = cs ≡ cell.Bool b ∷ []
  node bytes at cs (num l) = number l × (c : Cell) × (cs ≡ c ∷ []) × number_cell (integer_in l) bytes c l
  node bytes at cs (text s) = (c : Cell) × (cs ≡ c ∷ []) × text_cell bytes c s
  node bytes at cs (list ts) = (rest : List Cell) × (cs ≡ cell.Array ((at + 1) + length rest) (trees_count ts) ∷ rest) × trees_row bytes (at + 1) rest ts
  node bytes at cs (pairs ps) = (rest : List Cell) × (cs ≡ cell.Object ((at + 1) + length rest) (pairs_count ps) ∷ rest) × pairs_row bytes (at + 1) rest ps

  -- these trees one after another
  pub trees_row : List ℕ → ℕ → List Cell → Trees → Type 0
  trees_row bytes at cs no_trees = cs ≡ []
  trees_row bytes at cs (tree_and t ts) = (a b : List Cell) × (cs ≡ a ++ b) × node bytes at a t × trees_row bytes (at + length a) b ts

  -- a key and its value in turn
  pub pairs_row : List ℕ → ℕ → List Cell → Pairs → Type 0
  pairs_row bytes at cs no_pairs = cs ≡ []
  pairs_row bytes at cs (pair_and k t ps) = (key : Cell) × (a b : List Cell) × (cs ≡ key ∷ (a ++ b)) × text_cell bytes key k × node bytes (at + 1) a t × pairs_row bytes ((at + 1) + length a) b ps
