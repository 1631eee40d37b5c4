-- Names that repeat within one object: in a tree, in tokens and in bytes. They are admitted (RFC 8259,
-- section 4), and a reader may be asked to refuse them.
-- Names are compared by what they spell: `"a"` and `"\u0061"` are one name.
use Rattle.std.specs.Prelude.{◌≡◌, ◌⊎◌, ℕ, ◌<◌, Bool, List, [], ◌∷◌, ◌++◌, length}
use Rattle.std.specs.List.{Contains}
use Rattle.json_grammar.specs.Tree.{Tree, null, boolean, num, text, list, pairs, Trees, no_trees, tree_and, Pairs, no_pairs, pair_and, Token, null_token, boolean_token, num_token, text_token, begin, end, key_token}
use Rattle.json_grammar.specs.Grammar.{ws, byte, ◌then◌, string, members}
use Rattle.json_grammar.specs.Fault.{before_value}

-- names of one object, in their order
abbrev pub Keys : Type 0
Keys = List (List ℕ)

-- ---- in a tree

-- the names of members
abbrev pub names : Pairs → Keys
names no_pairs = []
names (pair_and k t ps) = k ∷ names ps

-- some object in the tree has two members of one name
abbrev mutual
  pub RepeatsKey : Tree → Type 0
  RepeatsKey null = ⊥
  RepeatsKey (boolean b) = ⊥
  RepeatsKey (num l) = ⊥
  RepeatsKey (text s) = ⊥
  RepeatsKey (list ts) = TreesRepeatKey ts
  RepeatsKey (pairs ps) = PairsRepeatKey ps

  pub TreesRepeatKey : Trees → Type 0
  TreesRepeatKey no_trees = ⊥
  TreesRepeatKey (tree_and t ts) = RepeatsKey t ⊎ TreesRepeatKey ts

  pub PairsRepeatKey : Pairs → Type 0
  PairsRepeatKey no_pairs = ⊥
  PairsRepeatKey (pair_and k t ps) = Contains (names ps) k ⊎ (RepeatsKey t ⊎ PairsRepeatKey ps)

-- ---- in tokens: for each open container, the innermost first, the names that it has so far; an array has none

-- those of the innermost
abbrev pub innermost_keys : List Keys → Keys
innermost_keys [] = []
innermost_keys (ks ∷ outer) = ks

-- those of the containers around the innermost
abbrev pub outer_keys : List Keys → List Keys
outer_keys [] = []
outer_keys (ks ∷ outer) = outer

-- after one more name of the innermost
abbrev pub with_key : List Keys → List ℕ → List Keys
with_key [] s = []
with_key (ks ∷ outer) s = (ks ++ s ∷ []) ∷ outer

-- after one more token
abbrev pub keys_past : List Keys → Token → List Keys
keys_past all null_token = all
keys_past all (boolean_token b) = all
keys_past all (num_token l) = all
keys_past all (text_token s) = all
keys_past all (begin k) = [] ∷ all
keys_past all (end k) = outer_keys all
keys_past all (key_token s) = with_key all s

-- after one token after another
abbrev pub keys_from : List Keys → List Token → List Keys
keys_from all [] = all
keys_from all (x ∷ ts) = keys_from (keys_past all x) ts

-- after these tokens, those of the innermost
abbrev pub open_keys : List Token → Keys
open_keys ts = innermost_keys (keys_from [] ts)

-- the token is a name that its object has already
abbrev pub RepeatsAt : List Keys → Token → Type 0
RepeatsAt all null_token = ⊥
RepeatsAt all (boolean_token b) = ⊥
RepeatsAt all (num_token l) = ⊥
RepeatsAt all (text_token s) = ⊥
RepeatsAt all (begin k) = ⊥
RepeatsAt all (end k) = ⊥
RepeatsAt all (key_token s) = Contains (innermost_keys all) s

-- one of the tokens is such a name, where these names precede them
abbrev pub TokensRepeatFrom : List Keys → List Token → Type 0
TokensRepeatFrom all [] = ⊥
TokensRepeatFrom all (x ∷ ts) = RepeatsAt all x ⊎ TokensRepeatFrom (keys_past all x) ts

-- one of the tokens is a name that its object has already
abbrev pub TokensRepeat : List Token → Type 0
TokensRepeat ts = TokensRepeatFrom [] ts

-- ---- in bytes

module _ (lossy : Bool) where
  -- p begins with an object's beginning, and a name whose opening quotation mark is at the offset k
  -- repeats an earlier name of that object
  pub record repeated (p : List ℕ) (k : ℕ) : Type 0 where
    -- what precedes the object
    pub before : List ℕ
    -- after its `{`: some members, a comma after the last one, and whitespace
    pub inside : List ℕ
    pub earlier : Pairs
    -- the name as it is written, what it spells, and what follows it
    pub written : List ℕ
    pub name : List ℕ
    pub rest : List ℕ
    pub bytes : p ≡ (before ++ 123 ∷ inside) ++ (written ++ rest)
    pub at : before_value lossy before
    pub is_inside : (members lossy earlier then byte 44 then ws) inside
    pub spells : string lossy name written
    pub is_earlier : Contains (names earlier) name
    pub offset : length (before ++ 123 ∷ inside) ≡ k

  -- a name repeats at the offset k, and none before it does
  abbrev pub first_repeated : List ℕ → ℕ → Type 0
  first_repeated p k = repeated p k × ((j : ℕ) → j < k → ¬ (repeated p j))
