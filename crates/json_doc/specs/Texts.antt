-- How many members a container has, and the texts of tokens in a row.
use Rattle.std.specs.Prelude.{ℕ, ◌+◌, List, [], ◌∷◌, ◌++◌}
use Rattle.json_grammar.specs.Tree.{Trees, no_trees, tree_and, Pairs, no_pairs, pair_and, Token, null_token, boolean_token, num_token, text_token, begin, end, key_token}
use Rattle.json_doc.specs.ByValue.{kept_bytes}

-- how many elements an array has
abbrev pub trees_count : Trees → ℕ
trees_count no_trees = 0
trees_count (tree_and t ts) = 1 + trees_count ts

-- how many pairs an object has
abbrev pub pairs_count : Pairs → ℕ
pairs_count no_pairs = 0
pairs_count (pair_and k t ps) = 1 + pairs_count ps

-- the bytes that a token adds to the text: a literal that is no integer by value, a text or a key
abbrev pub token_text : Token → List ℕ
token_text null_token = []
token_text (boolean_token b) = []
token_text (num_token l) = kept_bytes l
token_text (text_token s) = s
token_text (begin k) = []
token_text (end k) = []
token_text (key_token s) = s

-- the texts, keys and literals in the order of the tokens
abbrev pub tokens_text : List Token → List ℕ
tokens_text [] = []
tokens_text (x ∷ ts) = token_text x ++ tokens_text ts
