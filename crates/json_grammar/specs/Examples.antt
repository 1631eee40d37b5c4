-- Examples: texts with their trees, and inputs that are no text with their faults. An input within
-- `codes` is written as it is in a file, but that a backslash precedes each quote and each
-- backslash of it.
use Rattle.std.specs.Prelude.{◌≡◌, ℕ, zero, suc, ◌≤◌, List, [], ◌∷◌, ◌++◌, replicate, true, false, codes}
use Rattle.json_grammar.specs.declared.Kind.TheVariants.{Array as array, Object as object}
use Rattle.json_grammar.specs.Tree.{Tree, null, boolean, num, text, list, pairs, no_trees, tree_and, no_pairs, list_trees, list_pairs, depth, num_token, begin, end, key_token, tokens}
use Rattle.json_grammar.specs.Grammar.{is_text}
use Rattle.json_grammar.specs.Sizes.{nodes, tree_text_bytes}
use Rattle.json_grammar.specs.Fault.{FaultCode, eof_while_parsing, invalid_literal, invalid_number, expected_colon, expected_array_comma_or_end, expected_object_comma_or_end, expect_object_key_or_end, trailing_comma, invalid_json_value, control_character, invalid_escape, invalid_surrogate, trailing_characters, recursion_limit_exceeded, fault, reads}

-- b is a strict text of t and of no other tree, and where 254 levels are allowed it has no fault
pub record IsTextOf (t : Tree) (b : List ℕ) : Type 0 where
  pub spells : is_text false t b
  pub one_tree : (t' : Tree) → is_text false t' b → t ≡ t'
  pub no_fault : (code : FaultCode) (k : ℕ) → ¬ (fault false 254 b code k)

-- b is no strict text of at most 254 levels: it has this fault at this offset, and no other
pub record IsRefused (b : List ℕ) (code : FaultCode) (offset : ℕ) : Type 0 where
  pub has_fault : fault false 254 b code offset
  pub one_fault : (code' : FaultCode) (k : ℕ) → fault false 254 b code' k → (code ≡ code') × (offset ≡ k)
  pub no_text : (t : Tree) → depth t ≤ 254 → ¬ (is_text false t b)

-- ---- texts

-- the members in their order
abbrev pub ObjectText : Type 0
ObjectText =
    IsTextOf (pairs (list_pairs ((codes "a", num (codes "1")) ∷ (codes "b", boolean true) ∷ (codes "c", null) ∷ [])))
    (codes "{\"a\": 1, \"b\": true, \"c\": null}")

-- each number is its own literal, however large or small (RFC 8259, section 6)
abbrev pub NumbersText : Type 0
NumbersText =
    IsTextOf (list (list_trees (num (codes "-0") ∷ num (codes "1.0") ∷ num (codes "1e400") ∷ num (codes "12345678901234567890123") ∷ num (codes "18446744073709551615") ∷ [])))
    (codes "[-0,1.0,1e400,12345678901234567890123,18446744073709551615]")

-- escapes represent U+1F604, `A`, `/` and U+0000 (section 7)
abbrev pub EscapesText : Type 0
EscapesText = IsTextOf (text (0xf0 ∷ 0x9f ∷ 0x98 ∷ 0x84 ∷ 0x41 ∷ 0x2f ∷ 0 ∷ [])) (codes "\"\\ud83d\\ude04\\u0041\\/\\u0000\"")

-- two members may have one name, and both are kept (section 4)
abbrev pub RepeatedNamesText : Type 0
RepeatedNamesText = IsTextOf (pairs (list_pairs ((codes "a", num (codes "1")) ∷ (codes "a", null) ∷ []))) (codes "{\"a\":1,\"a\":null}")

-- a space, a tab, a line feed and a carriage return around `[` and `]` (section 2)
abbrev pub WhitespaceText : Type 0
WhitespaceText = IsTextOf (list no_trees) (32 ∷ 9 ∷ 91 ∷ 10 ∷ 93 ∷ 13 ∷ [])

-- t within n arrays
abbrev pub in_arrays : ℕ → Tree → Tree
in_arrays zero t = t
in_arrays (suc n) t = list (tree_and (in_arrays n t) no_trees)

-- b within n pairs of brackets
abbrev pub in_brackets : ℕ → List ℕ → List ℕ
in_brackets zero b = b
in_brackets (suc n) b = 91 ∷ (in_brackets n b ++ 93 ∷ [])

-- 254 brackets that open, and as many that close (section 9)
abbrev pub DeepText : Type 0
DeepText = IsTextOf (in_arrays 253 (list no_trees)) (in_brackets 253 (codes "[]"))

-- in the lossy mode an escape of a lone surrogate is U+FFFD (section 8.2)
abbrev pub LossyText : Type 0
LossyText = is_text true (text (0xef ∷ 0xbf ∷ 0xbd ∷ codes "abc")) (codes "\"\\ud800abc\"")

-- ---- inputs that are no text

-- the input ends before its text does
abbrev pub BreaksOff : Type 0
BreaksOff = IsRefused [] eof_while_parsing 0 × IsRefused (codes "-") eof_while_parsing 1 × IsRefused (codes "[[[[") eof_while_parsing 4

-- `nul` goes on with `l` alone (section 3)
abbrev pub LiteralRefused : Type 0
LiteralRefused = IsRefused (codes "nulx") invalid_literal 3

-- no digit follows a leading zero (section 6)
abbrev pub LeadingZeroRefused : Type 0
LeadingZeroRefused = IsRefused (codes "[01]") invalid_number 2

-- a colon follows a name (section 4)
abbrev pub ColonRefused : Type 0
ColonRefused = IsRefused (codes "{\"a\" 1}") expected_colon 5

-- a comma separates two elements (section 5)
abbrev pub ElementEndRefused : Type 0
ElementEndRefused = IsRefused (codes "[1x") expected_array_comma_or_end 2

-- a comma separates two members (section 4)
abbrev pub MemberEndRefused : Type 0
MemberEndRefused = IsRefused (codes "{\"a\":1 \"b\"") expected_object_comma_or_end 7

-- a name is a string (section 4)
abbrev pub NameRefused : Type 0
NameRefused = IsRefused (codes "{1}") expect_object_key_or_end 1

-- a member follows a comma of an object (section 4)
abbrev pub TrailingCommaRefused : Type 0
TrailingCommaRefused = IsRefused (codes "{\"a\":1,}") trailing_comma 7

-- an element follows a comma of an array (section 5)
abbrev pub ElementRefused : Type 0
ElementRefused = IsRefused (codes "[1,]") invalid_json_value 3

-- no byte order mark precedes a text (section 8.1)
abbrev pub ByteOrderMarkRefused : Type 0
ByteOrderMarkRefused = IsRefused (0xef ∷ 0xbb ∷ 0xbf ∷ codes "1") invalid_json_value 0

-- a line feed between quotes is escaped (section 7)
abbrev pub ControlCharacterRefused : Type 0
ControlCharacterRefused = IsRefused (34 ∷ 10 ∷ 34 ∷ []) control_character 1

-- `\x` is no escape (section 7)
abbrev pub EscapeRefused : Type 0
EscapeRefused = IsRefused (codes "\"\\x\"") invalid_escape 2

-- a high surrogate is followed by a low one (section 8.2)
abbrev pub SurrogateRefused : Type 0
SurrogateRefused = IsRefused (codes "\"\\ud800abc\"") invalid_surrogate 7 × IsRefused (codes "\"\\udc00\"") invalid_surrogate 4

-- whitespace alone follows a text's value (section 2)
abbrev pub TrailingCharactersRefused : Type 0
TrailingCharactersRefused = IsRefused (codes "{} x") trailing_characters 3

-- of 300 brackets the one at offset 254 opens the 255th level (section 9)
abbrev pub TooDeepRefused : Type 0
TooDeepRefused = IsRefused (replicate 300 91) recursion_limit_exceeded 254

-- ---- what is counted and returned of a tree

-- the tree of `{"a":[1,{}]}`
abbrev pub small_tree : Tree
small_tree = pairs (list_pairs ((codes "a", list (list_trees (num (codes "1") ∷ pairs no_pairs ∷ []))) ∷ []))

-- 3 levels; 5 nodes, the name among them; and 2 bytes of text, `a` and `1`
abbrev pub SmallTreeCounted : Type 0
SmallTreeCounted = (depth small_tree ≡ 3) × (nodes small_tree ≡ 5) × (tree_text_bytes small_tree ≡ 2)

-- its tokens, from left to right
abbrev pub SmallTreeTokens : Type 0
SmallTreeTokens =
    tokens small_tree
    ≡ begin object ∷ key_token (codes "a") ∷ begin array ∷ num_token (codes "1") ∷ begin object ∷ end object ∷ end array ∷ end object ∷ []

-- of `[] x` the first two bytes read as an empty array, whatever follows them
abbrev pub ValueRead : Type 0
ValueRead = reads false (codes "[] x") (list no_trees) 2
