-- JSON Pointer (RFC 6901): the tokens of a text, and the value that they reference.
use Rattle.std.specs.Prelude.{◌≡◌, ◌≢◌, ◌<◌, length, slice_index, ℕ, ◌+◌, ◌-◌, ◌*◌, List, [], ◌∷◌, ◌++◌, Bool, true, false, cond, not, ◌==◌, ◌&&◌, nat_le, Option, Some, None, option_map, ok_or, Ok, Err}
use Rattle.json_grammar.specs.Tree.{Tree, list, pairs}
use Rattle.json_model.specs.Edit.{Step, key_step, index_step, Changed, within, not_found, type_unmatched, and_then}
use Rattle.json_patch.specs.ValuesAt.{value_at_step, value_at_path}

-- a reference token, as bytes: a key, or the decimal digits of an index
abbrev pub ReferenceToken : Type 0
ReferenceToken = List ℕ

-- ---- parsing (sections 3 and 4)

-- `/` and `~`
abbrev pub slash : ℕ
slash = 47

abbrev pub tilde : ℕ
tilde = 126

-- the token of escaped bytes, after a tilde or not: `~1` is `/`, `~0` is `~`, and any other `~` is
-- an error
abbrev pub unescaped_after : Bool → List ℕ → Option ReferenceToken
unescaped_after false [] = Some []
unescaped_after true [] = None
unescaped_after false (x ∷ s) = elim (x == tilde) [ true ↦ unescaped_after true s | false ↦ option_map (λ k. x ∷ k) (unescaped_after false s) ]
unescaped_after true (x ∷ s) =
    elim (x == 48) [ true ↦ option_map (λ k. tilde ∷ k) (unescaped_after false s) | false ↦ elim (x == 49) [ true ↦ option_map (λ k. slash ∷ k) (unescaped_after false s) | false ↦ None ] ]

-- a byte before the first part; a slash begins another part
abbrev pub prepend_byte : Bool → ℕ → List (List ℕ) → List (List ℕ)
prepend_byte true x ks = [] ∷ ks
prepend_byte false x [] = (x ∷ []) ∷ []
prepend_byte false x (k ∷ ks) = (x ∷ k) ∷ ks

-- the parts between the slashes
abbrev pub split_at_slashes : List ℕ → List (List ℕ)
split_at_slashes [] = [] ∷ []
split_at_slashes (x ∷ s) = prepend_byte (x == slash) x (split_at_slashes s)

-- a token before others, if each is one
abbrev pub prepend_token : Option ReferenceToken → Option (List ReferenceToken) → Option (List ReferenceToken)
prepend_token None p = None
prepend_token (Some k) None = None
prepend_token (Some k) (Some p) = Some (k ∷ p)

-- the tokens of the parts, if each is one
abbrev pub unescaped_tokens : List (List ℕ) → Option (List ReferenceToken)
unescaped_tokens [] = Some []
unescaped_tokens (s ∷ ss) = prepend_token (unescaped_after false s) (unescaped_tokens ss)

-- the tokens of a text: the empty text has none, and any other begins with a slash
abbrev pub pointer_of : List ℕ → Option (List ReferenceToken)
pointer_of [] = Some []
pointer_of (x ∷ s) = elim (x == slash) [ true ↦ unescaped_tokens (split_at_slashes s) | false ↦ None ]

-- ---- the text of tokens (section 3)

-- the bytes do not contain the byte
abbrev pub Lacks : ℕ → List ℕ → Type 0
Lacks c b = (i : ℕ) → i < length b → slice_index b i ≢ c

-- a byte of a token, escaped
abbrev pub escaped_byte : ℕ → List ℕ
escaped_byte x = cond (x == tilde) (tilde ∷ 48 ∷ []) (cond (x == slash) (tilde ∷ 49 ∷ []) (x ∷ []))

abbrev pub escaped_token : ReferenceToken → List ℕ
escaped_token [] = []
escaped_token (x ∷ k) = escaped_byte x ++ escaped_token k

-- a front of these bytes was appended
pub record AppendsFrontOf (old new bytes : List ℕ) : Type 0 where
  pub front : List ℕ
  pub back : List ℕ
  pub whole : bytes ≡ front ++ back
  pub appended : new ≡ old ++ front

-- the text of tokens: each after a slash
abbrev pub pointer_text : List ReferenceToken → List ℕ
pointer_text [] = []
pointer_text (k ∷ p) = slash ∷ (escaped_token k ++ pointer_text p)

-- ---- following tokens (section 4)

abbrev pub is_decimal_digit : ℕ → Bool
is_decimal_digit x = nat_le 48 x && nat_le x 57

-- the number whose first digits are n, and whose other digits these are
abbrev pub index_after : ℕ → List ℕ → Option ℕ
index_after n [] = Some n
index_after n (x ∷ s) = elim (is_decimal_digit x) [ true ↦ index_after (n * 10 + (x - 48)) s | false ↦ None ]

-- the index that a token is: `0`, or a digit from 1 to 9 and more digits
abbrev pub index_of_token : ReferenceToken → Option ℕ
index_of_token [] = None
index_of_token (x ∷ []) = cond (is_decimal_digit x) (Some (x - 48)) None
index_of_token (x ∷ y ∷ s) = elim (is_decimal_digit x && not (x == 48)) [ true ↦ index_after (x - 48) (y ∷ s) | false ↦ None ]

-- the step that a token is from a tree: a key from an object, an index from an array, and none from
-- any other
abbrev pub step_of_token : ReferenceToken → Tree → Changed Step
step_of_token k (pairs ps) = Ok (key_step k)
step_of_token k (list ts) = ok_or (option_map index_step (index_of_token k)) not_found
step_of_token k _ = Err type_unmatched

-- the path that tokens are from a tree
abbrev pub path_of_tokens : List ReferenceToken → Tree → Changed (List Step)
path_of_tokens [] t = Ok []
path_of_tokens (k ∷ p) t = and_then (step_of_token k t) (λ s. and_then (value_at_step s t) (λ u. within (λ q. s ∷ q) (path_of_tokens p u)))

-- the tree that tokens reference, or why there is none
abbrev pub value_at_pointer : List ReferenceToken → Tree → Changed Tree
value_at_pointer p t = and_then (path_of_tokens p t) (λ q. value_at_path q t)
