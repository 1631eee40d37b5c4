-- What a call of a source of tokens takes.
use Rattle.std.specs.Prelude.{◌≡◌, ◌<◌, ◌≤◌, ℕ, pos, neg_ℤ, List, [], ◌∷◌, ◌++◌, Bool, Option, Some, None, true, false, Result, Err, IfErr, IfSome}
use Rattle.json_grammar.specs.declared.Kind.TheVariants.{Array as array, Object as object}
use Rattle.json_grammar.specs.Tree.{Tree, num, text as text_tree, Trees, Pairs, tokens, trees_tokens, pairs_tokens, Token as Tok, key_token, end}
use Rattle.json_number.specs.Integers.{integer_in}
use Rattle.json_io.specs.declared.error.Error.{Error}
use Rattle.json_tokens.specs.declared.token.TokenKind.{TokenKind}
use Rattle.json_tokens.specs.Kinds.{kind_of, first_kind}
use Rattle.json_tokens.specs.Refusals.{is_refusal}
use Rattle.json_grammar.specs.declared.Kind.{Kind}
use Rattle.json_grammar.specs.TokenStates.{TokenState, Expected, a_value, element_or_end, name_or_end, nothing, state_in, state_after_value, after_token}
use Rattle.json_tokens.specs.ExpectedTokens.{KindMayCome, begins_value, around}

-- what is read: a text from a place on, lossy or not, with a limit of levels, or a tree
pub data Input : Type 0 where
  over_text : List ℕ → ℕ → Bool → ℕ → Input
  over_tree : Tree → Input

pub record TokensState : Type 0 where
  pub input : Input
  pub expected : TokenState
  -- the kind that was peeked since the last token was taken
  pub peeked : Option TokenKind
  -- falls with each token that is taken
  pub left : ℕ
  -- what was answered in the place of a token
  pub failed : Option Error

-- the tokens taken so far are not those of a whole tree
abbrev pub NotWhole : TokensState → Type 0
NotWhole s = ¬ (s.expected ≡ state_in [])

abbrev pub IsPeekedValue : Option TokenKind → Type 0
IsPeekedValue (Some k) = begins_value k ≡ true
IsPeekedValue None = ⊥

-- the next token is no key and no end
abbrev pub WantsAt : Expected → Option TokenKind → Type 0
WantsAt a_value o = Unit {0}
WantsAt element_or_end o = IsPeekedValue o
WantsAt name_or_end o = ⊥
WantsAt nothing o = ⊥

abbrev pub WantsValueAt : TokenState → Option TokenKind → Type 0
WantsValueAt s o = WantsAt s.expected o

abbrev pub WantsValue : TokensState → Type 0
WantsValue s = WantsValueAt s.expected s.peeked

-- the tokens xs were taken between a and b
pub record TakesTokens {S : Type 0} (taken : S → List Tok → Type 0) (a : S) (xs : List Tok) (b : S) : Type 0 where
  pub on : (ts : List Tok) → taken a ts → taken b (ts ++ xs)

-- the kind k was peeked
pub record Peeks (a b : TokensState) (k : TokenKind) : Type 0 where
  pub input : b.input ≡ a.input
  pub expected : b.expected ≡ a.expected
  pub peeked : b.peeked ≡ Some k
  pub left : b.left ≤ a.left
  pub may : KindMayCome a.expected k
  pub again : (j : TokenKind) → a.peeked ≡ Some j → k ≡ j

-- tokens were taken, and the state is p
pub record Moves (a b : TokensState) (p : TokenState) : Type 0 where
  pub input : b.input ≡ a.input
  pub expected : b.expected ≡ p
  pub peeked : b.peeked ≡ None
  pub left : b.left < a.left

-- the peeked kind was that of the token taken
pub record MatchesPeek (a : TokensState) (k : TokenKind) : Type 0 where
  pub may : KindMayCome a.expected k
  pub peeked : (j : TokenKind) → a.peeked ≡ Some j → k ≡ j

-- the tokens of a tree were taken
pub record TakesTree {S : Type 0} (taken : S → List Tok → Type 0) (state : S → TokensState) (a b : S) (t : Tree) : Type 0 where
  pub takes : TakesTokens taken a (tokens t) b
  pub moves : Moves (state a) (state b) (state_after_value (state a).expected)
  pub as_peeked : MatchesPeek (state a) (first_kind t)

-- an integer by value from 0 on was taken
pub record TakesInteger {S : Type 0} (taken : S → List Tok → Type 0) (state : S → TokensState) (a b : S) (n : ℕ) : Type 0 where
  pub literal : List ℕ
  pub value : integer_in literal ≡ Some (pos n)
  pub takes : TakesTree taken state a b (num literal)

-- an integer by value below 0 was taken, of this magnitude
pub record TakesNegative {S : Type 0} (taken : S → List Tok → Type 0) (state : S → TokensState) (a b : S) (n : ℕ) : Type 0 where
  pub literal : List ℕ
  pub value : integer_in literal ≡ Some (neg_ℤ (pos n))
  pub takes : TakesTree taken state a b (num literal)

-- a text of which a piece says what it is was taken
pub record TakesText {S : Type 0} (taken : S → List Tok → Type 0) (state : S → TokensState) (says : List ℕ → Type 0) (a b : S) : Type 0 where
  pub text : List ℕ
  pub said : says text
  pub takes : TakesTree taken state a b (text_tree text)

-- what is left of the innermost open container, its end included
abbrev pub RestAt : Expected → List Kind → List Tok → Type 0
RestAt a_value [] xs = ⊥
RestAt a_value (array ∷ c) xs = ⊥
RestAt a_value (object ∷ c) xs = (t : Tree) × (ps : Pairs) × (xs ≡ (tokens t ++ pairs_tokens ps) ++ end object ∷ [])
RestAt element_or_end c xs = (ts : Trees) × (xs ≡ trees_tokens ts ++ end array ∷ [])
RestAt name_or_end c xs = (ps : Pairs) × (xs ≡ pairs_tokens ps ++ end object ∷ [])
RestAt nothing c xs = ⊥

abbrev pub RestOfContainer : TokenState → List Tok → Type 0
RestOfContainer s xs = RestAt s.expected s.opened xs

-- the first of them has the kind k
abbrev pub FirstIs : List Tok → TokenKind → Type 0
FirstIs [] k = ⊥
FirstIs (x ∷ xs) k = kind_of x ≡ k

-- what is left of the innermost container was taken
pub record Leaves {S : Type 0} (taken : S → List Tok → Type 0) (state : S → TokensState) (a b : S) : Type 0 where
  pub rest : List Tok
  pub is_rest : RestOfContainer (state a).expected rest
  pub as_peeked : (k : TokenKind) → (state a).peeked ≡ Some k → FirstIs rest k
  pub takes : TakesTokens taken a rest b
  pub moves : Moves (state a) (state b) (around (state a).expected)

-- one token was taken
pub record TakesOne {S : Type 0} (taken : S → List Tok → Type 0) (state : S → TokensState) (a b : S) (x : Tok) : Type 0 where
  pub takes : TakesTokens taken a (x ∷ []) b
  pub moves : Moves (state a) (state b) (after_token (state a).expected x)
  pub as_peeked : MatchesPeek (state a) (kind_of x)

-- a name of which a piece says what it is was taken
pub record TakesKeyPiece {S : Type 0} (taken : S → List Tok → Type 0) (state : S → TokensState) (says : List ℕ → Type 0) (a b : S) : Type 0 where
  pub name : List ℕ
  pub said : says name
  pub takes : TakesOne taken state a b (key_token name)

-- it answered e, which is no refusal of a tree
pub record TokensFail (a b : TokensState) (e : Error) : Type 0 where
  pub input : b.input ≡ a.input
  pub no_refusal : is_refusal e.code ≡ false
  pub failed : b.failed ≡ Some e

-- an error is one that the source of tokens answered
abbrev pub FailsWithTokens : {A : Type 0} → (a b : TokensState) → Result A Error → Type 0
FailsWithTokens a b result = IfErr result (λ e. TokensFail a b e)

-- a first error has one of the causes
abbrev pub FailsForCause : {A : Type 0} → TokensState → (Error → Type 0) → Result A Error → Type 0
FailsForCause s causes result = s.failed ≡ None → IfErr result causes

-- an error that is kept is returned again
abbrev pub ReturnsAgain : {A : Type 0} → Option Error → Result A Error → Type 0
ReturnsAgain failed result = IfSome failed (λ e. result ≡ Err e)
