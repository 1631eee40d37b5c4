-- What a reader promises.
use Rattle.std.specs.Prelude.{◌≡◌, ◌≢◌, ℕ, List, Some, true, false, ◌⊎◌, Result, IfErr}
use Rattle.json_grammar.specs.declared.Kind.{Kind}
use Rattle.json_grammar.specs.Tree.{Tree, Token as Tok, null, begin}
use Rattle.json_io.specs.declared.error.Error.{Error}
use Rattle.json_io.specs.declared.error.ErrorCode.TheVariants.{TypeUnmatched}
use Rattle.json_io.specs.Errors.{no_memory}
use Rattle.json_tokens.specs.Kinds.{kind_of, first_kind}
use Rattle.json_tokens.specs.Refusals.{is_refusal, error_without_place}
use Rattle.json_data.specs.Reading.{Reading, refuses}
use Rattle.json_tokens.specs.TokensStates.{TokensState, TakesTree}

-- one tree was taken, and the answer r is its reading
pub record ReadsTree {S : Type 0} (taken : S → List Tok → Type 0) (state : S → TokensState) (f : Tree → Reading) (a b : S) (r : Reading) : Type 0 where
  pub tree : Tree
  pub takes : TakesTree taken state a b tree
  pub answer : f tree ≡ r

-- the same of a tree other than null
pub record ReadsNonNull {S : Type 0} (taken : S → List Tok → Type 0) (state : S → TokensState) (f : Tree → Reading) (a b : S) (r : Reading) : Type 0 where
  pub tree : Tree
  pub takes : TakesTree taken state a b tree
  pub answer : f tree ≡ r
  pub some : tree ≢ null

-- memory ran out, or the source answered e
pub record GivesUp (a b : TokensState) (e : Error) : Type 0 where
  pub input : b.input ≡ a.input
  pub no_refusal : is_refusal e.code ≡ false
  pub cause : (e ≡ no_memory) ⊎ (b.failed ≡ Some e)

-- e is a refusal of the tree that was taken, or none
pub record StopsReading {S : Type 0} (taken : S → List Tok → Type 0) (state : S → TokensState) (f : Tree → Reading) (a b : S) (e : Error) : Type 0 where
  pub refused : is_refusal e.code ≡ true → (e ≡ error_without_place e.code) × ReadsTree taken state f a b (refuses e.code)
  pub gave_up : is_refusal e.code ≡ false → GivesUp (state a) (state b) e

-- the same of a tree other than null
pub record Misses {S : Type 0} (taken : S → List Tok → Type 0) (state : S → TokensState) (f : Tree → Reading) (a b : S) (e : Error) : Type 0 where
  pub refused : is_refusal e.code ≡ true → (e ≡ error_without_place e.code) × ReadsNonNull taken state f a b (refuses e.code)
  pub gave_up : is_refusal e.code ≡ false → GivesUp (state a) (state b) e

-- why no key is made of a piece: memory ran out, or each text that it says is refused
pub record KeyReadingFails (says : List ℕ → Type 0) (f : List ℕ → Reading) (e : Error) : Type 0 where
  pub refused : is_refusal e.code ≡ true → (e ≡ error_without_place e.code) × ((s : List ℕ) → says s → f s ≡ refuses e.code)
  pub gave_up : is_refusal e.code ≡ false → e ≡ no_memory

-- every tree but a container of the kind is refused
abbrev pub RefusesOthers : Kind → (Tree → Reading) → Type 0
RefusesOthers k f = (t : Tree) → first_kind t ≢ kind_of (begin k) → f t ≡ refuses TypeUnmatched

-- an error is want of memory, or the source's
abbrev pub GivesUpOnErr : {A : Type 0} → (a b : TokensState) → Result A Error → Type 0
GivesUpOnErr a b result = IfErr result (λ e. GivesUp a b e)
