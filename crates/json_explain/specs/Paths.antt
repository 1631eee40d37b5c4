-- To which value of a tree a path leads, and where a text has it.
use Rattle.std.specs.Prelude.{◌≡◌, ◌<◌, ◌≤◌, ℕ, suc, pred, List, [], ◌∷◌, ◌++◌, false, Option, Some, length}
use Rattle.json_grammar.specs.declared.Kind.{Kind}
use Rattle.json_grammar.specs.declared.Kind.TheVariants.{Array as array, Object as object}
use Rattle.json_grammar.specs.declared.ExpectedPart.{ExpectedPart}
use Rattle.json_grammar.specs.Given.{piece}
use Rattle.json_grammar.specs.Grammar.{is_text as is_text_of}
use Rattle.json_grammar.specs.Needs.{IsGap}
use Rattle.json_grammar.specs.Tree.{Tree, list, pairs, Token as Tok, tokens, trees_tokens, pairs_tokens, trees_list, list_trees, pairs_list, list_pairs, begin, end, key_token, depth}
use Rattle.json_text.specs.declared.event.Event.{Event}
use Rattle.json_text.specs.Events.{Means, event_bytes}
use Rattle.json_text.specs.Parsing.{ParserState, HasGiven, TakesToken}
use Rattle.json_text.specs.Readers.{ReaderAt}
use Rattle.json_explain.specs.Refused.{RefusedStep, element_step, member_step}

-- a step leads from t to the value u in it, and xs are the tokens of t before u
abbrev pub StepsTo : Tree → RefusedStep → Tree → List Tok → Type 0
StepsTo (list ts) (element_step i) u xs = (before after : List Tree) × (trees_list ts ≡ before ++ u ∷ after) × (length before ≡ i) × (xs ≡ begin array ∷ trees_tokens (list_trees before))
StepsTo (pairs ps) (member_step i k) u xs =
    (before after : List (List ℕ × Tree)) × (pairs_list ps ≡ before ++ (k, u) ∷ after) × (length before ≡ i) × (xs ≡ begin object ∷ (pairs_tokens (list_pairs before) ++ key_token k ∷ []))
StepsTo t s u xs = ⊥

-- a path leads from t to the value v, and xs are the tokens of t before v
abbrev pub PathLeadsTo : Tree → List RefusedStep → Tree → List Tok → Type 0
PathLeadsTo t [] v xs = (t ≡ v) × (xs ≡ [])
PathLeadsTo t (s ∷ p) v xs = (u : Tree) × (ys zs : List Tok) × StepsTo t s u ys × PathLeadsTo u p v zs × (xs ≡ ys ++ zs)

-- in the text b the value v, before which are the tokens xs, begins at the offset i: the first `before` bytes have those tokens, a gap follows,
-- and the first token of v is at i, byte for byte
pub record BeginsAt (limit : ℕ) (b : List ℕ) (xs : List Tok) (v : Tree) (i : ℕ) : Type 0 where
  pub opened : List Kind
  pub expected : ExpectedPart
  pub before : ℕ
  pub reader : ReaderAt false limit b before opened expected xs
  pub gap : IsGap (piece b before i)
  pub first : Tok
  pub rest : List Tok
  pub begins : tokens v ≡ first ∷ rest
  pub event : Event
  pub means : Means event first
  pub after : ℕ
  pub order : (before ≤ i) × (i < after) × (after ≤ length b)
  pub bytes : piece b i after ≡ event_bytes event

-- ---- on the way to a value

-- the tokens of the text b of t were xs so far, and ys follow
pub record OnTheWay (limit : ℕ) (b : List ℕ) (t : Tree) (s : ParserState) (xs ys : List Tok) : Type 0 where
  pub text : s.text ≡ b
  pub start : s.start ≡ 0
  pub mode : s.lossy ≡ false
  pub limit_is : s.limit ≡ limit
  pub given : HasGiven s xs
  pub is_text : is_text_of false t b
  pub fits : depth t ≤ limit
  pub row : tokens t ≡ xs ++ ys

-- the token x was taken, right before the new offset
pub record TakesNext (limit : ℕ) (b : List ℕ) (t : Tree) (old new : ParserState) (xs : List Tok) (x : Tok) (ys : List Tok) (result : Option Event) : Type 0 where
  pub event : Event
  pub some : result ≡ Some event
  pub means : Means event x
  pub takes : TakesToken old event new
  pub goes : OnTheWay limit b t new (xs ++ x ∷ []) ys

-- how many containers are open after a token, if n were before it
abbrev pub levels_after_token : Tok → ℕ → ℕ
levels_after_token (begin k) n = suc n
levels_after_token (end k) n = pred n
levels_after_token x n = n
