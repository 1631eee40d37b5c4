-- What the tokens of a value are.
use Rattle.std.specs.Prelude.{◌≡◌, ℕ, List, [], ◌∷◌, ◌++◌, length, map, Bool, true, false, if◌then◌else◌, Option, Some, None, IfSome, option_map, slice_get}
use Rattle.json_grammar.specs.declared.Kind.{Kind}
use Rattle.json_grammar.specs.declared.Kind.TheVariants.{Array as array, Object as object}
use Rattle.json_grammar.specs.Tree.{Tree, Token as Tok, tokens, trees_tokens, pairs_tokens, list_trees, list_pairs, end}
use Rattle.json_io.specs.Errors.{no_memory}
use Rattle.json_value.specs.Seen.{seen}
use Rattle.json_value.specs.Left.{elements_left, members_left, elements_targets_left}
use Rattle.json_value.specs.Places.{places_in}
use Rattle.json_value.specs.ViewTargets.{ViewTarget, view_target, target_value_position, target_places}
use Rattle.json_value.specs.Positions.{doc_position}
use Rattle.json_value.specs.declared.value.Value.{Value}
use Rattle.json_value.specs.declared.view.View.{View}
use Rattle.json_tokens.specs.declared.level.Level.{Level}
use Rattle.json_tokens.specs.declared.level.Level.TheVariants as level
use Rattle.json_tokens.specs.declared.token.TokenKind.{TokenKind}
use Rattle.json_tokens.specs.declared.token.TokenKind.TheVariants as kind
use Rattle.json_tokens.specs.declared.value_tokens.ValueTokens.{ValueTokens}
use Rattle.json_tokens.specs.Kinds.{kind_of}
use Rattle.json_grammar.specs.TokenStates.{TokenState, a_value, initial_state, state_in}
use Rattle.json_tokens.specs.TokensStates.{TokensState, over_tree}

-- what is left of an open container: its elements, or its members
pub data Left : Type 0 where
  elements_of : List Tree → Left
  members_of : List (List ℕ × Tree) → Left

-- a container within the open ones, the innermost first
abbrev pub left_after_opening : Level → List Left → List Left
left_after_opening level.Root c = []
left_after_opening (level.List s) c = elements_of (elements_left s) ∷ c
left_after_opening (level.Pairs s) c = members_of (members_left s) ∷ c

-- so each of them, the outermost first
abbrev pub opened_in : List Left → List Level → List Left
opened_in c [] = c
opened_in c (l ∷ ls) = opened_in (left_after_opening l c) ls

abbrev pub kind_left : Left → Kind
kind_left (elements_of ts) = array
kind_left (members_of ps) = object

-- the tokens that are left of a container, its end included
abbrev pub left_tokens : Left → List Tok
left_tokens (elements_of ts) = trees_tokens (list_trees ts) ++ end array ∷ []
left_tokens (members_of ps) = pairs_tokens (list_pairs ps) ++ end object ∷ []

abbrev pub open_tokens : List Left → List Tok
open_tokens [] = []
open_tokens (l ∷ ls) = left_tokens l ++ open_tokens ls

abbrev pub next_tokens : Option Tree → List Tok
next_tokens None = []
next_tokens (Some t) = tokens t

-- the state within open containers, by whether a value of the innermost is next
abbrev pub state_in_levels : List Left → Option Tree → TokenState
state_in_levels [] None = state_in []
state_in_levels [] (Some t) = initial_state
state_in_levels (elements_of ts ∷ ls) o = state_in (array ∷ map kind_left ls)
state_in_levels (members_of ps ∷ ls) None = state_in (object ∷ map kind_left ls)
state_in_levels (members_of ps ∷ ls) (Some t) = record { opened = object ∷ map kind_left ls; expected = a_value }

-- a value whose tokens are taken
pub record ValueState : Type 0 where
  pub tree : Tree
  -- the next value, if it was reached
  pub next : Option Tree
  -- what the open containers have left after it, the innermost first
  pub levels : List Left
  -- whether the kind of the next token was peeked, and whether memory ran out
  pub peeked : Bool
  pub failed : Bool

abbrev pub value_state : ValueTokens → ValueState
value_state s = record {
  tree = seen s.whole;
  next = option_map seen s.next;
  levels = left_after_opening s.inner (opened_in [] s.outer.items);
  peeked = s.peeked;
  failed = s.failed;
}

-- the tokens that are left
abbrev pub rest_of_tokens : ValueState → List Tok
rest_of_tokens s = next_tokens s.next ++ open_tokens s.levels

abbrev pub head_kind : List Tok → Option TokenKind
head_kind [] = None
head_kind (x ∷ xs) = Some (kind_of x)

abbrev pub state_taken : ValueState → List Tok → Type 0
state_taken s ts = ts ++ rest_of_tokens s ≡ tokens s.tree

abbrev pub tokens_state_of : ValueState → TokensState
tokens_state_of s = record {
  input = over_tree s.tree;
  expected = state_in_levels s.levels s.next;
  peeked = if s.peeked then head_kind (rest_of_tokens s) else None;
  left = length (rest_of_tokens s);
  failed = if s.failed then Some no_memory else None;
}

-- the tokens that were taken are those of the value, before those that are left
abbrev pub value_taken : ValueTokens → List Tok → Type 0
value_taken s ts = state_taken (value_state s) ts

abbrev pub value_tokens_state : ValueTokens → TokensState
value_tokens_state s = tokens_state_of (value_state s)

-- ---- values that are returned

-- what the views of the elements that an array has left are of
abbrev pub element_targets : Level → List ViewTarget
element_targets level.Root = []
element_targets (level.List s) = elements_targets_left s
element_targets (level.Pairs s) = []

-- what the view of the next value is of
abbrev pub next_target : Option View → Level → Option ViewTarget
next_target (Some v) l = Some (view_target v)
next_target None l = slice_get (element_targets l) 0

-- a value made of what is seen: where that is a place of the document of a value it is read from
-- there, and of a whole value each part has the position of its own
pub record IsMadeOf (s : ViewTarget) (v : Value) : Type 0 where
  pub expected : doc_position v ≡ target_value_position s
  pub parts : IfSome (target_places s) (λ places. places_in v ≡ places)

abbrev pub value_placed : ValueTokens → Value → Type 0
value_placed s v = IfSome (next_target s.next s.inner) (λ g. IsMadeOf g v)

-- no token of the tree was peeked, taken or refused
abbrev pub at_begin : Tree → ValueState
at_begin t = record { tree = t; next = Some t; levels = []; peeked = false; failed = false }

-- ---- steps

-- the next value is the first element, if one is left
abbrev pub PullsElement : List Left → Option Tree → List Left → Type 0
PullsElement (elements_of (t ∷ ts) ∷ c) o ls = (o ≡ Some t) × (ls ≡ elements_of ts ∷ c)
PullsElement c o ls = (o ≡ None) × (ls ≡ c)

-- the first member, if one is left, was taken
abbrev pub PullsMember : List Left → Option (List ℕ × Tree) → List Left → Type 0
PullsMember (members_of (p ∷ ps) ∷ c) o ls = (o ≡ Some p) × (ls ≡ members_of ps ∷ c)
PullsMember c o ls = (o ≡ None) × (ls ≡ c)

-- no element is left of the innermost container
abbrev pub NoElement : List Left → Type 0
NoElement (elements_of ts ∷ c) = ts ≡ []
NoElement _ = Unit {0}

-- where no element is left, the next token, of a key or of an end, has the kind
abbrev pub FrontIs : List Left → TokenKind → Type 0
FrontIs [] k = Unit {0}
FrontIs (elements_of ts ∷ c) k = k ≡ kind.EndArray
FrontIs (members_of [] ∷ c) k = k ≡ kind.EndObject
FrontIs (members_of (p ∷ ps) ∷ c) k = k ≡ kind.Key

-- the next element, if one is left, was reached; nothing else changed
pub record SettlesNext (a b : ValueState) : Type 0 where
  pub tree : b.tree ≡ a.tree
  pub rest : rest_of_tokens b ≡ rest_of_tokens a
  pub expected : state_in_levels b.levels b.next ≡ state_in_levels a.levels a.next
  pub reached : b.next ≡ None → NoElement b.levels
  pub peeked : b.peeked ≡ a.peeked
  pub failed : b.failed ≡ a.failed

-- the tokens xs were taken, and the state is p
pub record TakesTokensTo (a b : ValueState) (xs : List Tok) (p : TokenState) : Type 0 where
  pub tree : b.tree ≡ a.tree
  pub rest : rest_of_tokens a ≡ xs ++ rest_of_tokens b
  pub expected : state_in_levels b.levels b.next ≡ p
  pub peeked : b.peeked ≡ false
  pub failed : b.failed ≡ a.failed

-- memory ran out
pub record Breaks (a b : ValueState) : Type 0 where
  pub tree : b.tree ≡ a.tree
  pub failed : b.failed ≡ true
