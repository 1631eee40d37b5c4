-- What it is to explain a refusal.
use Rattle.std.specs.Prelude.{◌≡◌, ◌⊎◌, ℕ, ◌+◌, ◌≤◌, List, [], ◌∷◌, ◌++◌, length, false, true, Option, None, option_map, string_bytes, map, IfSome}
use Rattle.json_grammar.specs.Fault.{reads}
use Rattle.json_grammar.specs.Grammar.{is_text}
use Rattle.json_grammar.specs.Tree.{Tree, Trees, trees_list, Token as Tok, depth}
use Rattle.json_io.specs.declared.error.Place.{Place}
use Rattle.json_io.specs.Positions.{place_at}
use Rattle.json_doc.specs.declared.json_type.JsonType.TheVariants as kind
use Rattle.json_doc.specs.Readings.{type_of}
use Rattle.json_tokens.specs.Refusals.{is_refusal}
use Rattle.json_tokens.specs.TokensStates.{TokensState, TakesTree}
use Rattle.json_data.specs.Tuples.{TakesElements}
use Rattle.json_explain.specs.declared.explanation.Explanation.{Explanation}
use Rattle.json_explain.specs.Refused.{Refused, RefusedStep as StepOf, element_step, member_step, refused_within, elements_refused_by}
use Rattle.json_explain.specs.declared.refusal.Wanted.{Wanted}
use Rattle.json_explain.specs.Paths.{PathLeadsTo, BeginsAt}
use Rattle.json_explain.specs.declared.refusal.Step.{Step}
use Rattle.json_explain.specs.declared.refusal.Step.TheVariants as step
use Rattle.json_explain.specs.declared.refusal.Refusal.{Refusal}

abbrev pub explained_step : Step → StepOf
explained_step (step.Key k i) = member_step i (string_bytes k)
explained_step (step.Index i) = element_step i

-- the steps of a refusal, from the whole value on
abbrev pub refusal_steps : Refusal → List StepOf
refusal_steps r = map explained_step r.steps.items

-- what a refusal says
abbrev pub refused_of : Refusal → Refused
refused_of r = record { path = refusal_steps r; code = r.code; member = option_map string_bytes r.member; wanted = r.wanted; found_type = r.found_type }

abbrev pub refused_in : Option Refusal → Option Refused
refused_in o = option_map refused_of o

-- the path leads to a value of t, which is of the kind that was found
abbrev pub IsWithin : Tree → Refused → Type 0
IsWithin t x = (v : Tree) × (xs : List Tok) × PathLeadsTo t x.path v xs × (type_of v ≡ x.found_type)

-- one tree was taken, and r is where it is refused: at a value of it
pub record ExplainsTree {S : Type 0} (taken : S → List Tok → Type 0) (state : S → TokensState) (f : Tree → Option Refused) (a b : S) (r : Option Refused) : Type 0 where
  pub tree : Tree
  pub takes : TakesTree taken state a b tree
  pub answer : f tree ≡ r
  pub within : IfSome r (IsWithin tree)

-- x is of an array whose elements from the index i on are ts: the array itself, or a value of one of them
abbrev pub IsAmong : ℕ → Trees → Refused → Type 0
IsAmong i ts x = ((x.path ≡ []) × (x.found_type ≡ kind.Array))
    ⊎ ((before after : List Tree) × (u : Tree) × (y : Refused) × (trees_list ts ≡ before ++ u ∷ after) × IsWithin u y × (x ≡ refused_within (element_step (i + length before)) y))

-- the elements from the index i on were taken and the end of their array, and r is where one of them or the array is refused
pub record ExplainsElements {S : Type 0} (taken : S → List Tok → Type 0) (state : S → TokensState) (w : Wanted) (fs : List (Tree → Option Refused)) (i : ℕ) (a b : S) (r : Option Refused) : Type 0 where
  pub elements : Trees
  pub takes : TakesElements taken state a b elements
  pub answer : elements_refused_by w fs i elements ≡ r
  pub within : IfSome r (IsAmong i elements)

-- the path leads to a value of t, which is of the kind that was found, and begins in the text b at the place p
abbrev pub IsPlaced : ℕ → List ℕ → Tree → Place → Refused → Type 0
IsPlaced limit b t p x = (v : Tree) × (xs : List Tok) × PathLeadsTo t x.path v xs × (type_of v ≡ x.found_type) × (i : ℕ) × BeginsAt limit b xs v i × (p ≡ place_at b i)

-- the bytes are a text of a tree of at most that many levels, and r is where that is refused, if it
-- is; p is the place of the value there
abbrev pub TextRefused : ℕ → (Tree → Option Refused) → List ℕ → Option Refused → Place → Type 0
TextRefused limit f b r p = (t : Tree) × is_text false t b × (depth t ≤ limit) × (f t ≡ r) × IfSome r (IsPlaced limit b t p)

-- what explains an error of the text b: where it is refused, if the error is a refusal
pub record IsExplained (limit : ℕ) (f : Tree → Option Refused) (b : List ℕ) (x : Explanation) : Type 0 where
  pub refused : is_refusal x.error.code ≡ true → TextRefused limit f b (refused_in x.refusal) x.place
  pub plain : is_refusal x.error.code ≡ false → x.refusal ≡ None
  pub elsewhere : x.refusal ≡ None → x.place ≡ x.error.place

-- the value that the bytes begin with has a tree of which this holds
abbrev pub FirstValueHolds : (Tree → Type 0) → List ℕ → Type 0
FirstValueHolds P b = (t : Tree) × (k : ℕ) × reads false b t k × P t

-- r is where the tree is refused, if it is: at a value of it
abbrev pub RefusedWhere : (Tree → Option Refused) → Tree → Option Refused → Type 0
RefusedWhere f t r = (f t ≡ r) × IfSome r (IsWithin t)
