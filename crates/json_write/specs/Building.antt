-- A value that is built from what is given.
use Rattle.std.specs.Prelude.{◌≡◌, ◌⊎◌, ℕ, ◌^◌, ℤ, pos, negsuc, List, [], ◌∷◌, ◌++◌, map, reverse, Bool, false, true, ◌&&◌, nat_lt, cond, Option, Some, None, Result, IfErr}
use Rattle.json_grammar.specs.declared.Kind.{Kind}
use Rattle.json_grammar.specs.declared.Kind.TheVariants.{Array as array, Object as object}
use Rattle.json_grammar.specs.Tree.{Tree, null, boolean, num, text, list, pairs, no_pairs, list_trees, Token, null_token, boolean_token, num_token, text_token, begin, end, key_token}
use Rattle.json_io.specs.declared.error.Error.{Error}
use Rattle.json_io.specs.Errors.{no_memory, out_of_range, key_has_no_text}
use Rattle.json_grammar.specs.TokenStates.{TokenState, after_token, initial_state as no_token}
use Rattle.json_value.specs.Denotes.{tree_of, pair_of, text_bytes}
use Rattle.json_model.specs.Merged.{inserted_all}
use Rattle.json_write.specs.declared.builder.ValueBuilder.{ValueBuilder}
use Rattle.json_write.specs.declared.level.OpenContainer.{OpenContainer}
use Rattle.json_print.specs.Given.{TokenOrInteger, given, given_integer, token_of}
use Rattle.json_print.specs.Taking.{Takes}
use Rattle.json_write.specs.Nesting.{nesting_state}
use Rattle.json_model.specs.Datum.{Datum, tree_of_datum}

-- it lies in i64 or in u64
abbrev pub is_inside : ℤ → Bool
is_inside (pos n) = nat_lt n (2 ^ 64)
is_inside (negsuc n) = nat_lt n (2 ^ 63)

-- an open container: its elements, or its members and the key of the next
pub record Frame : Type 0 where
  pub kind : Kind
  pub values : List Tree
  pub members : List (List ℕ × Tree)
  pub key : List ℕ

abbrev pub frame_of : OpenContainer → Frame
frame_of l = record { kind = l.kind; values = map tree_of l.values.items; members = map pair_of l.members.items; key = text_bytes l.key }

abbrev pub new_frame : Kind → Frame
new_frame k = record { kind = k; values = []; members = []; key = [] }

-- a value more
abbrev pub taken_by : Kind → Frame → Tree → Frame
taken_by array f t = record f { values = f.values ++ t ∷ [] }
taken_by object f t = record f { members = f.members ++ (f.key, t) ∷ []; key = [] }

abbrev pub frame_take : Frame → Tree → Frame
frame_take f t = taken_by f.kind f t

-- the key of the next member
abbrev pub frame_key : Frame → List ℕ → Frame
frame_key f key = record f { key = key }

-- the container, at its end
abbrev pub tree_by : Kind → Frame → Tree
tree_by array f = list (list_trees f.values)
tree_by object f = pairs (inserted_all f.members no_pairs)

abbrev pub frame_tree : Frame → Tree
frame_tree f = tree_by f.kind f

-- the innermost container, or what takes the root, and those around it
pub record Work : Type 0 where
  pub top : Frame
  pub outer : List Frame

pub record Build : Type 0 where
  pub token_state : TokenState
  pub work : Work
  -- each integer by value so far lies in i64 or u64
  pub fits : Bool

abbrev pub build_of : ValueBuilder → Build
build_of b = record { token_state = nesting_state b.nesting; work = record { top = frame_of b.top; outer = reverse (map frame_of b.outer.items) }; fits = true }

abbrev pub ended : Tree → List Frame → Work
ended t [] = record { top = frame_take (new_frame array) t; outer = [] }
ended t (f ∷ fs) = record { top = frame_take f t; outer = fs }

abbrev pub work_after : Work → Token → Work
work_after w null_token = record w { top = frame_take w.top null }
work_after w (boolean_token b) = record w { top = frame_take w.top (boolean b) }
work_after w (num_token l) = record w { top = frame_take w.top (num l) }
work_after w (text_token s) = record w { top = frame_take w.top (text s) }
work_after w (begin k) = record { top = new_frame k; outer = w.top ∷ w.outer }
work_after w (end k) = ended (frame_tree w.top) w.outer
work_after w (key_token k) = record w { top = frame_key w.top k }

abbrev pub fits_after : Bool → TokenOrInteger → Bool
fits_after b (given t) = b
fits_after b (given_integer n) = b && is_inside n

abbrev pub build_after : Build → TokenOrInteger → Build
build_after b t = record { token_state = after_token b.token_state (token_of t); work = work_after b.work (token_of t); fits = fits_after b.fits t }

-- a value was passed
abbrev pub value_added : Tree → Build → TokenOrInteger → Build
value_added u b t = record { token_state = after_token b.token_state null_token; work = record (b.work) { top = frame_take b.work.top u }; fits = b.fits }

-- no token was taken yet
abbrev pub at_start : Build
at_start = record { token_state = no_token; work = record { top = new_frame array; outer = [] }; fits = true }

abbrev pub StopsAs : Error → Build → TokenOrInteger → Build → Error → Type 0
StopsAs x b t b' e = e ≡ x

abbrev pub StopsMemory : Build → TokenOrInteger → Build → Error → Type 0
StopsMemory b t b' e = e ≡ no_memory

-- memory ran out, or it is an integer that has no room
abbrev pub StopsBuild : Build → TokenOrInteger → Build → Error → Type 0
StopsBuild b t b' e = (e ≡ no_memory) ⊎ ((e ≡ out_of_range) × ((z : ℤ) × (t ≡ given_integer z) × (is_inside z ≡ false)))

-- a call of a builder: what it builds goes on so, or it stops so
abbrev pub Builds : (Build → TokenOrInteger → Build) → (Build → TokenOrInteger → Build → Error → Type 0) → ValueBuilder → ValueBuilder → TokenOrInteger → Result (Unit {0}) Error → Type 0
Builds next stops old new g result = Takes next stops (build_of old) (build_of new) old.failed new.failed g result

-- the first from the left of a key that has no text and an integer, which is no key, that lies outside
abbrev pub first_refusal : List (Option TokenOrInteger) → Option Error
first_refusal [] = None
first_refusal (None ∷ ps) = Some key_has_no_text
first_refusal (Some (given t) ∷ ps) = first_refusal ps
first_refusal (Some (given_integer n) ∷ ps) = cond (is_inside n) (first_refusal ps) (Some out_of_range)

-- an error is want of memory, or that a key has no text
abbrev pub FailsOnKeyText : {A : Type 0} → Datum → Result A Error → Type 0
FailsOnKeyText d result = IfErr result (λ e. (e ≡ no_memory) ⊎ ((e ≡ key_has_no_text) × (tree_of_datum d ≡ None)))
