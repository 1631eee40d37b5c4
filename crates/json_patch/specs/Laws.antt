-- Laws of pointers, patches and merges.
use Rattle.std.specs.Prelude.{◌⊎◌, slice_index, ◌+◌, Option, None, decimal, ◌<◌, ◌^◌, ◌≡◌, ◌≢◌, ℕ, ◌≤◌, true, false, codes, List, [], ◌∷◌, ◌++◌, length, map, Result, Ok, Err, Some}
use Rattle.std.specs.Str.Parse.{IsNumeral, digits_value}
use Rattle.json_grammar.specs.Tree.{Tree, null, boolean, num, text, list, pairs, Trees, trees_list, list_trees, Pairs, no_pairs, pair_and}
use Rattle.json_model.specs.Edit.{Step, set_at, insert_at, push_at, remove_at, EditRefusal, has_key, edited_once, and_then}
use Rattle.json_model.specs.Same.{same}
use Rattle.json_model.specs.Sort.{values_of}
use Rattle.json_patch.specs.ValuesAt.{value_at_step, value_at_path}
use Rattle.json_patch.specs.Pointer.{ReferenceToken, pointer_of, pointer_text, index_of_token, step_of_token, path_of_tokens, value_at_pointer}
use Rattle.json_patch.specs.Patch.{Operation, add_at, remove, replace, move, copy, PatchFailure, lookup_failed, bad_patch, operation_of, lookup_outcome, applied, applied_from, patched}
use Rattle.json_patch.specs.Merge.{merge_patched}

-- ---- pointers (RFC 6901)

-- the text of tokens parses to these tokens
abbrev pub PointerTextParses : Type 0
PointerTextParses = (p : List ReferenceToken) → pointer_of (pointer_text p) ≡ Some p

-- a text that parses to tokens is the text of these
abbrev pub ParsedTextIsPointerText : Type 0
ParsedTextIsPointerText = (b : List ℕ) (p : List ReferenceToken) → pointer_of b ≡ Some p → pointer_text p ≡ b

-- the decimal digits of a number are an index
abbrev pub DecimalIsIndex : Type 0
DecimalIsIndex = (i : ℕ) → i < 2 ^ 64 → index_of_token (decimal i) ≡ Some i

-- a token that is an index is a numeral of that index
abbrev pub IndexIsNumeral : Type 0
IndexIsNumeral = (k : ReferenceToken) (i : ℕ) → index_of_token k ≡ Some i → IsNumeral 10 k × (digits_value 10 k ≡ i)

-- a numeral is an index, unless it has several digits and begins with 0
abbrev pub NumeralIsIndex : Type 0
NumeralIsIndex = (k : ReferenceToken) → IsNumeral 10 k → (k ≡ codes "0") ⊎ (slice_index k 0 ≢ 48) → index_of_token k ≡ Some (digits_value 10 k)

-- a pointer is followed token by token
abbrev pub FirstTokenThenRest : Type 0
FirstTokenThenRest = (k : ReferenceToken) (p : List ReferenceToken) (t : Tree) → value_at_pointer (k ∷ p) t ≡ and_then (step_of_token k t) (λ s. and_then (value_at_step s t) (λ u. value_at_pointer p u))

-- tokens that reference a value are a path to it; others are no path, for the same reason
abbrev pub TokensArePath : Type 0
TokensArePath =
    (p : List ReferenceToken) (t : Tree)
    → ((c : Tree) → value_at_pointer p t ≡ Ok c → (q : List Step) × (path_of_tokens p t ≡ Ok q) × (value_at_path q t ≡ Ok c))
    × ((r : EditRefusal) → value_at_pointer p t ≡ Err r → path_of_tokens p t ≡ Err r)

-- ---- patches (RFC 6902)

-- `add` at the root replaces the whole tree
abbrev pub AddAtRoot : Type 0
AddAtRoot = (u t : Tree) → applied (add_at [] u) t ≡ lookup_outcome (edited_once (set_at [] u) t)

-- `add` inserts into an object, and `add` of `-` pushes onto an array
abbrev pub AddIsInsert : Type 0
AddIsInsert =
    (p : List ReferenceToken) (k : ReferenceToken) (u t : Tree) (q : List Step) (ps : Pairs)
    → path_of_tokens p t ≡ Ok q
    → value_at_path q t ≡ Ok (pairs ps)
    → applied (add_at (p ++ k ∷ []) u) t ≡ lookup_outcome (edited_once (insert_at q k u) t)

abbrev pub AddIsPush : Type 0
AddIsPush =
    (p : List ReferenceToken) (u t : Tree) (q : List Step) (ts : Trees)
    → path_of_tokens p t ≡ Ok q
    → value_at_path q t ≡ Ok (list ts)
    → applied (add_at (p ++ codes "-" ∷ []) u) t ≡ lookup_outcome (edited_once (push_at q u) t)

-- `remove` removes the member or element that the last token names
abbrev pub RemoveIsRemove : Type 0
RemoveIsRemove =
    (p : List ReferenceToken) (k : ReferenceToken) (t : Tree) (q : List Step) (c : Tree) (s : Step)
    → path_of_tokens p t ≡ Ok q
    → value_at_path q t ≡ Ok c
    → step_of_token k c ≡ Ok s
    → applied (remove (p ++ k ∷ [])) t ≡ lookup_outcome (edited_once (remove_at q s) t)

-- `replace` sets a value that exists
abbrev pub ReplaceIsSet : Type 0
ReplaceIsSet = (p : List ReferenceToken) (u t : Tree) (q : List Step) → path_of_tokens p t ≡ Ok q → applied (replace p u) t ≡ lookup_outcome (edited_once (set_at q u) t)

-- `copy` adds the value at `from`
abbrev pub CopyIsAdd : Type 0
CopyIsAdd = (q p : List ReferenceToken) (t u : Tree) → value_at_pointer q t ≡ Ok u → applied (copy q p) t ≡ applied (add_at p u) t

-- an operation after another
abbrev pub then_applied : Result Tree PatchFailure → Operation → Result Tree PatchFailure
then_applied (Ok t) o = applied o t
then_applied (Err r) o = Err r

-- `move` removes the value at `from` and adds it at `path`; where the two are equal it changes
-- nothing
abbrev pub MoveIsRemoveAndAdd : Type 0
MoveIsRemoveAndAdd = (q p : List ReferenceToken) (t u : Tree) → q ≢ p → value_at_pointer q t ≡ Ok u → applied (move q p) t ≡ then_applied (applied (remove q) t) (add_at p u)

abbrev pub MoveToItself : Type 0
MoveToItself = (p : List ReferenceToken) (t u : Tree) → value_at_pointer p t ≡ Ok u → applied (move p p) t ≡ Ok t

-- `remove` undoes `add` of a new member, and of an element
abbrev pub AddThenRemoveMember : Type 0
AddThenRemoveMember =
    (p : List ReferenceToken) (k : ReferenceToken) (u t : Tree) (ps : Pairs)
    → value_at_pointer p t ≡ Ok (pairs ps)
    → has_key k ps ≡ false
    → (w : Tree) × (applied (add_at (p ++ k ∷ []) u) t ≡ Ok w) × (applied (remove (p ++ k ∷ [])) w ≡ Ok t)

abbrev pub AddThenRemoveElement : Type 0
AddThenRemoveElement =
    (p : List ReferenceToken) (k : ReferenceToken) (u t : Tree) (ts : Trees) (i : ℕ)
    → value_at_pointer p t ≡ Ok (list ts)
    → index_of_token k ≡ Some i
    → i ≤ length (trees_list ts)
    → (w : Tree) × (applied (add_at (p ++ k ∷ []) u) t ≡ Ok w) × (applied (remove (p ++ k ∷ [])) w ≡ Ok t)

-- a value below the root that exists can be removed; `remove` of any other fails as following the
-- pointer does
abbrev pub RemovesWhatExists : Type 0
RemovesWhatExists =
    (k : ReferenceToken) (p : List ReferenceToken) (t : Tree)
    → ((u : Tree) → value_at_pointer (k ∷ p) t ≡ Ok u → (w : Tree) × (applied (remove (k ∷ p)) t ≡ Ok w))
    × ((r : EditRefusal) → value_at_pointer (k ∷ p) t ≡ Err r → applied (remove (k ∷ p)) t ≡ Err (lookup_failed r))

-- the trees are the operations
abbrev pub AreOperations : List Tree → List Operation → Type 0
AreOperations ts os = map operation_of ts ≡ map Some os

-- a patch whose elements are operations applies these in turn
abbrev pub PatchAppliesOperations : Type 0
PatchAppliesOperations = (t : Tree) (ts : List Tree) (os : List Operation) → AreOperations ts os → patched t (list (list_trees ts)) ≡ applied_from 0 os t

-- the first element that is not an operation is named, whatever precedes and follows it
abbrev pub FirstBadOperationIsNamed : Type 0
FirstBadOperationIsNamed =
    (t : Tree) (ts : List Tree) (os : List Operation) (u : Tree) (us : List Tree)
    → AreOperations ts os
    → operation_of u ≡ None
    → patched t (list (list_trees (ts ++ u ∷ us))) ≡ Err (bad_patch, Some (length ts))

-- operations after others
abbrev pub then_applied_from : Result Tree (PatchFailure × Option ℕ) → ℕ → List Operation → Result Tree (PatchFailure × Option ℕ)
then_applied_from (Ok u) n ps = applied_from n ps u
then_applied_from (Err e) n ps = Err e

-- each operation applies to what those before it made, and the numbers go on
abbrev pub AppliedInTurn : Type 0
AppliedInTurn = (n : ℕ) (os ps : List Operation) (t : Tree) → applied_from n (os ++ ps) t ≡ then_applied_from (applied_from n os t) (n + length os) ps

-- ---- merge patches (RFC 7396)

-- the empty object changes no object
abbrev pub EmptyPatchKeeps : Type 0
EmptyPatchKeeps = (ps : Pairs) → merge_patched (pairs ps) (pairs no_pairs) ≡ pairs ps

-- no object of the patch repeats a key, nor does an object nested in it by objects
abbrev mutual
  pub HasNoRepeatedKeys : Tree → Type 0
  HasNoRepeatedKeys null = Unit {0}
  HasNoRepeatedKeys (boolean b) = Unit {0}
  HasNoRepeatedKeys (num l) = Unit {0}
  HasNoRepeatedKeys (text s) = Unit {0}
  HasNoRepeatedKeys (list ts) = Unit {0}
  HasNoRepeatedKeys (pairs ps) = MembersHaveNoRepeatedKeys ps

  pub MembersHaveNoRepeatedKeys : Pairs → Type 0
  MembersHaveNoRepeatedKeys no_pairs = Unit {0}
  MembersHaveNoRepeatedKeys (pair_and k v ps) = (has_key k ps ≡ false) × HasNoRepeatedKeys v × MembersHaveNoRepeatedKeys ps

-- merging such a patch twice is merging it once
abbrev pub MergedTwice : Type 0
MergedTwice = (t p : Tree) → HasNoRepeatedKeys p → merge_patched (merge_patched t p) p ≡ merge_patched t p

-- merging any patch twice gives the same as merging it once; only the order of members may differ
abbrev pub MergedTwiceSame : Type 0
MergedTwiceSame = (t p : Tree) → same (merge_patched (merge_patched t p) p) (merge_patched t p) ≡ true

-- a key that is not in the patch keeps its values, in their order
abbrev pub OtherMembersStay : Type 0
OtherMembersStay =
    (k : List ℕ) (ps qs : Pairs) → has_key k qs ≡ false → (rs : Pairs) × (merge_patched (pairs ps) (pairs qs) ≡ pairs rs) × (values_of k rs ≡ values_of k ps)
