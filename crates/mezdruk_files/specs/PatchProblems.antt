-- Why a tree is no JSON Patch (RFC 6902, sections 3 and 4), and the sentence about it.
use Rattle.std.specs.Prelude.{ℕ, List, [], ◌∷◌, cond, Option, Some, None, option_map, option_and_then, unwrap_or, slice_get, bytes_eq, codes}
use Rattle.json_grammar.specs.Tree.{Tree, list_pairs}
use Rattle.json_doc.specs.Readings.{string_of}
use Rattle.json_value.specs.Seen.{list_of, object_pairs, first_of}
use Rattle.json_patch.specs.Patch.{single_value}
use Rattle.json_patch.specs.Pointer.{ReferenceToken, pointer_of}
use Rattle.mezdruk_files.specs.declared.patch_problem.OperationMember.{OperationMember}
use Rattle.mezdruk_files.specs.declared.patch_problem.OperationMember.TheVariants as member
use Rattle.mezdruk_files.specs.declared.patch_problem.PatchProblem.{PatchProblem}
use Rattle.mezdruk_files.specs.declared.patch_problem.PatchProblem.TheVariants.{NotArray, NotObject, Missing, Repeated, UnknownName, BadPath, BadFrom, IntoItself}

-- ---- one member

-- the name of a member
abbrev pub member_name : OperationMember → List ℕ
member_name member.Op = codes "op"
member_name member.Path = codes "path"
member_name member.From = codes "from"
member_name member.Value = codes "value"

-- the pointer that a value spells
abbrev pub pointer_spelled : Tree → Option (List ReferenceToken)
pointer_spelled t = option_and_then pointer_of (string_of t)

-- this is wrong if there is no pointer
abbrev pub unless_pointer : PatchProblem → Option (List ReferenceToken) → Option PatchProblem
unless_pointer problem (Some tokens) = None
unless_pointer problem None = Some problem

-- what is wrong with the value of a member, if something is
abbrev pub value_problem : OperationMember → Tree → Option PatchProblem
value_problem member.Path t = unless_pointer BadPath (pointer_spelled t)
value_problem member.From t = unless_pointer BadFrom (pointer_spelled t)
value_problem m t = None

-- the value of the first member of the name
abbrev pub first_value : OperationMember → List (List ℕ × Tree) → Option Tree
first_value m ms = option_map (λ p. p.1) (first_of (member_name m) ms)

-- what is wrong with a member that does not occur once, if this is its first value
abbrev pub count_problem : OperationMember → Option Tree → PatchProblem
count_problem m None = Missing m
count_problem m (Some t) = Repeated m

-- what is wrong with a member, if something is, given its one value, if it has one, and its first value
abbrev pub single_problem : OperationMember → Option Tree → Option Tree → Option PatchProblem
single_problem m (Some t) first = value_problem m t
single_problem m None first = Some (count_problem m first)

-- what is wrong with a member, if something is: it has to occur once
abbrev pub member_problem : OperationMember → List (List ℕ × Tree) → Option PatchProblem
member_problem m ms = single_problem m (single_value (member_name m) (list_pairs ms)) (first_value m ms)

-- ---- an operation

-- the members that an operation of this name needs beside `op`, if there is such an operation
abbrev pub members_needed : List ℕ → Option (List OperationMember)
members_needed n =
    cond (bytes_eq n (codes "add")) (Some (member.Path ∷ member.Value ∷ []))
    (cond (bytes_eq n (codes "remove")) (Some (member.Path ∷ []))
    (cond (bytes_eq n (codes "replace")) (Some (member.Path ∷ member.Value ∷ []))
    (cond (bytes_eq n (codes "move")) (Some (member.From ∷ member.Path ∷ []))
    (cond (bytes_eq n (codes "copy")) (Some (member.From ∷ member.Path ∷ []))
    (cond (bytes_eq n (codes "test")) (Some (member.Path ∷ member.Value ∷ [])) None)))))

-- what is wrong with the first of these members with which something is; if nothing is, the
-- operation moves a value into itself
abbrev pub first_problem : List OperationMember → List (List ℕ × Tree) → PatchProblem
first_problem [] ms = IntoItself
first_problem (m ∷ later) ms = unwrap_or (member_problem m ms) (first_problem later ms)

-- the same of all members that are needed; of none if there is no operation of the name
abbrev pub needed_problem : Option (List OperationMember) → List (List ℕ × Tree) → PatchProblem
needed_problem None ms = UnknownName
needed_problem (Some needed) ms = first_problem needed ms

-- the string that the one member `op` is
abbrev pub operation_name : List (List ℕ × Tree) → Option (List ℕ)
operation_name ms = option_and_then string_of (single_value (codes "op") (list_pairs ms))

-- what is wrong with the members of an object that is no operation
abbrev pub members_problem : List (List ℕ × Tree) → PatchProblem
members_problem ms = unwrap_or (member_problem member.Op ms) (needed_problem (option_and_then members_needed (operation_name ms)) ms)

-- what is wrong with a value that is no operation, given its members, if it is an object
abbrev pub object_problem : Option (List (List ℕ × Tree)) → PatchProblem
object_problem None = NotObject
object_problem (Some ms) = members_problem ms

abbrev pub operation_problem : Tree → PatchProblem
operation_problem t = object_problem (object_pairs t)

-- ---- a patch

-- what is wrong with an element; with the patch if there is none
abbrev pub element_problem : Option Tree → PatchProblem
element_problem None = NotArray
element_problem (Some t) = operation_problem t

-- what is wrong with the element of the number, given the elements, if the patch is an array
abbrev pub listed_problem : Option (List Tree) → Option ℕ → PatchProblem
listed_problem (Some ts) (Some n) = element_problem (slice_get ts n)
listed_problem elements number = NotArray

-- what is wrong with a patch whose element of the number is no operation; without a number it is no array
abbrev pub patch_problem : Tree → Option ℕ → PatchProblem
patch_problem patch number = listed_problem (list_of patch) number

-- ---- the sentences

abbrev pub missing_sentence : OperationMember → List ℕ
missing_sentence member.Op = codes "it has no `op`"
missing_sentence member.Path = codes "it has no `path`"
missing_sentence member.From = codes "it has no `from`"
missing_sentence member.Value = codes "it has no `value`"

abbrev pub repeated_sentence : OperationMember → List ℕ
repeated_sentence member.Op = codes "its `op` occurs twice"
repeated_sentence member.Path = codes "its `path` occurs twice"
repeated_sentence member.From = codes "its `from` occurs twice"
repeated_sentence member.Value = codes "its `value` occurs twice"

abbrev pub problem_sentence : PatchProblem → List ℕ
problem_sentence NotArray = codes "the patch is not an array of operations"
problem_sentence NotObject = codes "it is no object"
problem_sentence (Missing m) = missing_sentence m
problem_sentence (Repeated m) = repeated_sentence m
problem_sentence UnknownName = codes "its `op` is none of add, remove, replace, move, copy and test"
problem_sentence BadPath = codes "its `path` is no JSON Pointer"
problem_sentence BadFrom = codes "its `from` is no JSON Pointer"
problem_sentence IntoItself = codes "its `path` leads into the value at its `from`"
