-- Examples of requests and their replies.
use Rattle.std.specs.Prelude.{◌≡◌, ℕ, List, [], ◌∷◌, Option, Some, None, codes, option_map}
use Rattle.json_grammar.specs.Tree.{Tree, null, num, text}
use Rattle.json_model.specs.Print.{shown}
use Rattle.json_model.specs.ExampleTrees.{example_object, example_array}
use Rattle.json_history.specs.History.{TreeHistory, new_history}
use Rattle.json_patch.specs.PatchExamples.{op_value}
use Rattle.json_rpc.specs.Serving.{blank, unreadable, served, served_tree}

abbrev pub number_by_literal : List ℕ → Tree
number_by_literal l = num l

-- the next document and the compact text of the reply
abbrev pub RepliesWith : TreeHistory × Option Tree → Tree → Option (List ℕ) → Type 0
RepliesWith r t reply = (r.0.now ≡ t) × (option_map (shown None 0) r.1 ≡ reply)

-- a request of this method with these params by position and this id
abbrev pub positional_request : List ℕ → List Tree → Tree → Tree
positional_request method params id =
    example_object ((codes "jsonrpc", text (codes "2.0")) ∷ (codes "method", text method) ∷ (codes "params", example_array params) ∷ (codes "id", id) ∷ [])

-- the same with these params by name
abbrev pub named_request : List ℕ → List (List ℕ × Tree) → Tree → Tree
named_request method params id =
    example_object ((codes "jsonrpc", text (codes "2.0")) ∷ (codes "method", text method) ∷ (codes "params", example_object params) ∷ (codes "id", id) ∷ [])

-- a request by position without an id
abbrev pub notify : List ℕ → List Tree → Tree
notify method params = example_object ((codes "jsonrpc", text (codes "2.0")) ∷ (codes "method", text method) ∷ (codes "params", example_array params) ∷ [])

-- `{"a":1}`, `{"a":[1]}` and `{"a":[1,2]}`
abbrev pub with_one : Tree
with_one = example_object ((codes "a", number_by_literal (codes "1")) ∷ [])

abbrev pub document_with_list : Tree
document_with_list = example_object ((codes "a", example_array (number_by_literal (codes "1") ∷ [])) ∷ [])

abbrev pub with_longer : Tree
with_longer = example_object ((codes "a", example_array (number_by_literal (codes "1") ∷ number_by_literal (codes "2") ∷ [])) ∷ [])

-- `{"a":1,"b":2}` and `{"b":2}`
abbrev pub with_both : Tree
with_both = example_object ((codes "a", number_by_literal (codes "1")) ∷ (codes "b", number_by_literal (codes "2")) ∷ [])

abbrev pub with_other : Tree
with_other = example_object ((codes "b", number_by_literal (codes "2")) ∷ [])

abbrev pub at_a : Tree
at_a = example_array (text (codes "a") ∷ [])

-- ---- a session

-- `set` at the root has the result null
abbrev pub SetsTheRoot : Type 0
SetsTheRoot = RepliesWith (served_tree (new_history null) (positional_request (codes "set") (example_array [] ∷ with_one ∷ []) (number_by_literal (codes "1")))) with_one (Some (codes "{\"jsonrpc\":\"2.0\",\"result\":null,\"id\":1}"))

-- `push` where there is no array: a notification has no reply, and the document stays as it is
abbrev pub NotifiesInVain : Type 0
NotifiesInVain = RepliesWith (served_tree (new_history with_one) (notify (codes "push") (at_a ∷ number_by_literal (codes "2") ∷ []))) with_one None

-- where there is one it takes effect, and has no reply
abbrev pub NotifiesWithEffect : Type 0
NotifiesWithEffect = RepliesWith (served_tree (new_history document_with_list) (notify (codes "push") (at_a ∷ number_by_literal (codes "2") ∷ []))) with_longer None

-- params by name: one, and two in another order than by position
abbrev pub ParamsByName : Type 0
ParamsByName =
    RepliesWith (served_tree (new_history with_one) (named_request (codes "get") ((codes "path", at_a) ∷ []) (number_by_literal (codes "1.0")))) with_one (Some (codes "{\"jsonrpc\":\"2.0\",\"result\":1,\"id\":1.0}"))

abbrev pub NamesInAnyOrder : Type 0
NamesInAnyOrder =
    RepliesWith (served_tree (new_history document_with_list) (named_request (codes "push") ((codes "value", number_by_literal (codes "2")) ∷ (codes "path", at_a) ∷ []) (number_by_literal (codes "1")))) with_longer
    (Some (codes "{\"jsonrpc\":\"2.0\",\"result\":null,\"id\":1}"))

-- a patch that adds a member
abbrev pub AppliesAPatch : Type 0
AppliesAPatch =
    RepliesWith (served_tree (new_history with_one) (positional_request (codes "patch") (example_array (op_value "add" "/b" (number_by_literal (codes "2")) ∷ []) ∷ []) (number_by_literal (codes "1")))) with_both
    (Some (codes "{\"jsonrpc\":\"2.0\",\"result\":null,\"id\":1}"))

-- a merge patch that removes one member and adds another
abbrev pub AppliesAMergePatch : Type 0
AppliesAMergePatch =
    RepliesWith
    (served_tree (new_history with_one) (named_request (codes "merge") ((codes "patch", example_object ((codes "a", null) ∷ (codes "b", number_by_literal (codes "2")) ∷ [])) ∷ []) (number_by_literal (codes "1"))))
    with_other (Some (codes "{\"jsonrpc\":\"2.0\",\"result\":null,\"id\":1}"))

-- a batch: a change, which is undone and redone; nothing more can be redone
abbrev pub UndoesAndRedoes : Type 0
UndoesAndRedoes =
    RepliesWith
    (served_tree (new_history document_with_list)
    (example_array
    (notify (codes "push") (at_a ∷ number_by_literal (codes "2") ∷ []) ∷ positional_request (codes "undo") [] (number_by_literal (codes "1")) ∷ named_request (codes "redo") [] (number_by_literal (codes "2"))
    ∷ positional_request (codes "redo") [] (number_by_literal (codes "3")) ∷ []))) with_longer
    (Some (codes "[{\"jsonrpc\":\"2.0\",\"result\":true,\"id\":1},{\"jsonrpc\":\"2.0\",\"result\":true,\"id\":2},{\"jsonrpc\":\"2.0\",\"result\":false,\"id\":3}]"))

-- nothing was changed that could be undone; the params are omitted
abbrev pub NothingToUndo : Type 0
NothingToUndo =
    RepliesWith (served_tree (new_history with_one) (example_object ((codes "jsonrpc", text (codes "2.0")) ∷ (codes "method", text (codes "undo")) ∷ (codes "id", number_by_literal (codes "1")) ∷ []))) with_one
    (Some (codes "{\"jsonrpc\":\"2.0\",\"result\":false,\"id\":1}"))

-- a batch of a request and a number
abbrev pub ServesABatch : Type 0
ServesABatch =
    RepliesWith (served_tree (new_history with_one) (example_array (positional_request (codes "get") (at_a ∷ []) (text (codes "x")) ∷ number_by_literal (codes "1") ∷ []))) with_one
    (Some (codes "[{\"jsonrpc\":\"2.0\",\"result\":1,\"id\":\"x\"},{\"jsonrpc\":\"2.0\",\"error\":{\"code\":-32600,\"message\":\"Invalid Request\"},\"id\":null}]"))

-- a line that cannot be read, and one of whitespace
abbrev pub CannotRead : Type 0
CannotRead = RepliesWith (served (new_history with_one) unreadable) with_one (Some (codes "{\"jsonrpc\":\"2.0\",\"error\":{\"code\":-32700,\"message\":\"Parse error\"},\"id\":null}"))

abbrev pub SaysNothing : Type 0
SaysNothing = RepliesWith (served (new_history with_one) blank) with_one None

-- ---- errors

-- an empty array
abbrev pub EmptyBatch : Type 0
EmptyBatch = RepliesWith (served_tree (new_history with_one) (example_array [])) with_one (Some (codes "{\"jsonrpc\":\"2.0\",\"error\":{\"code\":-32600,\"message\":\"Invalid Request\"},\"id\":null}"))

-- a batch of values that are no requests
abbrev pub InvalidBatch : Type 0
InvalidBatch =
    RepliesWith (served_tree (new_history with_one) (example_array (number_by_literal (codes "4") ∷ null ∷ []))) with_one
    (Some (codes "[{\"jsonrpc\":\"2.0\",\"error\":{\"code\":-32600,\"message\":\"Invalid Request\"},\"id\":null},{\"jsonrpc\":\"2.0\",\"error\":{\"code\":-32600,\"message\":\"Invalid Request\"},\"id\":null}]"))

-- a batch of notifications: the first changes the document, the second does not apply
abbrev pub NotifiesAll : Type 0
NotifiesAll =
    RepliesWith (served_tree (new_history document_with_list) (example_array (notify (codes "push") (at_a ∷ number_by_literal (codes "2") ∷ []) ∷ notify (codes "remove") (example_array [] ∷ text (codes "b") ∷ []) ∷ []))) with_longer None

-- a request whose method is a number is not valid, and its id is not used
abbrev pub MethodIsNoText : Type 0
MethodIsNoText =
    RepliesWith (served_tree (new_history with_one) (example_object ((codes "jsonrpc", text (codes "2.0")) ∷ (codes "method", number_by_literal (codes "1")) ∷ (codes "id", number_by_literal (codes "7")) ∷ []))) with_one
    (Some (codes "{\"jsonrpc\":\"2.0\",\"error\":{\"code\":-32600,\"message\":\"Invalid Request\"},\"id\":null}"))

-- there is no method of this name, though the name of one begins it
abbrev pub UnknownMethod : Type 0
UnknownMethod =
    RepliesWith (served_tree (new_history with_one) (positional_request (codes "getter") (at_a ∷ []) (text (codes "1")))) with_one
    (Some (codes "{\"jsonrpc\":\"2.0\",\"error\":{\"code\":-32601,\"message\":\"Method not found\"},\"id\":\"1\"}"))

-- a param is missing; the id is null
abbrev pub MissingParam : Type 0
MissingParam =
    RepliesWith (served_tree (new_history with_one) (positional_request (codes "set") (at_a ∷ []) null)) with_one
    (Some (codes "{\"jsonrpc\":\"2.0\",\"error\":{\"code\":-32602,\"message\":\"Invalid params\"},\"id\":null}"))

-- a name is missing, is no param of the method, or occurs twice
abbrev pub MissingName : Type 0
MissingName =
    RepliesWith (served_tree (new_history with_one) (named_request (codes "set") ((codes "path", at_a) ∷ []) (number_by_literal (codes "1")))) with_one
    (Some (codes "{\"jsonrpc\":\"2.0\",\"error\":{\"code\":-32602,\"message\":\"Invalid params\"},\"id\":1}"))

abbrev pub UnknownName : Type 0
UnknownName =
    RepliesWith (served_tree (new_history with_one) (named_request (codes "get") ((codes "path", at_a) ∷ (codes "value", null) ∷ []) (number_by_literal (codes "1")))) with_one
    (Some (codes "{\"jsonrpc\":\"2.0\",\"error\":{\"code\":-32602,\"message\":\"Invalid params\"},\"id\":1}"))

abbrev pub RepeatedName : Type 0
RepeatedName =
    RepliesWith (served_tree (new_history with_one) (named_request (codes "get") ((codes "path", at_a) ∷ (codes "path", at_a) ∷ []) (number_by_literal (codes "1")))) with_one
    (Some (codes "{\"jsonrpc\":\"2.0\",\"error\":{\"code\":-32602,\"message\":\"Invalid params\"},\"id\":1}"))

-- `undo` has no params
abbrev pub ParamForUndo : Type 0
ParamForUndo =
    RepliesWith (served_tree (new_history with_one) (positional_request (codes "undo") (number_by_literal (codes "1") ∷ []) (number_by_literal (codes "1")))) with_one
    (Some (codes "{\"jsonrpc\":\"2.0\",\"error\":{\"code\":-32602,\"message\":\"Invalid params\"},\"id\":1}"))

-- a key that is not there, and a value of another kind
abbrev pub GetsNothing : Type 0
GetsNothing =
    RepliesWith (served_tree (new_history with_one) (positional_request (codes "get") (example_array (text (codes "b") ∷ []) ∷ []) (number_by_literal (codes "1")))) with_one
    (Some (codes "{\"jsonrpc\":\"2.0\",\"error\":{\"code\":-32000,\"message\":\"Not found\"},\"id\":1}"))

abbrev pub AnotherKind : Type 0
AnotherKind =
    RepliesWith (served_tree (new_history with_one) (positional_request (codes "insert") (at_a ∷ text (codes "b") ∷ null ∷ []) (number_by_literal (codes "1")))) with_one
    (Some (codes "{\"jsonrpc\":\"2.0\",\"error\":{\"code\":-32001,\"message\":\"Type unmatched\"},\"id\":1}"))

-- a patch whose second operation finds another value: the first has no effect either
abbrev pub PatchTestFails : Type 0
PatchTestFails =
    RepliesWith
    (served_tree (new_history with_one)
    (positional_request (codes "patch") (example_array (op_value "add" "/b" (number_by_literal (codes "2")) ∷ op_value "test" "/a" (number_by_literal (codes "2")) ∷ []) ∷ []) (number_by_literal (codes "1")))) with_one
    (Some (codes "{\"jsonrpc\":\"2.0\",\"error\":{\"code\":-32002,\"message\":\"Test failed\"},\"id\":1}"))

-- a pointer of a patch that leads to nothing
abbrev pub PatchFindsNothing : Type 0
PatchFindsNothing =
    RepliesWith (served_tree (new_history with_one) (positional_request (codes "patch") (example_array (op_value "replace" "/b" null ∷ []) ∷ []) (number_by_literal (codes "1")))) with_one
    (Some (codes "{\"jsonrpc\":\"2.0\",\"error\":{\"code\":-32000,\"message\":\"Not found\"},\"id\":1}"))

-- a patch that is no array of operations
abbrev pub NoOperations : Type 0
NoOperations =
    RepliesWith (served_tree (new_history with_one) (positional_request (codes "patch") (with_one ∷ []) (number_by_literal (codes "1")))) with_one
    (Some (codes "{\"jsonrpc\":\"2.0\",\"error\":{\"code\":-32602,\"message\":\"Invalid params\"},\"id\":1}"))

-- of members of one name, the first counts
abbrev pub FirstCounts : Type 0
FirstCounts =
    RepliesWith
    (served_tree (new_history with_one)
    (example_object
    ((codes "id", number_by_literal (codes "1e0")) ∷ (codes "method", text (codes "get")) ∷ (codes "method", text (codes "set")) ∷ (codes "id", number_by_literal (codes "2")) ∷ (codes "params", example_array (example_array [] ∷ []))
    ∷ (codes "jsonrpc", text (codes "2.0")) ∷ (codes "jsonrpc", null) ∷ []))) with_one
    (Some (codes "{\"jsonrpc\":\"2.0\",\"result\":{\"a\":1},\"id\":1e0}"))
