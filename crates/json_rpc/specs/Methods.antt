-- The methods, and what they do to the document and its history.
use Rattle.std.specs.Prelude.{ℕ, List, [], ◌∷◌, Bool, ◌||◌, cond, Option, Some, None, Result, Ok, Err, bytes_eq, codes, option_map, option_and_then, ok_or}
use Rattle.std.specs.Result.{result_map_both}
use Rattle.json_grammar.specs.Tree.{Tree, null, boolean, list, pairs}
use Rattle.json_model.specs.Edit.{Step, key_step, index_step, Edit, EditRefusal, not_found, type_unmatched, Changed, edited_once}
use Rattle.json_value.specs.EditTrees.{path_in, edit_named}
use Rattle.json_value.specs.Steps.{child}
use Rattle.json_patch.specs.Patch.{PatchFailure, lookup_failed, bad_patch, test_failed, patched}
use Rattle.json_patch.specs.Merge.{merge_patched}
use Rattle.json_history.specs.History.{TreeHistory, after_edit, after_undo, after_redo, is_nonempty}
use Rattle.json_history.specs.Limits.{limit_past}
use Rattle.json_rpc.specs.Requests.{Request}
use Rattle.json_rpc.specs.Params.{positional_params}
use Rattle.json_rpc.specs.declared.error.RpcError.{RpcError}
use Rattle.json_rpc.specs.declared.error.RpcError.TheVariants.{MethodNotFound, InvalidParams, NotFound, TypeUnmatched, TestFailed}

-- a change of the document: an edit, a JSON Patch (RFC 6902) or a JSON Merge Patch (RFC 7396)
pub data DocumentChange : Type 0 where
  edit : Edit → DocumentChange
  patch : Tree → DocumentChange
  merge : Tree → DocumentChange

-- what is asked of the document: the tree that a path leads to, a change, or that the last change is
-- undone or redone
pub data MethodOperation : Type 0 where
  get : List Step → MethodOperation
  change : DocumentChange → MethodOperation
  undo : MethodOperation
  redo : MethodOperation

-- ---- methods and params

-- whether a method of this name changes the document
abbrev pub is_change : List ℕ → Bool
is_change name =
    bytes_eq name (codes "set")
    || (bytes_eq name (codes "insert")
    || (bytes_eq name (codes "push")
    || (bytes_eq name (codes "remove") || (bytes_eq name (codes "patch") || (bytes_eq name (codes "merge") || (bytes_eq name (codes "undo") || bytes_eq name (codes "redo")))))))

-- whether there is a method of this name
abbrev pub is_method : List ℕ → Bool
is_method name = bytes_eq name (codes "get") || is_change name

-- the names of a method's params, in the order of their positions; `undo` and `redo` have none
abbrev pub param_names : List ℕ → List (List ℕ)
param_names name =
    cond (bytes_eq name (codes "get")) (codes "path" ∷ [])
    (cond (bytes_eq name (codes "set")) (codes "path" ∷ codes "value" ∷ [])
    (cond (bytes_eq name (codes "insert")) (codes "path" ∷ codes "key" ∷ codes "value" ∷ [])
    (cond (bytes_eq name (codes "push")) (codes "path" ∷ codes "value" ∷ [])
    (cond (bytes_eq name (codes "remove")) (codes "path" ∷ codes "step" ∷ [])
    (cond (bytes_eq name (codes "patch")) (codes "patch" ∷ [])
    (cond (bytes_eq name (codes "merge")) (codes "patch" ∷ []) []))))))

-- what `get` asks for with these params: [path]
abbrev pub get_with : List Tree → Option MethodOperation
get_with (p ∷ []) = option_map get (path_in p)
get_with _ = None

-- what `undo` and `redo` ask for: []
abbrev pub without_params : MethodOperation → List Tree → Option MethodOperation
without_params o [] = Some o
without_params o _ = None

-- what `patch` and `merge` ask for: [patch]
abbrev pub patch_with : (Tree → DocumentChange) → List Tree → Option DocumentChange
patch_with f (p ∷ []) = Some (f p)
patch_with f _ = None

-- the change by a method with these params: those of an edit are the elements after its name in an
-- edits argument
abbrev pub change_with : List ℕ → List Tree → Option DocumentChange
change_with name params =
    cond (bytes_eq name (codes "patch")) (patch_with patch params)
    (cond (bytes_eq name (codes "merge")) (patch_with merge params) (option_map edit (edit_named name params)))

-- what a method asks for with these params by position
abbrev pub operation_with : List ℕ → List Tree → Option MethodOperation
operation_with name params =
    cond (bytes_eq name (codes "get")) (get_with params)
    (cond (bytes_eq name (codes "undo")) (without_params undo params)
    (cond (bytes_eq name (codes "redo")) (without_params redo params) (option_map change (change_with name params))))

-- what a method asks for with the params of a request
abbrev pub method_operation : List ℕ → Option Tree → Option MethodOperation
method_operation name params = option_and_then (operation_with name) (positional_params (param_names name) params)

-- what a request asks for, or the error that it gets
abbrev pub requested_operation : Request → Result MethodOperation RpcError
requested_operation r = cond (is_method r.method) (ok_or (method_operation r.method r.params) InvalidParams) (Err MethodNotFound)

-- ---- what they do

-- the error for an operation that does not apply
abbrev pub rpc_error_of : EditRefusal → RpcError
rpc_error_of not_found = NotFound
rpc_error_of type_unmatched = TypeUnmatched

-- the error for a patch that does not apply
abbrev pub rpc_error_of_patch : PatchFailure → RpcError
rpc_error_of_patch (lookup_failed why) = rpc_error_of why
rpc_error_of_patch bad_patch = InvalidParams
rpc_error_of_patch test_failed = TestFailed

-- the next document, or the error for a change that does not apply
abbrev pub document_after : DocumentChange → Tree → Result Tree RpcError
document_after (edit e) t = result_map_both (λ u. u) rpc_error_of (edited_once e t)
document_after (patch p) t = result_map_both (λ u. u) (λ f. rpc_error_of_patch f.0) (patched t p)
document_after (merge p) t = Ok (merge_patched t p)

-- the first value of a key, or the element of an index
abbrev pub step_into : Step → Tree → Changed Tree
step_into (key_step k) (pairs ps) = ok_or (child (key_step k) (pairs ps)) not_found
step_into (index_step i) (list ts) = ok_or (child (index_step i) (list ts)) not_found
step_into _ _ = Err type_unmatched

-- the tree that a path leads to, or why it leads nowhere
abbrev pub tree_at_path : List Step → Tree → Changed Tree
tree_at_path [] t = Ok t
tree_at_path (s ∷ p) t = elim (step_into s t) [ Ok u ↦ tree_at_path p u | Err r ↦ Err r ]

-- at most this many changes can be undone: the oldest are dropped
abbrev pub max_undos : ℕ
max_undos = 1000

-- after a change that made this document: it can be undone, and nothing can be redone
abbrev pub after_change : TreeHistory → Tree → TreeHistory
after_change h u = limit_past max_undos (after_edit h (Ok u))

-- the next history and the result, or the error. The result of `undo` and `redo` is whether there was
-- something to undo or redo.
abbrev pub performed : MethodOperation → TreeHistory → Result (TreeHistory × Tree) RpcError
performed (get p) h = result_map_both (λ u. (h, u)) rpc_error_of (tree_at_path p h.now)
performed (change c) h = result_map_both (λ u. (after_change h u, null)) (λ f. f) (document_after c h.now)
performed undo h = Ok (after_undo h h.past, boolean (is_nonempty h.past))
performed redo h = Ok (after_redo h h.future, boolean (is_nonempty h.future))
