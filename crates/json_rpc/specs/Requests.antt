-- Request objects (JSON-RPC 2.0, section 4).
use Rattle.std.specs.Prelude.{ℕ, List, Bool, true, false, ◌&&◌, cond, Option, Some, None, bytes_eq, codes}
use Rattle.json_grammar.specs.Tree.{Tree, null, num, text, list, pairs}
use Rattle.json_model.specs.Edit.{key_step}
use Rattle.json_value.specs.Steps.{child}

-- the value of the first member of this name; a value that is no object has no members
abbrev pub named_member : List ℕ → Tree → Option Tree
named_member name t = child (key_step name) t

-- what is asked for. A request without an id is a notification.
pub record Request : Type 0 where
  pub method : List ℕ
  pub params : Option Tree
  pub id : Option Tree

-- the version of the protocol
abbrev pub version : List ℕ
version = codes "2.0"

-- params are an array or an object, and may be omitted (section 4.2)
abbrev pub are_params : Option Tree → Bool
are_params None = true
are_params (Some (list ts)) = true
are_params (Some (pairs ps)) = true
are_params (Some _) = false

-- an id is a string, a number or null, and may be omitted
abbrev pub is_id : Option Tree → Bool
is_id None = true
is_id (Some (text s)) = true
is_id (Some (num l)) = true
is_id (Some null) = true
is_id (Some _) = false

-- whether a request of this version, with these params and this id, is valid
abbrev pub is_valid : List ℕ → Option Tree → Option Tree → Bool
is_valid v params id = bytes_eq v version && (are_params params && is_id id)

-- the request of a version, a method, params and an id
abbrev pub request_with : Option Tree → Option Tree → Option Tree → Option Tree → Option Request
request_with (Some (text v)) (Some (text m)) params id =
    cond (is_valid v params id) (Some (record { method = m; params = params; id = id })) None
request_with _ _ _ _ = None

-- the request that a tree is, if it is a valid request object
abbrev pub request_of : Tree → Option Request
request_of t = request_with (named_member (codes "jsonrpc") t) (named_member (codes "method") t) (named_member (codes "params") t) (named_member (codes "id") t)
