-- Response objects and their errors (JSON-RPC 2.0, section 5).
use Rattle.std.specs.Prelude.{ℕ, List, [], ◌∷◌, codes}
use Rattle.json_grammar.specs.Tree.{Tree, num, text, pairs, list_pairs}
use Rattle.json_rpc.specs.Requests.{version}
use Rattle.json_rpc.specs.declared.error.RpcError.{RpcError}
use Rattle.json_rpc.specs.declared.error.RpcError.TheVariants.{ParseError, InvalidRequest, MethodNotFound, InvalidParams, NotFound, TypeUnmatched, TestFailed}

-- the code of an error (section 5.1); the last three are in the range that is left to servers
abbrev pub error_code : RpcError → List ℕ
error_code ParseError = codes "-32700"
error_code InvalidRequest = codes "-32600"
error_code MethodNotFound = codes "-32601"
error_code InvalidParams = codes "-32602"
error_code NotFound = codes "-32000"
error_code TypeUnmatched = codes "-32001"
error_code TestFailed = codes "-32002"

-- its message
abbrev pub error_message : RpcError → List ℕ
error_message ParseError = codes "Parse error"
error_message InvalidRequest = codes "Invalid Request"
error_message MethodNotFound = codes "Method not found"
error_message InvalidParams = codes "Invalid params"
error_message NotFound = codes "Not found"
error_message TypeUnmatched = codes "Type unmatched"
error_message TestFailed = codes "Test failed"

-- an error object (section 5.1)
abbrev pub error_object : RpcError → Tree
error_object f = pairs (list_pairs ((codes "code", num (error_code f)) ∷ (codes "message", text (error_message f)) ∷ []))

-- a Response object: the version, the result or the error under its name, and the id of the request
abbrev pub response : List ℕ → Tree → Tree → Tree
response name outcome id = pairs (list_pairs ((codes "jsonrpc", text version) ∷ (name, outcome) ∷ (codes "id", id) ∷ []))

abbrev pub result_response : Tree → Tree → Tree
result_response outcome id = response (codes "result") outcome id

abbrev pub error_response : RpcError → Tree → Tree
error_response f id = response (codes "error") (error_object f) id
