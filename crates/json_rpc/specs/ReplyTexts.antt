-- The parts in which the text of a reply is written.
use Rattle.std.specs.Prelude.{ℕ, List, ◌++◌, None, codes}
use Rattle.json_grammar.specs.Tree.{Tree}
use Rattle.json_model.specs.Print.{shown}
use Rattle.json_rpc.specs.Responses.{error_object}
use Rattle.json_rpc.specs.declared.error.RpcError.{RpcError}

-- a response up to its id: with a result, and with an error
abbrev pub result_start : Tree → List ℕ
result_start t = codes "{\"jsonrpc\":\"2.0\",\"result\":" ++ shown None 0 t

abbrev pub error_start : RpcError → List ℕ
error_start f = codes "{\"jsonrpc\":\"2.0\",\"error\":" ++ shown None 0 (error_object f)

-- what follows that: the id, and the newline after the reply
abbrev pub reply_end : Tree → List ℕ
reply_end id = (codes ",\"id\":" ++ shown None 0 id) ++ codes "}\n"
