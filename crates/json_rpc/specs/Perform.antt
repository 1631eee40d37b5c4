-- How an operation is performed.
use Rattle.std.specs.Prelude.{◌≡◌, Result, Ok, Err}
use Rattle.json_grammar.specs.Tree.{Tree}
use Rattle.json_doc.specs.declared.json_type.JsonType.{JsonType}
use Rattle.json_doc.specs.declared.json_type.JsonType.TheVariants.{Array, Object}
use Rattle.json_model.specs.Edit.{Step, key_step, index_step}
use Rattle.json_history.specs.History.{TreeHistory, after_edit}
use Rattle.json_rpc.specs.Methods.{DocumentChange, document_after}
use Rattle.json_rpc.specs.declared.error.RpcError.{RpcError}

-- the type of the values that a step leads into
abbrev pub container_type : Step → JsonType
container_type (key_step k) = Object
container_type (index_step i) = Array

-- the change was made, or it does not apply, and the document is left for this error
abbrev pub ChangesDocument : Tree → DocumentChange → Tree → Result (Unit {0}) RpcError → Type 0
ChangesDocument t c u (Ok done) = document_after c t ≡ Ok u
ChangesDocument t c u (Err f) = (document_after c t ≡ Err f) × (u ≡ t)

-- the same of a document with its history: a change that was made can be undone
abbrev pub ChangesHistory : TreeHistory → DocumentChange → TreeHistory → Result (Unit {0}) RpcError → Type 0
ChangesHistory h c g (Ok done) = (document_after c h.now ≡ Ok g.now) × (g ≡ after_edit h (Ok g.now))
ChangesHistory h c g (Err f) = (document_after c h.now ≡ Err f) × (g ≡ h)
