-- What the types of the code denote.
use Rattle.std.specs.Prelude.{option_map}
use Rattle.json_value.specs.Edits.{path_steps, edit_of}
use Rattle.json_value.specs.Seen.{seen}
use Rattle.json_grammar.specs.Tree.{Tree}
use Rattle.json_value.specs.Denotes.{tree_of}
use Rattle.json_io.specs.Outside.{SinkState, SourceState}
use Rattle.json_lines.specs.declared.line_reader.LineReader.{LineReader}
use Rattle.json_lines.specs.Reading.{line_reader_state}
use Rattle.json_history.specs.History.{TreeHistory, history_of}
use Rattle.json_history.specs.LogOfHistory.{log_of}
use Rattle.json_history.specs.declared.history.History.{History}
use Rattle.json_rpc.specs.Steps.{ServingState}
use Rattle.json_rpc.specs.Requests as spec
use Rattle.json_rpc.specs.Serving as serve
use Rattle.json_rpc.specs.declared.message.Message.{Message}
use Rattle.json_rpc.specs.declared.message.Message.TheVariants.{Blank, Unreadable, Readable}
use Rattle.json_rpc.specs.declared.reply.Reply.{Reply}
use Rattle.json_rpc.specs.declared.reply.Reply.TheVariants.{Done, Failed, Batch}
use Rattle.json_rpc.specs.declared.service.Service.{Service}
use Rattle.json_rpc.specs.Responses.{result_response, error_response}
use Rattle.json_rpc.specs.Methods as methods
use Rattle.json_rpc.specs.declared.request.Request.{Request}
use Rattle.json_rpc.specs.declared.document_change.DocumentChange.{DocumentChange}
use Rattle.json_rpc.specs.declared.document_change.DocumentChange.TheVariants.{Edit, Patch, Merge}
use Rattle.json_rpc.specs.declared.operation.RequestedOperation.{RequestedOperation}
use Rattle.json_rpc.specs.declared.operation.RequestedOperation.TheVariants.{Get, Change, Undo, Redo}

-- the request that was read
abbrev pub request_seen : Request → spec.Request
request_seen r = record { method = r.method.now; params = option_map seen r.params; id = option_map seen r.id }

-- the change of the document
abbrev pub change_denoted : DocumentChange → methods.DocumentChange
change_denoted (Edit e) = methods.edit (edit_of e)
change_denoted (Patch p) = methods.patch (tree_of p)
change_denoted (Merge p) = methods.merge (tree_of p)

-- what an operation asks for
abbrev pub operation_denoted : RequestedOperation → methods.MethodOperation
operation_denoted (Get p) = methods.get (path_steps p)
operation_denoted (Change c) = methods.change (change_denoted c)
operation_denoted Undo = methods.undo
operation_denoted Redo = methods.redo

-- what a line that was read is
abbrev pub message_denoted : Message → serve.Message
message_denoted Blank = serve.blank
message_denoted Unreadable = serve.unreadable
message_denoted (Readable v) = serve.readable (tree_of v)

-- the documents of a history: the current one, those to undo to, and those to redo to
abbrev pub tree_history : History → TreeHistory
tree_history h = history_of (log_of h)

-- the documents of a service
abbrev pub service_history : Service → TreeHistory
service_history s = tree_history s.history

-- the current document of a service
abbrev pub document_of : Service → Tree
document_of s = (service_history s).now

-- the reply that is written
abbrev pub reply_tree : Reply → Tree
reply_tree (Done outcome id) = result_response (tree_of outcome) (tree_of id)
reply_tree (Failed error id) = error_response error (tree_of id)
reply_tree (Batch responses) = tree_of responses

-- all that a step of a run may change
abbrev pub serving_state : LineReader → SourceState → SinkState → Service → ServingState
serving_state reader source out service = record { reader = line_reader_state reader; source = source; out = out; history = service_history service }
