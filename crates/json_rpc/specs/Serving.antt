-- What a line does: the next document with what can be undone and redone, and a reply or none.
use Rattle.std.specs.Prelude.{◌≡◌, ◌⊎◌, ℕ, ◌<◌, ◌≤◌, List, [], ◌∷◌, ◌++◌, length, Bool, false, true, cond, Option, Some, None, Result, Ok, Err, option_map, option_to_list}
use Rattle.std.specs.List.{list_all}
use Rattle.json_grammar.specs.Tree.{Tree, null, list, depth, no_trees, tree_and, trees_list, list_trees}
use Rattle.json_grammar.specs.Grammar.{ws, is_text}
use Rattle.json_lines.specs.declared.line_reader.Line.{Line}
use Rattle.json_lines.specs.declared.line_reader.Line.TheVariants.{Whole, TooLong}
use Rattle.json_history.specs.History.{TreeHistory}
use Rattle.json_rpc.specs.Requests.{Request, request_of}
use Rattle.json_rpc.specs.Responses.{result_response, error_response}
use Rattle.json_rpc.specs.Methods.{is_change, requested_operation, performed}
use Rattle.json_rpc.specs.declared.error.RpcError.{RpcError}
use Rattle.json_rpc.specs.declared.error.RpcError.TheVariants.{ParseError, InvalidRequest}

-- ---- one request

-- the next history and the result of a request, or why it gets an error
abbrev pub executed : Request → TreeHistory → Result (TreeHistory × Tree) RpcError
executed r h = elim (requested_operation r) [ Ok o ↦ performed o h | Err f ↦ Err f ]

-- the next history, and the response where the request has an id. An error changes nothing.
abbrev pub responded : TreeHistory → Option Tree → Result (TreeHistory × Tree) RpcError → TreeHistory × Option Tree
responded h id (Ok done) = (done.0, option_map (result_response done.1) id)
responded h id (Err f) = (h, option_map (error_response f) id)

-- a value that is no valid request gets an error with the id null
abbrev pub request_served : TreeHistory → Option Request → TreeHistory × Option Tree
request_served h None = (h, Some (error_response InvalidRequest null))
request_served h (Some r) = responded h r.id (executed r h)

abbrev pub member_served : TreeHistory → Tree → TreeHistory × Option Tree
member_served h u = request_served h (request_of u)

-- ---- a batch (section 6)

-- its members in order, each with the history that the previous one left
abbrev pub batch_served : TreeHistory → List Tree → TreeHistory × List Tree
batch_served h [] = (h, [])
batch_served h (u ∷ us) = let one = member_served h u in let later = batch_served one.0 us in (later.0, option_to_list one.1 ++ later.1)

-- the reply to a batch: its responses, or none if there are none
abbrev pub batch_reply : List Tree → Option Tree
batch_reply [] = None
batch_reply (r ∷ rs) = Some (list (list_trees (r ∷ rs)))

abbrev pub whole_batch_served : TreeHistory → List Tree → TreeHistory × Option Tree
whole_batch_served h us = let all = batch_served h us in (all.0, batch_reply all.1)

-- an array is a batch, which must have a member; any other value is one request
abbrev pub served_tree : TreeHistory → Tree → TreeHistory × Option Tree
served_tree h (list no_trees) = (h, Some (error_response InvalidRequest null))
served_tree h (list (tree_and u us)) = whole_batch_served h (u ∷ trees_list us)
served_tree h u = member_served h u

-- ---- lines

-- what a line is: whitespace, something that cannot be read, or a text of a tree
pub data Message : Type 0 where
  blank : Message
  unreadable : Message
  readable : Tree → Message

abbrev pub served : TreeHistory → Message → TreeHistory × Option Tree
served h blank = (h, None)
served h unreadable = (h, Some (error_response ParseError null))
served h (readable u) = served_tree h u

-- the maximum number of bytes of a line, and of levels of its tree
abbrev pub max_line_bytes : ℕ
max_line_bytes = 1048576

abbrev pub max_levels : ℕ
max_levels = 254

-- the bytes are no text (RFC 8259, section 2) of a tree of at most that many levels
abbrev pub IsNoText : List ℕ → Type 0
IsNoText b = (u : Tree) → is_text false u b → max_levels < depth u

-- these bytes are this message
abbrev pub IsMessage : List ℕ → Message → Type 0
IsMessage b blank = (length b ≤ max_line_bytes) × ws b
IsMessage b unreadable = (max_line_bytes < length b) ⊎ ((¬ (ws b)) × IsNoText b)
IsMessage b (readable u) = (length b ≤ max_line_bytes) × is_text false u b × (depth u ≤ max_levels)

abbrev pub LineIsMessage : Line → Message → Type 0
LineIsMessage (Whole b) m = IsMessage b.now m
LineIsMessage TooLong m = m ≡ unreadable

-- the line turns the history h into g, with this reply
pub record Serves (h : TreeHistory) (line : Line) (g : TreeHistory) (reply : Option Tree) : Type 0 where
  pub message : Message
  pub is : LineIsMessage line message
  pub served_so : served h message ≡ (g, reply)

-- ---- what only reads

-- whether a request asks for no change. A value that is no valid request asks for nothing.
abbrev pub request_only_reads : Option Request → Bool
request_only_reads None = true
request_only_reads (Some r) = cond (is_change r.method) false true

abbrev pub member_only_reads : Tree → Bool
member_only_reads u = request_only_reads (request_of u)

-- whether a value does: each member of a batch
abbrev pub tree_only_reads : Tree → Bool
tree_only_reads (list us) = list_all member_only_reads (trees_list us)
tree_only_reads u = member_only_reads u

abbrev pub message_only_reads : Message → Bool
message_only_reads blank = true
message_only_reads unreadable = true
message_only_reads (readable u) = tree_only_reads u

-- the line asks for no change
pub record OnlyReads (line : Line) : Type 0 where
  pub message : Message
  pub is : LineIsMessage line message
  pub reads : message_only_reads message ≡ true
