-- Laws of JSON-RPC over one document and its history (JSON-RPC 2.0).
use Rattle.std.specs.Prelude.{◌≡◌, ◌↔◌, ℕ, ◌+◌, ◌≤◌, List, ◌++◌, length, Bool, true, false, Option, Some, None, Ok, Err, IfSome, count_by, codes}
use Rattle.std.specs.Result.{result_map_both}
use Rattle.json_grammar.specs.Tree.{Tree, null, boolean, text}
use Rattle.json_model.specs.Edit.{Step, at_path}
use Rattle.json_value.specs.Steps.{tree_at}
use Rattle.json_history.specs.History.{TreeHistory}
use Rattle.json_rpc.specs.Requests.{Request, named_member, request_of, version}
use Rattle.json_rpc.specs.Methods.{DocumentChange, change, undo, redo, max_undos, performed, tree_at_path}
use Rattle.json_rpc.specs.Serving.{executed, member_served, batch_served, whole_batch_served, Message, IsMessage}
use Rattle.json_rpc.specs.declared.error.RpcError.{RpcError}

-- ---- notifications (section 4.1)

-- whether there is a response: to a value that is no valid request, and to a request with an id
abbrev pub has_id : Option Tree → Bool
has_id (Some id) = true
has_id None = false

abbrev pub wants_response : Option Request → Bool
wants_response (Some r) = has_id r.id
wants_response None = true

-- a notification has no reply
abbrev pub NotificationHasNoReply : Type 0
NotificationHasNoReply = (h : TreeHistory) (u : Tree) (r : Request) → request_of u ≡ Some r → r.id ≡ None → (member_served h u).1 ≡ None

-- it does to the document and its history what the same request with an id does
abbrev pub NotificationHasItsEffect : Type 0
NotificationHasItsEffect =
    (h : TreeHistory) (u v : Tree) (r s : Request)
    → request_of u ≡ Some r
    → request_of v ≡ Some s
    → r.method ≡ s.method
    → r.params ≡ s.params
    → (member_served h u).0 ≡ (member_served h v).0

-- ---- responses (section 5)

-- the reply to a valid request has the version, and the id of the request as it was written
abbrev pub ReplyHasTheId : Type 0
ReplyHasTheId =
    (h : TreeHistory) (u reply : Tree) (r : Request)
    → request_of u ≡ Some r
    → (member_served h u).1 ≡ Some reply
    → (named_member (codes "id") reply ≡ r.id) × (named_member (codes "jsonrpc") reply ≡ Some (text version))

-- the reply to a value that is no valid request has the id null
abbrev pub InvalidHasNullId : Type 0
InvalidHasNullId = (h : TreeHistory) (u : Tree) → request_of u ≡ None → IfSome (member_served h u).1 (λ reply. named_member (codes "id") reply ≡ Some null)

-- a request that gets an error leaves the document as it is, and what can be undone and redone
abbrev pub ErrorLeavesTheDocument : Type 0
ErrorLeavesTheDocument =
    (h : TreeHistory) (u : Tree) (r : Request) (f : RpcError) → request_of u ≡ Some r → executed r h ≡ Err f → (member_served h u).0 ≡ h

-- so does a value that is no valid request
abbrev pub InvalidLeavesTheDocument : Type 0
InvalidLeavesTheDocument = (h : TreeHistory) (u : Tree) → request_of u ≡ None → (member_served h u).0 ≡ h

-- ---- batches (section 6)

-- a batch has one response for each member that is no notification
abbrev pub OneResponseEach : Type 0
OneResponseEach = (h : TreeHistory) (us : List Tree) → length (batch_served h us).1 ≡ count_by (λ u. wants_response (request_of u)) us

-- members that follow others begin with the history that those left, and their responses follow
abbrev pub BatchInTurn : Type 0
BatchInTurn =
    (h : TreeHistory) (us vs : List Tree)
    → let first = batch_served h us in let later = batch_served first.0 vs in batch_served h (us ++ vs) ≡ (later.0, first.1 ++ later.1)

-- a batch of notifications has no reply
abbrev pub NotificationsHaveNoReply : Type 0
NotificationsHaveNoReply =
    (h : TreeHistory) (us : List Tree) → count_by (λ u. wants_response (request_of u)) us ≡ 0 → (whole_batch_served h us).1 ≡ None

-- ---- get

-- it returns the value that a path leads to
abbrev pub LookupFollowsThePath : Type 0
LookupFollowsThePath = (p : List Step) (t u : Tree) → (tree_at_path p t ≡ Ok u) ↔ (tree_at p t ≡ Some u)

-- it fails where an edit there fails, and for the same reason
abbrev pub LookupFailsAsAnEdit : Type 0
LookupFailsAsAnEdit = (p : List Step) (t : Tree) → at_path p (λ u. Ok u) t ≡ result_map_both (λ u. t) (λ r. r) (tree_at_path p t)

-- ---- undo and redo

-- an undo after a change that applied gives back the document before it
abbrev pub UndoTakesBackTheChange : Type 0
UndoTakesBackTheChange =
    (h g : TreeHistory) (c : DocumentChange) (outcome : Tree)
    → performed (change c) h ≡ Ok (g, outcome)
    → (left : TreeHistory) × (performed undo g ≡ Ok (left, boolean true)) × (left.now ≡ h.now)

-- a redo after an undo that undid a change gives back all that was there before the undo
abbrev pub RedoTakesBackTheUndo : Type 0
RedoTakesBackTheUndo = (h g : TreeHistory) → performed undo h ≡ Ok (g, boolean true) → performed redo g ≡ Ok (h, boolean true)

-- so does an undo after a redo that redid a change
abbrev pub UndoTakesBackTheRedo : Type 0
UndoTakesBackTheRedo = (h g : TreeHistory) → performed redo h ≡ Ok (g, boolean true) → performed undo g ≡ Ok (h, boolean true)

-- after a change that applied nothing can be redone
abbrev pub ChangeEndsRedo : Type 0
ChangeEndsRedo = (h g : TreeHistory) (c : DocumentChange) (outcome : Tree) → performed (change c) h ≡ Ok (g, outcome) → performed redo g ≡ Ok (g, boolean false)

-- the number of changes that can be undone or redone
abbrev pub history_size : TreeHistory → ℕ
history_size h = length h.past + length h.future

-- it is never more than the limit
abbrev pub HistoryIsBounded : Type 0
HistoryIsBounded = (h : TreeHistory) (u : Tree) → history_size h ≤ max_undos → history_size (member_served h u).0 ≤ max_undos

-- ---- lines

-- a line is at most one message
abbrev pub OneMessage : Type 0
OneMessage = (b : List ℕ) (m n : Message) → IsMessage b m → IsMessage b n → m ≡ n

-- each line is some message
abbrev pub SomeMessage : Type 0
SomeMessage = (b : List ℕ) → (m : Message) × IsMessage b m
