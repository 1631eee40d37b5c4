-- What a serializer has written and what it holds, over any formatter.
use Rattle.std.specs.Prelude.{◌≡◌, ℕ, suc, ◌-◌, ◌^◌, ◌<◌, ◌≤◌, List, [], ◌∷◌, ◌++◌, length, Bool, true, false, cond, ◌||◌, nat_lt, Option}
use Rattle.json_grammar.specs.declared.Kind.{Kind}
use Rattle.json_grammar.specs.Tree.{Token, null_token, boolean_token, num_token, text_token, begin, end, key_token}
use Rattle.json_grammar.specs.declared.Kind.TheVariants.{Array as array, Object as object}
use Rattle.json_grammar.specs.Place.{outside}
use Rattle.json_grammar.specs.TokenStates.{TokenState}
use Rattle.json_model.specs.Sort.{bytes_less}
use Rattle.json_io.specs.declared.error.Error.{Error}
use Rattle.json_io.specs.Errors.{writing_failed}
use Rattle.json_io.specs.Known.{append_known}
use Rattle.json_io.specs.Outside.{Loan, SinkState}
use Rattle.json_layout.specs.TextWriting.{Begins, StopCause}
use Rattle.json_print.specs.declared.events.ExpectedEvent.{ExpectedEvent}
use Rattle.json_print.specs.declared.events.ExpectedEvent.TheVariants.{Value as at_value, Element as at_element, Key as at_key, Member as at_member, Done as at_done}
use Rattle.json_print.specs.Calls.{FormatterCall, null_call, boolean_call, number_call, string_call, begin_call, end_call, begin_element, end_element, begin_key, end_key, begin_member, end_member}
use Rattle.json_print.specs.Given.{TokenOrInteger, token_of}
use Rattle.json_print.specs.Layouts.{FormatterModel}
use Rattle.json_print.specs.ExpectedEvents.{expected_at_turn, first_turn}

-- a pair of a sorted object, with the text of its value
pub record MemberText : Type 0 where
  pub key : List ℕ
  pub text : List ℕ

-- ... of this key and this text
abbrev pub row_with : List ℕ → List ℕ → MemberText
row_with key text = record { key = key; text = text }

-- a sorted object that is open: its finished pairs, and of the last pair the key and the text so far
pub record Layer : Type 0 where
  pub rows : List MemberText
  pub key : List ℕ
  pub text : List ℕ

pub record SerializerState (F : Type 0) : Type 0 where
  pub formatter : F
  pub turn : ExpectedEvent
  -- the open containers, the innermost first
  pub opened : List Kind
  pub sorts : Bool
  -- the sorted objects that are open, the innermost first
  pub layers : List Layer
  -- of the writer
  pub gained : Option (List ℕ)
  pub faults : ℕ
  pub lacks : ℕ
  pub loan : Option Loan
  -- more containers were open than a usize counts
  pub deep : Bool

-- nothing was written yet
abbrev pub start : {F : Type 0} → F → Bool → SinkState → SerializerState F
start f sorts w =
    record { formatter = f; turn = at_value; opened = []; sorts = sorts; layers = []; gained = w.gained; faults = w.faults; lacks = w.lacks; loan = w.loan; deep = false }

-- no token was taken yet
abbrev pub IsFresh : {F : Type 0} → SerializerState F → Type 0
IsFresh s = (s.turn ≡ at_value) × (s.opened ≡ [])

-- without a pair
abbrev pub no_layer : Layer
no_layer = record { rows = []; key = []; text = [] }

-- more of the text of its last pair
abbrev pub text_put : Layer → List ℕ → Layer
text_put l p = record l { text = l.text ++ p }

abbrev pub gained_put : List Layer → Option (List ℕ) → List ℕ → Option (List ℕ)
gained_put [] gained p = append_known gained p
gained_put (l ∷ ls) gained p = gained

abbrev pub layers_put : List Layer → List ℕ → List Layer
layers_put [] p = []
layers_put (l ∷ ls) p = text_put l p ∷ ls

-- bytes go to the innermost sorted object, or to the writer
abbrev pub with_bytes : {F : Type 0} → SerializerState F → List ℕ → SerializerState F
with_bytes s p = record s { gained = gained_put s.layers s.gained p; layers = layers_put s.layers p }

abbrev pub call : {F : Type 0} → FormatterModel F → SerializerState F → FormatterCall → SerializerState F
call m s c = record s { formatter = m.next s.formatter c; gained = gained_put s.layers s.gained (m.piece s.formatter c); layers = layers_put s.layers (m.piece s.formatter c) }

abbrev pub turned : {F : Type 0} → SerializerState F → ExpectedEvent → SerializerState F
turned s turn = record s { turn = turn }

-- ---- before and after a value

abbrev pub lead_in : {F : Type 0} → FormatterModel F → SerializerState F → ExpectedEvent → SerializerState F
lead_in m s at_value = s
lead_in m s (at_element first) = call m s (begin_element first)
lead_in m s (at_key first) = s
lead_in m s at_member = cond s.sorts s (call m s begin_member)
lead_in m s at_done = s

-- its last pair is finished
abbrev pub pair_filed : Layer → Layer
pair_filed l = record { rows = l.rows ++ row_with l.key l.text ∷ []; key = []; text = [] }

abbrev pub filed : List Layer → List Layer
filed [] = []
filed (l ∷ ls) = pair_filed l ∷ ls

abbrev pub filed_in : {F : Type 0} → SerializerState F → SerializerState F
filed_in s = record s { layers = filed s.layers }

abbrev pub follow_on : {F : Type 0} → FormatterModel F → SerializerState F → List Kind → SerializerState F
follow_on m s [] = turned s at_done
follow_on m s (array ∷ c) = turned (call m s end_element) (at_element false)
follow_on m s (object ∷ c) = turned (cond s.sorts (filed_in s) (call m s end_member)) (at_key false)

abbrev pub value_begun : {F : Type 0} → FormatterModel F → SerializerState F → SerializerState F
value_begun m s = lead_in m s s.turn

abbrev pub value_ended : {F : Type 0} → FormatterModel F → SerializerState F → SerializerState F
value_ended m s = follow_on m s s.opened

-- ---- the tokens

abbrev pub took_scalar : {F : Type 0} → FormatterModel F → SerializerState F → FormatterCall → SerializerState F
took_scalar m s c = value_ended m (call m (value_begun m s) c)

abbrev pub layered_in : {F : Type 0} → SerializerState F → SerializerState F
layered_in s = record s { layers = no_layer ∷ s.layers }

abbrev pub layered : Kind → Bool → List Layer → List Layer
layered object true ls = no_layer ∷ ls
layered k sorts ls = ls

abbrev pub opened_up : {F : Type 0} → SerializerState F → Kind → SerializerState F
opened_up s k =
    record s { turn = first_turn k; opened = k ∷ s.opened; layers = layered k s.sorts s.layers; deep = s.deep || nat_lt (2 ^ 64 - 1) (suc (length s.opened)) }

abbrev pub took_begin : {F : Type 0} → FormatterModel F → SerializerState F → Kind → SerializerState F
took_begin m s k = opened_up (call m (value_begun m s) (begin_call k)) k

-- before the first row whose key is not smaller
abbrev pub row_in : MemberText → List MemberText → List MemberText
row_in r [] = r ∷ []
row_in r (x ∷ rows) = cond (bytes_less x.key r.key) (x ∷ row_in r rows) (r ∷ x ∷ rows)

abbrev pub rows_sorted : List MemberText → List MemberText
rows_sorted [] = []
rows_sorted (r ∷ rows) = row_in r (rows_sorted rows)

abbrev pub row_put : {F : Type 0} → FormatterModel F → SerializerState F → Bool → MemberText → SerializerState F
row_put m s first r = call m (with_bytes (call m (call m (call m (call m s (begin_key first)) (string_call true r.key)) end_key) begin_member) r.text) end_member

abbrev pub rows_put : {F : Type 0} → FormatterModel F → SerializerState F → Bool → List MemberText → SerializerState F
rows_put m s first [] = s
rows_put m s first (r ∷ rows) = rows_put m (row_put m s first r) false rows

-- the pairs of a sorted object in the order of their keys
abbrev pub members_put : {F : Type 0} → FormatterModel F → Layer → SerializerState F → SerializerState F
members_put m l s = rows_put m s true (rows_sorted l.rows)

abbrev pub top_rows : List Layer → List MemberText
top_rows [] = []
top_rows (l ∷ ls) = l.rows

abbrev pub below : List Layer → List Layer
below [] = []
below (l ∷ ls) = ls

-- the innermost sorted object is put into its surroundings
abbrev pub emptied_in : {F : Type 0} → FormatterModel F → SerializerState F → SerializerState F
emptied_in m s = rows_put m (record s { layers = below s.layers }) true (rows_sorted (top_rows s.layers))

abbrev pub emptied : {F : Type 0} → FormatterModel F → SerializerState F → Kind → SerializerState F
emptied m s array = s
emptied m s object = cond s.sorts (emptied_in m s) s

abbrev pub took_end : {F : Type 0} → FormatterModel F → SerializerState F → Kind → SerializerState F
took_end m s k = let a = call m (emptied m s k) (end_call k) in value_ended m (record a { opened = outside a.opened })

abbrev pub is_first : ExpectedEvent → Bool
is_first (at_key first) = first
is_first turn = true

-- more of the key of its last pair
abbrev pub key_more : Layer → List ℕ → Layer
key_more l k = record l { key = l.key ++ k }

abbrev pub key_put : List Layer → List ℕ → List Layer
key_put [] k = []
key_put (l ∷ ls) k = key_more l k ∷ ls

abbrev pub key_kept : {F : Type 0} → SerializerState F → List ℕ → SerializerState F
key_kept s k = record s { layers = key_put s.layers k }

abbrev pub key_written : {F : Type 0} → FormatterModel F → SerializerState F → List ℕ → SerializerState F
key_written m s k = call m (call m (call m s (begin_key (is_first s.turn))) (string_call true k)) end_key

abbrev pub keyed : {F : Type 0} → FormatterModel F → SerializerState F → List ℕ → SerializerState F
keyed m s k = cond s.sorts (key_kept s k) (key_written m s k)

abbrev pub took_key : {F : Type 0} → FormatterModel F → SerializerState F → List ℕ → SerializerState F
took_key m s k = turned (keyed m s k) at_member

abbrev pub after : {F : Type 0} → FormatterModel F → SerializerState F → Token → SerializerState F
after m s null_token = took_scalar m s null_call
after m s (boolean_token b) = took_scalar m s (boolean_call b)
after m s (num_token l) = took_scalar m s (number_call l)
after m s (text_token t) = took_scalar m s (string_call true t)
after m s (begin k) = took_begin m s k
after m s (end k) = took_end m s k
after m s (key_token k) = took_key m s k

abbrev pub expected_tokens_of : {F : Type 0} → SerializerState F → TokenState
expected_tokens_of s = record { opened = s.opened; expected = expected_at_turn s.turn }

-- ---- refusals

-- what a step may leave that meets this error on the way to its aim: some of what was to be written is
pub record Stops {F : Type 0} (old new aim : SerializerState F) (e : Error) : Type 0 where
  pub had : Begins old.gained new.gained
  pub less : Begins new.gained aim.gained
  pub cause : StopCause old.faults new.faults e.code e.place
  pub reported : old.faults < new.faults → e ≡ writing_failed
  pub later : old.faults ≤ new.faults
  pub same_loan : new.loan ≡ old.loan

-- what a call that meets this error at a token may leave
abbrev pub StopsAtToken : {F : Type 0} → FormatterModel F → SerializerState F → Token → SerializerState F → Error → Type 0
StopsAtToken m s t s' e = (s.deep ≡ false) × Stops s s' (after m s t) e

-- ---- what is given to it

abbrev pub took : {F : Type 0} → FormatterModel F → SerializerState F → TokenOrInteger → SerializerState F
took m s g = after m s (token_of g)

abbrev pub StopsTaking : {F : Type 0} → FormatterModel F → SerializerState F → TokenOrInteger → SerializerState F → Error → Type 0
StopsTaking m s g s' e = StopsAtToken m s (token_of g) s' e
