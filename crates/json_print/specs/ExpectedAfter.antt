-- What may follow in a serializer's state.
use Rattle.std.specs.Prelude.{◌≡◌, List, [], ◌∷◌, Bool, true, false, cond, refl}
use Rattle.std.proofs.Common.{◌∙◌, ap}
use Rattle.json_grammar.specs.declared.Kind.{Kind}
use Rattle.json_grammar.specs.declared.Kind.TheVariants.{Array as array, Object as object}
use Rattle.json_grammar.specs.Tree.{Token, null_token, boolean_token, num_token, text_token, begin, end, key_token}
use Rattle.json_grammar.specs.Place.{outside}
use Rattle.json_print.specs.declared.events.ExpectedEvent.{ExpectedEvent}
use Rattle.json_print.specs.declared.events.ExpectedEvent.TheVariants.{Value as at_value, Element as at_element, Key as at_key, Member as at_member, Done as at_done}
use Rattle.json_print.specs.Calls.{FormatterCall, null_call, boolean_call, number_call, string_call, begin_member}
use Rattle.json_grammar.specs.TokenStates.{TokenState, a_value, name_or_end, expected_in, state_in, after_token}
use Rattle.json_print.specs.Layouts.{FormatterModel}
use Rattle.json_print.specs.Printer.{SerializerState, MemberText, after, expected_tokens_of, call, lead_in, follow_on, value_begun, took_scalar, rows_put, row_put, emptied, rows_sorted, top_rows}

one_of : {F : Type 0} (b : Bool) (x y : SerializerState F) (c : List Kind) → x.opened ≡ c → y.opened ≡ c → (cond b x y).opened ≡ c
one_of true x y c p q = p
one_of false x y c p q = q

lead_opened : {F : Type 0} (m : FormatterModel F) (s : SerializerState F) (t : ExpectedEvent) → (lead_in m s t).opened ≡ s.opened
lead_opened m s at_value = refl
lead_opened m s (at_element first) = refl
lead_opened m s (at_key first) = refl
lead_opened m s at_member = one_of s.sorts s (call m s begin_member) s.opened refl refl
lead_opened m s at_done = refl

follow_stand : {F : Type 0} (m : FormatterModel F) (s : SerializerState F) (c : List Kind) → expected_tokens_of (follow_on m s c) ≡ record { opened = s.opened; expected = expected_in c }
follow_stand m s [] = refl
follow_stand m s (array ∷ c) = refl
follow_stand m s (object ∷ c) = ap (λ (o : List Kind). let r : TokenState = record { opened = o; expected = name_or_end } in r) (one_of s.sorts _ _ s.opened refl refl)

rows_opened : {F : Type 0} (m : FormatterModel F) (rows : List MemberText) (s : SerializerState F) (first : Bool) → (rows_put m s first rows).opened ≡ s.opened
rows_opened m [] s first = refl
rows_opened m (r ∷ rows) s first = rows_opened m rows (row_put m s first r) false

emptied_opened : {F : Type 0} (m : FormatterModel F) (s : SerializerState F) (k : Kind) → (emptied m s k).opened ≡ s.opened
emptied_opened m s array = refl
emptied_opened m s object = one_of s.sorts _ s s.opened (rows_opened m (rows_sorted (top_rows s.layers)) _ true) refl

scalar_stand : {F : Type 0} (m : FormatterModel F) (s : SerializerState F) (c : FormatterCall) → expected_tokens_of (took_scalar m s c) ≡ state_in s.opened
scalar_stand m s c = follow_stand m (call m (value_begun m s) c) (value_begun m s).opened ∙ ap state_in (lead_opened m s s.turn)

pub expected_after : {F : Type 0} (m : FormatterModel F) (s : SerializerState F) (t : Token) → expected_tokens_of (after m s t) ≡ after_token (expected_tokens_of s) t
expected_after m s null_token = scalar_stand m s null_call
expected_after m s (boolean_token b) = scalar_stand m s (boolean_call b)
expected_after m s (num_token l) = scalar_stand m s (number_call l)
expected_after m s (text_token t) = scalar_stand m s (string_call true t)
expected_after m s (begin array) = ap (λ (o : List Kind). state_in (array ∷ o)) (lead_opened m s s.turn)
expected_after m s (begin object) = ap (λ (o : List Kind). state_in (object ∷ o)) (lead_opened m s s.turn)
expected_after m s (end k) = follow_stand m _ (outside (emptied m s k).opened) ∙ ap (λ (o : List Kind). state_in (outside o)) (emptied_opened m s k)
expected_after m s (key_token k) = ap (λ (o : List Kind). let r : TokenState = record { opened = o; expected = a_value } in r) (one_of s.sorts _ _ s.opened refl refl)
