-- A token that is taken leaves the count of failed calls and the loan as they were.
use Rattle.std.proofs.Common.{List, [], ◌∷◌, refl, true}
use Rattle.json_grammar.specs.Tree.{Token, null_token, boolean_token, num_token, text_token, begin, end, key_token}
use Rattle.json_print.specs.Calls.{FormatterCall, null_call, boolean_call, number_call, string_call, end_call}
use Rattle.json_print.specs.Layouts.{FormatterModel}
use Rattle.json_print.specs.Printer.{SerializerState, after, call, value_begun, took_scalar, emptied, key_kept, key_written}
use Rattle.json_print.specs.Taking.{after_all}
use Rattle.json_print.proofs.Stopping.{Calm, Calm-trans, one_calm, begun_calm, ended_calm, emptied_calm, shut}

scalar_calm : {F : Type 0} (m : FormatterModel F) (s : SerializerState F) (c : FormatterCall) → Calm s (took_scalar m s c)
scalar_calm m s c = let x = call m (value_begun m s) c in Calm-trans s x (took_scalar m s c) (begun_calm m s) (ended_calm m x)

after_calm : {F : Type 0} (m : FormatterModel F) (s : SerializerState F) (t : Token) → Calm s (after m s t)
after_calm m s null_token = scalar_calm m s null_call
after_calm m s (boolean_token b) = scalar_calm m s (boolean_call b)
after_calm m s (num_token l) = scalar_calm m s (number_call l)
after_calm m s (text_token t) = scalar_calm m s (string_call true t)
after_calm m s (begin k) = begun_calm m s
after_calm m s (end k) =
    let a = shut (call m (emptied m s k) (end_call k)) in
    Calm-trans s a (after m s (end k)) (emptied_calm m s k) (ended_calm m a)
after_calm m s (key_token k) = one_calm s s.sorts (key_kept s k) (key_written m s k) (refl, refl) (refl, refl)

pub all_calm : {F : Type 0} (m : FormatterModel F) (ts : List Token) (s : SerializerState F) → Calm s (after_all (after m) s ts)
all_calm m [] s = (refl, refl)
all_calm m (t ∷ ts) s = Calm-trans s (after m s t) (after_all (after m) s (t ∷ ts)) (after_calm m s t) (all_calm m ts (after m s t))
