-- At every moment what was written begins the text of each tree whose tokens begin so.
use Rattle.std.proofs.Common.{◌≡◌, ℕ, List, [], ◌∷◌, ◌++◌, length, append_assoc, ◌∙◌, sym, ap, refl, subst, Bool, true, false, Option}
use Rattle.json_grammar.specs.Tree.{Tree, Token, null_token, boolean_token, num_token, text_token, begin, end, key_token, tokens}
use Rattle.json_grammar.specs.Place.{outside}
use Rattle.json_model.specs.Print.{shown}
use Rattle.json_io.specs.declared.error.Error.{Error}
use Rattle.json_io.specs.Known.{append_known}
use Rattle.json_io.specs.Outside.{SinkState}
use Rattle.json_print.specs.Calls.{FormatterCall, null_call, boolean_call, number_call, string_call, begin_call, end_call, begin_key, end_key}
use Rattle.json_print.specs.Layouts.{FormatterModel}
use Rattle.json_layout.specs.TextWriting.{Begins}
use Rattle.json_print.specs.Printer.{SerializerState, StopsAtToken, after, call, value_begun, took_scalar, emptied, is_first, start}
use Rattle.json_print.specs.Layouts.{LaidOut}
use Rattle.json_print.specs.Taking.{after_all}
use Rattle.json_print.proofs.EndlessLevels.{Level, ideal, ideal_laid, after_in}
use Rattle.json_print.proofs.SameAsEndless.{Like, all_like, after_gained}
use Rattle.json_print.proofs.Asked.{as_asked}
use Rattle.json_print.proofs.Stopping.{Begins-refl, Begins-trans, call_begins, calls_begin, emptied_begins, ended_begins, begin_called, one_begins}
use Rattle.json_print.proofs.Texts.{all, value_law, all_append, own_is}

scalar_begins : {F : Type 0} (m : FormatterModel F) (s : SerializerState F) (c : FormatterCall) → Begins s.gained (took_scalar m s c).gained
scalar_begins m s c = Begins-trans _ _ _ (begin_called m s c) (ended_begins m (call m (value_begun m s) c))

after_begins : {F : Type 0} (m : FormatterModel F) (s : SerializerState F) (t : Token) → Begins s.gained (after m s t).gained
after_begins m s null_token = scalar_begins m s null_call
after_begins m s (boolean_token b) = scalar_begins m s (boolean_call b)
after_begins m s (num_token l) = scalar_begins m s (number_call l)
after_begins m s (text_token t) = scalar_begins m s (string_call true t)
after_begins m s (begin k) = begin_called m s (begin_call k)
after_begins {F = F} m s (end k) =
    let a = call m (emptied m s k) (end_call k) in
    Begins-trans _ _ _ (emptied_begins m s k) (Begins-trans _ _ _ (call_begins m (emptied m s k) (end_call k)) (ended_begins m (record a { opened = outside a.opened })))
after_begins m s (key_token k) = one_begins s.gained s.sorts _ _ (Begins-refl s.gained) (calls_begin m s (begin_key (is_first s.turn)) (string_call true k) end_key)

-- ---- the same of one whose formatter's level has no end

in_begins : {F : Type 0} (m : FormatterModel F) (s : SerializerState F) (t : Token) → Begins s.gained (after_in m s t).gained
in_begins m s null_token = after_begins m s null_token
in_begins m s (boolean_token b) = after_begins m s (boolean_token b)
in_begins m s (num_token l) = after_begins m s (num_token l)
in_begins m s (text_token t) = after_begins m s (text_token t)
in_begins m s (begin k) = after_begins m s (begin k)
in_begins m s (end k) = after_begins m s (end k)
in_begins m s (key_token k) = after_begins m s (key_token k)

all_begin : {F : Type 0} (m : FormatterModel F) (ts : List Token) (s : SerializerState F) → Begins s.gained (all m s ts).gained
all_begin m [] s = Begins-refl s.gained
all_begin m (t ∷ ts) s = Begins-trans _ _ _ (in_begins m s t) (all_begin m ts (after_in m s t))

-- ---- a whole tree

abbrev begun : Bool → SinkState → SerializerState Level
begun sorts w = start (record { level = 0; flag = false }) sorts w

ideal_law : (sorts : Bool) (w : SinkState) (i : Option (List ℕ)) (t : Tree) → (all (ideal i) (begun sorts w) (tokens t)).gained ≡ append_known w.gained (shown i 0 (as_asked sorts t))
ideal_law sorts w i t =
    let s = begun sorts w in
    let r = value_law (ideal i) i t s 0 false (ideal_laid i s.formatter) in
    ap (λ (x : SerializerState Level). x.gained) (own_is (ideal i) s t ∙ r.same)

module _ {F : Type 0} (m : FormatterModel F) (f : F) (sorts : Bool) (w : SinkState) (i : Option (List ℕ)) (h : LaidOut m f i 0 false) where
  abbrev state_of : List Token → SerializerState F
  state_of ts = after_all (after m) (start f sorts w) ts

  alike : (ts : List Token) → (state_of ts).deep ≡ false → Like m i (state_of ts) (all (ideal i) (begun sorts w) ts) (length (state_of ts).opened)
  alike ts e = all_like m i ts (start f sorts w) (begun sorts w) e (record { flag = false; laid = h; same = refl })

  pub whole_law : (t : Tree) → (state_of (tokens t)).deep ≡ false → (state_of (tokens t)).gained ≡ append_known w.gained (shown i 0 (as_asked sorts t))
  whole_law t e = sym (ap (λ y. y.gained) (alike (tokens t) e).same) ∙ ideal_law sorts w i t

  ideal_prefix : (t : Tree) (ts more : List Token) → tokens t ≡ ts ++ more → Begins (all (ideal i) (begun sorts w) ts).gained (append_known w.gained (shown i 0 (as_asked sorts t)))
  ideal_prefix t ts more e =
      let s = begun sorts w in
      subst (Begins (all (ideal i) s ts).gained) (ap (λ (x : SerializerState Level). x.gained) (sym (all_append (ideal i) s ts more) ∙ ap (all (ideal i) s) (sym e)) ∙ ideal_law sorts w i t) (all_begin (ideal i) more (all (ideal i) s ts))

  pub prefix_law : (t : Tree) (ts more : List Token) → (state_of ts).deep ≡ false → tokens t ≡ ts ++ more → Begins (state_of ts).gained (append_known w.gained (shown i 0 (as_asked sorts t)))
  prefix_law t ts more e k = subst (λ g. Begins g (append_known w.gained (shown i 0 (as_asked sorts t)))) (ap (λ y. y.gained) (alike ts e).same) (ideal_prefix t ts more k)

  pub stopped_law : (t : Tree) (ts more : List Token) (x : Token) (new : SerializerState F) (err : Error) → tokens t ≡ ts ++ x ∷ more → StopsAtToken m (state_of ts) x new err → Begins new.gained (append_known w.gained (shown i 0 (as_asked sorts t)))
  stopped_law t ts more x new err e k =
      let s = begun sorts w in
      let y = all (ideal i) s ts in
      let split : tokens t ≡ (ts ++ x ∷ []) ++ more = e ∙ sym (append_assoc ts (x ∷ []) more) in
      let last : (all (ideal i) s (ts ++ x ∷ [])).gained ≡ (after m (state_of ts) x).gained = ap (λ (z : SerializerState Level). z.gained) (all_append (ideal i) s ts (x ∷ [])) ∙ sym (after_gained m i (state_of ts) y x k.0 (alike ts k.0)) in
      Begins-trans _ _ _ k.1.less (subst (λ g. Begins g (append_known w.gained (shown i 0 (as_asked sorts t)))) last (ideal_prefix t (ts ++ x ∷ []) more split))
