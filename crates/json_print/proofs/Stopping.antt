-- A serializer that stops on the way has written a part of what was to be written.
use Rattle.std.proofs.Common.{◌≡◌, ℕ, List, [], ◌∷◌, ◌++◌, ◌∙◌, sym, ap, refl, subst, arith, ◌+◌, ◌-◌, length, take, get_or, reverse, Bool, true, false, cond, Option, Err, Result}
use Rattle.std.proofs.lemmas.List.{take_more, take_all, reverse-append}
use Rattle.std.proofs.lemmas.Result.{on_err_weaker}
use Rattle.json_grammar.specs.declared.Kind.{Kind}
use Rattle.json_grammar.specs.declared.Kind.TheVariants.{Array as array, Object as object}
use Rattle.json_grammar.specs.Place.{outside}
use Rattle.json_io.specs.declared.error.Error.{Error}
use Rattle.json_io.specs.Known.{append_known}
use Rattle.json_io.proofs.Known.{known-append, known-nil}
use Rattle.json_print.specs.declared.events.ExpectedEvent.{ExpectedEvent}
use Rattle.json_print.specs.declared.events.ExpectedEvent.TheVariants.{Value as at_value, Element as at_element, Key as at_key, Member as at_member, Done as at_done}
use Rattle.json_print.specs.Calls.{FormatterCall, string_call, begin_element, end_element, begin_key, end_key, begin_member, end_member}
use Rattle.json_print.specs.Layouts.{FormatterModel}
use Rattle.json_layout.specs.TextWriting.{Begins, StopCause}
use Rattle.json_print.specs.Printer.{SerializerState, Layer, MemberText, Stops, gained_put, call, with_bytes, filed_in, lead_in, follow_on, value_begun, value_ended, took_scalar, row_put, rows_put, rows_sorted, top_rows, below, emptied, emptied_in}
use Rattle.json_print.specs.declared.serializer.SerializerFailed.{SerializerFailed}
use Rattle.json_print.specs.Steps.{Steps, StopsShort}

pub Begins-refl : (a : Option (List ℕ)) → Begins a a
Begins-refl a = record { back = []; whole = sym (known-nil a) }

pub Begins-trans : (a b c : Option (List ℕ)) → Begins a b → Begins b c → Begins a c
Begins-trans a b c g h = record { back = g.back ++ h.back; whole = h.whole ∙ ap (λ x. append_known x h.back) g.whole ∙ known-append a g.back h.back }

pub put_begins : (ls : List Layer) (g : Option (List ℕ)) (p : List ℕ) → Begins g (gained_put ls g p)
put_begins [] g p = record { back = p; whole = refl }
put_begins (l ∷ ls) g p = Begins-refl g

pub one_begins : {F : Type 0} (g : Option (List ℕ)) (b : Bool) (x y : SerializerState F) → Begins g x.gained → Begins g y.gained → Begins g (cond b x y).gained
one_begins g true x y p q = p
one_begins g false x y p q = q

pub call_begins : {F : Type 0} (m : FormatterModel F) (s : SerializerState F) (c : FormatterCall) → Begins s.gained (call m s c).gained
call_begins m s c = put_begins s.layers s.gained (m.piece s.formatter c)

pub lead_begins : {F : Type 0} (m : FormatterModel F) (s : SerializerState F) (t : ExpectedEvent) → Begins s.gained (lead_in m s t).gained
lead_begins m s at_value = Begins-refl s.gained
lead_begins m s (at_element first) = call_begins m s (begin_element first)
lead_begins m s (at_key first) = Begins-refl s.gained
lead_begins m s at_member = one_begins s.gained s.sorts s (call m s begin_member) (Begins-refl s.gained) (call_begins m s begin_member)
lead_begins m s at_done = Begins-refl s.gained

follow_begins : {F : Type 0} (m : FormatterModel F) (s : SerializerState F) (c : List Kind) → Begins s.gained (follow_on m s c).gained
follow_begins m s [] = Begins-refl s.gained
follow_begins m s (array ∷ c) = call_begins m s end_element
follow_begins m s (object ∷ c) = one_begins s.gained s.sorts _ _ (Begins-refl s.gained) (call_begins m s end_member)

pub ended_begins : {F : Type 0} (m : FormatterModel F) (s : SerializerState F) → Begins s.gained (value_ended m s).gained
ended_begins m s = follow_begins m s s.opened

pub begun_begins : {F : Type 0} (m : FormatterModel F) (s : SerializerState F) → Begins s.gained (value_begun m s).gained
begun_begins m s = lead_begins m s s.turn

-- ---- no call failed

-- no call of the writer failed in between, and the loan stays
abbrev pub Calm : {F : Type 0} → SerializerState F → SerializerState F → Type 0
Calm old x = (x.faults ≡ old.faults) × (x.loan ≡ old.loan)

pub Calm-trans : {F : Type 0} (a b c : SerializerState F) → Calm a b → Calm b c → Calm a c
Calm-trans a b c g h = (h.0 ∙ g.0, h.1 ∙ g.1)

pub one_calm : {F : Type 0} (s : SerializerState F) (b : Bool) (x y : SerializerState F) → Calm s x → Calm s y → Calm s (cond b x y)
one_calm s true x y p q = p
one_calm s false x y p q = q

lead_calm : {F : Type 0} (m : FormatterModel F) (s : SerializerState F) (t : ExpectedEvent) → Calm s (lead_in m s t)
lead_calm m s at_value = (refl, refl)
lead_calm m s (at_element first) = (refl, refl)
lead_calm m s (at_key first) = (refl, refl)
lead_calm m s at_member = one_calm s s.sorts s (call m s begin_member) (refl, refl) (refl, refl)
lead_calm m s at_done = (refl, refl)

pub begun_calm : {F : Type 0} (m : FormatterModel F) (s : SerializerState F) → Calm s (value_begun m s)
begun_calm m s = lead_calm m s s.turn

follow_calm : {F : Type 0} (m : FormatterModel F) (s : SerializerState F) (c : List Kind) → Calm s (follow_on m s c)
follow_calm m s [] = (refl, refl)
follow_calm m s (array ∷ c) = (refl, refl)
follow_calm m s (object ∷ c) = one_calm s s.sorts (filed_in s) (call m s end_member) (refl, refl) (refl, refl)

pub ended_calm : {F : Type 0} (m : FormatterModel F) (s : SerializerState F) → Calm s (value_ended m s)
ended_calm m s = follow_calm m s s.opened

-- ---- the rows of a sorted object

pub calls_begin : {F : Type 0} (m : FormatterModel F) (s : SerializerState F) (a b c : FormatterCall) → Begins s.gained (call m (call m (call m s a) b) c).gained
calls_begin m s a b c = Begins-trans _ _ _ (call_begins m s a) (Begins-trans _ _ _ (call_begins m (call m s a) b) (call_begins m (call m (call m s a) b) c))

pub row_begins : {F : Type 0} (m : FormatterModel F) (s : SerializerState F) (first : Bool) (r : MemberText) → Begins s.gained (row_put m s first r).gained
row_begins m s first r =
    let a = call m (call m (call m s (begin_key first)) (string_call true r.key)) end_key in
    let b = call m a begin_member in
    Begins-trans _ _ _ (calls_begin m s (begin_key first) (string_call true r.key) end_key)
    (Begins-trans _ _ _ (call_begins m a begin_member) (Begins-trans _ _ _ (put_begins b.layers b.gained r.text) (call_begins m (with_bytes b r.text) end_member)))

pub rows_begin : {F : Type 0} (m : FormatterModel F) (rows : List MemberText) (s : SerializerState F) (first : Bool) → Begins s.gained (rows_put m s first rows).gained
rows_begin m [] s first = Begins-refl s.gained
rows_begin m (r ∷ rows) s first = Begins-trans _ _ _ (row_begins m s first r) (rows_begin m rows (row_put m s first r) false)

pub emptied_begins : {F : Type 0} (m : FormatterModel F) (s : SerializerState F) (k : Kind) → Begins s.gained (emptied m s k).gained
emptied_begins m s array = Begins-refl s.gained
emptied_begins m s object = one_begins s.gained s.sorts _ s (rows_begin m (rows_sorted (top_rows s.layers)) (record s { layers = below s.layers }) true) (Begins-refl s.gained)

rows_calm : {F : Type 0} (m : FormatterModel F) (rows : List MemberText) (s : SerializerState F) (first : Bool) → Calm s (rows_put m s first rows)
rows_calm m [] s first = (refl, refl)
rows_calm m (r ∷ rows) s first = let h = rows_calm m rows (row_put m s first r) false in (h.0, h.1)

pub emptied_calm : {F : Type 0} (m : FormatterModel F) (s : SerializerState F) (k : Kind) → Calm s (emptied m s k)
emptied_calm m s array = (refl, refl)
emptied_calm m s object =
    let h = rows_calm m (rows_sorted (top_rows s.layers)) (record s { layers = below s.layers }) true in
    one_calm s s.sorts (emptied_in m s) s (h.0, h.1) (refl, refl)

-- ---- steps one after another

pub Stops-on : {F : Type 0} (old new aim aim' : SerializerState F) (e : Error) → Stops old new aim e → Begins aim.gained aim'.gained → Stops old new aim' e
Stops-on old new aim aim' e h b = record { had = h.had; less = Begins-trans _ _ _ h.less b; cause = h.cause; reported = h.reported; later = h.later; same_loan = h.same_loan }

pub Stops-from : {F : Type 0} (old x new aim : SerializerState F) (e : Error) → Begins old.gained x.gained → Calm old x → Stops x new aim e → Stops old new aim e
Stops-from old x new aim e b f h =
    record {
      had = Begins-trans _ _ _ b h.had;
      less = h.less;
      cause = subst (λ n. StopCause n new.faults e.code e.place) f.0 h.cause;
      reported = λ l. h.reported (omega (arith, f.0, l));
      later = omega (arith, f.0, h.later);
      same_loan = h.same_loan ∙ f.1;
    }

pub StopsShort-on : {F : Type 0} (old new aim aim' : SerializerState F) (f : Option Error) → StopsShort old new aim f → Begins aim.gained aim'.gained → StopsShort old new aim' f
StopsShort-on old new aim aim' f h b = record { error = h.error; kept = h.kept; stops = Stops-on old new aim aim' h.error h.stops b }

-- a step after others that reached x
pub Steps-from : {F : Type 0} (old x mid new : SerializerState F) (step : SerializerState F → SerializerState F) (f : Option Error) (r : Result (Unit {0}) SerializerFailed) → Begins old.gained x.gained → Calm old x → mid ≡ x → Steps mid new (step mid) f r → Steps old new (step x) f r
Steps-from old x mid new step f r b l e h =
    let g : Steps x new (step x) f r = subst (λ y. Steps y new (step y) f r) e h in
    record { ok = g.ok; goes = g.goes; stops = on_err_weaker r (λ (k : StopsShort x new (step x) f). let s : StopsShort old new (step x) f = record { error = k.error; kept = k.kept; stops = Stops-from old x new (step x) k.error b l k.stops } in s) g.stops }

-- ... and then stops on the way to a further aim
pub StopsShort-step : {F : Type 0} (old x mid new aim : SerializerState F) (step : SerializerState F → SerializerState F) (f : Option Error) (halted : SerializerFailed) → Begins old.gained x.gained → Calm old x → mid ≡ x → Steps mid new (step mid) f (Err halted) → Begins (step x).gained aim.gained
    → StopsShort old new aim f
StopsShort-step old x mid new aim step f halted b l k h g = StopsShort-on old new (step x) aim f (Steps-from old x mid new step f (Err halted) b l k h).stops g

-- ---- at the exits

pub exits : {F : Type 0} (old new aim : SerializerState F) (f : Option Error) (r : Result (Unit {0}) SerializerFailed) (halted : SerializerFailed) → (y : SerializerFailed) × (r ≡ Err y) × (y ≡ halted) → StopsShort old new aim f → Steps old new aim f r
exits old new aim f r halted p h = subst (λ x. Steps old new aim f x) (sym p.1) (record { ok = tt; goes = tt; stops = h })

pub scalar_rest : {F : Type 0} (m : FormatterModel F) (s : SerializerState F) (c : FormatterCall) → Begins (value_begun m s).gained (took_scalar m s c).gained
scalar_rest m s c = Begins-trans _ _ _ (call_begins m (value_begun m s) c) (ended_begins m (call m (value_begun m s) c))

pub begin_called : {F : Type 0} (m : FormatterModel F) (s : SerializerState F) (c : FormatterCall) → Begins s.gained (call m (value_begun m s) c).gained
begin_called m s c = Begins-trans _ _ _ (begun_begins m s) (call_begins m (value_begun m s) c)

-- ---- the innermost container is taken off

abbrev pub shut : {F : Type 0} → SerializerState F → SerializerState F
shut a = record a { opened = outside a.opened }

pub popped : (xs p : List Kind) → p ≡ take (length xs - 1) xs → reverse p ≡ outside (reverse xs)
popped [] p e = ap reverse e
popped (x ∷ xs) p e =
    let n : length xs + 1 ≡ length (x ∷ xs) = omega arith in
    let k : length (x ∷ xs) - 1 ≡ length xs = omega arith in
    let cut : take (length xs) (x ∷ xs) ++ get_or (x ∷ xs) (length xs) x ∷ [] ≡ x ∷ xs = sym (take_more (x ∷ xs) (length xs) x (omega arith)) ∙ ap (λ i. take i (x ∷ xs)) n ∙ take_all (length (x ∷ xs)) (x ∷ xs) (omega arith) in
    let q : p ≡ take (length xs) (x ∷ xs) = e ∙ ap (λ i. take i (x ∷ xs)) k in
    ap reverse q ∙ sym (ap outside (ap reverse (sym cut) ∙ reverse-append (take (length xs) (x ∷ xs)) (get_or (x ∷ xs) (length xs) x ∷ [])))

pub shut_same : {F : Type 0} (a x : SerializerState F) (o : List Kind) → a ≡ x → o ≡ outside a.opened → ◌≡◌ {A = SerializerState F} (record a { opened = o }) (shut x)
shut_same {F = F} a x o e h = ap (λ (c : List Kind). let r : SerializerState F = record a { opened = c } in r) h ∙ ap shut e

-- ---- a scalar

-- it stopped before the value, at the value, or reached what follows it
pub scalar_begun : {F : Type 0} (m : FormatterModel F) (old new : SerializerState F) (c : FormatterCall) (f : Option Error) (r : Result (Unit {0}) SerializerFailed) (halted : SerializerFailed) → (y : SerializerFailed) × (r ≡ Err y) × (y ≡ halted) → StopsShort old new (value_begun m old) f → Steps old new (took_scalar m old c) f r
scalar_begun m old new c f r halted p h = exits old new _ f r halted p (StopsShort-on old new _ _ f h (scalar_rest m old c))

pub scalar_called : {F : Type 0} (m : FormatterModel F) (old mid new : SerializerState F) (c : FormatterCall) (f : Option Error) (r : Result (Unit {0}) SerializerFailed) (halted : SerializerFailed) → (y : SerializerFailed) × (r ≡ Err y) × (y ≡ halted) → mid ≡ value_begun m old → Steps mid new (call m mid c) f (Err halted)
    → Steps old new (took_scalar m old c) f r
scalar_called m old mid new c f r halted p e h =
    exits old new _ f r halted p (StopsShort-step old (value_begun m old) mid new _ (λ s. call m s c) f halted (begun_begins m old) (begun_calm m old) e h (ended_begins m (call m (value_begun m old) c)))

pub scalar_ended : {F : Type 0} (m : FormatterModel F) (old mid last new : SerializerState F) (c : FormatterCall) (f : Option Error) (r : Result (Unit {0}) SerializerFailed) → mid ≡ value_begun m old → last ≡ call m mid c → Steps last new (value_ended m last) f r → Steps old new (took_scalar m old c) f r
scalar_ended {F = F} m old mid last new c f r e k h =
    Steps-from old (call m (value_begun m old) c) last new (value_ended m) f r (begin_called m old c) (begun_calm m old) (k ∙ ap (λ (s : SerializerState F). call m s c) e) h

-- ---- a key

-- a key and what surrounds it, the first or not
abbrev pub key_by : {F : Type 0} → FormatterModel F → SerializerState F → Bool → List ℕ → SerializerState F
key_by m s first k = call m (call m (call m s (begin_key first)) (string_call true k)) end_key

-- it stopped before the key, at the key, or reached what follows it
pub key_begun : {F : Type 0} (m : FormatterModel F) (old new : SerializerState F) (first : Bool) (k : List ℕ) (f : Option Error) (r : Result (Unit {0}) SerializerFailed) (halted : SerializerFailed) → (y : SerializerFailed) × (r ≡ Err y) × (y ≡ halted) → StopsShort old new (call m old (begin_key first)) f → Steps old new (key_by m old first k) f r
key_begun m old new first k f r halted p h =
    let a = call m old (begin_key first) in
    exits old new _ f r halted p (StopsShort-on old new _ _ f h (Begins-trans _ _ _ (call_begins m a (string_call true k)) (call_begins m (call m a (string_call true k)) end_key)))

pub key_called : {F : Type 0} (m : FormatterModel F) (old mid new : SerializerState F) (first : Bool) (k : List ℕ) (f : Option Error) (r : Result (Unit {0}) SerializerFailed) (halted : SerializerFailed) → (y : SerializerFailed) × (r ≡ Err y) × (y ≡ halted) → mid ≡ call m old (begin_key first) → Steps mid new (call m mid (string_call true k)) f (Err halted)
    → Steps old new (key_by m old first k) f r
key_called m old mid new first k f r halted p e h =
    let a = call m old (begin_key first) in
    exits old new _ f r halted p (StopsShort-step old a mid new _ (λ s. call m s (string_call true k)) f halted (call_begins m old (begin_key first)) (refl, refl) e h (call_begins m (call m a (string_call true k)) end_key))

pub key_ended : {F : Type 0} (m : FormatterModel F) (old mid last new : SerializerState F) (first : Bool) (k : List ℕ) (f : Option Error) (r : Result (Unit {0}) SerializerFailed) → mid ≡ call m old (begin_key first) → last ≡ call m mid (string_call true k) → Steps last new (call m last end_key) f r → Steps old new (key_by m old first k) f r
key_ended {F = F} m old mid last new first k f r e g h =
    let a = call m old (begin_key first) in
    Steps-from old (call m a (string_call true k)) last new (λ s. call m s end_key) f r (Begins-trans _ _ _ (call_begins m old (begin_key first)) (call_begins m a (string_call true k))) (refl, refl) (g ∙ ap (λ (s : SerializerState F). call m s (string_call true k)) e) h
