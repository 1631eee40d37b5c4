-- Where a reader of a query's text stops: some query begins with what it took, and none with one
-- byte more. It stops between two characters.
use Rattle.std.proofs.Common.{◌≡◌, ◌⊎◌, inl, inr, ℕ, suc, ◌+◌, ◌-◌, ◌/◌, ◌%◌, ◌<◌, ◌≤◌, ℤ, List, [], ◌∷◌, ◌++◌, length, take, Bool, true, false, None, IsUtf8, refl, sym, ap, ◌∙◌, subst, append_assoc, length-append, arith}
use Rattle.std.specs.Char.{is_digit, encode_utf8, IsScalar}
use Rattle.std.specs.Str.{encode_utf8_all, all_scalars}
use Rattle.std.proofs.lemmas.Bool.{ne_eqb, cond-false, cases_lt, lt-ltb, le-ltb, and_parts}
use Rattle.std.proofs.lemmas.Bool.Decides.{nat_tests}
use Rattle.std.proofs.lemmas.List.{take_at}
use Rattle.std.proofs.lemmas.Str.{IsUtf8-append, IsUtf8-encode, IsUtf8-nil, encode_ascii}
use Rattle.json_query.specs.declared.error.QueryCode.{QueryCode}
use Rattle.json_query.specs.Query.{Segment}
use Rattle.json_query.specs.Text.{BeginsQuery}
use Rattle.json_query.specs.Errors.{BreaksAt}
use Rattle.json_query.specs.declared.cursor.Class.TheVariants.{BeyondAscii}
use Rattle.json_query.specs.TextStates.{Brackets, IntegerRole, index_or_start, end_after, step_after, State, before_root, after_segment, after_blank, after_dot, after_dots, in_name, before_selector, after_selector, after_minus, in_integer, after_integer, before_end, before_step, in_string, after_backslash, in_unit, before_low, before_low_u, in_low, Step, goes_to, stops, step, segment_step, dot_step, dots_step, name_step, selector_step, first_step, end_step, step_step, minus_step, integer_step, more_step, root_step, short_escape_of, short_step, is_query, is_refused, outcome, outcome_at_end, query_outcome}
use Rattle.json_query.specs.Reading.{IsMark, double_mark, single_mark}
use Rattle.json_query.proofs.TextClasses.{class_high, goes, halts}
use Rattle.json_query.proofs.TextStrings.{plain_goes}
use Rattle.json_query.proofs.TextSegments.{query_read}
use Rattle.json_query.proofs.TextAccepted.{text_accepted}
use Rattle.json_query.proofs.TextCompletes.{Reached, ReachedBy, reached, Completes, completes}

-- ---- characters beyond ASCII

-- bytes from 128 on
abbrev pub High : List ℕ → Type 0
High [] = Unit {0}
High (x ∷ b) = (128 ≤ x) × High b

-- a state within a name or a string
abbrev TakesHigh : State → Type 0
TakesHigh (in_name qs descends k) = Unit {0}
TakesHigh (in_string m o k) = IsMark m
TakesHigh _ = ⊥

abbrev HighStep : Step → Type 0
HighStep (goes_to t) = TakesHigh t
HighStep (stops c) = Unit {0}

pub mark_small : (m : ℕ) → IsMark m → m < 128
mark_small m double_mark = omega arith
mark_small m single_mark = omega arith

pub string_high : (m : ℕ) (o : Brackets) (k : List ℕ) (x : ℕ) → IsMark m → 128 ≤ x → step (in_string m o k) x ≡ goes_to (in_string m o (k ++ x ∷ []))
string_high m o k x w g = let l : m < 128 = mark_small m w in plain_goes m o k x (omega arith) (omega arith) (omega arith)

pub no_short : (x : ℕ) → 128 ≤ x → short_escape_of x ≡ None
unfolding short_escape_of
no_short x g = grind (arith, nat_tests)

pub no_hex : (x : ℕ) → 128 ≤ x → is_digit x 16 ≡ false
no_hex x g = grind (arith, nat_tests)

integer_high : (r : IntegerRole) (o : Brackets) (i : ℤ) → HighStep (integer_step r o i BeyondAscii)
integer_high index_or_start o i = tt
integer_high (end_after start) o i = tt
integer_high (step_after start end) o i = tt

-- a byte of such a character leads into a name or a string, or the reader stops
high_step : (s : State) (x : ℕ) → Reached s → 128 ≤ x → HighStep (step s x)
high_step before_root x w g = subst (λ c. HighStep (root_step c)) (sym (class_high x g)) tt
high_step (after_segment qs) x w g = subst (λ c. HighStep (segment_step qs c)) (sym (class_high x g)) tt
high_step (after_blank qs) x w g = subst (λ c. HighStep (segment_step qs c)) (sym (class_high x g)) tt
high_step (after_dot qs) x w g = subst (λ c. HighStep (dot_step qs c x)) (sym (class_high x g)) tt
high_step (after_dots qs) x w g = subst (λ c. HighStep (dots_step qs c x)) (sym (class_high x g)) tt
high_step (in_name qs descends k) x w g = subst (λ c. HighStep (name_step qs descends k c x)) (sym (class_high x g)) tt
high_step (before_selector o) x w g = subst (λ c. HighStep (first_step o c x)) (sym (class_high x g)) tt
high_step (after_selector o) x w g = subst (λ c. HighStep (selector_step o c)) (sym (class_high x g)) tt
high_step (after_minus r o) x w g = subst (λ c. HighStep (minus_step r o c x)) (sym (class_high x g)) tt
high_step (in_integer r o negative n) x w g = subst (λ c. HighStep (more_step r o negative n c x)) (sym (class_high x g)) (integer_high r o _)
high_step (after_integer r o i) x w g = subst (λ c. HighStep (integer_step r o i c)) (sym (class_high x g)) (integer_high r o i)
high_step (before_end start o) x w g = subst (λ c. HighStep (end_step start o c x)) (sym (class_high x g)) tt
high_step (before_step start end o) x w g = subst (λ c. HighStep (step_step start end o c x)) (sym (class_high x g)) tt
high_step (in_string m o k) x w g = subst HighStep (sym (string_high m o k x w g)) w
high_step (after_backslash m o k) x w g =
    let l : m < 128 = mark_small m w in
    subst HighStep (sym (cond-false _ _ _ (ne_eqb x 117 (omega arith)) ∙ ap (short_step m o k x) (no_short x g) ∙ cond-false _ _ _ (ne_eqb x m (omega arith)))) tt
high_step (in_unit m o k more v) x w g = subst HighStep (sym (cond-false _ _ _ (no_hex x g))) tt
high_step (before_low m o k h) x w g = subst HighStep (sym (cond-false _ _ _ (ne_eqb x 92 (omega arith)))) tt
high_step (before_low_u m o k h) x w g = subst HighStep (sym (cond-false _ _ _ (ne_eqb x 117 (omega arith)))) tt
high_step (in_low m o k h more v) x w g = subst HighStep (sym (cond-false _ _ _ (no_hex x g))) tt

-- bytes that lead from a state to another, whatever follows
abbrev Passes : State → List ℕ → Type 0
Passes s e = (t : State) × Reached t × ((r : List ℕ) → outcome s (e ++ r) ≡ outcome t r)

pub name_passes : (qs : List Segment) (descends : Bool) (k e : List ℕ) → High e → Passes (in_name qs descends k) e
name_passes qs descends k [] h = (in_name qs descends k, tt, λ r. refl)
name_passes qs descends k (x ∷ e) h =
    let next : Passes (in_name qs descends (k ++ x ∷ [])) e = name_passes qs descends (k ++ x ∷ []) e h.1 in
    (next.0, next.1, λ r. goes (in_name qs descends k) (in_name qs descends (k ++ x ∷ [])) x (e ++ r) (ap (λ c. name_step qs descends k c x) (class_high x h.0)) ∙ next.2 r)

pub string_passes : (m : ℕ) (o : Brackets) (k e : List ℕ) → IsMark m → High e → Passes (in_string m o k) e
string_passes m o k [] w h = (in_string m o k, w, λ r. refl)
string_passes m o k (x ∷ e) w h =
    let next : Passes (in_string m o (k ++ x ∷ [])) e = string_passes m o (k ++ x ∷ []) e w h.1 in
    (next.0, next.1, λ r. goes (in_string m o k) (in_string m o (k ++ x ∷ [])) x (e ++ r) (string_high m o k x w h.0) ∙ next.2 r)

high_passes : (s : State) (e : List ℕ) → TakesHigh s → High e → Passes s e
high_passes (in_name qs descends k) e w h = name_passes qs descends k e h
high_passes (in_string m o k) e w h = string_passes m o k e w h
high_passes _ e w h = absurd w

-- the bytes of a character beyond ASCII
pub record HighBytes (c : ℕ) : Type 0 where
  pub first : ℕ
  pub others : List ℕ
  pub row : encode_utf8 c ≡ first ∷ others
  pub first_high : 128 ≤ first
  pub others_high : High others

-- ---- where a reader stops

pub record Stopped (s : State) (b : List ℕ) (left : ℕ) : Type 0 where
  pub taken : List ℕ
  pub rest : List ℕ
  pub at : State
  pub row : b ≡ taken ++ rest
  pub is_left : length rest ≡ left
  pub utf8 : IsUtf8 taken
  pub is_reached : Reached at
  pub leads : (r : List ℕ) → outcome s (taken ++ r) ≡ outcome at r
  pub stuck : (x : ℕ) (r : List ℕ) → rest ≡ x ∷ r → (c : QueryCode) × (step at x ≡ stops c)

-- at the end of the text
at_end : (s : State) (c : QueryCode) (left : ℕ) → outcome_at_end s ≡ is_refused c left → 0 ≡ left
at_end (after_segment qs) c left e = cc
at_end _ c left e = cc

stopped_at_end : (s : State) (c : QueryCode) (left : ℕ) → Reached s → outcome_at_end s ≡ is_refused c left → Stopped s [] left
stopped_at_end s c left w e = record { taken = []; rest = []; at = s; row = refl; is_left = at_end s c left e; utf8 = IsUtf8-nil; is_reached = w; leads = λ r. refl; stuck = λ x r f. cc }

-- before a byte
stopped_here : (s : State) (x : ℕ) (r : List ℕ) (c d : QueryCode) (left : ℕ) → Reached s → step s x ≡ stops d → outcome s (x ∷ r) ≡ is_refused c left → Stopped s (x ∷ r) left
stopped_here s x r c d left w e f = record {
  taken = [];
  rest = x ∷ r;
  at = s;
  row = refl;
  is_left = let g : is_refused d (suc (length r)) ≡ is_refused c left = sym (halts s d x r e) ∙ f in cc;
  utf8 = IsUtf8-nil;
  is_reached = w;
  leads = λ r. refl;
  stuck = λ y q g. (d, let same : y ≡ x = cc in ap (step s) same ∙ e);
}

-- after bytes that it took
stopped_after : (s t : State) (e b : List ℕ) (left : ℕ) → IsUtf8 e → ((r : List ℕ) → outcome s (e ++ r) ≡ outcome t r) → Stopped t b left → Stopped s (e ++ b) left
stopped_after s t e b left u f g = record {
  taken = e ++ g.taken;
  rest = g.rest;
  at = g.at;
  row = ap (λ b. e ++ b) g.row ∙ sym (append_assoc e g.taken g.rest);
  is_left = g.is_left;
  utf8 = IsUtf8-append e g.taken u g.utf8;
  is_reached = g.is_reached;
  leads = λ r. ap (outcome s) (append_assoc e g.taken r) ∙ f (g.taken ++ r) ∙ g.leads r;
  stuck = g.stuck;
}

pub high_bytes : (c : ℕ) → 128 ≤ c → HighBytes c
unfolding encode_utf8
high_bytes c g = by (cases_lt c 2048) (cases_lt c 65536)
  where
    by : (c < 2048) ⊎ (2048 ≤ c) → (c < 65536) ⊎ (65536 ≤ c) → HighBytes c
    by (inl a) b = record { first = 192 + c / 64; others = (128 + c % 64) ∷ []; row = rw (le-ltb c 128 g, lt-ltb c 2048 a) refl; first_high = omega arith; others_high = (omega arith, tt) }
    by (inr a) (inl b) = record {
      first = 224 + c / 4096;
      others = (128 + (c / 64) % 64) ∷ (128 + c % 64) ∷ [];
      row = rw (le-ltb c 128 g, le-ltb c 2048 a, lt-ltb c 65536 b) refl;
      first_high = omega arith;
      others_high = (omega arith, (omega arith, tt));
    }
    by (inr a) (inr b) = record {
      first = 240 + c / 262144;
      others = (128 + (c / 4096) % 64) ∷ (128 + (c / 64) % 64) ∷ (128 + c % 64) ∷ [];
      row = rw (le-ltb c 128 g, le-ltb c 2048 a, le-ltb c 65536 b) refl;
      first_high = omega arith;
      others_high = (omega arith, (omega arith, (omega arith, tt)));
    }

-- from a character on, if it is known from the next one on
stopped_from : (x : ℕ) (b : List ℕ) (s : State) (c : QueryCode) (left : ℕ) → IsScalar x → Reached s → ((t : State) → Reached t → outcome t b ≡ is_refused c left → Stopped t b left) → outcome s (encode_utf8 x ++ b) ≡ is_refused c left → Stopped s (encode_utf8 x ++ b) left
stopped_from x b s c left scalar w ih e = by (cases_lt x 128)
  where
    ascii : (u : Step) → step s x ≡ u → encode_utf8 x ≡ x ∷ [] → outcome s (x ∷ b) ≡ is_refused c left → Stopped s (x ∷ b) left
    ascii (goes_to t) f same e =
        let known : Reached t = subst ReachedBy f (reached s x w) in
        let utf8 : IsUtf8 (x ∷ []) = subst IsUtf8 same (IsUtf8-encode x scalar) in
        stopped_after s t (x ∷ []) b left utf8 (λ r. goes s t x r f) (ih t known (sym (goes s t x b f) ∙ e))
    ascii (stops d) f same e = stopped_here s x b c d left w f e

    beyond : (y : ℕ) (o : List ℕ) (u : Step) → step s y ≡ u → encode_utf8 x ≡ y ∷ o → 128 ≤ y → High o → outcome s (y ∷ (o ++ b)) ≡ is_refused c left → Stopped s (y ∷ (o ++ b)) left
    beyond y o (goes_to t) f same g h e =
        let taking : TakesHigh t = subst HighStep f (high_step s y w g) in
        let next : Passes t o = high_passes t o taking h in
        let utf8 : IsUtf8 (y ∷ o) = subst IsUtf8 same (IsUtf8-encode x scalar) in
        let lead : (r : List ℕ) → outcome s ((y ∷ o) ++ r) ≡ outcome next.0 r = λ r. goes s t y (o ++ r) f ∙ next.2 r in
        stopped_after s next.0 (y ∷ o) b left utf8 lead (ih next.0 next.1 (sym (lead b) ∙ e))
    beyond y o (stops d) f same g h e = stopped_here s y (o ++ b) c d left w f e

    by : (x < 128) ⊎ (128 ≤ x) → Stopped s (encode_utf8 x ++ b) left
    by (inl l) =
        let same : encode_utf8 x ≡ x ∷ [] = encode_ascii x l in
        subst (λ u. Stopped s (u ++ b) left) (sym same) (ascii (step s x) refl same (ap (λ u. outcome s (u ++ b)) (sym same) ∙ e))
    by (inr g) =
        let h : HighBytes x = high_bytes x g in
        subst (λ u. Stopped s (u ++ b) left) (sym h.row) (beyond h.first h.others (step s h.first) refl h.row h.first_high h.others_high (ap (λ u. outcome s (u ++ b)) (sym h.row) ∙ e))

stopped : (cs : List ℕ) (s : State) (c : QueryCode) (left : ℕ) → all_scalars cs ≡ true → Reached s → outcome s (encode_utf8_all cs) ≡ is_refused c left → Stopped s (encode_utf8_all cs) left
stopped [] s c left h w e = stopped_at_end s c left w e
stopped (x ∷ cs) s c left h w e =
    let parts : IsScalar x × (all_scalars cs ≡ true) = and_parts _ _ h in
    stopped_from x (encode_utf8_all cs) s c left parts.0 w (λ t v f. stopped cs t c left parts.1 v f) e

-- ---- the prefix of a text that is refused

pub refused_breaks : (b : List ℕ) (c : QueryCode) (left : ℕ) → IsUtf8 b → query_outcome b ≡ is_refused c left → BreaksAt b (length b - left)
refused_breaks b c left (cs, (scalars, same)) e = by (subst (λ b. Stopped before_root b left) same (stopped cs before_root c left scalars tt (ap query_outcome same ∙ e)))
  where
    by : Stopped before_root b left → BreaksAt b (length b - left)
    by h =
        let size : length b ≡ length h.taken + length h.rest = ap length h.row ∙ length-append h.taken h.rest in
        let rests : length h.rest ≡ left = h.is_left in
        let k : length h.taken ≡ length b - left = omega arith in
        let more : Completes h.at = completes h.at h.is_reached in
        let reads : query_outcome (h.taken ++ more.rest) ≡ is_query more.query = h.leads more.rest ∙ more.reads in
        let front : take (length b - left) b ≡ h.taken = ap (take (length b - left)) h.row ∙ take_at h.taken h.rest (length b - left) k in
        let begun : BeginsQuery h.taken = record { query = more.query; rest = more.rest; is_query = record { utf8 = IsUtf8-append h.taken more.rest h.utf8 more.utf8; well_formed = text_accepted more.query (h.taken ++ more.rest) reads } } in
        record {
          within = omega arith;
          begins = subst BeginsQuery (sym front) begun;
          no_longer = λ l g. longer h.rest refl l g;
          no_query = λ q g. let f : is_query q ≡ is_refused c left = sym (query_read q b g.well_formed) ∙ e in cc;
        }
      where
        longer : (r : List ℕ) → h.rest ≡ r → length b - left < length b → BeginsQuery (take (suc (length b - left)) b) → ⊥
        longer [] f l g =
            let size : length b ≡ length h.taken + length h.rest = ap length h.row ∙ length-append h.taken h.rest in
            let none : length h.rest ≡ 0 = ap length f in
            let rests : length h.rest ≡ left = h.is_left in
            omega arith
        longer (x ∷ r) f l g =
            let size : length b ≡ length h.taken + length h.rest = ap length h.row ∙ length-append h.taken h.rest in
            let rests : length h.rest ≡ left = h.is_left in
            let k : length (h.taken ++ x ∷ []) ≡ suc (length b - left) = length-append h.taken (x ∷ []) ∙ omega arith in
            let row : b ≡ (h.taken ++ x ∷ []) ++ r = h.row ∙ ap (λ r. h.taken ++ r) f ∙ sym (append_assoc h.taken (x ∷ []) r) in
            let front : take (suc (length b - left)) b ≡ h.taken ++ x ∷ [] = ap (take (suc (length b - left))) row ∙ take_at (h.taken ++ x ∷ []) r (suc (length b - left)) k in
            let read : query_outcome (take (suc (length b - left)) b ++ g.rest) ≡ is_query g.query = query_read g.query (take (suc (length b - left)) b ++ g.rest) g.is_query.well_formed in
            let stop : (d : QueryCode) × (step h.at x ≡ stops d) = h.stuck x r f in
            let ends : query_outcome ((h.taken ++ x ∷ []) ++ g.rest) ≡ is_refused stop.0 (suc (length g.rest)) =
            ap query_outcome (append_assoc h.taken (x ∷ []) g.rest) ∙ h.leads (x ∷ g.rest) ∙ halts h.at stop.0 x g.rest stop.1
            in
            let clash : is_query g.query ≡ is_refused stop.0 (suc (length g.rest)) = sym read ∙ ap (λ f. query_outcome (f ++ g.rest)) front ∙ ends in
            cc
