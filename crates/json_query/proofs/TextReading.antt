-- A reader of a query's text reads what the grammar has: from each state to the next, part by part.
use Rattle.std.proofs.Common.{◌≡◌, ◌≢◌, ◌⊎◌, inl, inr, ℕ, suc, ◌+◌, ◌-◌, ◌*◌, ◌^◌, ◌<◌, ◌≤◌, ℤ, pos, List, [], ◌∷◌, ◌++◌, length, Bool, true, false, Option, Some, None, refl, sym, ap, ◌∙◌, subst, append_assoc, arith}
use Rattle.std.proofs.lemmas.Bool.{lt-ltb, cond-true}
use Rattle.json_grammar.specs.Grammar.{ws, IsDigit, digits, ◌then◌, byte}
use Rattle.json_query.specs.Query.{index_selector, slice_selector}
use Rattle.json_query.specs.Text.{digits_after, numeral, integer, zero_digit as zero_text, positive as positive_text, negative as negative_text, optional_then_ws, step_part, slice_text}
use Rattle.json_query.specs.declared.cursor.Class.{Class}
use Rattle.json_query.specs.declared.cursor.Class.TheVariants.{Blank, ZeroDigit, Digit}
use Rattle.json_query.specs.TextStates.{class_of, Brackets, with_selector, IntegerRole, index_or_start, end_after, step_after, State, before_selector, after_selector, after_minus, in_integer, after_integer, before_end, before_step, Step, goes_to, step, first_step, end_step, step_step, selector_step, minus_step, integer_step, more_step, digit_step, signed, outcome, outcome_after}
use Rattle.json_query.specs.Reading.{Skips, NoDigit, starts, after_end}
use Rattle.json_query.proofs.TextClasses.{class_blank, class_digit, class_any_digit, goes}

-- P leads from one state to another, whatever follows
abbrev pub Leads : (List ℕ → Type 0) → State → State → Type 0
Leads P s t = (p r : List ℕ) → P p → outcome s (p ++ r) ≡ outcome t r

-- ---- blank space

pub ws_leads : (s : State) → Skips s → Leads ws s s
ws_leads s k [] r h = refl
ws_leads s k (x ∷ p) r h = goes s s x (p ++ r) (k x (class_blank x h.0)) ∙ ws_leads s k p r h.1

pub skips_first : (o : Brackets) → Skips (before_selector o)
skips_first o x e = ap (λ c. first_step o c x) e

pub skips_after : (o : Brackets) → Skips (after_selector o)
skips_after o x e = ap (λ c. selector_step o c) e

pub skips_end : (start : Option ℤ) (o : Brackets) → Skips (before_end start o)
skips_end start o x e = ap (λ c. end_step start o c x) e

pub skips_step : (start end : Option ℤ) (o : Brackets) → Skips (before_step start end o)
skips_step start end o x e = ap (λ c. step_step start end o c x) e

pub skips_index : (o : Brackets) (i : ℤ) → Skips (after_integer index_or_start o i)
skips_index o i x e = ap (λ c. integer_step index_or_start o i c) e

pub skips_bound : (start : Option ℤ) (o : Brackets) (i : ℤ) → Skips (after_integer (end_after start) o i)
skips_bound start o i x e = ap (λ c. integer_step (end_after start) o i c) e

-- ---- integers

pub ws_no_digit : (p r : List ℕ) → ws p → NoDigit r → NoDigit (p ++ r)
ws_no_digit [] r h g = g
ws_no_digit (x ∷ p) r h g = let e : class_of x ≡ Blank = class_blank x h.0 in (λ f. cc, λ f. cc)

pub start_digit : (r : IntegerRole) (o : Brackets) (x : ℕ) → class_of x ≡ Digit → step (starts r o) x ≡ goes_to (in_integer r o false (x - 48))
start_digit index_or_start o x e = ap (λ c. first_step o c x) e
start_digit (end_after start) o x e = ap (λ c. end_step start o c x) e
start_digit (step_after start end) o x e = ap (λ c. step_step start end o c x) e

pub start_zero : (r : IntegerRole) (o : Brackets) → step (starts r o) 48 ≡ goes_to (after_integer r o (pos 0))
unfolding class_of
start_zero index_or_start o = refl
start_zero (end_after start) o = refl
start_zero (step_after start end) o = refl

pub start_minus : (r : IntegerRole) (o : Brackets) → step (starts r o) 45 ≡ goes_to (after_minus r o)
unfolding class_of
start_minus index_or_start o = refl
start_minus (end_after start) o = refl
start_minus (step_after start end) o = refl

digits_grow : (n : ℕ) (b : List ℕ) → n ≤ digits_after n b
digits_grow n [] = omega arith
digits_grow n (x ∷ b) = let h : n * 10 + (x - 48) ≤ digits_after (n * 10 + (x - 48)) b = digits_grow (n * 10 + (x - 48)) b in omega arith

pub digit_goes : (r : IntegerRole) (o : Brackets) (negative : Bool) (n x : ℕ) → IsDigit x → n * 10 + (x - 48) < 2 ^ 53 → step (in_integer r o negative n) x ≡ goes_to (in_integer r o negative (n * 10 + (x - 48)))
digit_goes r o negative n x d l =
    let fits : digit_step r o negative (n * 10 + (x - 48)) ≡ goes_to (in_integer r o negative (n * 10 + (x - 48))) = cond-true _ _ _ (lt-ltb (n * 10 + (x - 48)) (2 ^ 53) l) in
    elim (class_any_digit x d) [ inl e ↦ ap (λ c. more_step r o negative n c x) e ∙ fits | inr e ↦ ap (λ c. more_step r o negative n c x) e ∙ fits ]

digits_lead : (r : IntegerRole) (o : Brackets) (negative : Bool) (n : ℕ) (b rest : List ℕ) → digits b → digits_after n b < 2 ^ 53 → outcome (in_integer r o negative n) (b ++ rest) ≡ outcome (in_integer r o negative (digits_after n b)) rest
digits_lead r o negative n [] rest h l = refl
digits_lead r o negative n (x ∷ b) rest h l =
    let m : ℕ = n * 10 + (x - 48) in
    let g : m ≤ digits_after m b = digits_grow m b in
    goes (in_integer r o negative n) (in_integer r o negative m) x (b ++ rest) (digit_goes r o negative n x h.0 (omega arith)) ∙ digits_lead r o negative m b rest h.1 l

-- where a numeral goes on with no digit, it ends
pub numeral_ends : (r : IntegerRole) (o : Brackets) (negative : Bool) (n : ℕ) (b : List ℕ) → NoDigit b → outcome (in_integer r o negative n) b ≡ outcome (after_integer r o (signed negative n)) b
numeral_ends r o negative n [] h = refl
numeral_ends r o negative n (x ∷ b) h = ap (λ (u : Step). outcome_after u (suc (length b)) (λ t. outcome t b)) (by (class_of x) h.0 h.1)
  where
    by : (c : Class) → c ≢ ZeroDigit → c ≢ Digit → more_step r o negative n c x ≡ integer_step r o (signed negative n) c
    by ZeroDigit f g = absurd (f refl)
    by Digit f g = absurd (g refl)
    by _ f g = refl

numeral_leads : (r : IntegerRole) (o : Brackets) (negative : Bool) (s : State) (n : ℕ) (b rest : List ℕ) → ((x : ℕ) → class_of x ≡ Digit → step s x ≡ goes_to (in_integer r o negative (x - 48))) → numeral n b → n < 2 ^ 53
    → outcome s (b ++ rest) ≡ outcome (in_integer r o negative n) rest
numeral_leads r o negative s n [] rest first h l = absurd h
numeral_leads r o negative s n (x ∷ b) rest first h l =
    goes s (in_integer r o negative (x - 48)) x (b ++ rest) (first x (class_digit x h.0 h.1))
    ∙ digits_lead r o negative (x - 48) b rest h.2 (subst (λ m. m < 2 ^ 53) h.3 l)
    ∙ ap (λ m. outcome (in_integer r o negative m) rest) (sym h.3)

pub integer_leads : (r : IntegerRole) (o : Brackets) (i : ℤ) (b rest : List ℕ) → integer i b → NoDigit rest → outcome (starts r o) (b ++ rest) ≡ outcome (after_integer r o i) rest
integer_leads r o i b rest zero_text k = goes (starts r o) (after_integer r o (pos 0)) 48 rest (start_zero r o)
integer_leads r o i b rest (positive_text {n} {b = d} h l) k = numeral_leads r o false (starts r o) n d rest (start_digit r o) h l ∙ numeral_ends r o false n rest k
integer_leads r o i b rest (negative_text {n} {b = d} h l) k =
    goes (starts r o) (after_minus r o) 45 (d ++ rest) (start_minus r o)
    ∙ numeral_leads r o true (after_minus r o) n d rest (λ x e. ap (λ c. minus_step r o c x) e) h l
    ∙ numeral_ends r o true n rest k

-- ---- what follows a selector

-- blank space, and a comma or the bracket that closes
pub record Closes (b : List ℕ) : Type 0 where
  pub blanks : List ℕ
  pub x : ℕ
  pub after : List ℕ
  pub row : b ≡ blanks ++ x ∷ after
  pub is_ws : ws blanks
  pub closes : (x ≡ 44) ⊎ (x ≡ 93)

pub closes_no_digit : (b : List ℕ) → Closes b → NoDigit b
unfolding class_of
closes_no_digit b h = subst NoDigit (sym h.row) (ws_no_digit h.blanks (h.x ∷ h.after) h.is_ws (elim h.closes [ inl e ↦ rw e (λ f. cc, λ f. cc) | inr e ↦ rw e (λ f. cc, λ f. cc) ]))

-- two states that go on alike at a comma and a closing bracket
falls : (s t : State) (b : List ℕ) → Skips s → Skips t → step s 44 ≡ step t 44 → step s 93 ≡ step t 93 → Closes b → outcome s b ≡ outcome t b
falls s t b k l e f h =
    let at_x : step s h.x ≡ step t h.x = elim h.closes [ inl d ↦ rw d e | inr d ↦ rw d f ] in
    ap (outcome s) h.row
    ∙ ws_leads s k h.blanks (h.x ∷ h.after) h.is_ws
    ∙ ap (λ (u : Step). outcome_after u (suc (length h.after)) (λ t. outcome t h.after)) at_x
    ∙ sym (ws_leads t l h.blanks (h.x ∷ h.after) h.is_ws)
    ∙ sym (ap (outcome t) h.row)

pub index_falls : (o : Brackets) (i : ℤ) (b : List ℕ) → Closes b → outcome (after_integer index_or_start o i) b ≡ outcome (after_selector (with_selector o (index_selector i))) b
unfolding class_of
index_falls o i b h = falls _ _ b (skips_index o i) (skips_after (with_selector o (index_selector i))) refl refl h

pub end_falls : (start end : Option ℤ) (o : Brackets) (b : List ℕ) → Closes b → outcome (after_end start end o) b ≡ outcome (after_selector (with_selector o (slice_selector start end (pos 1)))) b
unfolding class_of
end_falls start None o b h = falls (before_end start o) _ b (skips_end start o) (skips_after (with_selector o (slice_selector start None (pos 1)))) refl refl h
end_falls start (Some i) o b h = falls (after_integer (end_after start) o i) _ b (skips_bound start o i) (skips_after (with_selector o (slice_selector start (Some i) (pos 1)))) refl refl h

pub end_colon : (start end : Option ℤ) (o : Brackets) → step (after_end start end o) 58 ≡ goes_to (before_step start end o)
unfolding class_of
end_colon start None o = refl
end_colon start (Some i) o = refl

pub step_falls : (start end : Option ℤ) (o : Brackets) (b : List ℕ) → Closes b → outcome (before_step start end o) b ≡ outcome (after_selector (with_selector o (slice_selector start end (pos 1)))) b
unfolding class_of
step_falls start end o b h = falls _ _ b (skips_step start end o) (skips_after (with_selector o (slice_selector start end (pos 1)))) refl refl h

-- a step ends the slice at once
pub step_ends : (start end : Option ℤ) (o : Brackets) (i : ℤ) (b : List ℕ) → outcome (after_integer (step_after start end) o i) b ≡ outcome (after_selector (with_selector o (slice_selector start end i))) b
step_ends start end o i [] = refl
step_ends start end o i (x ∷ b) = refl

-- ---- slices

pub step_part_leads : (start end : Option ℤ) (o : Brackets) (i : ℤ) (t b : List ℕ) → step_part i t → Closes b → outcome (after_end start end o) (t ++ b) ≡ outcome (after_selector (with_selector o (slice_selector start end i))) b
step_part_leads start end o i t b (inl (one, inl none)) k =
    ap (λ u. outcome (after_end start end o) (u ++ b)) none ∙ end_falls start end o b k ∙ ap (λ j. outcome (after_selector (with_selector o (slice_selector start end j))) b) (sym one)
step_part_leads start end o i t b (inl (one, inr e)) k =
    ap (λ u. outcome (after_end start end o) (u ++ b)) e
    ∙ goes (after_end start end o) (before_step start end o) 58 b (end_colon start end o)
    ∙ step_falls start end o b k
    ∙ ap (λ j. outcome (after_selector (with_selector o (slice_selector start end j))) b) (sym one)
step_part_leads start end o i t b (inr (c, u, e, hc, (w, v, f, hw, hv))) k =
    ap (λ u. outcome (after_end start end o) (u ++ b)) (e ∙ ap (λ c. c ++ u) hc ∙ ap (λ u. 58 ∷ u) f)
    ∙ goes (after_end start end o) (before_step start end o) 58 ((w ++ v) ++ b) (end_colon start end o)
    ∙ ap (outcome (before_step start end o)) (append_assoc w v b)
    ∙ ws_leads (before_step start end o) (skips_step start end o) w (v ++ b) hw
    ∙ integer_leads (step_after start end) o i v b hv (closes_no_digit b k)
    ∙ step_ends start end o i b

step_part_no_digit : (i : ℤ) (t b : List ℕ) → step_part i t → Closes b → NoDigit (t ++ b)
unfolding class_of
step_part_no_digit i t b (inl (one, inl none)) k = subst (λ u. NoDigit (u ++ b)) (sym none) (closes_no_digit b k)
step_part_no_digit i t b (inl (one, inr e)) k = subst (λ u. NoDigit (u ++ b)) (sym e) (λ f. cc, λ f. cc)
step_part_no_digit i t b (inr (c, u, e, hc, g)) k = subst (λ u. NoDigit (u ++ b)) (sym (e ∙ ap (λ c. c ++ u) hc)) (λ f. cc, λ f. cc)

end_part_leads : (start end : Option ℤ) (o : Brackets) (i : ℤ) (t b : List ℕ) → (optional_then_ws end then step_part i) t → Closes b → outcome (before_end start o) (t ++ b) ≡ outcome (after_selector (with_selector o (slice_selector start end i))) b
end_part_leads start None o i t b (p, q, e, hp, hq) k = ap (λ u. outcome (before_end start o) (u ++ b)) (e ∙ ap (λ p. p ++ q) hp) ∙ step_part_leads start None o i q b hq k
end_part_leads start (Some j) o i t b (p, q, e, (n, w, f, hn, hw), hq) k =
    ap (λ u. outcome (before_end start o) (u ++ b)) (e ∙ ap (λ p. p ++ q) f)
    ∙ ap (outcome (before_end start o)) (append_assoc (n ++ w) q b ∙ append_assoc n w (q ++ b))
    ∙ integer_leads (end_after start) o j n (w ++ (q ++ b)) hn (ws_no_digit w (q ++ b) hw (step_part_no_digit i q b hq k))
    ∙ ws_leads (after_integer (end_after start) o j) (skips_bound start o j) w (q ++ b) hw
    ∙ step_part_leads start (Some j) o i q b hq k

-- from the first colon on
colon_leads : (s : State) (start end : Option ℤ) (o : Brackets) (i : ℤ) (t b : List ℕ) → step s 58 ≡ goes_to (before_end start o) → (byte 58 then ws then optional_then_ws end then step_part i) t → Closes b
    → outcome s (t ++ b) ≡ outcome (after_selector (with_selector o (slice_selector start end i))) b
colon_leads s start end o i t b first (c, u, e, hc, (w, v, f, hw, hv)) k =
    ap (λ u. outcome s (u ++ b)) (e ∙ ap (λ c. c ++ u) hc ∙ ap (λ u. 58 ∷ u) f)
    ∙ goes s (before_end start o) 58 ((w ++ v) ++ b) first
    ∙ ap (outcome (before_end start o)) (append_assoc w v b)
    ∙ ws_leads (before_end start o) (skips_end start o) w (v ++ b) hw
    ∙ end_part_leads start end o i v b hv k

colon_no_digit : (P : List ℕ → Type 0) (t b : List ℕ) → (byte 58 then P) t → NoDigit (t ++ b)
unfolding class_of
colon_no_digit P t b (c, u, e, hc, g) = subst (λ u. NoDigit (u ++ b)) (sym (e ∙ ap (λ c. c ++ u) hc)) (λ f. cc, λ f. cc)

first_colon : (o : Brackets) → step (before_selector o) 58 ≡ goes_to (before_end None o)
unfolding class_of
first_colon o = refl

index_colon : (o : Brackets) (i : ℤ) → step (after_integer index_or_start o i) 58 ≡ goes_to (before_end (Some i) o)
unfolding class_of
index_colon o i = refl

pub slice_leads : (start end : Option ℤ) (o : Brackets) (i : ℤ) (t b : List ℕ) → slice_text start end i t → Closes b → outcome (before_selector o) (t ++ b) ≡ outcome (after_selector (with_selector o (slice_selector start end i))) b
slice_leads None end o i t b (p, q, e, hp, hq) k =
    ap (λ u. outcome (before_selector o) (u ++ b)) (e ∙ ap (λ p. p ++ q) hp) ∙ colon_leads (before_selector o) None end o i q b (first_colon o) hq k
slice_leads (Some j) end o i t b (p, q, e, (n, w, f, hn, hw), hq) k =
    ap (λ u. outcome (before_selector o) (u ++ b)) (e ∙ ap (λ p. p ++ q) f)
    ∙ ap (outcome (before_selector o)) (append_assoc (n ++ w) q b ∙ append_assoc n w (q ++ b))
    ∙ integer_leads index_or_start o j n (w ++ (q ++ b)) hn (ws_no_digit w (q ++ b) hw (colon_no_digit _ q b hq))
    ∙ ws_leads (after_integer index_or_start o j) (skips_index o j) w (q ++ b) hw
    ∙ colon_leads (after_integer index_or_start o j) (Some j) end o i q b (index_colon o j) hq k
