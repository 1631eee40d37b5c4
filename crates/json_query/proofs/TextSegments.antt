-- A reader of a query's text reads what selectors, segments and queries have.
use Rattle.std.proofs.Common.{◌≡◌, ◌⊎◌, inl, inr, ℕ, suc, ◌≤◌, List, [], ◌∷◌, ◌++◌, length, Bool, true, false, refl, sym, ap, ◌∙◌, subst, append_assoc, append-nil}
use Rattle.json_grammar.specs.Grammar.{ws}
use Rattle.json_query.specs.Query.{Query, Segment, child_segment, descendant_segment, Selector, name_selector, wildcard_selector, index_selector, slice_selector}
use Rattle.json_query.specs.Text.{IsNameFirst, name_chars, IsShorthand, selector_text, selectors_end, bracketed, dotted, segment_text, segments_text, spells_query}
use Rattle.json_query.specs.declared.cursor.Class.{Class}
use Rattle.json_query.specs.declared.cursor.Class.TheVariants.{Blank, Star, Dot, Opening, Letter, BeyondAscii}
use Rattle.json_query.specs.TextStates.{class_of, Brackets, opened, with_selector, with_segment, index_or_start, State, after_segment, after_blank, after_dot, after_dots, in_name, before_selector, after_selector, goes_to, step, segment_step, dotted_step, dot_step, dots_step, name_step, is_query, outcome, outcome_after, query_outcome}
use Rattle.json_query.proofs.TextClasses.{class_blank, class_any_digit, class_name_first, goes}
use Rattle.json_query.proofs.TextReading.{ws_leads, skips_first, skips_after, Closes, closes_no_digit, integer_leads, index_falls, slice_leads}
use Rattle.json_query.proofs.TextStrings.{string_leads}

-- ---- selectors

selector_leads : (s : Selector) (o : Brackets) (t b : List ℕ) → selector_text s t → Closes b → outcome (before_selector o) (t ++ b) ≡ outcome (after_selector (with_selector o s)) b
unfolding class_of
selector_leads (name_selector k) o t b h c = string_leads o k t b h
selector_leads wildcard_selector o t b h c = ap (λ u. outcome (before_selector o) (u ++ b)) h
selector_leads (index_selector i) o t b h c = integer_leads index_or_start o i t b h (closes_no_digit b c) ∙ index_falls o i b c
selector_leads (slice_selector start end i) o t b h c = slice_leads start end o i t b h c

end_closes : (ss : List Selector) (p r : List ℕ) → selectors_end ss p → Closes (p ++ r)
end_closes [] p r (w, u, e, hw, hu) = record { blanks = w; x = 93; after = r; row = ap (λ p. p ++ r) (e ∙ ap (λ u. w ++ u) hu) ∙ append_assoc w (93 ∷ []) r; is_ws = hw; closes = inr refl }
end_closes (s ∷ ss) p r (w, u, e, hw, (c, v, f, hc, hv)) = record {
  blanks = w;
  x = 44;
  after = v ++ r;
  row = ap (λ p. p ++ r) (e ∙ ap (λ u. w ++ u) (f ∙ ap (λ c. c ++ v) hc)) ∙ append_assoc w (44 ∷ v) r;
  is_ws = hw;
  closes = inl refl;
}

-- the segments that closing brackets leave, if these selectors come before
abbrev closed_after : Brackets → List Selector → State
closed_after o ss = after_segment (with_segment o.before o.descends (o.selectors ++ ss))

selectors_lead : (ss : List Selector) (o : Brackets) (p r : List ℕ) → selectors_end ss p → outcome (after_selector o) (p ++ r) ≡ outcome (closed_after o ss) r
unfolding class_of
selectors_lead [] o p r (w, u, e, hw, hu) =
    ap (λ p. outcome (after_selector o) (p ++ r)) (e ∙ ap (λ u. w ++ u) hu)
    ∙ ap (outcome (after_selector o)) (append_assoc w (93 ∷ []) r)
    ∙ ws_leads (after_selector o) (skips_after o) w (93 ∷ r) hw
    ∙ ap (λ (ss : List Selector). outcome (after_segment (with_segment o.before o.descends ss)) r) (sym (append-nil o.selectors))
selectors_lead (s ∷ ss) o p r (w, u, e, hw, (c, v, f, hc, (x, y, g, hx, (t, z, i, ht, hz)))) =
    ap (λ p. outcome (after_selector o) (p ++ r)) (e ∙ ap (λ u. w ++ u) (f ∙ ap (λ c. c ++ v) hc ∙ ap (λ v. 44 ∷ v) (g ∙ ap (λ y. x ++ y) i)))
    ∙ ap (outcome (after_selector o)) (append_assoc w (44 ∷ (x ++ (t ++ z))) r)
    ∙ ws_leads (after_selector o) (skips_after o) w (44 ∷ ((x ++ (t ++ z)) ++ r)) hw
    ∙ ap (outcome (before_selector o)) (append_assoc x (t ++ z) r)
    ∙ ws_leads (before_selector o) (skips_first o) x ((t ++ z) ++ r) hx
    ∙ ap (outcome (before_selector o)) (append_assoc t z r)
    ∙ selector_leads s o t (z ++ r) ht (end_closes ss z r hz)
    ∙ selectors_lead ss (with_selector o s) z r hz
    ∙ ap (λ (ss : List Selector). outcome (after_segment (with_segment o.before o.descends ss)) r) (append_assoc o.selectors (s ∷ []) ss)

-- ---- segments

-- from a state that goes to brackets of this kind
bracketed_leads : (s : State) (qs : List Segment) (descends : Bool) (ss : List Selector) (p r : List ℕ) → step s 91 ≡ goes_to (before_selector (opened qs descends)) → bracketed ss p
    → outcome s (p ++ r) ≡ outcome (after_segment (with_segment qs descends ss)) r
bracketed_leads s qs descends [] p r first h = absurd h
bracketed_leads s qs descends (m ∷ ss) p r first (c, v, f, hc, (x, y, g, hx, (t, z, i, ht, hz))) =
    let o : Brackets = opened qs descends in
    ap (λ p. outcome s (p ++ r)) (f ∙ ap (λ c. c ++ v) hc ∙ ap (λ v. 91 ∷ v) (g ∙ ap (λ y. x ++ y) i))
    ∙ goes s (before_selector o) 91 ((x ++ (t ++ z)) ++ r) first
    ∙ ap (outcome (before_selector o)) (append_assoc x (t ++ z) r)
    ∙ ws_leads (before_selector o) (skips_first o) x ((t ++ z) ++ r) hx
    ∙ ap (outcome (before_selector o)) (append_assoc t z r)
    ∙ selector_leads m o t (z ++ r) ht (end_closes ss z r hz)
    ∙ selectors_lead ss (with_selector o m) z r hz

-- the text does not go on within a name
abbrev NoName : List ℕ → Type 0
NoName [] = Unit {0}
NoName (x ∷ b) = (class_of x ≡ Blank) ⊎ (class_of x ≡ Opening) ⊎ (class_of x ≡ Dot)

name_ends : (qs : List Segment) (descends : Bool) (k b : List ℕ) → NoName b → outcome (in_name qs descends k) b ≡ outcome (after_segment (with_segment qs descends (name_selector k ∷ []))) b
name_ends qs descends k [] h = refl
name_ends qs descends k (x ∷ b) h =
    let P : Class → Type 0 = λ c. outcome_after (name_step qs descends k c x) (suc (length b)) (λ t. outcome t b) ≡ outcome_after (segment_step (with_segment qs descends (name_selector k ∷ [])) c) (suc (length b)) (λ t. outcome t b) in
    elim h [ inl e ↦ subst P (sym e) refl | inr h ↦ elim h [ inl e ↦ subst P (sym e) refl | inr e ↦ subst P (sym e) refl ] ]

name_goes : (qs : List Segment) (descends : Bool) (k : List ℕ) (x : ℕ) → IsNameFirst x ⊎ ((48 ≤ x) × (x ≤ 57)) → step (in_name qs descends k) x ≡ goes_to (in_name qs descends (k ++ x ∷ []))
name_goes qs descends k x h = elim h [ inl f ↦ elim (class_name_first x f) [ inl e ↦ ap (λ c. name_step qs descends k c x) e | inr e ↦ ap (λ c. name_step qs descends k c x) e ] | inr d ↦ elim (class_any_digit x d) [ inl e ↦ ap (λ c. name_step qs descends k c x) e | inr e ↦ ap (λ c. name_step qs descends k c x) e ] ]

name_leads : (qs : List Segment) (descends : Bool) (k c r : List ℕ) → name_chars c → outcome (in_name qs descends k) (c ++ r) ≡ outcome (in_name qs descends (k ++ c)) r
name_leads qs descends k [] r h = ap (λ k. outcome (in_name qs descends k) r) (sym (append-nil k))
name_leads qs descends k (x ∷ c) r h =
    goes (in_name qs descends k) (in_name qs descends (k ++ x ∷ [])) x (c ++ r) (name_goes qs descends k x h.0)
    ∙ name_leads qs descends (k ++ x ∷ []) c r h.1
    ∙ ap (λ k. outcome (in_name qs descends k) r) (append_assoc k (x ∷ []) c)

-- what is read after dots goes on as after one dot or two
abbrev Dotted : State → List Segment → Bool → Type 0
Dotted s qs descends = (x : ℕ) → (class_of x ≡ Star) ⊎ (class_of x ≡ Letter) ⊎ (class_of x ≡ BeyondAscii) → step s x ≡ dotted_step qs descends (class_of x) x

after_one_dot : (qs : List Segment) → Dotted (after_dot qs) qs false
after_one_dot qs x h =
    let P : Class → Type 0 = λ c. dot_step qs c x ≡ dotted_step qs false c x in
    elim h [ inl e ↦ subst P (sym e) refl | inr h ↦ elim h [ inl e ↦ subst P (sym e) refl | inr e ↦ subst P (sym e) refl ] ]

after_two_dots : (qs : List Segment) → Dotted (after_dots qs) qs true
after_two_dots qs x h =
    let P : Class → Type 0 = λ c. dots_step qs c x ≡ dotted_step qs true c x in
    elim h [ inl e ↦ subst P (sym e) refl | inr h ↦ elim h [ inl e ↦ subst P (sym e) refl | inr e ↦ subst P (sym e) refl ] ]

shorthand_leads : (s : State) (qs : List Segment) (descends : Bool) (k r : List ℕ) → Dotted s qs descends → IsShorthand k → NoName r → outcome s (k ++ r) ≡ outcome (after_segment (with_segment qs descends (name_selector k ∷ []))) r
shorthand_leads s qs descends [] r first h n = absurd h
shorthand_leads s qs descends (x ∷ c) r first h n =
    let to_name : step s x ≡ goes_to (in_name qs descends (x ∷ [])) =
    elim (class_name_first x h.0) [ inl e ↦ first x (inr (inl e)) ∙ ap (λ c. dotted_step qs descends c x) e | inr e ↦ first x (inr (inr e)) ∙ ap (λ c. dotted_step qs descends c x) e ]
    in
    goes s (in_name qs descends (x ∷ [])) x (c ++ r) to_name ∙ name_leads qs descends (x ∷ []) c r h.1 ∙ name_ends qs descends (x ∷ c) r n

star_class : class_of 42 ≡ Star
unfolding class_of
star_class = refl

dotted_leads : (s : State) (qs : List Segment) (descends : Bool) (ss : List Selector) (p r : List ℕ) → Dotted s qs descends → dotted ss p → NoName r → outcome s (p ++ r) ≡ outcome (after_segment (with_segment qs descends ss)) r
dotted_leads s qs descends (name_selector k ∷ []) p r first h n = ap (λ p. outcome s (p ++ r)) h.1 ∙ shorthand_leads s qs descends k r first h.0 n
dotted_leads s qs descends (wildcard_selector ∷ []) p r first h n =
    ap (λ p. outcome s (p ++ r)) h ∙ goes s (after_segment (with_segment qs descends (wildcard_selector ∷ []))) 42 r (first 42 (inl star_class) ∙ ap (λ c. dotted_step qs descends c 42) star_class)
dotted_leads s qs descends _ p r first h n = absurd h

segment_leads : (g : Segment) (qs : List Segment) (p r : List ℕ) → segment_text g p → NoName r → outcome (after_segment qs) (p ++ r) ≡ outcome (after_segment (qs ++ g ∷ [])) r
unfolding class_of
segment_leads (child_segment ss) qs p r (inl h) n = bracketed_leads (after_segment qs) qs false ss p r refl h
segment_leads (child_segment ss) qs p r (inr (c, u, e, hc, h)) n =
    ap (λ p. outcome (after_segment qs) (p ++ r)) (e ∙ ap (λ c. c ++ u) hc) ∙ dotted_leads (after_dot qs) qs false ss u r (after_one_dot qs) h n
segment_leads (descendant_segment ss) qs p r (c, u, e, hc, (d, v, f, hd, inl h)) n =
    ap (λ p. outcome (after_segment qs) (p ++ r)) (e ∙ ap (λ c. c ++ u) hc ∙ ap (λ u. 46 ∷ u) (f ∙ ap (λ d. d ++ v) hd)) ∙ bracketed_leads (after_dots qs) qs true ss v r refl h
segment_leads (descendant_segment ss) qs p r (c, u, e, hc, (d, v, f, hd, inr h)) n =
    ap (λ p. outcome (after_segment qs) (p ++ r)) (e ∙ ap (λ c. c ++ u) hc ∙ ap (λ u. 46 ∷ u) (f ∙ ap (λ d. d ++ v) hd)) ∙ dotted_leads (after_dots qs) qs true ss v r (after_two_dots qs) h n

-- a segment begins with `[` or `.`
record Opens (p : List ℕ) : Type 0 where
  x : ℕ
  rest : List ℕ
  row : p ≡ x ∷ rest
  opens : (class_of x ≡ Opening) ⊎ (class_of x ≡ Dot)

segment_opens : (g : Segment) (p : List ℕ) → segment_text g p → Opens p
unfolding class_of
segment_opens (child_segment []) p (inl h) = absurd h
segment_opens (child_segment (s ∷ ss)) p (inl (c, v, f, hc, h)) = record { x = 91; rest = v; row = f ∙ ap (λ c. c ++ v) hc; opens = inl refl }
segment_opens (child_segment ss) p (inr (c, v, f, hc, h)) = record { x = 46; rest = v; row = f ∙ ap (λ c. c ++ v) hc; opens = inr refl }
segment_opens (descendant_segment ss) p (c, v, f, hc, h) = record { x = 46; rest = v; row = f ∙ ap (λ c. c ++ v) hc; opens = inr refl }

segments_no_name : (ss : List Segment) (p : List ℕ) → segments_text ss p → NoName p
segments_no_name [] p h = subst NoName (sym h) tt
segments_no_name (g ∷ ss) p ([], u, e, hw, (t, v, f, ht, hv)) =
    let o = segment_opens g t ht in
    subst NoName (sym (e ∙ f ∙ ap (λ t. t ++ v) o.row)) (inr o.opens)
segments_no_name (g ∷ ss) p (x ∷ w, u, e, hw, h) = subst NoName (sym e) (inl (class_blank x hw.0))

blank_goes : (qs : List Segment) (x : ℕ) → class_of x ≡ Blank → segment_step qs (class_of x) ≡ goes_to (after_blank qs)
blank_goes qs x e = ap (segment_step qs) e

-- blank space before a segment
blank_leads : (qs : List Segment) (w t : List ℕ) → ws w → Opens t → outcome (after_segment qs) (w ++ t) ≡ outcome (after_segment qs) t
blank_leads qs [] t h o = refl
blank_leads qs (x ∷ w) t h o =
    goes (after_segment qs) (after_blank qs) x (w ++ t) (blank_goes qs x (class_blank x h.0))
    ∙ ws_leads (after_blank qs) (blank_goes qs) w t h.1
    ∙ ap (outcome (after_blank qs)) o.row
    ∙ ap (outcome (after_segment qs)) (sym o.row)

opens_before : (t r : List ℕ) → Opens t → Opens (t ++ r)
opens_before t r o = record { x = o.x; rest = o.rest ++ r; row = ap (λ t. t ++ r) o.row; opens = o.opens }

segments_lead : (ss qs : List Segment) (p : List ℕ) → segments_text ss p → outcome (after_segment qs) p ≡ is_query (qs ++ ss)
segments_lead [] qs p h = ap (outcome (after_segment qs)) h ∙ ap (λ qs. is_query qs) (sym (append-nil qs))
segments_lead (g ∷ ss) qs p (w, u, e, hw, (t, v, f, ht, hv)) =
    ap (outcome (after_segment qs)) (e ∙ ap (λ u. w ++ u) f)
    ∙ blank_leads qs w (t ++ v) hw (opens_before t v (segment_opens g t ht))
    ∙ segment_leads g qs t v ht (segments_no_name ss v hv)
    ∙ segments_lead ss (qs ++ g ∷ []) v hv
    ∙ ap (λ qs. is_query qs) (append_assoc qs (g ∷ []) ss)

-- each query is read
pub query_read : (q : Query) (b : List ℕ) → spells_query q b → query_outcome b ≡ is_query q
unfolding class_of
query_read q b (c, u, e, hc, h) = ap query_outcome (e ∙ ap (λ c. c ++ u) hc) ∙ segments_lead q [] u h
