-- Steps of a reader of a query's text between parts of it, by the class of the next character.
use Rattle.std.proofs.Common.{◌≡◌, ◌≢◌, ◌⊎◌, inl, inr, ℕ, suc, ◌<◌, ◌≤◌, ℤ, pos, List, [], ◌∷◌, ◌++◌, length, Bool, true, false, Option, Some, None, refl, sym, ap, ◌∙◌, subst, append_assoc, append-nil, arith}
use Rattle.std.specs.Char.{encode_utf8}
use Rattle.std.proofs.lemmas.Bool.{cases_lt}
use Rattle.std.proofs.lemmas.Str.{encode_ascii}
use Rattle.json_query.specs.declared.error.Fault.{Fault}
use Rattle.json_query.specs.declared.error.QueryCode.TheVariants as code
use Rattle.json_query.specs.declared.cursor.Class.{Class}
use Rattle.json_query.specs.declared.cursor.Class.TheVariants.{Blank, QuotationMark, Root, Star, Comma, Minus, Dot, ZeroDigit, Digit, Colon, Question, Opening, Closing, Letter, BeyondAscii, Other}
use Rattle.json_query.specs.Query.{Segment, name_selector, wildcard_selector, index_selector, slice_selector}
use Rattle.json_query.specs.Reading.{ClassAt, Skips, NoBlank, NoInteger, EndsBefore, EndsName, starts_integer, after_end, IsMark, double_mark, single_mark, DottedAt, Stops}
use Rattle.json_query.specs.TextStates.{class_of, is_name_class, Brackets, opened, with_selector, with_segment, index_or_start, end_after, State, before_root, after_segment, after_blank, after_dot, after_dots, in_name, before_selector, after_selector, after_integer, before_end, before_step, in_string, Step, goes_to, stops, step, root_step, segment_step, dotted_step, dot_step, dots_step, name_step, selector_step, first_step, end_step, step_step, integer_step, is_refused, outcome, outcome_after, outcome_at_end}
use Rattle.json_query.proofs.TextClasses.{InClass, in_class, class_high, goes, halts}
use Rattle.json_query.proofs.TextStops.{High, HighBytes, high_bytes}
use Rattle.json_query.proofs.TextChars.{class_at_char, class_goes}

-- two states that go on alike at the first byte of a text
alike : (s t : State) (b : List ℕ) → ((x : ℕ) (d : List ℕ) → b ≡ x ∷ d → step s x ≡ step t x) → outcome_at_end s ≡ outcome_at_end t → outcome s b ≡ outcome t b
alike s t [] f e = e
alike s t (x ∷ d) f e = ap (λ (u : Step). outcome_after u (suc (length d)) (λ t. outcome t d)) (f x d refl)

-- reading that goes on alike stops alike
pub stops_alike : (s t : State) (b d : List ℕ) (f : Fault) → outcome s b ≡ outcome t d → Stops t d f → Stops s b f
stops_alike s t b d f e (inl h) = inl h
stops_alike s t b d f e (inr h) = inr (e ∙ h)

-- ---- slices and indexes

colon_step : (start end : Option ℤ) (o : Brackets) (x : ℕ) → class_of x ≡ Colon → step (after_end start end o) x ≡ goes_to (before_step start end o)
colon_step start None o x e = ap (λ c. end_step start o c x) e
colon_step start (Some i) o x e = ap (λ c. integer_step (end_after start) o i c) e

pub second_colon_read : (start end : Option ℤ) (o : Brackets) (b r : List ℕ) → ClassAt Colon b r → outcome (after_end start end o) b ≡ outcome (before_step start end o) r
second_colon_read start end o b r h = class_goes _ _ Colon b r h (λ e. cc) (λ e. cc) (colon_step start end o)

no_step : (start end : Option ℤ) (o : Brackets) (c : Class) (x : ℕ) → c ≢ Blank → starts_integer c ≡ false → step_step start end o c x ≡ selector_step (with_selector o (slice_selector start end (pos 1))) c
no_step start end o Blank x f e = absurd (f refl)
no_step start end o Minus x f e = cc
no_step start end o ZeroDigit x f e = cc
no_step start end o Digit x f e = cc
no_step start end o _ x f e = refl

pub step_absent : (start end : Option ℤ) (o : Brackets) (b : List ℕ) → NoBlank b → NoInteger b → outcome (before_step start end o) b ≡ outcome (after_selector (with_selector o (slice_selector start end (pos 1)))) b
step_absent start end o b h k = alike (before_step start end o) (after_selector (with_selector o (slice_selector start end (pos 1)))) b (λ x d e. no_step start end o (class_of x) x (h x d e) (k x d e)) refl

no_end : (start : Option ℤ) (o : Brackets) (c : Class) (x : ℕ) → c ≢ Blank → c ≢ Colon → starts_integer c ≡ false → end_step start o c x ≡ selector_step (with_selector o (slice_selector start None (pos 1))) c
no_end start o Blank x f g e = absurd (f refl)
no_end start o Colon x f g e = absurd (g refl)
no_end start o Minus x f g e = cc
no_end start o ZeroDigit x f g e = cc
no_end start o Digit x f g e = cc
no_end start o _ x f g e = refl

end_only : (start : Option ℤ) (o : Brackets) (i : ℤ) (c : Class) → c ≢ Blank → c ≢ Colon → integer_step (end_after start) o i c ≡ selector_step (with_selector o (slice_selector start (Some i) (pos 1))) c
end_only start o i Blank f g = absurd (f refl)
end_only start o i Colon f g = absurd (g refl)
end_only start o i _ f g = refl

pub end_absent : (start end : Option ℤ) (o : Brackets) (c : Class) (b r : List ℕ) → ClassAt c b r → c ≢ Colon → NoBlank b → EndsBefore end b
    → outcome (after_end start end o) b ≡ outcome (after_selector (with_selector o (slice_selector start end (pos 1)))) b
end_absent start None o c b r h n k l =
    alike (before_end start o) (after_selector (with_selector o (slice_selector start None (pos 1)))) b (λ x d e. no_end start o (class_of x) x (k x d e) (λ f. n (sym (h.at_byte x d e) ∙ f)) (l x d e)) refl
end_absent start (Some i) o c b r h n k l =
    alike (after_integer (end_after start) o i) (after_selector (with_selector o (slice_selector start (Some i) (pos 1)))) b (λ x d e. end_only start o i (class_of x) (k x d e) (λ f. n (sym (h.at_byte x d e) ∙ f))) refl

index_only : (o : Brackets) (i : ℤ) (c : Class) → c ≢ Blank → c ≢ Colon → integer_step index_or_start o i c ≡ selector_step (with_selector o (index_selector i)) c
index_only o i Blank f g = absurd (f refl)
index_only o i Colon f g = absurd (g refl)
index_only o i _ f g = refl

pub index_alone : (o : Brackets) (i : ℤ) (c : Class) (b r : List ℕ) → ClassAt c b r → c ≢ Colon → NoBlank b → outcome (after_integer index_or_start o i) b ≡ outcome (after_selector (with_selector o (index_selector i))) b
index_alone o i c b r h n k =
    alike (after_integer index_or_start o i) (after_selector (with_selector o (index_selector i))) b (λ x d e. index_only o i (class_of x) (k x d e) (λ f. n (sym (h.at_byte x d e) ∙ f))) refl

pub index_colon_read : (o : Brackets) (i : ℤ) (b r : List ℕ) → ClassAt Colon b r → outcome (after_integer index_or_start o i) b ≡ outcome (before_end (Some i) o) r
index_colon_read o i b r h = class_goes (after_integer index_or_start o i) (before_end (Some i) o) Colon b r h (λ e. cc) (λ e. cc) (λ x e. ap (integer_step index_or_start o i) e)

-- ---- selectors

pub first_colon_read : (o : Brackets) (b r : List ℕ) → ClassAt Colon b r → outcome (before_selector o) b ≡ outcome (before_end None o) r
first_colon_read o b r h = class_goes (before_selector o) (before_end None o) Colon b r h (λ e. cc) (λ e. cc) (λ x e. ap (λ c. first_step o c x) e)

pub star_read : (o : Brackets) (b r : List ℕ) → ClassAt Star b r → outcome (before_selector o) b ≡ outcome (after_selector (with_selector o wildcard_selector)) r
star_read o b r h = class_goes (before_selector o) (after_selector (with_selector o wildcard_selector)) Star b r h (λ e. cc) (λ e. cc) (λ x e. ap (λ c. first_step o c x) e)

pub mark_from_class : (c : ℕ) → class_of c ≡ QuotationMark → IsMark c
mark_from_class c e = elim (subst (λ k. InClass k c) e (in_class c)) [ inl f ↦ subst IsMark (sym f) double_mark | inr f ↦ subst IsMark (sym f) single_mark ]

pub mark_read : (o : Brackets) (c : ℕ) (b r : List ℕ) → b ≡ encode_utf8 c ++ r → class_of c ≡ QuotationMark → outcome (before_selector o) b ≡ outcome (in_string c o []) r
mark_read o c b r e k =
    let small : c < 128 = elim (subst (λ k. InClass k c) k (in_class c)) [ inl f ↦ omega arith | inr f ↦ omega arith ] in
    ap (outcome (before_selector o)) (e ∙ ap (λ u. u ++ r) (encode_ascii c small)) ∙ goes (before_selector o) (in_string c o []) c r (ap (λ k. first_step o k c) k)

pub filter_halts : (o : Brackets) (b r : List ℕ) (c : Class) → ClassAt c b r → c ≡ Question → outcome (before_selector o) b ≡ is_refused code.Filter (length b)
filter_halts o [] r c h e = let f : c ≡ Other = h.at_end refl in let g : Question ≡ Other = sym e ∙ f in cc
filter_halts o (x ∷ d) r c h e = halts (before_selector o) code.Filter x d (ap (λ c. first_step o c x) (h.at_byte x d refl ∙ e))

first_other : (o : Brackets) (c : Class) (x : ℕ) → c ≢ Blank → starts_integer c ≡ false → c ≢ QuotationMark → c ≢ Star → c ≢ Colon → c ≢ Question → first_step o c x ≡ stops code.ExpectedSelector
first_other o Blank x a i e f g h = absurd (a refl)
first_other o QuotationMark x a i e f g h = absurd (e refl)
first_other o Star x a i e f g h = absurd (f refl)
first_other o Minus x a i e f g h = cc
first_other o ZeroDigit x a i e f g h = cc
first_other o Digit x a i e f g h = cc
first_other o Colon x a i e f g h = absurd (g refl)
first_other o Question x a i e f g h = absurd (h refl)
first_other o _ x a i e f g h = refl

pub selector_halts : (o : Brackets) (b r : List ℕ) (c : Class) → ClassAt c b r → NoBlank b → NoInteger b → c ≢ QuotationMark → c ≢ Star → c ≢ Colon → c ≢ Question → outcome (before_selector o) b ≡ is_refused code.ExpectedSelector (length b)
selector_halts o [] r c h a i e f g k = refl
selector_halts o (x ∷ d) r c h a i e f g k =
    let same : class_of x ≡ c = h.at_byte x d refl in
    halts (before_selector o) code.ExpectedSelector x d (first_other o (class_of x) x (a x d refl) (i x d refl) (λ j. e (sym same ∙ j)) (λ j. f (sym same ∙ j)) (λ j. g (sym same ∙ j)) (λ j. k (sym same ∙ j)))

-- ---- brackets

selector_other : (o : Brackets) (c : Class) → c ≢ Blank → c ≢ Comma → c ≢ Closing → selector_step o c ≡ stops code.ExpectedCommaOrBracket
selector_other o Blank e f g = absurd (e refl)
selector_other o Comma e f g = absurd (f refl)
selector_other o Closing e f g = absurd (g refl)
selector_other o _ e f g = refl

pub end_halts : (o : Brackets) (b r : List ℕ) (c : Class) → ClassAt c b r → NoBlank b → c ≢ Comma → c ≢ Closing → outcome (after_selector o) b ≡ is_refused code.ExpectedCommaOrBracket (length b)
end_halts o [] r c h e f g = refl
end_halts o (x ∷ d) r c h e f g =
    let same : class_of x ≡ c = h.at_byte x d refl in
    halts (after_selector o) code.ExpectedCommaOrBracket x d (selector_other o (class_of x) (e x d refl) (λ j. f (sym same ∙ j)) (λ j. g (sym same ∙ j)))

-- ---- names and dots

name_class : (qs : List Segment) (descends : Bool) (k : List ℕ) (c : Class) (x : ℕ) → is_name_class c ≡ true → name_step qs descends k c x ≡ goes_to (in_name qs descends (k ++ x ∷ []))
name_class qs descends k Letter x e = refl
name_class qs descends k BeyondAscii x e = refl
name_class qs descends k ZeroDigit x e = refl
name_class qs descends k Digit x e = refl
name_class qs descends k _ x e = cc

no_name_class : (qs : List Segment) (descends : Bool) (k : List ℕ) (c : Class) (x : ℕ) → is_name_class c ≡ false → name_step qs descends k c x ≡ segment_step (with_segment qs descends (name_selector k ∷ [])) c
no_name_class qs descends k Letter x e = cc
no_name_class qs descends k BeyondAscii x e = cc
no_name_class qs descends k ZeroDigit x e = cc
no_name_class qs descends k Digit x e = cc
no_name_class qs descends k _ x e = refl

high_name : (qs : List Segment) (descends : Bool) (k e r : List ℕ) → High e → outcome (in_name qs descends k) (e ++ r) ≡ outcome (in_name qs descends (k ++ e)) r
high_name qs descends k [] r h = ap (λ k. outcome (in_name qs descends k) r) (sym (append-nil k))
high_name qs descends k (x ∷ e) r h =
    goes (in_name qs descends k) (in_name qs descends (k ++ x ∷ [])) x (e ++ r) (ap (λ c. name_step qs descends k c x) (class_high x h.0))
    ∙ high_name qs descends (k ++ x ∷ []) e r h.1
    ∙ ap (λ k. outcome (in_name qs descends k) r) (append_assoc k (x ∷ []) e)

-- a character of a name
pub name_char_read : (qs : List Segment) (descends : Bool) (k b r : List ℕ) (c : ℕ) → b ≡ encode_utf8 c ++ r → is_name_class (class_of c) ≡ true → outcome (in_name qs descends k) b ≡ outcome (in_name qs descends (k ++ encode_utf8 c)) r
name_char_read qs descends k b r c e i = by (cases_lt c 128)
  where
    by : (c < 128) ⊎ (128 ≤ c) → outcome (in_name qs descends k) b ≡ outcome (in_name qs descends (k ++ encode_utf8 c)) r
    by (inl l) =
        let same : encode_utf8 c ≡ c ∷ [] = encode_ascii c l in
        ap (outcome (in_name qs descends k)) (e ∙ ap (λ u. u ++ r) same)
        ∙ goes (in_name qs descends k) (in_name qs descends (k ++ c ∷ [])) c r (name_class qs descends k (class_of c) c i)
        ∙ ap (λ u. outcome (in_name qs descends (k ++ u)) r) (sym same)
    by (inr g) =
        let h : HighBytes c = high_bytes c g in
        ap (outcome (in_name qs descends k)) (e ∙ ap (λ u. u ++ r) h.row)
        ∙ high_name qs descends k (h.first ∷ h.others) r (h.first_high, h.others_high)
        ∙ ap (λ u. outcome (in_name qs descends (k ++ u)) r) (sym h.row)

-- where no character of it follows, it ends
pub name_ends : (qs : List Segment) (descends : Bool) (k b : List ℕ) → EndsName b → outcome (in_name qs descends k) b ≡ outcome (after_segment (with_segment qs descends (name_selector k ∷ []))) b
name_ends qs descends k b h = alike (in_name qs descends k) (after_segment (with_segment qs descends (name_selector k ∷ []))) b (λ x d e. no_name_class qs descends k (class_of x) x (h x d e)) refl

pub name_ends_at : (c : ℕ) (b r : List ℕ) → b ≡ encode_utf8 c ++ r → is_name_class (class_of c) ≡ false → EndsName b
name_ends_at c b r e n x d f = ap is_name_class ((class_at_char c b r e).at_byte x d f) ∙ n

-- a name is read as from within it
name_first : (qs : List Segment) (descends : Bool) (c : Class) (x : ℕ) → (c ≡ Letter) ⊎ (c ≡ BeyondAscii) → dotted_step qs descends c x ≡ name_step qs descends [] c x
name_first qs descends c x (inl e) = ap (λ c. dotted_step qs descends c x) e ∙ sym (ap (λ c. name_step qs descends [] c x) e)
name_first qs descends c x (inr e) = ap (λ c. dotted_step qs descends c x) e ∙ sym (ap (λ c. name_step qs descends [] c x) e)

pub dotted_name : (s : State) (qs : List Segment) (descends : Bool) (b r : List ℕ) (c : Class) → DottedAt s qs descends b → ClassAt c b r → (c ≡ Letter) ⊎ (c ≡ BeyondAscii) → outcome s b ≡ outcome (in_name qs descends []) b
dotted_name s qs descends [] r c d h i = let e : c ≡ Other = h.at_end refl in elim i [ inl f ↦ (let g : Letter ≡ Other = sym f ∙ e in cc) | inr f ↦ (let g : BeyondAscii ≡ Other = sym f ∙ e in cc) ]
dotted_name s qs descends (x ∷ b) r c d h i =
    let same : class_of x ≡ c = h.at_byte x b refl in
    let first : (class_of x ≡ Letter) ⊎ (class_of x ≡ BeyondAscii) = elim i [ inl f ↦ inl (same ∙ f) | inr f ↦ inr (same ∙ f) ] in
    ap (λ (u : Step). outcome_after u (suc (length b)) (λ t. outcome t b)) (d.at_byte x b refl ∙ name_first qs descends (class_of x) x first)

dotted_other : (qs : List Segment) (descends : Bool) (c : Class) (x : ℕ) → c ≢ Star → c ≢ Letter → c ≢ BeyondAscii → dotted_step qs descends c x ≡ stops code.ExpectedName
dotted_other qs descends Star x e f g = absurd (e refl)
dotted_other qs descends Letter x e f g = absurd (f refl)
dotted_other qs descends BeyondAscii x e f g = absurd (g refl)
dotted_other qs descends _ x e f g = refl

pub dotted_halts : (s : State) (qs : List Segment) (descends : Bool) (b r : List ℕ) (c : Class) → DottedAt s qs descends b → ClassAt c b r → c ≢ Star → c ≢ Letter → c ≢ BeyondAscii → outcome s b ≡ is_refused code.ExpectedName (length b)
dotted_halts s qs descends [] r c d h e f g = d.at_end
dotted_halts s qs descends (x ∷ b) r c d h e f g =
    let same : class_of x ≡ c = h.at_byte x b refl in
    halts s code.ExpectedName x b (d.at_byte x b refl ∙ dotted_other qs descends (class_of x) x (λ j. e (sym same ∙ j)) (λ j. f (sym same ∙ j)) (λ j. g (sym same ∙ j)))

-- ---- segments

not_dot : (qs : List Segment) (c : Class) (x : ℕ) → c ≢ Dot → dot_step qs c x ≡ dotted_step qs false c x
not_dot qs Dot x e = absurd (e refl)
not_dot qs _ x e = refl

not_opening : (qs : List Segment) (c : Class) (x : ℕ) → c ≢ Opening → dots_step qs c x ≡ dotted_step qs true c x
not_opening qs Opening x e = absurd (e refl)
not_opening qs _ x e = refl

pub after_dot_dotted : (qs : List Segment) (b r : List ℕ) (c : Class) → ClassAt c b r → c ≢ Dot → DottedAt (after_dot qs) qs false b
after_dot_dotted qs b r c h n = record { at_end = refl; at_byte = λ x d e. not_dot qs (class_of x) x (λ f. n (sym (h.at_byte x d e) ∙ f)) }

pub after_dots_dotted : (qs : List Segment) (b r : List ℕ) (c : Class) → ClassAt c b r → c ≢ Opening → DottedAt (after_dots qs) qs true b
after_dots_dotted qs b r c h n = record { at_end = refl; at_byte = λ x d e. not_opening qs (class_of x) x (λ f. n (sym (h.at_byte x d e) ∙ f)) }

pub dots_opening_read : (qs : List Segment) (b r : List ℕ) → ClassAt Opening b r → outcome (after_dots qs) b ≡ outcome (before_selector (opened qs true)) r
dots_opening_read qs b r h = class_goes (after_dots qs) (before_selector (opened qs true)) Opening b r h (λ e. cc) (λ e. cc) (λ x e. ap (λ c. dots_step qs c x) e)

segment_other : (qs : List Segment) (c : Class) → c ≢ Blank → c ≢ Opening → c ≢ Dot → segment_step qs c ≡ stops code.ExpectedSegment
segment_other qs Blank e f g = absurd (e refl)
segment_other qs Opening e f g = absurd (f refl)
segment_other qs Dot e f g = absurd (g refl)
segment_other qs _ e f g = refl

pub segment_halts : (qs : List Segment) (b r : List ℕ) (c : Class) → ClassAt c b r → NoBlank b → c ≢ Opening → c ≢ Dot → outcome (after_blank qs) b ≡ is_refused code.ExpectedSegment (length b)
segment_halts qs [] r c h e f g = refl
segment_halts qs (x ∷ d) r c h e f g =
    let same : class_of x ≡ c = h.at_byte x d refl in
    halts (after_blank qs) code.ExpectedSegment x d (segment_other qs (class_of x) (e x d refl) (λ j. f (sym same ∙ j)) (λ j. g (sym same ∙ j)))

pub skips_blank : (qs : List Segment) → Skips (after_blank qs)
skips_blank qs x e = ap (segment_step qs) e

-- a segment has to come where the text goes on
pub segment_comes : (qs : List Segment) (b : List ℕ) → b ≢ [] → outcome (after_segment qs) b ≡ outcome (after_blank qs) b
segment_comes qs [] n = absurd (n refl)
segment_comes qs (x ∷ b) n = refl

-- ---- the root

not_root : (c : Class) → c ≢ Root → root_step c ≡ stops code.ExpectedRoot
not_root Root e = absurd (e refl)
not_root _ e = refl

pub root_halts : (b r : List ℕ) (c : Class) → ClassAt c b r → c ≢ Root → outcome before_root b ≡ is_refused code.ExpectedRoot (length b)
root_halts [] r c h e = refl
root_halts (x ∷ d) r c h e = halts before_root code.ExpectedRoot x d (not_root (class_of x) (λ j. e (sym (h.at_byte x d refl) ∙ j)))
