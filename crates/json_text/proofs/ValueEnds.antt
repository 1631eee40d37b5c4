-- Where a value ends that a parser has read.
use Rattle.std.proofs.Common.{◌≡◌, ◌⊎◌, ℕ, ◌+◌, ◌-◌, ◌<◌, ◌≤◌, List, [], ◌∷◌, ◌++◌, length, get_or, take, drop, inl, inr, refl, sym, ap, ◌∙◌, subst, arith, length-append, length-drop, get_or-drop, take_all, append_assoc, Bool}
use Rattle.std.proofs.lemmas.Bool.{cases_lt}
use Rattle.std.proofs.lemmas.List.{nil_from_length, length-take-le, get_or-take}
use Rattle.std.proofs.Math.Seq.{get_or-append_seam}
use Rattle.json_grammar.specs.declared.ExpectedPart.TheVariants.{Done as done}
use Rattle.json_grammar.specs.Tree.{Tree, depth, Token, num, num_token, tokens}
use Rattle.json_grammar.specs.Grammar.{IsWhitespace, IsDigit, ws, value, ◌then◌}
use Rattle.json_grammar.specs.Place.{reading}
use Rattle.json_grammar.specs.Given.{PrefixAt}
use Rattle.json_grammar.specs.Fault.{reads}
use Rattle.json_grammar.specs.Levels.{peak}
use Rattle.json_grammar.proofs.Depth.{peak_tree}
use Rattle.json_grammar.proofs.OneValue.{given_reads}
use Rattle.json_grammar.proofs.TokensUnique.{tokens_injective}
use Rattle.json_text.specs.declared.event.Event.{Event}
use Rattle.json_text.specs.declared.event.Event.TheVariants as event
use Rattle.json_text.specs.Events.{EndsToken}
use Rattle.json_text.specs.Parsing.{ParserState, input, consumed, IsWhole, HasRead, IsTight}
use Rattle.json_text.specs.Readers.{ReaderAt}
use Rattle.json_text.proofs.Going.{last_from}
use Rattle.json_text.proofs.ReaderSteps.{space_before}

cons_not_nil : (x : ℕ) (m : List ℕ) → x ∷ m ≡ [] → ⊥
cons_not_nil x m e = cc

-- where a number that ends in a zero was read, the last byte is a zero
zero_last : (lossy : Bool) (b : List ℕ) (k : ℕ) (z : List ℕ) (ts : List Token) → PrefixAt lossy b (k + 1) [] done ts → ¬ (IsWhitespace (get_or b k 0)) → ts ≡ num_token (z ++ 48 ∷ []) ∷ [] → get_or b k 0 ≡ 48
zero_last lossy b k z ts g n o =
    let fits : k + 1 ≤ length b = g.fits in
    let f = take (k + 1) b in
    let long : length f ≡ k + 1 = length-take-le (k + 1) b fits in
    let same : take (k + 1) f ≡ f = take_all (k + 1) f (omega arith) in
    let nothing : drop (k + 1) f ≡ [] = nil_from_length (drop (k + 1) f) (omega (arith, length-drop (k + 1) f)) in
    let here : get_or f k 0 ≡ get_or b k 0 = get_or-take (k + 1) b k 0 (omega arith) in
    let alone : PrefixAt lossy f (k + 1) [] done ts = record { fits = omega arith; at = subst (λ y. reading lossy y [] done ts) (sym same) g.at; ends = λ d m a e x u v h w. cons_not_nil x u (sym h ∙ nothing) } in
    let r = given_reads lossy f k ts alone (λ s. n (subst IsWhitespace here s)) (λ x m e d w. cons_not_nil x m (sym e ∙ nothing)) in
    let t : r.0 ≡ num (z ++ 48 ∷ []) = tokens_injective r.0 (num (z ++ 48 ∷ [])) (sym r.2 ∙ o) in
    by f (sym here) long (subst (λ y. (ws then value lossy y) f) t (subst (ws then value lossy r.0) same r.1.spells))
  where
    by : (f : List ℕ) → get_or b k 0 ≡ get_or f k 0 → length f ≡ k + 1 → (ws then value lossy (num (z ++ 48 ∷ []))) f → get_or b k 0 ≡ 48
    by f e l (u, v, row, space, (is, same)) =
        let whole : f ≡ (u ++ z) ++ 48 ∷ [] = row ∙ ap (λ y. u ++ y) same ∙ sym (append_assoc u z (48 ∷ [])) in
        let m : length (u ++ z) ≡ k = omega (arith, ap length whole, length-append (u ++ z) (48 ∷ [])) in
        e ∙ ap (λ y. get_or y k 0) whole ∙ ap (λ i. get_or ((u ++ z) ++ 48 ∷ []) i 0) (sym m) ∙ get_or-append_seam (u ++ z) 48 [] 0

-- what is whole after a token is a value, which was read up to there
read_up_to : (lossy : Bool) (limit : ℕ) (b : List ℕ) (k : ℕ) (ts : List Token) → ReaderAt lossy limit b (k + 1) [] done ts → ¬ (IsWhitespace (get_or b k 0)) → (t : Tree) × reads lossy b t (k + 1) × (ts ≡ tokens t) × (depth t ≤ limit)
read_up_to lossy limit b k ts s n = go (cases_lt s.base (k + 1))
  where
    go : (s.base < k + 1) ⊎ (k + 1 ≤ s.base) → (t : Tree) × reads lossy b t (k + 1) × (ts ≡ tokens t) × (depth t ≤ limit)
    go (inl l) = let e : k + 1 - 1 ≡ k = omega arith in absurd (n (subst (λ i. IsWhitespace (get_or b i 0)) e (space_before b s.base (k + 1) l s.within s.space)))
    go (inr l) =
        let o = s.order in
        let e : s.base ≡ k + 1 = omega arith in
        let last : k + 1 - 1 ≡ k = omega arith in
        let g : PrefixAt lossy b (k + 1) [] done ts = subst (λ i. PrefixAt lossy b i [] done ts) e s.given in
        let apart = subst (λ i. 0 < i → get_or b (i - 1) 0 ≡ 48 → (i < length b → ¬ (IsDigit (get_or b i 0)))) e s.apart in
        let no_digit = λ (x : ℕ) (m : List ℕ) (z : List ℕ) (f : drop (k + 1) b ≡ x ∷ m) (d : IsDigit x) (h : ts ≡ num_token (z ++ 48 ∷ []) ∷ []).
        let zero : get_or b (k + 1 - 1) 0 ≡ 48 = ap (λ i. get_or b i 0) last ∙ zero_last lossy b k z ts g n h in
        let next : k + 1 + 0 ≡ k + 1 = omega arith in
        let here : get_or b (k + 1) 0 ≡ x = sym (get_or-drop (k + 1) b 0 0 ∙ ap (λ i. get_or b i 0) next) ∙ ap (λ y. get_or y 0 0) f in
        let left = ap length f in
        apart (omega arith) zero (omega (arith, length-drop (k + 1) b)) (subst IsDigit (sym here) d) in
        let r = given_reads lossy b k ts g n (λ x m f d h. elim h [ inl u ↦ no_digit x m [] f d u | inr u ↦ no_digit x m (45 ∷ []) f d u ]) in
        let most = s.depth in
        let p : peak 0 ts ≡ depth r.0 = ap (peak 0) r.2 ∙ peak_tree r.0 0 ∙ omega arith in
        (r.0, r.1, r.2, omega arith)

value_read : (s : ParserState) → s.start < s.index → EndsToken (get_or s.text (s.index - 1) 0) → IsWhole s → HasRead s
value_read s l last w ts g =
    let b = input s in
    let k = consumed s - 1 in
    let e : consumed s ≡ k + 1 = omega arith in
    let i : s.start + consumed s - 1 ≡ s.index - 1 = omega arith in
    let here : get_or b k 0 ≡ get_or s.text (s.index - 1) 0 = last_from s.text s.start (consumed s) (omega arith) ∙ ap (λ j. get_or s.text j 0) i in
    let whole = subst (λ c. ReaderAt s.lossy s.limit b (k + 1) c done ts) (nil_from_length s.open_kinds w.1) (subst (λ v. ReaderAt s.lossy s.limit b (k + 1) s.open_kinds v ts) w.0 (subst (λ j. ReaderAt s.lossy s.limit b j s.open_kinds s.expected ts) e g)) in
    subst (λ j. (t : Tree) × reads s.lossy b t j × (ts ≡ tokens t) × (depth t ≤ s.limit)) (sym e) (read_up_to s.lossy s.limit b k ts whole (λ x. last.0 (subst IsWhitespace here x)))

-- after the last token of a value the value was read
pub event_reads : (old new : ParserState) (e : Event) → IsTight old e new → (e ≡ event.End → ⊥) → new.start ≤ old.index → IsWhole new → HasRead new
event_reads old new event.Null t n l w = value_read new (let f = t.forward in omega arith) t.last w
event_reads old new (event.Bool v) t n l w = value_read new (let f = t.forward in omega arith) t.last w
event_reads old new (event.Number v) t n l w = value_read new (let f = t.forward in omega arith) t.last w
event_reads old new (event.Str v) t n l w = value_read new (let f = t.forward in omega arith) t.last w
event_reads old new (event.Key v) t n l w = value_read new (let f = t.forward in omega arith) t.last w
event_reads old new event.BeginArray t n l w = value_read new (let f = t.forward in omega arith) t.last w
event_reads old new event.EndArray t n l w = value_read new (let f = t.forward in omega arith) t.last w
event_reads old new event.BeginObject t n l w = value_read new (let f = t.forward in omega arith) t.last w
event_reads old new event.EndObject t n l w = value_read new (let f = t.forward in omega arith) t.last w
event_reads old new event.End t n l w = absurd (n refl)
