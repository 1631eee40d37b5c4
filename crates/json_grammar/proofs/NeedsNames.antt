-- Each name that is whole before the byte that a token needs was returned before that token.
use Rattle.std.proofs.Common.{Bool, ◌≡◌, ◌≢◌, ℕ, ◌-◌, ◌≤◌, List, [], ◌∷◌, ◌++◌, length, take, drop, ◌⊎◌, inl, inr, refl, sym, ap, ◌∙◌, subst, arith, append_assoc, append-nil, length-take, length-drop}
use Rattle.std.proofs.lemmas.List.Folds.{drop_split}
use Rattle.json_grammar.specs.declared.Kind.{Kind}
use Rattle.json_grammar.specs.declared.Kind.TheVariants.{Array as array, Object as object}
use Rattle.json_grammar.specs.declared.ExpectedPart.{ExpectedPart}
use Rattle.json_grammar.specs.declared.ExpectedPart.TheVariants.{Value as at_value, First as first, Key as key, KeyOrEnd as key_or_end, Colon as colon, Done as done}
use Rattle.json_grammar.specs.Tree.{text, Token, text_token, key_token}
use Rattle.json_grammar.specs.Grammar.{IsWhitespace, number, string, is_text}
use Rattle.json_grammar.specs.Fault.{is_word}
use Rattle.json_grammar.specs.Place.{viable_prefix, reading, read_value, TakesValue, TakesKey, takes_at_value, takes_first, takes_key, takes_key_or_end}
use Rattle.json_grammar.specs.Given.{piece, LastEnds, PrefixAt, NamesReturned, NoNameEnds}
use Rattle.json_grammar.specs.Needs.{IsGap, IsBegun, IsLeadingZero, NeedsByte}
use Rattle.json_grammar.specs.Allows.{Closes, Separates, Allows}
use Rattle.std.proofs.lemmas.List.{append_cancel_left}
use Rattle.json_grammar.proofs.Completing.{place_viable}
use Rattle.json_grammar.proofs.Reading.{one_place}
use Rattle.json_grammar.proofs.Faults.{shorter_viable}
use Rattle.json_grammar.proofs.Gaps.{Across, spaced, marked, across}
use Rattle.json_grammar.proofs.Moves.{take_on, spaced_on}
use Rattle.json_grammar.proofs.Next.{next_byte}
use Rattle.json_grammar.proofs.NumberScan.{number_by_state}
use Rattle.json_grammar.proofs.Numbers.{number_begins}
use Rattle.json_grammar.proofs.InputRests.{ends_space}
use Rattle.json_grammar.proofs.RulesReader.{names_told, word_no_name, number_no_name, string_no_name}

-- ---- what the first byte of a token says of the place

-- the first byte of a literal name or a number
abbrev BeginsScalar : ℕ → Type 0
BeginsScalar x = (x ≡ 110) ⊎ ((x ≡ 116) ⊎ ((x ≡ 102) ⊎ ((x ≡ 45) ⊎ ((48 ≤ x) × (x ≤ 57)))))

scalar_no_end : (c : List Kind) (x : ℕ) → BeginsScalar x → Closes c x → ⊥
scalar_no_end [] x s h = h
scalar_no_end (array ∷ c) x s h = omega arith
scalar_no_end (object ∷ c) x s h = omega arith

scalar_no_comma : (c : List Kind) (x : ℕ) → BeginsScalar x → Separates c x → ⊥
scalar_no_comma [] x s h = h
scalar_no_comma (k ∷ c) x s h = omega arith

scalar_is_not : (x : ℕ) → BeginsScalar x → (x ≡ 34) ⊎ (x ≡ 58) → ⊥
scalar_is_not x s h = omega arith

takes_value : (w : ExpectedPart) (c : List Kind) (x : ℕ) → BeginsScalar x → Allows w c x → TakesValue w
takes_value at_value c x s h = takes_at_value
takes_value first c x s h = takes_first
takes_value key c x s h = absurd (scalar_is_not x s (inl h))
takes_value key_or_end c x s (inl h) = absurd (scalar_is_not x s (inl h))
takes_value key_or_end c x s (inr h) = absurd (scalar_no_end c x s h)
takes_value colon c x s h = absurd (scalar_is_not x s (inr h))
takes_value done c x s (inl h) = absurd (scalar_no_comma c x s h)
takes_value done c x s (inr h) = absurd (scalar_no_end c x s h)

quote_no_end : (c : List Kind) → Closes c 34 → ⊥
quote_no_end [] h = h
quote_no_end (array ∷ c) h = omega arith
quote_no_end (object ∷ c) h = omega arith

quote_no_comma : (c : List Kind) → Separates c 34 → ⊥
quote_no_comma [] h = h
quote_no_comma (k ∷ c) h = omega arith

takes_string : (w : ExpectedPart) (c : List Kind) → Allows w c 34 → TakesValue w ⊎ TakesKey w
takes_string at_value c h = inl takes_at_value
takes_string first c h = inl takes_first
takes_string key c h = inr takes_key
takes_string key_or_end c h = inr takes_key_or_end
takes_string colon c h = absurd (omega arith)
takes_string done c (inl h) = absurd (quote_no_comma c h)
takes_string done c (inr h) = absurd (quote_no_end c h)

heads : {x y : ℕ} {p q : List ℕ} → x ∷ p ≡ y ∷ q → x ≡ y
heads e = cc

-- what begins so begins with this byte
word_first : (x : ℕ) (r z : List ℕ) → is_word ((x ∷ r) ++ z) → BeginsScalar x
word_first x r z (inl e) = inl (heads e)
word_first x r z (inr (inl e)) = inr (inl (heads e))
word_first x r z (inr (inr e)) = inr (inr (inl (heads e)))

number_first : (x : ℕ) (r z : List ℕ) → number ((x ∷ r) ++ z) → BeginsScalar x
number_first x r z n = by (number_begins ((x ∷ r) ++ z) n)
  where
    by : (y : ℕ) × (m : List ℕ) × ((x ∷ r) ++ z ≡ y ∷ m) × ((y ≡ 45) ⊎ ((48 ≤ y) × (y ≤ 57))) → BeginsScalar x
    by (y, m, e, inl h) = inr (inr (inr (inl (heads e ∙ h))))
    by (y, m, e, inr h) = let f : x ≡ y = heads e in inr (inr (inr (inr (omega arith, omega arith))))

scalar_no_space : (x : ℕ) → BeginsScalar x → ¬ (IsWhitespace x)
scalar_no_space x h s = omega arith

quote_no_space : ¬ (IsWhitespace 34)
quote_no_space s = omega arith

zero_number : (r : List ℕ) → IsLeadingZero r → number (r ++ [])
zero_number r (inl e) = subst number (sym (append-nil r ∙ e)) (number_by_state (48 ∷ []) refl)
zero_number r (inr e) = subst number (sym (append-nil r ∙ e)) (number_by_state (45 ∷ 48 ∷ []) refl)

-- ---- after the gap

module _ (lossy : Bool) (b : List ℕ) (i j k : ℕ) (c : List Kind) (w : ExpectedPart) (ts : List Token) (g : PrefixAt lossy b i c w ts) (l : i ≤ j) (m : j ≤ k) (within : k ≤ length b) (v : viable_prefix lossy (take k b)) where
  -- the place after the gap allows the byte there
  abbrev Allowing : ℕ → Type 0
  Allowing x = (c' : List Kind) × (w' : ExpectedPart) × reading lossy (take j b) c' w' ts × Allows w' c' x

  allowing : (x : ℕ) (r : List ℕ) → piece b j k ≡ x ∷ r → ¬ (IsWhitespace x) → Across lossy b i j c w ts → Allowing x
  allowing x r e n (spaced s) =
      let whole : drop i b ≡ piece b i j ++ x ∷ (r ++ drop k b) = drop_split b i j l ∙ ap (λ y. piece b i j ++ y) (drop_split b j k m ∙ ap (λ y. y ++ drop k b) e) in (
        c,
        w,
        spaced_on lossy b i j c w ts g l s,
        next_byte lossy v.0 (piece b i j) x (r ++ v.1) g.at s (ends_space w ts (piece b i j) x (r ++ drop k b) (r ++ v.1) (subst (LastEnds w ts) whole g.ends))
            (subst (is_text lossy v.0) (ap (λ y. y ++ v.1) (take_on b j k m ∙ ap (λ y. y ++ piece b j k) (take_on b i j l) ∙ ap (λ y. (take i b ++ piece b i j) ++ y) e) ∙ append_assoc (take i b ++ piece b i j) (x ∷ r) v.1 ∙ append_assoc (take i b) (piece b i j) (x ∷ (r ++ v.1))) v.2) n,
      )
  allowing x r e n (marked (c', w', at, d)) = (
    c',
    w',
    at,
    next_byte lossy v.0 [] x (r ++ v.1) at tt (λ f. absurd (d f)) (subst (is_text lossy v.0) (ap (λ y. y ++ v.1) (take_on b j k m ∙ ap (λ y. take j b ++ y) e) ∙ append_assoc (take j b) (x ∷ r) v.1) v.2) n,
  )

  place_of : Across lossy b i j c w ts → (c' : List Kind) × (w' : ExpectedPart) × reading lossy (take j b) c' w' ts
  place_of (spaced s) = (c, w, spaced_on lossy b i j c w ts g l s)
  place_of (marked (c', w', at, d)) = (c', w', at)

  told_by : (c' : List Kind) (w' : ExpectedPart) → reading lossy (take j b) c' w' ts → NoNameEnds lossy b j k → NamesReturned lossy b i k
  told_by c' w' at n = names_told lossy b i j k c c' w w' ts g l (omega arith) at n

  by_first : (x : ℕ) (r z : List ℕ) → piece b j k ≡ x ∷ r → Across lossy b i j c w ts → is_word ((x ∷ r) ++ z) ⊎ (number ((x ∷ r) ++ z) ⊎ ((z ≢ []) × ((s : List ℕ) × string lossy s ((x ∷ r) ++ z)))) → NamesReturned lossy b i k
  by_first x r z e a (inl h) =
      let f = word_first x r z h in let o = allowing x r e (scalar_no_space x f) a in
      told_by o.0 o.1 o.2 (word_no_name lossy b j k o.0 o.1 ts within m o.2 z (takes_value o.1 o.0 x f o.3) (subst is_word (ap (λ y. y ++ z) (sym e)) h))
  by_first x r z e a (inr (inl h)) =
      let f = number_first x r z h in let o = allowing x r e (scalar_no_space x f) a in
      told_by o.0 o.1 o.2 (number_no_name lossy b j k o.0 o.1 ts within m o.2 z (takes_value o.1 o.0 x f o.3) (subst number (ap (λ y. y ++ z) (sym e)) h))
  by_first x r z e a (inr (inr (n, (s, (q, f, h))))) =
      let y : x ≡ 34 = heads f in
      let o = allowing 34 r (e ∙ ap (λ u. u ∷ r) y) quote_no_space a in
      told_by o.0 o.1 o.2 (string_no_name lossy b j k o.0 o.1 ts within m o.2 s z n (takes_string o.1 o.0 o.3) (subst (string lossy s) (ap (λ y. y ++ z) (sym e)) (q, f, h)))

split : (r : List ℕ) → r ≢ [] → (x : ℕ) × (m : List ℕ) × (r ≡ x ∷ m)
split [] n = absurd (n refl)
split (x ∷ m) n = (x, m, refl)

zero_some : (r : List ℕ) → IsLeadingZero r → r ≢ []
zero_some [] (inl e) f = cc
zero_some [] (inr e) f = cc
zero_some (x ∷ r) h f = cc

pub names_before : (lossy : Bool) (zero : Type 0) (b : List ℕ) (i k : ℕ) (c : List Kind) (w : ExpectedPart) (ts : List Token) → PrefixAt lossy b i c w ts → k ≤ length b → viable_prefix lossy (take k b) → NeedsByte lossy zero b i k → NamesReturned lossy b i k
names_before lossy zero b i k c w ts g within v n = by n.begun
  where
    l : i ≤ n.at
    l = n.order.0

    m : n.at ≤ k
    m = n.order.1

    a : Across lossy b i n.at c w ts
    a = across lossy b i n.at c w ts g l n.gap (shorter_viable lossy (take n.at b) (piece b n.at k) (subst (viable_prefix lossy) (take_on b n.at k m) v))

    whole : (x : ℕ) (r z : List ℕ) → piece b n.at k ≡ x ∷ r → is_word ((x ∷ r) ++ z) ⊎ (number ((x ∷ r) ++ z) ⊎ ((z ≢ []) × ((s : List ℕ) × string lossy s ((x ∷ r) ++ z)))) → NamesReturned lossy b i k
    whole x r z e h = by_first lossy b i n.at k c w ts g l m within v x r z e a h

    begun : (z : List ℕ) → z ≢ [] → is_word (piece b n.at k ++ z) ⊎ ((number (piece b n.at k ++ z) × ¬ (number (piece b n.at k))) ⊎ ((s : List ℕ) × string lossy s (piece b n.at k ++ z))) → (x : ℕ) × (r : List ℕ) × (piece b n.at k ≡ x ∷ r) → NamesReturned lossy b i k
    begun z o (inl h) (x, r, e) = whole x r z e (inl (subst (λ y. is_word (y ++ z)) e h))
    begun z o (inr (inl h)) (x, r, e) = whole x r z e (inr (inl (subst (λ y. number (y ++ z)) e h.0)))
    begun z o (inr (inr h)) (x, r, e) = whole x r z e (inr (inr (o, (h.0, subst (λ y. string lossy h.0 (y ++ z)) e h.1))))

    by : IsBegun lossy zero (piece b n.at k) → NamesReturned lossy b i k
    by (inl e) =
        let o = place_of lossy b i n.at k c w ts g l m within v a in
        let d : k ≡ n.at = omega (arith, m, within, length-take (k - n.at) (drop n.at b), length-drop n.at b, ap length e) in
        told_by lossy b i n.at k c w ts g l m within v o.0 o.1 o.2 (λ u c' us lo hi h. omega arith)
    by (inr (inl t)) = begun t.rest t.unfinished t.token (split (piece b n.at k) t.begun)
    by (inr (inr (q, z))) =
        let f = split (piece b n.at k) (zero_some (piece b n.at k) z) in
        whole f.0 f.1 [] f.2 (inr (inl (subst (λ y. number (y ++ [])) f.2 (zero_number (piece b n.at k) z))))

-- ---- a name after the gap

no_text_name : (ts : List Token) (s : List ℕ) → ts ++ text_token s ∷ [] ≡ ts ++ key_token s ∷ [] → ⊥
no_text_name ts s e = let f : text_token s ∷ [] ≡ key_token s ∷ [] = append_cancel_left ts (text_token s ∷ []) (key_token s ∷ []) e in absurd (cc)

pub name_after_gap : (lossy : Bool) (b : List ℕ) (i j n : ℕ) (c c' : List Kind) (w w' : ExpectedPart) (ts : List Token) (s : List ℕ)
    → PrefixAt lossy b i c w ts
    → i ≤ j
    → j ≤ n
    → n ≤ length b
    → IsGap (piece b i j)
    → string lossy s (piece b j n)
    → reading lossy (take n b) c' w' (ts ++ key_token s ∷ [])
    → (d : List Kind) × (v : ExpectedPart) × reading lossy (take j b) d v ts × TakesKey v
name_after_gap lossy b i j n c c' w w' ts s g l m within gap (q, f, h) r = by (takes_string o.1 o.0 o.3)
  where
    v : viable_prefix lossy (take n b)
    v = place_viable lossy (take n b) c' w' (ts ++ key_token s ∷ []) r

    a : Across lossy b i j c w ts
    a = across lossy b i j c w ts g l gap (shorter_viable lossy (take j b) (piece b j n) (subst (viable_prefix lossy) (take_on b j n m) v))

    o : (d : List Kind) × (u : ExpectedPart) × reading lossy (take j b) d u ts × Allows u d 34
    o = allowing lossy b i j n c w ts g l m within v 34 _ f quote_no_space a

    by : TakesValue o.1 ⊎ TakesKey o.1 → (d : List Kind) × (u : ExpectedPart) × reading lossy (take j b) d u ts × TakesKey u
    by (inr t) = (o.0, o.1, o.2, t)
    by (inl t) =
        let as_text = read_value (text s) o.2 t (piece b j n, [], sym (append-nil (piece b j n)), (q, f, h), tt) in
        absurd (no_text_name ts s (one_place lossy as_text (subst (λ y. reading lossy y c' w' (ts ++ key_token s ∷ [])) (take_on b j n m) r)).2)
