-- What reading a value from the tokens of a text returns.
use Rattle.std.proofs.Common.{◌≡◌, ◌⊎◌, inl, inr, ℕ, ◌+◌, ◌<◌, ◌≤◌, List, [], ◌∷◌, ◌++◌, Bool, length, take, drop, get_or, true, Option, Some, None, IfSome, Result, Ok, Err, IfOk, MatchResult, IsUtf8, Bor, refl, sym, ◌∙◌, ap, ap₂, subst, arith, length-append, length-take, length-drop}
use Rattle.std.proofs.lemmas.List.{append-nil}
use Rattle.std.specs.Str.{IsCharBoundary}
use Rattle.std.specs.Result.{IfErr, IsOk}
use Rattle.std.proofs.lemmas.Str.{IsUtf8-drop, IsCharBoundary-start, IsCharBoundary-after_ascii, IsCharBoundary-from_take, IsCharBoundary-from_rest}
use Rattle.json_grammar.specs.declared.Kind.{Kind}
use Rattle.json_grammar.specs.declared.Kind.TheVariants.{Array as array, Object as object}
use Rattle.json_grammar.specs.Place.{closing}
use Rattle.json_grammar.specs.Fault.{FaultCode, reads, value_fault, eof_while_parsing, trailing_characters, recursion_limit_exceeded}
use Rattle.json_grammar.specs.Grammar.{IsWhitespace, ws, is_text}
use Rattle.json_grammar.specs.Given.{piece}
use Rattle.json_grammar.specs.Tree.{Tree, depth, tokens}
use Rattle.json_grammar.proofs.OneValue.{value_text}
use Rattle.json_grammar.proofs.Sizes.{nodes_some, text_fits}
use Rattle.json_grammar.proofs.TextUtf8.{text_utf8}
use Rattle.json_grammar.proofs.TokensUnique.{tokens_injective}
use Rattle.json_io.specs.declared.error.Error.{Error}
use Rattle.json_io.specs.declared.error.ErrorCode.{ErrorCode}
use Rattle.json_io.specs.declared.error.ErrorCode.TheVariants as code
use Rattle.json_io.specs.declared.error.Place.{Place}
use Rattle.json_io.specs.declared.error.Place.TheVariants as place
use Rattle.json_text.specs.Ends.{ComesNext, ReadsEnd, TrailsAt, LacksEnd}
use Rattle.json_io.specs.Errors.{no_memory}
use Rattle.json_text.specs.Faults.{ValueFaultFrom}
use Rattle.json_text.specs.Parsing.{ParserState, consumed}
use Rattle.json_io.specs.Positions.{place_at}
use Rattle.json_scan.specs.Runs.{ByteAt}
use Rattle.json_io.specs.Utf8.{Utf8Cause}
use Rattle.json_text.proofs.OneFaultAt.{is_there}
use Rattle.json_data.specs.Reading.{Reading}
use Rattle.json_tokens.specs.Refusals.{is_refusal}
use Rattle.json_tokens.specs.TokensStates.{over_text, TakesTree}
use Rattle.json_tokens.specs.Text.{TextTokensState, TextFails, HasReadValue, text_taken, text_tokens_state}
use Rattle.json_text.specs.Repaired.{RepairedText}
use Rattle.json_stream.specs.Streams.{InputState, input_state, in_input, PlaceIsWithin, TakesNextValue, RefusesNextValue, FaultIsLeft, NextValueFails, IsTextAt}

-- the source of tokens reads this text from there on
pub record ReadsFrom (b : List ℕ) (l : Bool) (i : ℕ) (m : TextTokensState) : Type 0 where
  pub text : m.parser.text ≡ b
  pub mode : m.parser.lossy ≡ l
  pub start : m.parser.start ≡ i
  pub limit : m.parser.limit ≡ 254

pub reads_from : (b : List ℕ) (l : Bool) (i : ℕ) (s m : TextTokensState) → s.parser.text ≡ b → s.parser.lossy ≡ l → (s.parser.start ≡ i) × (s.parser.limit ≡ 254) → (text_tokens_state m).input ≡ (text_tokens_state s).input → ReadsFrom b l i m
reads_from b l i s m e d f h = record { text = by_text h ∙ e; mode = by_mode h ∙ d; start = by_start h ∙ f.0; limit = by_limit h ∙ f.1 }
  where
    by_text : over_text m.parser.text m.parser.start m.parser.lossy m.parser.limit ≡ over_text s.parser.text s.parser.start s.parser.lossy s.parser.limit → m.parser.text ≡ s.parser.text
    by_text i = cc

    by_mode : over_text m.parser.text m.parser.start m.parser.lossy m.parser.limit ≡ over_text s.parser.text s.parser.start s.parser.lossy s.parser.limit → m.parser.lossy ≡ s.parser.lossy
    by_mode i = cc

    by_start : over_text m.parser.text m.parser.start m.parser.lossy m.parser.limit ≡ over_text s.parser.text s.parser.start s.parser.lossy s.parser.limit → m.parser.start ≡ s.parser.start
    by_start i = cc

    by_limit : over_text m.parser.text m.parser.start m.parser.lossy m.parser.limit ≡ over_text s.parser.text s.parser.start s.parser.lossy s.parser.limit → m.parser.limit ≡ s.parser.limit
    by_limit i = cc

-- ---- places

pub place_within : (b : List ℕ) (k : ℕ) → k ≤ length b → PlaceIsWithin b (place_at b k)
unfolding place_at
place_within b k h = h

-- of the text of a repaired input, where it is what is read
pub within_same : (o : Option (Bor RepairedText)) (b : List ℕ) (p : Place) → IfSome o (λ r. r.now.text ≡ b) → PlaceIsWithin b p → IfSome o (λ r. PlaceIsWithin r.now.text p)
within_same None b p e h = tt
within_same (Some r) b p e h = subst (λ (y : List ℕ). PlaceIsWithin y p) (sym e) h

pub same_text : (A : Type 0) (o : Option (Bor RepairedText)) (b : List ℕ) → IfSome o (λ r. (r.now.text ≡ b) × A) → IfSome o (λ r. r.now.text ≡ b)
same_text A None b h = tt
same_text A (Some r) b h = h.0

before : (p : List ℕ) (x : ℕ) (rest b : List ℕ) (k : ℕ) → b ≡ p ++ x ∷ rest → length p ≡ k → k ≤ length b
before p x rest b k e n = let f = ap length e in omega (arith, length-append p (x ∷ rest))

-- ---- values

-- the text of a value
value_is_text : (lossy : Bool) (b : List ℕ) (t : Tree) (n : ℕ) → reads lossy b t n → is_text lossy t (take n b)
value_is_text lossy b t n r = subst (is_text lossy t) (append-nil (take n b)) (value_text lossy t (take n b) [] r.spells tt)

-- no value is empty
reads_some : (lossy : Bool) (b : List ℕ) (t : Tree) (n : ℕ) → reads lossy b t n → 0 < n
reads_some lossy b t n r =
    let l = (text_fits lossy t (take n b) (value_is_text lossy b t n r)).0 in
    let s = nodes_some t in
    let f = r.fits in
    omega (arith, length-take n b)

-- a tree was taken, which is that of the value, and the place is right after it
pub takes_value : (f : Tree → Reading) (b : List ℕ) (l : Bool) (o : Option RepairedText) (i j : ℕ) (s m : TextTokensState) (t : Tree) (r : Reading) → ReadsFrom b l i m → IsUtf8 b → text_taken s [] → TakesTree text_taken text_tokens_state s m t
    → HasReadValue m → j ≡ m.parser.index → m.parser.start ≤ j → f t ≡ r → TakesNextValue f (input_state b l o i) r (input_state b l o j)
takes_value f b l o i j s m t r e u h k g n q a =
    let w = g (tokens t) (k.takes.on [] h) in
    let same : w.0 ≡ t = sym (tokens_injective t w.0 w.2) in
    let start : m.parser.start ≡ i = e.start in
    let place : j ≡ i + consumed m.parser = omega arith in
    let value : reads l (drop i b) w.0 (consumed m.parser) =
    subst (λ (x : Bool). reads x (drop i b) w.0 (consumed m.parser)) e.mode (subst (λ (y : List ℕ). reads m.parser.lossy y w.0 (consumed m.parser)) (ap₂ drop e.start e.text) w.1) in
    let some : 0 < consumed m.parser = reads_some l (drop i b) w.0 (consumed m.parser) value in
    record {
      utf8 = u;
      tree = w.0;
      size = consumed m.parser;
      value = value;
      levels = subst (λ (n : ℕ). depth w.0 ≤ n) e.limit w.3;
      answer = ap f same ∙ a;
      after = ap (input_state b l o) place;
      forward = omega arith;
      within = let l = value.fits in omega (arith, length-drop i b);
    }

-- after a value a character begins
pub after_value : (lossy : Bool) (b : List ℕ) (i n : ℕ) (t : Tree) → IsUtf8 b → IsCharBoundary b i → reads lossy (drop i b) t n → IsCharBoundary b (i + n)
after_value lossy b i n t u h r =
    let c = drop i b in
    IsCharBoundary-from_rest b i n h.0 (IsCharBoundary-from_take c n (IsUtf8-drop b i u h) r.fits (text_utf8 lossy t (take n c) (value_is_text lossy c t n r)))

pub boundary_after : (f : Tree → Reading) (b : List ℕ) (l : Bool) (o : Option RepairedText) (i j : ℕ) (r : Reading) → IsCharBoundary b i → TakesNextValue f (input_state b l o i) r (input_state b l o j) → IsCharBoundary b j
boundary_after f b l o i j r h k =
    let e : j ≡ i + k.size = ap (λ (s : InputState). s.index) k.after in
    subst (IsCharBoundary b) (sym e) (after_value l b i k.size k.tree k.utf8 h k.value)

-- a fault lies in the input, or at its end
fault_within : (l : Bool) (limit : ℕ) (b : List ℕ) (row : FaultCode) (k : ℕ) → value_fault l limit b row k → k ≤ length b
fault_within l limit b recursion_limit_exceeded k h = before h.0 h.1 h.2 b k h.3 h.4
fault_within l limit b eof_while_parsing k h = let e = h.0 in omega arith
fault_within l limit b trailing_characters k h = absurd h
fault_within l limit b row k h = before h.0 h.1 h.2.rest b k h.2.bytes h.3

-- memory ran out, or the fault was met
pub met : (b : List ℕ) (l : Bool) (i : ℕ) (m : TextTokensState) (e : Error) → ReadsFrom b l i m → (e ≡ no_memory) ⊎ (m.failed ≡ Some e) → IfSome m.failed (TextFails m.parser)
    → (e ≡ no_memory) ⊎ ValueFaultFrom l 254 i b e.code e.place
met b l i m e r h k = by h
  where
    fault : TextFails m.parser e → (e ≡ no_memory) ⊎ ValueFaultFrom l 254 i b e.code e.place
    fault (inl q) = inl q
    fault (inr q) =
        let v : ValueFaultFrom m.parser.lossy m.parser.limit m.parser.start m.parser.text e.code e.place = (q.offset, q.place, q.in_value) in
        inr (subst (λ (x : Bool). ValueFaultFrom x 254 i b e.code e.place) r.mode
        (subst (λ (n : ℕ). ValueFaultFrom m.parser.lossy n i b e.code e.place) r.limit
        (subst (λ (n : ℕ). ValueFaultFrom m.parser.lossy m.parser.limit n b e.code e.place) r.start
        (subst (λ (y : List ℕ). ValueFaultFrom m.parser.lossy m.parser.limit m.parser.start y e.code e.place) r.text v))))

    by : (e ≡ no_memory) ⊎ (m.failed ≡ Some e) → (e ≡ no_memory) ⊎ ValueFaultFrom l 254 i b e.code e.place
    by (inl q) = inl q
    by (inr q) = fault (subst (λ (o : Option Error). IfSome o (TextFails m.parser)) q k)

pub met_within : (b : List ℕ) (l : Bool) (i : ℕ) (e : Error) → i ≤ length b → (e ≡ no_memory) ⊎ ValueFaultFrom l 254 i b e.code e.place → PlaceIsWithin b e.place
met_within b l i e w (inl q) = subst (λ (x : Error). PlaceIsWithin b x.place) (sym q) tt
met_within b l i e w (inr (k, p, h)) =
    let s = is_there (λ row. value_fault l 254 (drop i b) row k) e.code h in
    let n = fault_within l 254 (drop i b) s.row k s.holds in
    subst (PlaceIsWithin b) (sym p) (place_within b (i + k) (omega (arith, length-drop i b)))

-- what is left has a fault as a value
value_fails : (f : Tree → Reading) (s : InputState) (c : ErrorCode) (p : Place) → IsUtf8 s.text → FaultIsLeft s c p → NextValueFails f s c p s
value_fails f s code.NoMemory p u (k, e, h) = absurd h
value_fails f s code.InvalidUTF8 p u (k, e, h) = absurd h
value_fails f s code.TypeUnmatched p u (k, e, h) = absurd h
value_fails f s code.NumberOutOfRange p u (k, e, h) = absurd h
value_fails f s code.ExpectedNumericKey p u (k, e, h) = absurd h
value_fails f s c p u h = (u, h, refl)

-- that is reported
pub gave_up : (f : Tree → Reading) (b : List ℕ) (l : Bool) (o : Option RepairedText) (i : ℕ) (e : Error) → IsUtf8 b → (e ≡ no_memory) ⊎ ValueFaultFrom l 254 i b e.code e.place
    → NextValueFails f (input_state b l o i) e.code (in_input o e.place) (input_state b l o i)
gave_up f b l o i e u (inl q) = subst (λ (x : Error). NextValueFails f (input_state b l o i) x.code (in_input o x.place) (input_state b l o i)) (sym q) (by o)
  where
    by : (o : Option RepairedText) → NextValueFails f (input_state b l o i) code.NoMemory (in_input o place.None) (input_state b l o i)
    by None = refl
    by (Some r) = refl
gave_up f b l o i e u (inr (k, p, h)) = value_fails f (input_state b l o i) e.code (in_input o e.place) u (k, ap (in_input o) p, h)

-- the tree was refused
pub tree_fails : (f : Tree → Reading) (old : InputState) (c : ErrorCode) (p : Place) (new : InputState) → is_refusal c ≡ true → RefusesNextValue f old c p new → NextValueFails f old c p new
tree_fails f old code.TypeUnmatched p new e r = r
tree_fails f old code.NumberOutOfRange p new e r = r
tree_fails f old code.ExpectedNumericKey p new e r = r
tree_fails f old c p new e r = absurd (cc)

-- where a run of whitespace ends
pub comes_next : (p : ParserState) (b : List ℕ) (i k : ℕ) → b ≡ p.text → i ≡ p.index → (i ≤ k) × (k ≤ length b) → ws (piece b i k) → (k < length b → ¬ (IsWhitespace (get_or b k 0))) → ComesNext p k
comes_next p b i k e f o w s = record {
  order = subst (λ (n : ℕ). n ≤ k) f o.0;
  within = subst (λ (y : List ℕ). k ≤ length y) e o.1;
  space = subst (λ (y : List ℕ). ws (piece y p.index k)) e (subst (λ (n : ℕ). ws (piece b n k)) f w);
  stop = subst (λ (y : List ℕ). k < length y → ¬ (IsWhitespace (get_or y k 0))) e s;
}

-- ---- ends

closing_is_ascii : (k : Kind) → closing k < 128
closing_is_ascii array = omega arith
closing_is_ascii object = omega arith

pub trails_within : (s : ParserState) (b : List ℕ) (e : Error) → s.text ≡ b → TrailsAt s e → PlaceIsWithin b e.place
trails_within s b e t h = let n = h.some in subst (λ (y : List ℕ). PlaceIsWithin y e.place) t (subst (λ (x : Error). PlaceIsWithin s.text x.place) (sym h.reported) (place_within s.text h.at (omega arith)))

pub lacks_within : (k : Kind) (s : ParserState) (b : List ℕ) (e : Error) → s.text ≡ b → LacksEnd s k e → PlaceIsWithin b e.place
lacks_within k s b e t h = subst (λ (y : List ℕ). PlaceIsWithin y e.place) t (subst (λ (x : Error). PlaceIsWithin s.text x.place) (sym h.reported) (place_within s.text h.at h.next.within))

-- after a closing bracket a character begins
pub past_end : (k : Kind) (b t : List ℕ) (i j : ℕ) (p q : ParserState) → p.text ≡ t → IsTextAt b i t → ReadsEnd p k q → j ≡ q.index → IsTextAt b j t
past_end k b t i j p q e h n o =
    let same : p.text ≡ b = e ∙ h.same in
    let byte : ByteAt b n.at (closing k) = subst (λ (y : List ℕ). ByteAt y n.at (closing k)) same n.closes in
    let here : get_or b n.at 0 ≡ closing k = byte.1 in
    let low : get_or b n.at 0 < 128 = omega (arith, closing_is_ascii k) in
    record {
      same = h.same;
      utf8 = h.utf8;
      boundary = subst (IsCharBoundary b) (sym (o ∙ n.after.index)) (IsCharBoundary-after_ascii b n.at h.utf8 byte.0 low);
    }

-- ---- the input

-- where a repaired text is read, and no more than all of it was taken
pub index_within : {X : Type 0} (t : Result X Error) (b r : List ℕ) (i : ℕ) (now : X → List ℕ) → (r ≡ b) × IsOk t → MatchResult t (λ x. IsTextAt b i (now x)) (λ e. Utf8Cause b e.code e.place) → i ≤ length r
index_within (Ok x) b r i now e h = subst (λ (y : List ℕ). i ≤ length y) (sym e.0) h.boundary.0
index_within (Err x) b r i now e h = absurd (cc)

-- what was repaired, where it was, is all that is read
pub of_whole_text : (o : Option (Bor RepairedText)) (t b : List ℕ) → t ≡ b → IfSome o (λ r. r.now.text ≡ t) → IfSome o (λ r. (r.now.text ≡ b) × (true ≡ true))
of_whole_text None t b e h = tt
of_whole_text (Some r) t b e h = (h ∙ e, refl)

-- at its beginning
pub text_begins : (b t : List ℕ) → t ≡ b → IsUtf8 b → IsTextAt b 0 t
text_begins b t e u = record { same = e; utf8 = u; boundary = IsCharBoundary-start b u }

pub checked : {X : Type 0} (b : List ℕ) (r : Result X Error) (now : X → List ℕ) → IfOk r (λ x. now x ≡ b) → IfOk r (λ _. IsUtf8 b) → IfErr r (λ e. Utf8Cause b e.code e.place)
    → MatchResult r (λ x. IsTextAt b 0 (now x)) (λ e. Utf8Cause b e.code e.place)
checked b (Ok x) now e u h = text_begins b (now x) e u
checked b (Err x) now e u h = h
