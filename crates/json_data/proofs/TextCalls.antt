-- A text that was read, and faults of texts.
use Rattle.std.proofs.Common.{IsUtf8, ◌≡◌, ◌∙◌, ◌<◌, length, get_or, ◌⊎◌, inl, inr, true, Bool, Option, Some, IfSome, ℕ, ◌≤◌, List, [], false, Result, Ok, Err, drop, sym, ap, ap₂, subst}
use Rattle.std.specs.Result.{IsErrAnd, IfErr}
use Rattle.json_grammar.specs.Grammar.{IsWhitespace, ws, is_text}
use Rattle.json_grammar.specs.Given.{piece}
use Rattle.json_io.specs.Positions.{place_at}
use Rattle.json_grammar.specs.Tree.{Tree, Token as Tok, tokens, depth}
use Rattle.json_grammar.proofs.TokensUnique.{tokens_injective}
use Rattle.json_io.specs.declared.error.Error.{Error}
use Rattle.json_io.specs.declared.error.ErrorCode.{ErrorCode}
use Rattle.json_io.specs.declared.error.ErrorCode.TheVariants as code
use Rattle.json_io.specs.declared.error.Place.{Place}
use Rattle.json_io.specs.Errors.{no_memory}
use Rattle.json_tokens.specs.Refusals.{is_refusal}
use Rattle.json_text.specs.Faults.{FaultFrom}
use Rattle.json_text.specs.Parsing.{input}
use Rattle.json_text.proofs.NoText.{fault_at}
use Rattle.json_data.specs.Reading.{Reading, refuses}
use Rattle.json_tokens.specs.TokensStates.{over_text, TakesTree}
use Rattle.json_tokens.specs.Text.{TextTokensState, TextFails, text_taken, text_tokens_state}
use Rattle.json_data.specs.Calls.{ReadsTypedText, TypedReadingFails, ValueBegins}

-- what is read is the same text
pub record SameText (n : ℕ) (b : List ℕ) (m : TextTokensState) : Type 0 where
  pub text : m.parser.text ≡ b
  pub start : m.parser.start ≡ 0
  pub limit : m.parser.limit ≡ n
  pub strict : m.parser.lossy ≡ false

pub same_text : (n : ℕ) (b : List ℕ) (s m : TextTokensState) → s.parser.text ≡ b → (s.parser.start ≡ 0) × (s.parser.limit ≡ n) → s.parser.lossy ≡ false → (text_tokens_state m).input ≡ (text_tokens_state s).input → SameText n b m
same_text n b s m e f g i =
    let text : m.parser.text ≡ s.parser.text = by_text i in
    let start : m.parser.start ≡ s.parser.start = by_start i in
    let limit : m.parser.limit ≡ s.parser.limit = by_limit i in
    record { text = text ∙ e; start = start ∙ f.0; limit = limit ∙ f.1; strict = by_mode i ∙ g }
  where
    by_text : over_text m.parser.text m.parser.start m.parser.lossy m.parser.limit ≡ over_text s.parser.text s.parser.start s.parser.lossy s.parser.limit → m.parser.text ≡ s.parser.text
    by_text i = cc

    by_start : over_text m.parser.text m.parser.start m.parser.lossy m.parser.limit ≡ over_text s.parser.text s.parser.start s.parser.lossy s.parser.limit → m.parser.start ≡ s.parser.start
    by_start i = cc

    by_limit : over_text m.parser.text m.parser.start m.parser.lossy m.parser.limit ≡ over_text s.parser.text s.parser.start s.parser.lossy s.parser.limit → m.parser.limit ≡ s.parser.limit
    by_limit i = cc

    by_mode : over_text m.parser.text m.parser.start m.parser.lossy m.parser.limit ≡ over_text s.parser.text s.parser.start s.parser.lossy s.parser.limit → m.parser.lossy ≡ s.parser.lossy
    by_mode i = cc

pub read_whole : (n : ℕ) (f : Tree → Reading) (b : List ℕ) (s m : TextTokensState) (t : Tree) (r : Reading) → SameText n b m → text_taken s [] → TakesTree text_taken text_tokens_state s m t
    → ((ts : List Tok) → text_taken m ts → (u : Tree) × is_text m.parser.lossy u (input m.parser) × (ts ≡ tokens u) × (depth u ≤ m.parser.limit)) → f t ≡ r → ReadsTypedText n f b r
read_whole n f b s m t r e h k g a =
    let w = g (tokens t) (k.takes.on [] h) in
    let same : w.0 ≡ t = sym (tokens_injective t w.0 w.2) in
    let i : input m.parser ≡ b = ap₂ drop e.start e.text in
    let d : depth t ≤ n = subst (λ (u : Tree). depth u ≤ n) same (subst (λ (i : ℕ). depth w.0 ≤ i) e.limit w.3) in
    (t, subst (λ (u : Tree). is_text false u b) same (subst (λ (v : Bool). is_text v w.0 b) e.strict (subst (λ (y : List ℕ). is_text m.parser.lossy w.0 y) i w.1)), d, a)

fails_at : (n : ℕ) (f : Tree → Reading) (b : List ℕ) (c : ErrorCode) (p : Place) → IsUtf8 b → FaultFrom false n 0 b c p → TypedReadingFails n f b c p
fails_at n f b code.NoMemory p u (k, e, h) = absurd h
fails_at n f b code.TooLarge p u (k, e, h) = absurd h
fails_at n f b code.InvalidUTF8 p u (k, e, h) = absurd h
fails_at n f b code.TypeUnmatched p u (k, e, h) = absurd h
fails_at n f b code.NumberOutOfRange p u (k, e, h) = absurd h
fails_at n f b code.ExpectedNumericKey p u (k, e, h) = absurd h
fails_at n f b code.Io p u (k, e, h) = absurd h
fails_at n f b code.NotFound p u (k, e, h) = absurd h
fails_at n f b code.SerExpectKeyIsStrOrNum p u (k, e, h) = absurd h
fails_at n f b code.BadWords p u (k, e, h) = absurd h
fails_at n f b c p u h = (u, fault_at false n b c p h)

pub text_fails : (n : ℕ) (f : Tree → Reading) (b : List ℕ) (m : TextTokensState) (c : ErrorCode) (p : Place) → SameText n b m → IsUtf8 b → FaultFrom m.parser.lossy m.parser.limit m.parser.start m.parser.text c p → TypedReadingFails n f b c p
text_fails n f b m c p e u h =
    fails_at n f b c p u
    (subst (λ (v : Bool). FaultFrom v n 0 b c p) e.strict
    (subst (λ (i : ℕ). FaultFrom m.parser.lossy i 0 b c p) e.limit
    (subst (λ (i : ℕ). FaultFrom m.parser.lossy m.parser.limit i b c p) e.start (subst (λ (y : List ℕ). FaultFrom m.parser.lossy m.parser.limit m.parser.start y c p) e.text h))))

pub err_is : {X : Type 0} (r : Result X Error) (e : Error) (P : Error → Type 0) → IsErrAnd r (λ x. x ≡ e) → P e → IfErr r P
err_is (Ok x) e P h p = tt
err_is (Err x) e P h p = subst P (sym h) p

-- memory ran out, or the text has the fault that was met
pub failed_fails : (n : ℕ) (f : Tree → Reading) (b : List ℕ) (m : TextTokensState) (e : Error) → SameText n b m → IsUtf8 b → (e ≡ no_memory) ⊎ (m.failed ≡ Some e) → IfSome m.failed (TextFails m.parser) → TypedReadingFails n f b e.code e.place
failed_fails n f b m e s u (inl h) i = subst (λ (x : Error). TypedReadingFails n f b x.code x.place) (sym h) tt
failed_fails n f b m e s u (inr h) i = by (subst (λ (o : Option Error). IfSome o (TextFails m.parser)) h i)
  where
    by : TextFails m.parser e → TypedReadingFails n f b e.code e.place
    by (inl h) = subst (λ (x : Error). TypedReadingFails n f b x.code x.place) (sym h) tt
    by (inr h) = text_fails n f b m e.code e.place s u (h.offset, h.place, h.in_text)

-- a tree that is refused
pub refused_fails : (n : ℕ) (f : Tree → Reading) (b : List ℕ) (c : ErrorCode) (p : Place) → is_refusal c ≡ true → ReadsTypedText n f b (refuses c) → ValueBegins b p → TypedReadingFails n f b c p
refused_fails n f b code.TypeUnmatched p e r v = (r, v)
refused_fails n f b code.NumberOutOfRange p e r v = (r, v)
refused_fails n f b code.ExpectedNumericKey p e r v = (r, v)
refused_fails n f b c p e r v = absurd (cc)

pub value_begins : (y z b : List ℕ) (k : ℕ) (p : Place) → y ≡ b → z ≡ b → ws (piece y 0 k) → (k < length y → ¬ (IsWhitespace (get_or y k 0))) → p ≡ place_at z k → ValueBegins b p
value_begins y z b k p e f h n i =
    (k, subst (λ (x : List ℕ). ws (piece x 0 k)) e h, subst (λ (x : List ℕ). k < length x → ¬ (IsWhitespace (get_or x k 0))) e n, i ∙ ap (λ (x : List ℕ). place_at x k) f)
