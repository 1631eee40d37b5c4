-- A token that is taken where it is found at once.
use Rattle.std.proofs.Common.{◌≡◌, ◌≢◌, ◌∙◌, ◌-◌, ◌^◌, ◌<◌, ◌≤◌, ℕ, Bool, List, [], ◌∷◌, ◌++◌, length, get_or, drop, true, Option, Some, None, refl, ap, sym, subst, arith, length-take, length-drop}
use Rattle.std.proofs.lemmas.Bool.{and_parts}
use Rattle.std.specs.Char.{is_ascii_digit}
use Rattle.std.specs.Str.{all_ascii_digits}
use Rattle.std.specs.Str.Parse.{digits_value}
use Rattle.json_grammar.specs.declared.Kind.{Kind}
use Rattle.json_grammar.specs.declared.Kind.TheVariants.{Array as array, Object as object}
use Rattle.json_grammar.specs.Given.{piece}
use Rattle.json_grammar.specs.Grammar.{chars}
use Rattle.json_grammar.specs.Tree.{Token as Tok, null, null_token, boolean, boolean_token, num, num_token, text, text_token, begin, end}
use Rattle.json_io.specs.declared.error.Error.{Error}
use Rattle.json_text.specs.declared.event.Event.{Event}
use Rattle.json_text.specs.declared.event.Event.TheVariants as event
use Rattle.json_text.specs.Events.{Means}
use Rattle.json_text.specs.Parsing.{ParserState, HasGiven, SameInput, AdvancesTo, IsTight, IsWhole, HasRead}
use Rattle.json_text.specs.Tokens.{begin_event, end_event}
use Rattle.json_text.proofs.Bracketed.{begin_is_event, end_is_event}
use Rattle.json_grammar.specs.TokenStates.{state_in}
use Rattle.json_tokens.specs.TokensStates.{NotWhole, Peeks, TakesOne, TakesTree, TakesInteger, TakesNegative, TakesText, TakesKeyPiece}
use Rattle.json_tokens.specs.Text.{TextTokensState, TakenBefore, state_before, text_taken, text_tokens_state, event_kind, ReadsAhead, IsReadingText}
use Rattle.json_tokens.proofs.Digits.{plain_integer, negative_integer}
use Rattle.json_tokens.proofs.Events.{reads_ahead, whole_over}
use Rattle.json_tokens.proofs.Steps.{scalar}
use Rattle.json_tokens.proofs.TextSteps.{takes_none, takes_next}

abbrev pub clear : ParserState → Option Error → TextTokensState
clear p f = record { parser = p; ahead = None; failed = f }

-- an event was read, and its kind was peeked
pub peeked_ahead : (p q : ParserState) (f : Option Error) (e : Event) → ReadsAhead p e q → Peeks (text_tokens_state (clear p f)) (text_tokens_state (record { parser = q; ahead = Some e; failed = f })) (event_kind e)
peeked_ahead p q f e r =
    let s = r.same in
    let text = s.text in let start = s.start in let lossy = s.lossy in let limit = s.limit in
    let n : length q.text ≡ length p.text = ap length s.text in
    let go = r.forward in
    let state_in = r.inside in
    record {
      input = cc;
      expected = r.expected;
      peeked = refl;
      left = omega arith;
      may = r.may;
      again = λ j h. absurd (cc);
    }

-- an event was read and taken
pub taken_at_once : (p q : ParserState) (f : Option Error) (e : Event) (ts : List Tok) → HasGiven p ts → ReadsAhead p e q
    → (x : Tok) × Means e x × TakesOne text_taken text_tokens_state (clear p f) (clear q f) x
taken_at_once p q f e ts h r = takes_next (clear p f) q f e (event_kind e) (ts, r.goes ts h) (peeked_ahead p q f e r) (takes_none p q f f e r)

some_bytes : (b : List ℕ) (i j : ℕ) (l : List ℕ) → i < j → j ≤ length b → piece b i j ≡ l → 0 < length l
some_bytes b i j l h w e = omega (arith, ap length e, length-take (j - i) (drop i b), length-drop i b)

no_minus : (l : List ℕ) → all_ascii_digits l ≡ true → 0 < length l → get_or l 0 0 ≢ 45
no_minus [] d h = absurd (omega arith)
no_minus (x ∷ l) d h = λ e.
    let p : (is_ascii_digit x ≡ true) × (all_ascii_digits l ≡ true) = and_parts _ _ d in
    let q : is_ascii_digit 45 ≡ true = subst (λ y. is_ascii_digit y ≡ true) e p.0 in
    cc

-- the source goes on after it
pub still_reading : (p q : ParserState) (e : Event) (ts : List Tok) → HasGiven p ts → ReadsAhead p e q → p.start ≤ p.index → (IsWhole q → HasRead q) → IsReadingText (clear q None)
still_reading p q e ts h r o w =
    let g = r.goes ts h in
    let start = r.same.start in
    let more = r.forward in
    record { given = (ts ++ g.0 ∷ [], g.2); failed = tt; fresh = λ _. r.fresh; order = omega arith; read = w }

-- ---- a source that is seen as a, in which no event waits

module _ (a : TextTokensState) (p : ParserState) (o : Option Event) (f : Option Error) (seen : record { parser = p; ahead = o; failed = f } ≡ a) (none : a.ahead ≡ None) where
  unwaiting : o ≡ None
  unwaiting = ap (λ (t : TextTokensState). t.ahead) seen ∙ none

  pub clear_inside : NotWhole (text_tokens_state a) → ¬ (IsWhole p)
  clear_inside h = λ w. h (subst (λ (t : TextTokensState). (text_tokens_state t).expected ≡ state_in []) seen (subst (λ (u : Option Event). state_before u p ≡ state_in []) (sym unwaiting) (whole_over p w)))

  -- it goes on after an event
  pub clear_reading : (q : ParserState) (e : Event) → a.failed ≡ None → IsReadingText (record { parser = p; ahead = o; failed = f })
      → ((ts : List Tok) → HasGiven p ts → ReadsAhead p e q) → (IsWhole q → HasRead q) → IsReadingText (record { parser = q; ahead = o; failed = f })
  clear_reading q e u i r w =
      let h : HasGiven p i.given.0 = subst (λ (v : Option Event). TakenBefore v p i.given.0) unwaiting i.given.1 in
      let g : f ≡ None = ap (λ (t : TextTokensState). t.failed) seen ∙ u in
      subst (λ (v : Option Event). IsReadingText (record { parser = q; ahead = v; failed = f })) (sym unwaiting)
      (subst (λ (v : Option Error). IsReadingText (clear q v)) (sym g) (still_reading p q e i.given.0 h (r i.given.0 h) i.order w))

  -- what is taken from there on
  pub clear_taken : (P : TextTokensState → TextTokensState → Type 0) (q : ParserState) → IsReadingText (record { parser = p; ahead = o; failed = f })
      → ((ts : List Tok) → HasGiven p ts → P (clear p f) (clear q f)) → P a (record { parser = q; ahead = o; failed = f })
  clear_taken P q i t =
      let h : HasGiven p i.given.0 = subst (λ (v : Option Event). TakenBefore v p i.given.0) unwaiting i.given.1 in
      let v : clear p f ≡ a = ap (λ (u : Option Event). record { parser = p; ahead = u; failed = f }) (sym unwaiting) ∙ seen in
      subst (λ (u : Option Event). P a (record { parser = q; ahead = u; failed = f })) (sym unwaiting) (subst (λ (b : TextTokensState). P b (clear q f)) v (t i.given.0 h))

pub number_read : (p q : ParserState) (l : _) (ts : List Tok) → HasGiven p ts → SameInput p q → AdvancesTo p (event.Number l) q → IsTight p (event.Number l) q → q.failure ≡ None → ReadsAhead p (event.Number l) q
number_read p q l ts h s g t f = reads_ahead p q (event.Number l) ts h (λ e. absurd (cc)) s g t f

pub text_read : (p q : ParserState) (l : _) (ts : List Tok) → HasGiven p ts → SameInput p q → AdvancesTo p (event.Str l) q → IsTight p (event.Str l) q → q.failure ≡ None → ReadsAhead p (event.Str l) q
text_read p q l ts h s g t f = reads_ahead p q (event.Str l) ts h (λ e. absurd (cc)) s g t f

pub key_read : (p q : ParserState) (l : _) (ts : List Tok) → HasGiven p ts → SameInput p q → AdvancesTo p (event.Key l) q → IsTight p (event.Key l) q → q.failure ≡ None → ReadsAhead p (event.Key l) q
key_read p q l ts h s g t f = reads_ahead p q (event.Key l) ts h (λ e. absurd (cc)) s g t f

pub integer_taken : (p q : ParserState) (f : Option Error) (l : _) (n : ℕ) (ts : List Tok) → HasGiven p ts → ReadsAhead p (event.Number l) q → IsTight p (event.Number l) q
    → all_ascii_digits l.now ≡ true → n ≡ digits_value 10 l.now → n < 2 ^ 64 → TakesInteger text_taken text_tokens_state (clear p f) (clear q f) n
integer_taken p q f l n ts h r t d v s =
    let x = taken_at_once p q f (event.Number l) ts h r in
    let some : 0 < length l.now = some_bytes q.text t.begins q.index l.now t.order.1 t.within t.bytes in
    record {
      literal = l.now;
      value = plain_integer l.now n (no_minus l.now d some) some d v s;
      takes = scalar (num l.now) (num_token l.now) x.1 refl refl refl x.2;
    }

pub negative_taken : (p q : ParserState) (f : Option Error) (l : _) (n : ℕ) (ts : List Tok) → HasGiven p ts → ReadsAhead p (event.Number l) q
    → get_or l.now 0 0 ≡ 45 → all_ascii_digits (drop 1 l.now) ≡ true → n ≡ digits_value 10 (drop 1 l.now) → 0 < n → n ≤ 2 ^ 63 → TakesNegative text_taken text_tokens_state (clear p f) (clear q f) n
negative_taken p q f l n ts h r m d v s k =
    let x = taken_at_once p q f (event.Number l) ts h r in
    record { literal = l.now; value = negative_integer l.now n m d v s k; takes = scalar (num l.now) (num_token l.now) x.1 refl refl refl x.2 }

-- ---- literals

pub null_read : (p q : ParserState) (ts : List Tok) → HasGiven p ts → SameInput p q → AdvancesTo p event.Null q → IsTight p event.Null q → q.failure ≡ None → ReadsAhead p event.Null q
null_read p q ts h s g t f = reads_ahead p q event.Null ts h (λ e. absurd (cc)) s g t f

pub bool_read : (p q : ParserState) (b : Bool) (ts : List Tok) → HasGiven p ts → SameInput p q → AdvancesTo p (event.Bool b) q → IsTight p (event.Bool b) q → q.failure ≡ None → ReadsAhead p (event.Bool b) q
bool_read p q b ts h s g t f = reads_ahead p q (event.Bool b) ts h (λ e. absurd (cc)) s g t f

pub null_taken : (p q : ParserState) (f : Option Error) (ts : List Tok) → HasGiven p ts → ReadsAhead p event.Null q → TakesTree text_taken text_tokens_state (clear p f) (clear q f) null
null_taken p q f ts h r = let x = taken_at_once p q f event.Null ts h r in scalar null null_token x.1 refl refl refl x.2

pub boolean_taken : (p q : ParserState) (f : Option Error) (b : Bool) (ts : List Tok) → HasGiven p ts → ReadsAhead p (event.Bool b) q → TakesTree text_taken text_tokens_state (clear p f) (clear q f) (boolean b)
boolean_taken p q f b ts h r = let x = taken_at_once p q f (event.Bool b) ts h r in scalar (boolean b) (boolean_token b) x.1 refl refl refl x.2

-- ---- strings

pub text_taken_at_once : (p q : ParserState) (f : Option Error) (l : _) (says : List ℕ → Type 0) (ts : List Tok) → HasGiven p ts → ReadsAhead p (event.Str l) q
    → ((s : List ℕ) → chars l.lossy s l.raw.now → says s) → TakesText text_taken text_tokens_state says (clear p f) (clear q f)
text_taken_at_once p q f l says ts h r k =
    let x = taken_at_once p q f (event.Str l) ts h r in
    record { text = x.1.0; said = k x.1.0 x.1.1; takes = scalar (text x.1.0) (text_token x.1.0) x.1.2 refl refl refl x.2 }

pub key_taken_at_once : (p q : ParserState) (f : Option Error) (l : _) (says : List ℕ → Type 0) (ts : List Tok) → HasGiven p ts → ReadsAhead p (event.Key l) q
    → ((s : List ℕ) → chars l.lossy s l.raw.now → says s) → TakesKeyPiece text_taken text_tokens_state says (clear p f) (clear q f)
key_taken_at_once p q f l says ts h r k =
    let x = taken_at_once p q f (event.Key l) ts h r in
    record { name = x.1.0; said = k x.1.0 x.1.1; takes = subst (λ (y : Tok). TakesOne text_taken text_tokens_state (clear p f) (clear q f) y) x.1.2 x.2 }

-- ---- brackets

pub begin_read : (p q : ParserState) (k : Kind) (ts : List Tok) → HasGiven p ts → SameInput p q → AdvancesTo p (begin_event k) q → IsTight p (begin_event k) q → q.failure ≡ None → ReadsAhead p (begin_event k) q
begin_read p q k ts h s g t f = reads_ahead p q (begin_event k) ts h (begin_is_event k) s g t f

pub end_read : (p q : ParserState) (k : Kind) (ts : List Tok) → HasGiven p ts → SameInput p q → AdvancesTo p (end_event k) q → IsTight p (end_event k) q → q.failure ≡ None → ReadsAhead p (end_event k) q
end_read p q k ts h s g t f = reads_ahead p q (end_event k) ts h (end_is_event k) s g t f

means_begin : (k : Kind) (x : Tok) → Means (begin_event k) x → x ≡ begin k
means_begin array x m = m
means_begin object x m = m

means_end : (k : Kind) (x : Tok) → Means (end_event k) x → x ≡ end k
means_end array x m = m
means_end object x m = m

pub begin_taken : (p q : ParserState) (f : Option Error) (k : Kind) (ts : List Tok) → HasGiven p ts → ReadsAhead p (begin_event k) q → TakesOne text_taken text_tokens_state (clear p f) (clear q f) (begin k)
begin_taken p q f k ts h r =
    let x = taken_at_once p q f (begin_event k) ts h r in
    subst (λ (y : Tok). TakesOne text_taken text_tokens_state (clear p f) (clear q f) y) (means_begin k x.0 x.1) x.2

pub end_taken : (p q : ParserState) (f : Option Error) (k : Kind) (ts : List Tok) → HasGiven p ts → ReadsAhead p (end_event k) q → TakesOne text_taken text_tokens_state (clear p f) (clear q f) (end k)
end_taken p q f k ts h r =
    let x = taken_at_once p q f (end_event k) ts h r in
    subst (λ (y : Tok). TakesOne text_taken text_tokens_state (clear p f) (clear q f) y) (means_end k x.0 x.1) x.2
