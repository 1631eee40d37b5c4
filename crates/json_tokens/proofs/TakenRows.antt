-- The tokens that a source gave so far.
use Rattle.std.proofs.Common.{◌≡◌, ◌∙◌, ℕ, List, [], ◌∷◌, ◌++◌, Bool, Option, Some, None, inl, refl, sym, ap, subst, append_assoc}
use Rattle.std.proofs.lemmas.List.{append_cancel_right}
use Rattle.json_grammar.specs.declared.Kind.{Kind}
use Rattle.json_grammar.specs.declared.ExpectedPart.{ExpectedPart as Place}
use Rattle.json_grammar.specs.Given.{LastEnds}
use Rattle.json_grammar.specs.Grammar.{is_text}
use Rattle.json_grammar.specs.Place.{reading}
use Rattle.json_grammar.specs.Tree.{Tree, Token as Tok, tokens}
use Rattle.json_grammar.proofs.Completing.{place_viable}
use Rattle.json_grammar.proofs.Moves.{reading_space}
use Rattle.json_grammar.proofs.Numbers.{stops}
use Rattle.json_grammar.proofs.Reading.{events_begin, one_place}
use Rattle.json_text.specs.declared.event.Event.{Event}
use Rattle.json_text.specs.Parsing.{ParserState, HasGiven}
use Rattle.json_tokens.specs.Text.{TextTokensState, TakenBefore, text_taken}
use Rattle.json_tokens.specs.Values.{value_state, value_taken, rest_of_tokens}
use Rattle.json_tokens.specs.declared.value_tokens.ValueTokens.{ValueTokens}
use Rattle.json_tokens.proofs.Events.{given_reading}
use Rattle.json_doc.proofs.ValueRecording.{means_one}

-- ---- a text

given_one : (p : ParserState) (ts us : List Tok) → HasGiven p ts → HasGiven p us → ts ≡ us
given_one p ts us h k = (one_place p.lossy (given_reading p ts h) (given_reading p us k)).2

-- one more space, after which a number ends
reading_begins : (lossy : Bool) (b : List ℕ) (c : List Kind) (w : Place) (ts : List Tok) → reading lossy b c w ts → (t : Tree) × (rest : List Tok) × (tokens t ≡ ts ++ rest)
reading_begins lossy b c w ts h =
    let v = place_viable lossy (b ++ 32 ∷ []) c w ts (reading_space lossy (32 ∷ []) (inl refl, tt) h) in
    let text : is_text lossy v.0 (b ++ (32 ∷ v.1)) = subst (is_text lossy v.0) (append_assoc b (32 ∷ []) v.1) v.2 in
    let ends : LastEnds w ts (32 ∷ v.1) = λ d l a e. stops l 32 v.1 (inl (inl refl)) in
    let e = events_begin lossy v.0 (32 ∷ v.1) h ends text in
    (v.0, e.0, e.1)

given_begins : (p : ParserState) (ts : List Tok) → HasGiven p ts → (t : Tree) × (rest : List Tok) × (tokens t ≡ ts ++ rest)
given_begins p ts h = reading_begins p.lossy _ p.open_kinds p.expected ts (given_reading p ts h)

no_last : (x : Tok) (ts : List Tok) (y : Tok) (us : List Tok) → x ∷ ts ≡ y ∷ us → (x ≡ y) × (ts ≡ us)
no_last x ts y us e = (let h : x ≡ y = cc in h, let h : ts ≡ us = cc in h)

some_last : (us : List Tok) (x : Tok) → [] ≡ us ++ x ∷ [] → ⊥
some_last [] x e = cc
some_last (u ∷ us) x e = cc

without_last : (ts us : List Tok) (x : Tok) → ts ++ x ∷ [] ≡ us ++ x ∷ [] → ts ≡ us
without_last [] [] x e = refl
without_last [] (u ∷ us) x e = absurd (some_last us x (no_last x [] u (us ++ x ∷ []) e).1)
without_last (t ∷ ts) [] x e = absurd (some_last ts x (sym (no_last t (ts ++ x ∷ []) x [] e).1))
without_last (t ∷ ts) (u ∷ us) x e =
    let h = no_last t (ts ++ x ∷ []) u (us ++ x ∷ []) e in
    ap (λ (y : Tok). y ∷ ts) h.0 ∙ ap (λ (ys : List Tok). u ∷ ys) (without_last ts us x h.1)

taken_one : (o : Option Event) (p : ParserState) (ts us : List Tok) → TakenBefore o p ts → TakenBefore o p us → ts ≡ us
taken_one None p ts us h k = given_one p ts us h k
taken_one (Some e) p ts us (x, m, h) (y, n, k) =
    without_last ts us x (given_one p (ts ++ x ∷ []) (us ++ x ∷ []) h (subst (λ (z : Tok). HasGiven p (us ++ z ∷ [])) (means_one e y x n m) k))

taken_begins : (o : Option Event) (p : ParserState) (ts : List Tok) → TakenBefore o p ts → (t : Tree) × (rest : List Tok) × (tokens t ≡ ts ++ rest)
taken_begins None p ts h = given_begins p ts h
taken_begins (Some e) p ts (x, m, h) =
    let g = given_begins p (ts ++ x ∷ []) h in
    (g.0, x ∷ g.1, g.2 ∙ append_assoc ts (x ∷ []) g.1)

pub text_one : (s : TextTokensState) (ts us : List Tok) → text_taken s ts → text_taken s us → ts ≡ us
text_one s ts us h k = taken_one s.ahead s.parser ts us h k

pub text_begins : (s : TextTokensState) (ts : List Tok) → text_taken s ts → (t : Tree) × (rest : List Tok) × (tokens t ≡ ts ++ rest)
text_begins s ts h = taken_begins s.ahead s.parser ts h

-- ---- a value

pub value_one : (s : ValueTokens) (ts us : List Tok) → value_taken s ts → value_taken s us → ts ≡ us
value_one s ts us h k = append_cancel_right ts us (rest_of_tokens (value_state s)) (h ∙ sym k)

pub value_begins : (s : ValueTokens) (ts : List Tok) → value_taken s ts → (t : Tree) × (rest : List Tok) × (tokens t ≡ ts ++ rest)
value_begins s ts h = ((value_state s).tree, rest_of_tokens (value_state s), sym h)
