-- What the reader of one value rests on.
use Rattle.std.proofs.Common.{◌≡◌, ◌∙◌, ◌⊎◌, inl, inr, Bool, ℕ, drop, None, Some, ◌≤◌, List, [], ◌∷◌, length, take, sym, ap, subst}
use Rattle.std.proofs.lemmas.List.{nil_from_length}
use Rattle.json_grammar.specs.Tree.{Tree, depth, null, boolean, num, text, list, pairs, Token, tokens}
use Rattle.json_grammar.specs.Place.{reading}
use Rattle.json_grammar.specs.declared.ExpectedPart.TheVariants.{Done as done}
use Rattle.json_grammar.specs.Fault.{reads}
use Rattle.json_grammar.proofs.Closing.{whole_text}
use Rattle.json_io.specs.declared.error.Error.{Error}
use Rattle.json_io.specs.declared.error.ErrorCode.{ErrorCode}
use Rattle.json_io.specs.declared.error.ErrorCode.TheVariants as code
use Rattle.json_io.specs.declared.error.Place.{Place}
use Rattle.json_io.specs.declared.error.Place.TheVariants as place
use Rattle.json_grammar.specs.TokenStates.{TokenState, initial_state}
use Rattle.json_grammar.proofs.TokenStates.{after_tree, place_state, whole_place}
use Rattle.json_text.specs.declared.event.Event.{Event}
use Rattle.json_text.specs.declared.event.Event.TheVariants as event
use Rattle.json_io.specs.Errors.{no_memory}
use Rattle.json_text.specs.Faults.{ValueFaultFrom}
use Rattle.json_text.specs.Parsing.{ParserState, input, consumed, HasGiven, IsWhole, HasRead, SameInput, AdvancesTo}
use Rattle.json_text.proofs.ValueFaults.{value_fault_of}
use Rattle.json_doc.specs.OneValue.{HandedOut, ReadsValue, RefusesValue}
use Rattle.json_doc.specs.Recorded.{Holds}
use Rattle.json_doc.specs.Reading.{FrontFails}
use Rattle.json_doc.specs.declared.document_visitor.DocumentVisitor.{DocumentVisitor}
use Rattle.json_doc.proofs.Keeping.{goes_on, given_begins}
use Rattle.json_doc.proofs.Subtrees.{one_begins}
use Rattle.json_doc.proofs.ValueRecording.{means_one}

some_tokens : (t : Tree) → [] ≡ tokens t → ⊥
some_tokens null e = cc
some_tokens (boolean b) e = cc
some_tokens (num l) e = cc
some_tokens (text s) e = cc
some_tokens (list ts) e = cc
some_tokens (pairs ps) e = cc

-- where nothing was read no value is whole
pub fresh_not_whole : (p : ParserState) → HasGiven p [] → ¬ (IsWhole p)
fresh_not_whole p h (w, c) =
    let b = take h.base (input p) in
    let r = subst (λ k. reading p.lossy b k done []) (nil_from_length p.open_kinds c) (subst (λ s. reading p.lossy b p.open_kinds s []) w h.given.at) in
    let t = whole_text p.lossy b [] r in
    some_tokens t.0 t.2

input_is : (old p : ParserState) → SameInput old p → input p ≡ input old
input_is old p same = ap (λ i. drop i p.text) same.start ∙ ap (drop old.start) same.text

-- ---- the first event

pub first_out : (p q : ParserState) (e : Event) → HasGiven p [] → (e ≡ event.End → IsWhole p) → AdvancesTo p e q → q.failure ≡ None → HandedOut q e
first_out p q e fresh whole goes unfailed =
    let x = goes_on p q e (λ is. fresh_not_whole p fresh (whole is)) goes [] fresh in
    record { token = x.0; means = x.1; begins = one_begins x.0 (given_begins q (x.0 ∷ []) x.2); before = []; given = x.2; unfailed = unfailed }

-- ---- the end, and a fault

-- after the tokens of a tree the parser is done
tree_whole : (p : ParserState) (t : Tree) → HasGiven p (tokens t) → IsWhole p
tree_whole p t h =
    let e = whole_place p.expected p.open_kinds (ap (λ (s : TokenState). s.expected) (sym (place_state h.given.at) ∙ after_tree initial_state t)) in
    (e.0, ap length e.1)

-- the tokens handed out to the end of the value are its own
front_given : (old p q : ParserState) (e : Event) (t : Tree) → HasGiven old [] → (e ≡ event.End → IsWhole old) → AdvancesTo old e p → ReadsValue p e t q → HasGiven q (tokens t)
front_given old p q e t fresh whole goes r =
    let x = goes_on old p e (λ is. fresh_not_whole old fresh (whole is)) goes [] fresh in
    r.goes [] (subst (λ y. HasGiven p (y ∷ [])) (means_one e x.0 r.token x.1 r.means) x.2)

-- the tree of the value, which was read as far as it goes
pub front_read : (old p q : ParserState) (e : Event) (v : DocumentVisitor) → HasGiven old [] → (e ≡ event.End → IsWhole old) → AdvancesTo old e p → SameInput old p → SameInput p q
    → (¬ (IsWhole old) → IsWhole p → HasRead p) → ((IsWhole p → HasRead p) → IsWhole q → HasRead q) → (t : Tree) × ReadsValue p e t q × Holds v (tokens t)
    → (t : Tree) × reads old.lossy (input old) t (consumed q) × (depth t ≤ old.limit) × Holds v (tokens t)
front_read old p q e v fresh whole goes same on first more (t, r, held) =
    let given = front_given old p q e t fresh whole goes r in
    let u = more (first (fresh_not_whole old fresh)) (tree_whole q t given) (tokens t) given in
    (u.0, subst (λ (m : Bool). reads m (input old) u.0 (consumed q)) (on.lossy ∙ same.lossy) (subst (λ (y : List ℕ). reads q.lossy y u.0 (consumed q)) (input_is p q on ∙ input_is old p same) u.1), subst (λ n. depth u.0 ≤ n) (on.limit ∙ same.limit) u.3, subst (λ (us : List Token). Holds v us) u.2 held)

-- after it the parser is done
pub front_whole : (old p q : ParserState) (e : Event) (v : DocumentVisitor) → HasGiven old [] → (e ≡ event.End → IsWhole old) → AdvancesTo old e p → (t : Tree) × ReadsValue p e t q × Holds v (tokens t) → IsWhole q × (q.failure ≡ None)
front_whole old p q e v fresh whole goes (t, r, held) = (tree_whole q t (front_given old p q e t fresh whole goes r), r.unfailed)

-- what is refused is kept
pub front_kept : (q : ParserState) (e : Error) → (e ≡ no_memory) ⊎ RefusesValue q e → (e ≡ no_memory) ⊎ (q.failure ≡ Some e)
front_kept q e (inl m) = inl m
front_kept q e (inr r) = inr r.kept

pub front_fails : (old p : ParserState) (c : ErrorCode) (at : Place) → SameInput old p → ValueFaultFrom p.lossy p.limit p.start p.text c at → FrontFails old c at
front_fails old p c at same h = by c at
    (subst (λ (m : Bool). ValueFaultFrom m old.limit old.start old.text c at) same.lossy
    (subst (λ n. ValueFaultFrom p.lossy n old.start old.text c at) same.limit
    (subst (λ n. ValueFaultFrom p.lossy p.limit n old.text c at) same.start (subst (λ (y : List ℕ). ValueFaultFrom p.lossy p.limit p.start y c at) same.text h))))
  where
    by : (c : ErrorCode) (at : Place) → ValueFaultFrom old.lossy old.limit old.start old.text c at → FrontFails old c at
    by code.NoMemory place.None h = tt
    by c at h = h

pub front_refuses : (old p q : ParserState) (e : Error) → SameInput old p → SameInput p q → RefusesValue q e → FrontFails old e.code e.place
front_refuses old p q e same on r =
    front_fails old q e.code e.place (record { text = on.text ∙ same.text; start = on.start ∙ same.start; lossy = on.lossy ∙ same.lossy; limit = on.limit ∙ same.limit })
    (r.due.offset, r.due.place, value_fault_of q.lossy q.limit (input q) e.code r.due.offset r.due.fault r.in_value)

pub front_gives_up : (old p q : ParserState) (e : Error) → SameInput old p → SameInput p q → (e ≡ no_memory) ⊎ RefusesValue q e → FrontFails old e.code e.place
front_gives_up old p q e same on (inl m) = subst (λ (x : Error). FrontFails old x.code x.place) (sym m) tt
front_gives_up old p q e same on (inr r) = front_refuses old p q e same on r
