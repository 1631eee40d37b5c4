-- What was read of a value.
use Rattle.std.proofs.Common.{◌≡◌, ◌∙◌, ◌⊎◌, inl, inr, [], Bool, true, false, if◌then◌else◌, Some, None, refl, sym, ap, subst, append-nil}
use Rattle.json_grammar.specs.Tree.{Tree, tokens}
use Rattle.json_io.specs.Errors.{no_memory}
use Rattle.json_io.specs.declared.error.Error.{Error}
use Rattle.json_io.specs.declared.error.ErrorCode.{ErrorCode}
use Rattle.json_io.specs.declared.error.ErrorCode.TheVariants as code
use Rattle.json_io.specs.declared.error.Place.{Place}
use Rattle.json_io.specs.declared.error.Place.TheVariants as place
use Rattle.json_tokens.specs.declared.value_tokens.ValueTokens.{ValueTokens}
use Rattle.json_data.specs.Reading.{Reading, refuses}
use Rattle.json_data.specs.Reader.{ReadsTree, StopsReading}
use Rattle.json_tokens.specs.Refusals.{is_refusal}
use Rattle.json_tokens.specs.TokensStates.{WantsValue, over_tree}
use Rattle.json_data.specs.ValueCalls.{TreeReadingFails}
use Rattle.json_tokens.specs.Values.{ValueState, value_state, value_taken, value_tokens_state, state_taken, tokens_state_of, rest_of_tokens, at_begin}
use Rattle.json_data.proofs.Left.{whole_left}

pub wants_value : (a : ValueTokens) (t : Tree) → value_state a ≡ at_begin t → WantsValue (value_tokens_state a)
wants_value a t e = subst (λ (s : ValueState). WantsValue (tokens_state_of s)) (sym e) tt

-- the tree that was taken is the whole
pub read_value : (a b : ValueTokens) (t : Tree) (f : Tree → Reading) (r : Reading) → value_state a ≡ at_begin t → ReadsTree value_taken value_tokens_state f a b r → f t ≡ r
read_value a b t f r e h =
    let g = h.takes.takes.on [] (subst (λ (s : ValueState). state_taken s []) (sym e) (append-nil (tokens t))) in
    let i : over_tree (value_state b).tree ≡ over_tree t = h.takes.moves.input ∙ ap (λ (s : ValueState). over_tree s.tree) e in
    let j : (value_state b).tree ≡ t = cc in
    ap f (sym (whole_left t h.tree (rest_of_tokens (value_state b)) (g ∙ ap tokens j))) ∙ h.answer

refused_value : (f : Tree → Reading) (t : Tree) (c : ErrorCode) (p : Place) → is_refusal c ≡ true → p ≡ place.None → f t ≡ refuses c → TreeReadingFails f t c p
refused_value f t code.TypeUnmatched p e n h = subst (λ (q : Place). TreeReadingFails f t code.TypeUnmatched q) (sym n) h
refused_value f t code.NumberOutOfRange p e n h = subst (λ (q : Place). TreeReadingFails f t code.NumberOutOfRange q) (sym n) h
refused_value f t code.ExpectedNumericKey p e n h = subst (λ (q : Place). TreeReadingFails f t code.ExpectedNumericKey q) (sym n) h
refused_value f t c p e n h = absurd (cc)

failed_is : (b : Bool) (e : Error) → (if b then Some no_memory else None) ≡ Some e → e ≡ no_memory
failed_is true e h = cc
failed_is false e h = absurd (cc)

gave_up : (a : ValueState) (e : Error) → (e ≡ no_memory) ⊎ ((tokens_state_of a).failed ≡ Some e) → e ≡ no_memory
gave_up a e (inl h) = h
gave_up a e (inr h) = failed_is a.failed e h

pub value_fails : (a b : ValueTokens) (t : Tree) (f : Tree → Reading) (e : Error) → value_state a ≡ at_begin t → StopsReading value_taken value_tokens_state f a b e → TreeReadingFails f t e.code e.place
value_fails a b t f e s h = by (is_refusal e.code) refl
  where
    by : (r : Bool) → is_refusal e.code ≡ r → TreeReadingFails f t e.code e.place
    by true i = let q = h.refused i in refused_value f t e.code e.place i (ap (λ (x : Error). x.place) q.0) (read_value a b t f (refuses e.code) s q.1)
    by false i = subst (λ (x : Error). TreeReadingFails f t x.code x.place) (sym (gave_up (value_state b) e (h.gave_up i).cause)) tt
