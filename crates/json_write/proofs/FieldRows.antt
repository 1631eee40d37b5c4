-- Members that are written in turn.
use Rattle.std.proofs.Common.{◌≡◌, ℕ, List, [], ◌∷◌, ◌++◌, true, Option, Some, None, option_map, refl, sym, ap, subst, ◌∙◌, append_assoc}
use Rattle.json_grammar.specs.declared.Kind.{Kind}
use Rattle.json_grammar.specs.declared.Kind.TheVariants.{Object as object}
use Rattle.json_grammar.specs.Tree.{begin, key_token}
use Rattle.json_grammar.specs.TokenStates.{TokenState, a_value, state_in, after_tokens, ValueMayCome, NameMayCome, EndMayCome}
use Rattle.json_grammar.proofs.TokenStates.{after_append}
use Rattle.json_io.specs.declared.error.Error.{Error}
use Rattle.json_model.specs.Datum.{Datum, Rows, no_rows, row_and, key_of}
use Rattle.json_print.specs.Data.{parts, rows_parts, before_gap, keys_have_texts}
use Rattle.json_print.specs.Given.{TokenOrInteger, given, given_tokens}
use Rattle.json_print.proofs.Data.{before_append}
use Rattle.json_print.proofs.Taking.{tokens_append, state_moves}
use Rattle.json_write.specs.FieldRows.{rows_append, AtKey}
use Rattle.json_write.proofs.Parts.{Wrote, whole_front, whole_back}
use Rattle.json_write.proofs.Turns.{Moves, datum_state}

pub rows_both : (a b : Rows) → rows_parts (rows_append a b) ≡ rows_parts a ++ rows_parts b
rows_both no_rows b = refl
rows_both (row_and k d a) b = ap (λ ps. option_map (λ s. given (key_token s)) (key_of k) ∷ (parts d ++ ps)) (rows_both a b) ∙ ap (λ ps. option_map (λ s. given (key_token s)) (key_of k) ∷ ps) (sym (append_assoc (parts d) (rows_parts a) (rows_parts b)))

two : (s : TokenState) (ps qs : List (Option TokenOrInteger)) → keys_have_texts ps ≡ true → after_tokens s (given_tokens (before_gap (ps ++ qs))) ≡ after_tokens (after_tokens s (given_tokens (before_gap ps))) (given_tokens (before_gap qs))
two s ps qs w = ap (λ gs. after_tokens s (given_tokens gs)) (before_append ps qs w) ∙ ap (after_tokens s) (tokens_append (before_gap ps) (before_gap qs)) ∙ after_append s (given_tokens (before_gap ps)) (given_tokens (before_gap qs))

abbrev Stays : List Kind → List (Option TokenOrInteger) → Type 0
Stays o ps = keys_have_texts ps ≡ true → after_tokens (state_in (object ∷ o)) (given_tokens (before_gap ps)) ≡ state_in (object ∷ o)

one_state : (o : List Kind) (k : Option (List ℕ)) (d : Datum) (qs : List (Option TokenOrInteger)) → Stays o qs → Stays o (option_map (λ s. given (key_token s)) k ∷ (parts d ++ qs))
one_state o None d qs h w = absurd (cc)
one_state o (Some k) d qs h w =
    let m : TokenState = record { opened = object ∷ o; expected = a_value } in
    let f = whole_front (parts d) qs w in two m (parts d) qs f ∙ ap (λ (z : TokenState). after_tokens z (given_tokens (before_gap qs))) (datum_state m d f) ∙ h (whole_back (parts d) qs w)

rows_state : (o : List Kind) (rs : Rows) → Stays o (rows_parts rs)
rows_state o no_rows w = refl
rows_state o (row_and k d rs) w = one_state o (key_of k) d (rows_parts rs) (rows_state o rs) w

-- after members the next one may follow
pub fields_more : {S : Type 0} {after : S → TokenOrInteger → S} (token_state : S → TokenState) {old new : S} {err failed : Option Error} (rs : Rows) → Moves after token_state → AtKey (token_state old) → Wrote after old new err failed (rows_parts rs) → AtKey (token_state new)
fields_more {after = after} token_state {old = old} rs moves i w =
    record { outer = i.outer; is = ap token_state w.state ∙ state_moves after token_state moves old (before_gap (rows_parts rs)) ∙ ap (λ (z : TokenState). after_tokens z (given_tokens (before_gap (rows_parts rs)))) i.is ∙ rows_state i.outer rs w.whole }

pub fields_begun : {S : Type 0} {after : S → TokenOrInteger → S} (token_state : S → TokenState) {old new : S} {err failed : Option Error} → Moves after token_state → Wrote after old new err failed (Some (given (begin object)) ∷ []) → AtKey (token_state new)
fields_begun token_state {old = old} moves w = record { outer = (token_state old).opened; is = ap token_state w.state ∙ moves old (given (begin object)) }

pub key_takes : {s : TokenState} → AtKey s → NameMayCome s.expected
key_takes i = subst (λ (z : TokenState). NameMayCome z.expected) (sym i.is) tt

pub key_ends : {s : TokenState} → AtKey s → EndMayCome s.expected object
key_ends i = subst (λ (z : TokenState). EndMayCome z.expected object) (sym i.is) tt

-- the value after a key
pub after_key : {S : Type 0} {after : S → TokenOrInteger → S} (token_state : S → TokenState) {old new : S} {err failed : Option Error} (k : List ℕ) → Moves after token_state → Wrote after old new err failed (Some (given (key_token k)) ∷ []) → ValueMayCome (token_state new).expected
after_key token_state {old = old} k moves w = subst (λ (z : TokenState). ValueMayCome z.expected) (sym (ap token_state w.state ∙ moves old (given (key_token k)))) tt
