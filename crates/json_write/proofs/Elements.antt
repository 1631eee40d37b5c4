-- Elements of an array that are written in turn.
use Rattle.std.proofs.Common.{◌≡◌, List, [], ◌∷◌, ◌++◌, Option, Some, sym, ap, subst, ◌∙◌, append_assoc}
use Rattle.json_grammar.specs.declared.Kind.{Kind}
use Rattle.json_grammar.specs.declared.Kind.TheVariants.{Array as array}
use Rattle.json_grammar.specs.Tree.{begin, end}
use Rattle.json_grammar.specs.TokenStates.{TokenState, state_in, state_after_value, ValueMayCome, EndMayCome}
use Rattle.json_io.specs.declared.error.Error.{Error}
use Rattle.json_model.specs.Datum.{Datum, list_data}
use Rattle.json_print.specs.Data.{parts, data_parts}
use Rattle.json_print.specs.Given.{TokenOrInteger, given}
use Rattle.json_write.specs.Elements.{elements_and_end}
use Rattle.json_write.proofs.Parts.{Wrote}
use Rattle.json_write.proofs.Turns.{Moves, wrote_state}

-- an element of an array, and then the others and the end
pub elements_more : (d : Datum) (ds : List Datum) → parts d ++ elements_and_end ds ≡ elements_and_end (d ∷ ds)
elements_more d ds = sym (append_assoc (parts d) (data_parts (list_data ds)) (Some (given (end array)) ∷ []))

-- where an element may come or the end of an array, an element may come
pub element_takes : {s : TokenState} → (outer : List Kind) × (s ≡ state_in (array ∷ outer)) → ValueMayCome s.expected
element_takes p = subst (λ (z : TokenState). ValueMayCome z.expected) (sym p.1) tt

-- and so may the end
pub element_ends : {s : TokenState} → (outer : List Kind) × (s ≡ state_in (array ∷ outer)) → EndMayCome s.expected array
element_ends p = subst (λ (z : TokenState). EndMayCome z.expected array) (sym p.1) tt

-- after the beginning of an array
pub elements_begun : {S : Type 0} {after : S → TokenOrInteger → S} (token_state : S → TokenState) {old new : S} {err failed : Option Error} → Moves after token_state → Wrote after old new err failed (Some (given (begin array)) ∷ [])
    → (outer : List Kind) × (token_state new ≡ state_in (array ∷ outer))
elements_begun token_state {old = old} moves w = ((token_state old).opened, ap token_state w.state ∙ moves old (given (begin array)))

-- and after an element
pub element_written : {S : Type 0} {after : S → TokenOrInteger → S} (token_state : S → TokenState) {old new : S} {err failed : Option Error} (d : Datum) → Moves after token_state
    → (outer : List Kind) × (token_state old ≡ state_in (array ∷ outer)) → Wrote after old new err failed (parts d) → (outer : List Kind) × (token_state new ≡ state_in (array ∷ outer))
element_written token_state d moves i w = (i.0, wrote_state token_state d moves w ∙ ap (λ (s : TokenState). state_after_value s) i.1)
