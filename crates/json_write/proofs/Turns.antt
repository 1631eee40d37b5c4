-- What may follow the tokens of data.
use Rattle.std.proofs.Common.{ℕ, ◌≡◌, List, [], ◌∷◌, true, Option, Some, sym, ap, subst, ◌∙◌}
use Rattle.json_grammar.specs.declared.Kind.{Kind}
use Rattle.json_grammar.specs.declared.Kind.TheVariants.{Array as array, Object as object}
use Rattle.json_io.specs.declared.error.Error.{Error}
use Rattle.json_grammar.specs.Tree.{begin, key_token}
use Rattle.json_grammar.specs.TokenStates.{TokenState, a_value, state_in, state_after_value, after_token, after_tokens, ValueMayCome, NameMayCome, EndMayCome}
use Rattle.json_grammar.proofs.TokenStates.{after_tree}
use Rattle.json_print.specs.Given.{TokenOrInteger, given, given_tokens, token_of}
use Rattle.json_model.specs.Datum.{Datum}
use Rattle.json_print.specs.Data.{parts, before_gap, keys_have_texts}
use Rattle.json_print.proofs.Data.{whole_tree}
use Rattle.json_print.proofs.Taking.{state_moves}
use Rattle.json_write.proofs.Parts.{Wrote}

-- a datum leads to where a value leads
pub datum_state : (s : TokenState) (d : Datum) → keys_have_texts (parts d) ≡ true → after_tokens s (given_tokens (before_gap (parts d))) ≡ state_after_value s
datum_state s d w = let t = whole_tree d w in ap (after_tokens s) t.spelled ∙ after_tree s t.tree

-- ---- while it is written

abbrev pub Moves : {S : Type 0} → (S → TokenOrInteger → S) → (S → TokenState) → Type 0
Moves {S = S} after token_state = (s : S) (t : TokenOrInteger) → token_state (after s t) ≡ after_token (token_state s) (token_of t)

pub wrote_state : {S : Type 0} {after : S → TokenOrInteger → S} (token_state : S → TokenState) {old new : S} {err failed : Option Error} (d : Datum) → Moves after token_state → Wrote after old new err failed (parts d) → token_state new ≡ state_after_value (token_state old)
wrote_state {after = after} token_state {old = old} d moves w = ap token_state w.state ∙ state_moves after token_state moves old (before_gap (parts d)) ∙ datum_state (token_state old) d w.whole

-- an element or the end of a list may follow, in the containers o
pub record InList (o : List Kind) (s : TokenState) : Type 0 where
  pub is : s ≡ state_in (array ∷ o)

pub list_begun : {S : Type 0} {after : S → TokenOrInteger → S} (token_state : S → TokenState) {old new : S} {err failed : Option Error} → Moves after token_state → Wrote after old new err failed (Some (given (begin array)) ∷ []) → InList (token_state old).opened (token_state new)
list_begun token_state {old = old} moves w = record { is = ap token_state w.state ∙ moves old (given (begin array)) }

pub list_more : {S : Type 0} {after : S → TokenOrInteger → S} (token_state : S → TokenState) {old new : S} {err failed : Option Error} (d : Datum) {o : List Kind} → Moves after token_state → InList o (token_state old) → Wrote after old new err failed (parts d) → InList o (token_state new)
list_more token_state d moves i w = record { is = wrote_state token_state d moves w ∙ ap (λ (s : TokenState). state_after_value s) i.is }

pub list_takes : {o : List Kind} {s : TokenState} → InList o s → ValueMayCome s.expected
list_takes i = subst (λ (z : TokenState). ValueMayCome z.expected) (sym i.is) tt

pub list_ends : {o : List Kind} {s : TokenState} → InList o s → EndMayCome s.expected array
list_ends i = subst (λ (z : TokenState). EndMayCome z.expected array) (sym i.is) tt

-- a key or the end of rows may follow, in the containers o
pub record InRows (o : List Kind) (s : TokenState) : Type 0 where
  pub is : s ≡ state_in (object ∷ o)

-- the value after a key may follow
pub record AtValue (o : List Kind) (s : TokenState) : Type 0 where
  pub is : s ≡ record { opened = object ∷ o; expected = a_value }

pub rows_begun : {S : Type 0} {after : S → TokenOrInteger → S} (token_state : S → TokenState) {old new : S} {err failed : Option Error} → Moves after token_state → Wrote after old new err failed (Some (given (begin object)) ∷ []) → InRows (token_state old).opened (token_state new)
rows_begun token_state {old = old} moves w = record { is = ap token_state w.state ∙ moves old (given (begin object)) }

pub rows_key : {S : Type 0} {after : S → TokenOrInteger → S} (token_state : S → TokenState) {old new : S} {err failed : Option Error} {k : List ℕ} {o : List Kind} → Moves after token_state → InRows o (token_state old) → Wrote after old new err failed (Some (given (key_token k)) ∷ []) → AtValue o (token_state new)
rows_key token_state {old = old} {k = k} moves i w = record { is = ap token_state w.state ∙ moves old (given (key_token k)) ∙ ap (λ (s : TokenState). after_token s (key_token k)) i.is }

pub rows_more : {S : Type 0} {after : S → TokenOrInteger → S} (token_state : S → TokenState) {old new : S} {err failed : Option Error} (d : Datum) {o : List Kind} → Moves after token_state → AtValue o (token_state old) → Wrote after old new err failed (parts d) → InRows o (token_state new)
rows_more token_state d moves i w = record { is = wrote_state token_state d moves w ∙ ap (λ (s : TokenState). state_after_value s) i.is }

pub rows_take : {o : List Kind} {s : TokenState} → InRows o s → NameMayCome s.expected
rows_take i = subst (λ (z : TokenState). NameMayCome z.expected) (sym i.is) tt

pub rows_end : {o : List Kind} {s : TokenState} → InRows o s → EndMayCome s.expected object
rows_end i = subst (λ (z : TokenState). EndMayCome z.expected object) (sym i.is) tt

pub value_takes : {o : List Kind} {s : TokenState} → AtValue o s → ValueMayCome s.expected
value_takes i = subst (λ (z : TokenState). ValueMayCome z.expected) (sym i.is) tt
