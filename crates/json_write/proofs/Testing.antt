-- Keys that are tested.
use Rattle.std.proofs.Common.{◌≡◌, ◌⊎◌, inl, inr, Option, Some, None, Ok, Err, Result, OnOk, IfErr, ◌∙◌}
use Rattle.json_grammar.specs.Tree.{Tree, null_token}
use Rattle.json_grammar.specs.TokenStates.{TokenState}
use Rattle.json_io.specs.declared.error.Error.{Error}
use Rattle.json_io.specs.Errors.{no_memory, key_has_no_text}
use Rattle.json_model.specs.Datum.{Datum, tree_of_datum}
use Rattle.json_print.specs.Data.{parts}
use Rattle.json_print.specs.Given.{TokenOrInteger, given}
use Rattle.json_print.specs.Taking.{Takes}
use Rattle.json_print.proofs.Data.{whole_tree, gap_tree}
use Rattle.json_write.specs.Testing.{state_given, passed, StopsTest}
use Rattle.json_write.specs.Writing.{WritesDatumTokens}
use Rattle.json_write.proofs.Parts.{wrote}
use Rattle.json_write.proofs.Refused.{refused_or}

-- one that is a value
pub as_value : {old new : TokenState} {err err' : Option Error} {r : Result (Unit {0}) Error} (g : TokenOrInteger) → passed old g ≡ state_given old g → Takes passed StopsTest old new err err' (given null_token) r → Takes state_given StopsTest old new err err' g r
as_value {r = Ok u} g e h = record { ok = h.ok ∙ e; fresh = h.fresh; failed = tt; stopped = λ n. tt; again = h.again }
as_value {r = Err x} g e h = record { ok = tt; fresh = tt; failed = h.failed; stopped = h.stopped; again = h.again }

pub tested_ok : (d : Datum) (old new : TokenState) (err failed : Option Error) (r : Result (Unit {0}) Error) → WritesDatumTokens state_given StopsTest old new err failed (parts d) r → OnOk r ((t : Tree) × (tree_of_datum d ≡ Some t))
tested_ok d old new err failed (Ok u) h = let t = whole_tree d (wrote h).whole in (t.tree, t.is)
tested_ok d old new err failed (Err e) h = tt

pub tested_err : (d : Datum) (old new : TokenState) (err failed : Option Error) (r : Result (Unit {0}) Error) → err ≡ None → WritesDatumTokens state_given StopsTest old new err failed (parts d) r → IfErr r (λ e. (e ≡ no_memory) ⊎ ((e ≡ key_has_no_text) × (tree_of_datum d ≡ None)))
tested_err d old new err failed (Ok u) n h = tt
tested_err d old new err failed (Err e) n h = elim (refused_or n h) [ inl q ↦ inr (q.is, gap_tree d q.gap) | inr s ↦ inl s.left ]
