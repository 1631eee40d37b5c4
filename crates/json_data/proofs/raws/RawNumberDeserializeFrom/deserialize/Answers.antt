use Rattle.std.proofs.Common.{◌≡◌, ◌∙◌, inl, inr, Bool, true, false, ℕ, List, ap, sym, subst, refl}
use Rattle.json_grammar.specs.Grammar.{number}
use Rattle.json_grammar.specs.NumberStates.{at_start, number_run}
use Rattle.json_grammar.specs.Tree.{num, text}
use Rattle.json_grammar.proofs.NumberRuns.{number_ends}
use Rattle.json_grammar.proofs.NumberScan.{ended_whole}
use Rattle.json_model.specs.Datum.{literal_datum}
use Rattle.json_number.specs.Numbers.{text_of_number}
use Rattle.json_number.specs.Tests.{is_number_text}
use Rattle.json_number.proofs.Literals.{number_from_test}
use Rattle.json_io.specs.declared.error.Error.{Error}
use Rattle.json_io.specs.declared.error.ErrorCode.TheVariants.{TypeUnmatched}
use Rattle.json_data.specs.Reading.{gives, refuses, read_literal}
use Rattle.json_tokens.proofs.Steps.{peek_tree}
use Rattle.json_data.proofs.Exits.{mismatch}
use Rattle.json_data.proofs.raws.RawNumberDeserializeFrom.deserialize.Goals as goal

text_taken : (s : List ℕ) → number s → read_literal (text s) ≡ gives (literal_datum s)
text_taken s n = let e : is_number_text s ≡ true = ended_whole (number_run at_start s) (number_ends s n) in rw e

text_refused : (s : List ℕ) → ¬ (number s) → read_literal (text s) ≡ refuses TypeUnmatched
text_refused s n = by (is_number_text s) refl
  where
    by : (b : Bool) → is_number_text s ≡ b → read_literal (text s) ≡ refuses TypeUnmatched
    by true e = absurd (n (number_from_test s e))
    by false e = rw e

pub returns-then-eq-clause-ok : goal.returns-then-eq-clause-ok
returns-then-eq-clause-ok g c =
    let n = c.in_ok-n.n in
    record { tree = num (text_of_number n); takes = peek_tree c.in_ok-kind.ensures.ok c.in_ok-kind.ensures.none c.in_ok-n.ensures.ok; answer = ap (λ (s : List ℕ). gives (literal_datum s)) (sym c.in_ok-raw.ensures.ok) }

pub returns-then-eq-2-clause-ok : goal.returns-then-eq-2-clause-ok
returns-then-eq-2-clause-ok g c =
    let l = g.S.InputStr.bytes c.in_ok-literal.literal in
    record { tree = num l; takes = peek_tree c.in_ok-kind.ensures.ok c.in_ok-kind.ensures.none c.in_ok-literal.ensures.ok; answer = ap (λ (s : List ℕ). gives (literal_datum s)) (sym (c.in_ok-raw-2.ensures.ok ∙ c.as_text.ensures)) }

pub returns-in-Ok-clause-ok : goal.returns-in-Ok-clause-ok
returns-in-Ok-clause-ok g c =
    let t = c.in_ok-piece.ensures.ok in
    let e : c.as_str.result.now ≡ t.0 = c.as_str.ensures.value ∙ sym (c.in_ok-text.ensures.ok t.0 t.1) in
    let n : number t.0 = subst number e c.in-Ok.ensures.number in
    record {
      tree = text t.0;
      takes = peek_tree c.in_ok-kind.ensures.ok c.in_ok-kind.ensures.none t.2;
      answer = text_taken t.0 n ∙ ap (λ (s : List ℕ). gives (literal_datum s)) (sym (c.in-Ok.ensures.ok ∙ e));
    }

pub returns-clause-err : goal.returns-clause-err
returns-clause-err g c =
    let t = c.in_ok-piece.ensures.ok in
    let e : c.as_str.result.now ≡ t.0 = c.as_str.ensures.value ∙ sym (c.in_ok-text.ensures.ok t.0 t.1) in
    let n : ¬ (number t.0) = elim c.in-Err.ensures.err [ inl x ↦ subst (λ (s : List ℕ). ¬ (number s)) e x.1 | inr x ↦ absurd (c.in_default.not-NoMemory (ap (λ (z : Error). z.code) x.0)) ] in
    mismatch c.error_without_place-in_default.ensures (peek_tree c.in_ok-kind.ensures.ok c.in_ok-kind.ensures.none t.2) (text_refused t.0 n)
