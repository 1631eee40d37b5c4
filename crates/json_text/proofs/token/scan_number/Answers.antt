use Rattle.std.proofs.Common.{ap, length, ◌++◌, ◌∷◌, [], subst, sym, refl}
use Rattle.json_grammar.specs.Tree.{num_token}
use Rattle.json_grammar.specs.declared.ExpectedPart.TheVariants as ExpectedPart
use Rattle.json_text.specs.declared.event.Event.TheVariants as event
use Rattle.json_io.specs.declared.error.ErrorCode.TheVariants as code
use Rattle.json_text.specs.Numbers.{NumberTo, StopsAt}
use Rattle.json_text.specs.Literals.{RefusesLiteral}
use Rattle.json_text.specs.Faults.{IsFault}
use Rattle.json_text.specs.Due.{TokenNeeds}
use Rattle.json_text.specs.Readers.{ReaderAt}
use Rattle.json_text.proofs.ReaderSteps.{before}
use Rattle.json_text.proofs.Tokens.{stood_number, number_cut, tight_number}
use Rattle.json_text.proofs.TokenFaults.{number_refused}
use Rattle.json_text.proofs.Needing.{needs_number}
use Rattle.json_text.proofs.token.scan_number.Goals as goal

pub range-requires-clause-end_boundary : goal.range-requires-clause-end_boundary
range-requires-clause-end_boundary c =
    number_cut c.args.text.now c.args.at c.in-Ok.end c.utf8.text c.requires.0 c.requires.1 (subst (λ b. NumberTo b c.args.at c.in-Ok.end) c.as_bytes-bytes.ensures.value c.in-Ok.ensures.ok)

pub returns-in-Ok-clause-ok : goal.returns-in-Ok-clause-ok
returns-in-Ok-clause-ok c = λ lossy l d w t ts s.
    let b = c.args.text.now in
    let n = subst (λ b. NumberTo b c.args.at c.in-Ok.end) c.as_bytes-bytes.ensures.value c.in-Ok.ensures.ok in (
      num_token c.range.result.now,
      refl,
      subst (λ o. ReaderAt lossy l b c.in-Ok.end d ExpectedPart.Done (ts ++ num_token o ∷ [])) (sym c.range.ensures.value) (stood_number lossy l b c.args.at c.in-Ok.end d w ts s t n),
    )

pub returns-in-Err-clause-err : goal.returns-in-Err-clause-err
returns-in-Err-clause-err c = λ lossy l d w ts t s.
    let b = c.args.text.now in
    let n = subst (λ b. StopsAt b c.args.at c.in-Err.stop) c.as_bytes-bytes.ensures.value c.in-Err.ensures.err in
    let r = subst (λ b. RefusesLiteral b code.InvalidNumber c.refuse.result.code c.in-Err.stop) c.as_bytes-bytes.ensures.value c.refuse.ensures.code in
    subst (λ k. IsFault lossy l b c.refuse.result.code k) (sym c.refuse.ensures.place) (number_refused lossy l b c.args.at c.in-Err.stop d w ts c.refuse.result.code (before lossy l b c.args.at d w ts s) t n r)

pub returns-in-Ok-clause-tight : goal.returns-in-Ok-clause-tight
returns-in-Ok-clause-tight c lossy =
    tight_number lossy c.args.text.now c.args.at c.in-Ok.end (event.Number c.range.result) (ap length c.range.ensures.value) c.range.ensures.value (subst (λ b. NumberTo b c.args.at c.in-Ok.end) c.as_bytes-bytes.ensures.value c.in-Ok.ensures.ok) tt

pub returns-in-Err-clause-needs : goal.returns-in-Err-clause-needs
returns-in-Err-clause-needs c lossy =
    let b = c.args.text.now in
    let n = subst (λ b. StopsAt b c.args.at c.in-Err.stop) c.as_bytes-bytes.ensures.value c.in-Err.ensures.err in
    let r = subst (λ b. RefusesLiteral b code.InvalidNumber c.refuse.result.code c.in-Err.stop) c.as_bytes-bytes.ensures.value c.refuse.ensures.code in
    subst (λ k. TokenNeeds lossy b c.args.at c.refuse.result.code k) (sym c.refuse.ensures.place) (needs_number lossy b c.args.at c.in-Err.stop c.refuse.result.code n r)
