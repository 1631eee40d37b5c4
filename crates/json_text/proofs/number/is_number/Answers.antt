use Rattle.std.proofs.Common.{◌≡◌, ◌==◌, false, length, IsTrue, subst}
use Rattle.json_grammar.specs.Grammar.{number}
use Rattle.json_text.proofs.WholeNumbers.{number_decided, number_refused}
use Rattle.json_text.proofs.number.is_number.Goals as goal

pub returns-in-Ok : goal.returns-in-Ok
returns-in-Ok c =
    let b = c.as_bytes-bytes.result.now in
    let same : b ≡ c.args.text.now = cc in
    subst (λ t. (IsTrue (c.in-Ok.end == length b) → number t) × (number t → IsTrue (c.in-Ok.end == length b))) same (number_decided b c.in-Ok.end c.in-Ok.ensures.ok)

pub returns-in-Err : goal.returns-in-Err
returns-in-Err c =
    let b = c.as_bytes-bytes.result.now in
    let same : b ≡ c.args.text.now = cc in
    subst (λ t. (IsTrue false → number t) × (number t → IsTrue false)) same (number_refused b c.in-Err.field-0 c.in-Err.ensures.err)
