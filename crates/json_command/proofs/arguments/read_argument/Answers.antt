use Rattle.std.proofs.Common.{◌≤◌, length, inl, inr, arith}
use Rattle.json_text.specs.Ruled.{rules_of}
use Rattle.json_command.specs.Input.{max_bytes}
use Rattle.json_command.proofs.Documents.{document_input, no_input}
use Rattle.json_command.proofs.arguments.read_argument.Goals as goal

pub returns-in-Ok-clause-ok : goal.returns-in-Ok-clause-ok
returns-in-Ok-clause-ok c =
    let short : length c.args.argument.now ≤ max_bytes = omega (arith, c.if-argument-gt-MAX_BYTES.false) in
    document_input (rules_of c.usual.result) c.args.argument.now c.in-Ok.doc.value c.usual.ensures short c.in-Ok.ensures.ok

pub returns-in-Err-clause-err : goal.returns-in-Err-clause-err
returns-in-Err-clause-err c =
    let short : length c.args.argument.now ≤ max_bytes = omega (arith, c.if-argument-gt-MAX_BYTES.false) in
    elim c.arguments_error.ensures.either [
      | inl m ↦ inl m
      | inr w ↦ inr (w.0, no_input (rules_of c.usual.result) c.args.argument.now c.in-Err.error.code c.in-Err.error.place c.usual.ensures short c.utf8.argument w.1 c.in-Err.ensures.err)
    ]
