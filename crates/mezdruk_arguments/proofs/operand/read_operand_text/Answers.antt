use Rattle.std.proofs.Common.{◌≤◌, inl, inr, sym, subst, length, arith}
use Rattle.json_text.specs.Ruled.{rules_of, usual_rules}
use Rattle.json_command.specs.Input.{max_bytes, IsInput}
use Rattle.json_command.proofs.Documents.{document_input, no_input}
use Rattle.mezdruk_arguments.proofs.Lines.{if_ok_then}
use Rattle.mezdruk_arguments.proofs.operand.read_operand_text.Goals as goal

pub returns-in-Ok-clause-ok : goal.returns-in-Ok-clause-ok
returns-in-Ok-clause-ok c =
    let short : length c.args.text.now ≤ max_bytes = omega (arith, c.if-text-gt-MAX_BYTES.false) in
    let input = document_input (rules_of c.usual.result) c.args.text.now c.in-Ok.doc.value c.usual.ensures short c.in-Ok.ensures.ok in
    if_ok_then c.root_value.result (λ v e. subst (IsInput usual_rules c.args.text.now) (sym e) input) c.root_value.ensures.ok

pub returns-in-Err-clause-err : goal.returns-in-Err-clause-err
returns-in-Err-clause-err c =
    let short : length c.args.text.now ≤ max_bytes = omega (arith, c.if-text-gt-MAX_BYTES.false) in
    elim c.text_refusal.ensures [
      | inl m ↦ inl m
      | inr n ↦ inr (no_input (rules_of c.usual.result) c.args.text.now c.in-Err.error.code c.in-Err.error.place c.usual.ensures short c.utf8.text n c.in-Err.ensures.err)
    ]
