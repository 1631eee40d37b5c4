use Rattle.std.proofs.Common.{inl, inr, sym, ◌∙◌}
use Rattle.json_value.specs.Denotes.{tree_of}
use Rattle.mezdruk_arguments.proofs.Operands.{not_operand}
use Rattle.mezdruk_arguments.proofs.operand.read_operand.Goals as goal

pub returns-in-Err-clause-err : goal.returns-in-Err-clause-err
returns-in-Err-clause-err c = elim c.in-Err.ensures.err [ inl m ↦ inl m | inr n ↦ inr (λ o. n o.1.query) ]

pub returns-clause-err : goal.returns-clause-err
returns-clause-err c = inr (not_operand c.args.kind c.args.word.now (tree_of c.in_ok-value.value) c.in_ok-value.ensures.ok (sym c.in_ok-has_form.ensures.ok ∙ c.if-branch.false))
