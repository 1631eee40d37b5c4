use Rattle.std.proofs.Common.{refl, sym, subst, ◌++◌, ◌∷◌, [], inl, inr}
use Rattle.mezdruk_arguments.specs.CommandLine.{MayTake}
use Rattle.mezdruk_arguments.specs.Line.{HoldsAsked}
use Rattle.mezdruk_arguments.specs.Operands.{IsOperand}
use Rattle.mezdruk_arguments.specs.declared.operand.OperandKind.TheVariants as kind
use Rattle.mezdruk_arguments.proofs.Lines.{on_ok_then, if_err_then}
use Rattle.mezdruk_arguments.proofs.line.ArgumentLine.take_path.Goals as goal

pub returns-clause-ok : goal.returns-clause-ok
returns-clause-ok c =
    let e = c.option_value.ensures in
    on_ok_then c.take_operand.result
    (λ t. λ s h.
    let taken = t s h in
    record {
      may = record { allowed = refl; operand = subst (IsOperand kind.Path) e taken.may.operand };
      holds = subst (λ p. HoldsAsked c.take_operand.new.self (record s { operands = s.operands ++ (kind.Path, p) ∷ [] })) e taken.holds;
    })
    c.take_operand.ensures.ok

pub returns-clause-err : goal.returns-clause-err
returns-clause-err c =
    let e = c.option_value.ensures in
    if_err_then c.take_operand.result
    (λ r t. elim t [ inl m ↦ inl m | inr n ↦ inr (λ s h k. n s h (record { allowed = refl; operand = subst (IsOperand kind.Path) (sym e) k.operand })) ])
    c.take_operand.ensures.err
