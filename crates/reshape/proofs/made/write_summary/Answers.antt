use Rattle.std.proofs.Common.{sym, subst, rules}
use Rattle.reshape.specs.Made.{IsSummary}
use Rattle.reshape.proofs.MadeInput.{no_summary, not_written}
use Rattle.reshape.proofs.made.write_summary.Goals as goal

pub returns-in_err-text-clause-refused : goal.returns-in_err-text-clause-refused
returns-in_err-text-clause-refused g c = no_summary c.args.records _ c.from_residual.result c.requires (search rules)

pub returns-clause-refused : goal.returns-clause-refused
returns-clause-refused g c =
    let is = subst (IsSummary c.args.records) (sym c.deref.ensures.value) c.in_ok-text.ensures.ok in
    not_written c.args.records _ _ c.deref.result.now c.write_text.result is c.write_text.ensures.prints c.write_text.ensures.ran_out
