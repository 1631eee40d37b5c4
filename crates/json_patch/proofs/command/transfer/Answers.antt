use Rattle.std.proofs.lemmas.Result.{err_from_is_err_and}
use Rattle.json_patch.specs.Commands.{patch_request_of}
use Rattle.json_patch.proofs.Commands.{reading_fails}
use Rattle.json_patch.proofs.command.transfer.Goals as goal

pub returns-in_err-doc-clause-refused : goal.returns-in_err-doc-clause-refused
returns-in_err-doc-clause-refused g c =
    let p = err_from_is_err_and c.from_residual.result c.from_residual.ensures.1 in
    let h = rw c.usual.ensures at c.in_err-doc.ensures.failed in
    rw (p.1, p.2) (reading_fails (patch_request_of c.args.command.now) _ _ _ _ _ h)
