use Rattle.std.proofs.Common.{inl, refl}
use Rattle.std.proofs.lemmas.Result.{err_from_is_err_and}
use Rattle.json_patch.specs.Commands.{patch_request_of, WritesOutcome}
use Rattle.json_patch.proofs.Commands.{asked_few, done_for, fails_for}
use Rattle.json_patch.proofs.run.perform_command.Goals as goal

pub transfer-requires : goal.transfer-requires
transfer-requires g c = record { few = asked_few c.args.arguments.now (patch_request_of c.in_ok-command.command) c.in_ok-command.ensures.ok }

pub returns-in_err-command-clause-refused : goal.returns-in_err-command-clause-refused
returns-in_err-command-clause-refused g c =
    let p = err_from_is_err_and c.from_residual.result c.from_residual.ensures.1 in
    rw (p.1, p.2) (inl (c.in_err-command.ensures.err, refl, refl))

pub returns-clause-done : goal.returns-clause-done
returns-clause-done g c =
    done_for c.transfer.result c.args.arguments.now (patch_request_of c.in_ok-command.command)
    (λ r. WritesOutcome r (g.S.Source.state c.args.source.now) (g.S.Source.state c.transfer.new.source) (g.K.Sink.state c.args.sink.now) (g.K.Sink.state c.transfer.new.sink))
    c.in_ok-command.ensures.ok c.transfer.ensures.done

pub returns-clause-refused : goal.returns-clause-refused
returns-clause-refused g c =
    fails_for c.transfer.result c.args.arguments.now (patch_request_of c.in_ok-command.command) (g.S.Source.state c.args.source.now) (g.S.Source.state c.transfer.new.source) (g.K.Sink.state c.args.sink.now) (g.K.Sink.state c.transfer.new.sink)
    c.in_ok-command.ensures.ok c.transfer.ensures.refused
