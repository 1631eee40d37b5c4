use Rattle.mezdruk_files.specs.Outcomes.{task_of}
use Rattle.mezdruk_files.proofs.Handled.{Handles-none, Handles-then, Handles-as, StopsRunning-then, documents_none, documents_more, documents_stop, documents_all}
use Rattle.mezdruk_files.proofs.TextWriting.{reported_then}
use Rattle.mezdruk_files.proofs.run.print_each.Goals as goal

pub loop-document-init : goal.loop-document-init
loop-document-init g c = Handles-none _ c.args.tally.now _ _ (documents_none (task_of g.C.ValueChange.changed c.args.job.now) c.args.documents.now)

pub loop-document-preserved : goal.loop-document-preserved
loop-document-preserved g c =
    Handles-then _ _ _ _ _ _ _ _ _ _ _ _ c.loop-document.invariant c.in-Ok.ensures.ok
    (documents_more (task_of g.C.ValueChange.changed c.args.job.now) c.args.documents.now c.loop-document.document-index _ c.loop-document-test.true c.document-item.is)

pub returns-in-Err-clause-err : goal.returns-in-Err-clause-err
returns-in-Err-clause-err g c =
    StopsRunning-then _ _ _ _ _ _ _ _ _ _ _ _ c.in-Err.error c.loop-document.invariant c.in-Err.ensures.err
    (documents_stop (task_of g.C.ValueChange.changed c.args.job.now) c.args.documents.now c.loop-document.document-index _ c.loop-document-test.true c.document-item.is)

pub returns-in-Err-clause-reported : goal.returns-in-Err-clause-reported
returns-in-Err-clause-reported g c = reported_then (g.K.Sink.state c.args.sink.now) (g.K.Sink.state c.loop-document.sink) (g.K.Sink.state c.handle_document.new.sink) _ tt _ c.loop-document.invariant.output c.in-Err.ensures.reported

pub returns-clause-ok : goal.returns-clause-ok
returns-clause-ok g c =
    Handles-as _ _ _ _ _ _ _ _ c.loop-document.invariant (documents_all (task_of g.C.ValueChange.changed c.args.job.now) c.args.documents.now c.loop-document.document-index c.loop-document-test.false)

pub returns-clause-reported : goal.returns-clause-reported
returns-clause-reported g c = c.loop-document.invariant.output.reported
