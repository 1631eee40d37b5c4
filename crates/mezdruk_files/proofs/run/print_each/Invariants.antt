use Rattle.mezdruk_files.specs.Outcomes.{task_of}
use Rattle.mezdruk_files.specs.Running.{Handles}
use Rattle.mezdruk_files.proofs.Handled.{DocumentsLeft}
use Rattle.mezdruk_files.proofs.run.print_each.Given as goal

abbrev pub invariant-loop-document : goal.invariant-loop-document
invariant-loop-document g l =
    Handles (DocumentsLeft (task_of g.C.ValueChange.changed l.job) l.documents l.document-index) l.fn.tally l.tally (g.K.Sink.state l.fn.sink) (g.K.Sink.state l.sink) (g.E.Sink.state l.fn.errs) (g.E.Sink.state l.errs)
