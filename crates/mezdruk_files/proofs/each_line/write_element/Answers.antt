use Rattle.std.proofs.Common.{subst}
use Rattle.mezdruk_files.specs.Outcomes.{line_in}
use Rattle.mezdruk_files.specs.Writing.{WritesOutput}
use Rattle.json_value.specs.Seen.{seen}
use Rattle.mezdruk_files.proofs.EachLine.{none_begun}
use Rattle.mezdruk_files.proofs.each_line.write_element.Goals as goal

pub returns-in-Err : goal.returns-in-Err
returns-in-Err g c = none_begun (line_in c.args.raw c.args.style (seen c.args.element)) (g.K.Sink.state c.args.sink.now) c.in-Err.error c.in-Err.ensures.only

pub returns-in-Ok : goal.returns-in-Ok
returns-in-Ok g c =
    subst (λ t. WritesOutput (g.K.Sink.state c.args.sink.now) (g.K.Sink.state c.write_line.new.sink) (line_in c.args.raw c.args.style t) c.write_line.result) c.in-Ok.ensures.tree c.write_line.ensures
