use Rattle.std.proofs.Common.{◌++◌, ◌∙◌, ap, take, arith}
use Rattle.std.proofs.lemmas.List.{take_all}
use Rattle.json_model.specs.Print.{shown_bytes}
use Rattle.json_buffer.proofs.Placed.{run_placed, escape_placed}
use Rattle.json_buffer.proofs.escaping.place_escaped.Goals as goal

pub returns-then-stop-text-clause-placed : goal.returns-then-stop-text-clause-placed
returns-then-stop-text-clause-placed c =
    let run = c.plain_run-stop.ensures.ends in
    run_placed _ _ _ c.args.text.now c.args.at c.runs.end _ c.runs.from c.plain_run-stop.result run.order run.run c.runs.invariant.3 c.place_run.ensures
    ∙ ap (λ x. take c.args.at c.args.buffer.now ++ shown_bytes x) (take_all c.plain_run-stop.result c.args.text.now (omega (arith, c.if-stop-text.true)))

pub runs-preserved : goal.runs-preserved
runs-preserved c =
    let run = c.plain_run-stop.ensures.ends in let i = c.runs.invariant in (
      omega (arith, run.within, c.if-stop-text.false),
      omega (arith, c.place_escape-end.ensures.within, i.1, run.order),
      omega (arith, c.place_escape-end.auto.buffer, c.place_run.auto.buffer, i.2),
      escape_placed _ _ _ c.args.text.now c.args.at _ _ c.plain_run-stop.result (omega (arith, run.within, c.if-stop-text.false))
          (run_placed _ _ _ c.args.text.now c.args.at c.runs.end _ c.runs.from c.plain_run-stop.result run.order run.run i.3 c.place_run.ensures) c.place_escape-end.ensures.placed,
    )
