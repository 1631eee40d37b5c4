use Rattle.std.proofs.Common.{ℕ, List, [], Bool, Ok, Err, OnOk, IfErr, Result, sym, ap, subst}
use Rattle.std.proofs.lemmas.Result.{err_from_is_err_and}
use Rattle.json_io.specs.Outside.{SinkState}
use Rattle.json_io.specs.Transfer.{FlushesAll}
use Rattle.json_io.specs.declared.error.Error.{Error}
use Rattle.json_lines.specs.Rows.{Outcome, HasWithin}
use Rattle.json_lines.specs.Steps.{RunState}
use Rattle.json_lines.specs.Running.{run_state, IsFreshRun, FinishesLines}
use Rattle.json_lines.specs.TopCall.{WritesAllRows, WritesFewerRows}
use Rattle.json_lines.proofs.RunStatus.{WritesFewerRows-none, WritesAllRows-flushed, WritesFewerRows-flush, streams_of, with_sink}
use Rattle.json_lines.proofs.run.write_lines.Goals as goal

flushed : (has : List ℕ → Outcome → Type 0) (strict : Bool) (a c : RunState) (sink : SinkState) (r : Result (Unit {0}) Error) → IsFreshRun a → FinishesLines has strict a c → FlushesAll c.sink sink r → OnOk r (WritesAllRows has strict [] (streams_of a) (with_sink c sink) c.tally)
flushed has strict a c sink (Ok u) fresh run flush = WritesAllRows-flushed has strict a c sink u fresh run flush
flushed has strict a c sink (Err e) fresh run flush = tt

unflushed : (has : List ℕ → Outcome → Type 0) (strict : Bool) (a c : RunState) (sink : SinkState) (r : Result (Unit {0}) Error) → FinishesLines has strict a c → FlushesAll c.sink sink r → IfErr r (λ e. WritesFewerRows has strict [] (streams_of a) (with_sink c sink) c.tally e)
unflushed has strict a c sink (Ok u) run flush = tt
unflushed has strict a c sink (Err e) run flush = WritesFewerRows-flush has strict a c sink e run flush

pub returns-in_err-reader-clause-err : goal.returns-in_err-reader-clause-err
returns-in_err-reader-clause-err g c =
    let p = err_from_is_err_and c.from_residual.result c.from_residual.ensures.1 in
    rw (p.1, p.2) (subst (WritesFewerRows _ _ _ _ _ _) (sym c.in_err-reader.ensures.only) (WritesFewerRows-none _ (g.R.RowWriter.strict c.args.rows.now) _ c.args.tally.now c.requires.unmuted))

pub returns-in-Ok-clause-ok : goal.returns-in-Ok-clause-ok
returns-in-Ok-clause-ok g c =
    let has = g.R.RowWriter.has_outcome c.args.rows.now in
    let limit = ap (λ s. s.limit) c.in_ok-reader.ensures.ok in
    let a = run_state c.in_ok-reader.reader (g.S.Source.state c.args.source.now) (g.K.Sink.state c.args.sink.now) (g.E.Sink.state c.args.errs.now) c.args.tally.now in
    let n = run_state c.write_rows.new.run.reader (g.S.Source.state c.write_rows.new.source) (g.K.Sink.state c.write_rows.new.sink) (g.E.Sink.state c.write_rows.new.errs) c.write_rows.new.tally in
    let fresh : IsFreshRun a = record {
      held = ap (λ s. s.held) c.in_ok-reader.ensures.ok;
      received = ap (λ s. s.received) c.in_ok-reader.ensures.ok;
      going = ap (λ s. s.stopped) c.in_ok-reader.ensures.ok;
      number = c.requires.number;
      good = c.requires.good;
      unmuted = c.requires.unmuted;
    } in
    let strict = g.R.RowWriter.strict c.args.rows.now in
    flushed (HasWithin 1048576 has) strict a n (g.K.Sink.state c.flush_all.new.sink) c.flush_all.result fresh
    (subst (λ m. FinishesLines (HasWithin m has) strict a n) limit c.in-Ok.ensures.ok) c.flush_all.ensures

pub returns-in-Ok-clause-err : goal.returns-in-Ok-clause-err
returns-in-Ok-clause-err g c =
    let has = g.R.RowWriter.has_outcome c.args.rows.now in
    let limit = ap (λ s. s.limit) c.in_ok-reader.ensures.ok in
    let a = run_state c.in_ok-reader.reader (g.S.Source.state c.args.source.now) (g.K.Sink.state c.args.sink.now) (g.E.Sink.state c.args.errs.now) c.args.tally.now in
    let n = run_state c.write_rows.new.run.reader (g.S.Source.state c.write_rows.new.source) (g.K.Sink.state c.write_rows.new.sink) (g.E.Sink.state c.write_rows.new.errs) c.write_rows.new.tally in
    let strict = g.R.RowWriter.strict c.args.rows.now in
    unflushed (HasWithin 1048576 has) strict a n (g.K.Sink.state c.flush_all.new.sink) c.flush_all.result
    (subst (λ m. FinishesLines (HasWithin m has) strict a n) limit c.in-Ok.ensures.ok) c.flush_all.ensures
