use Rattle.std.proofs.Common.{Some, codes, rules}
use Rattle.std.proofs.lemmas.Result.{err_from_is_err_and}
use Rattle.json_model.specs.Print.{shown}
use Rattle.json_io.specs.Outside.{SinkState}
use Rattle.json_write.proofs.Sending.{sent_name, written_through, not_begun}
use Rattle.json_write.proofs.writing.to_writer_pretty.Goals as goal

pub returns-in_err-test_keys : goal.returns-in_err-test_keys
returns-in_err-test_keys g c =
    not_begun (g.K.Sink.state c.args.writer.now) (Some (codes "  ")) (g.T.Serialize.datum c.args.value.now) _ _ (err_from_is_err_and c.from_residual.result c.from_residual.ensures.1) c.in_err-test_keys.ensures.err

-- the returned sink is the borrowed one
pub returns : goal.returns
returns g c =
    let old : SinkState = g.K.Sink.state c.args.writer.now in
    let now : SinkState = g.K.Sink.state c.into_inner-sink.result.now in
    let t = c.in_ok-test_keys.ensures.ok.0 in
    let is = c.in_ok-test_keys.ensures.ok.1 in
    let w = c.formatted-lent.ensures.text t (Some (codes "  ")) is c.new.ensures.laid in
    let name = sent_name old now _ _ _ c.into_inner-sink.result.ghost_name (shown (Some (codes "  ")) 0 t) c.formatted-lent.result.1 c.new-2.ensures.lent w c.into_inner-sink.ensures.back in
    let writes = written_through old now _ _ _ c.into_inner-sink.result.ghost_name (g.T.Serialize.datum c.args.value.now) t (Some (codes "  ")) c.formatted-lent.result.1 is c.new-2.ensures.lent w c.into_inner-sink.ensures.back in
    search (rules, name, writes)
