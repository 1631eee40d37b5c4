use Rattle.std.proofs.lemmas.Result.{err_from_is_err_and}
use Rattle.json_write.specs.Elements.{elements_and_end}
use Rattle.json_write.proofs.Elements.{elements_more, element_takes, element_written}
use Rattle.json_write.proofs.Parts.{writes_err, writes_stop, writes_same, writes_then, wrote}
use Rattle.json_write.proofs.tuples.Tuple2RefWriteElements.write.Goals as goal

pub serialize-requires : goal.serialize-requires
serialize-requires g c = λ f. element_takes (c.requires f)

pub returns-in_err-serialize : goal.returns-in_err-serialize
returns-in_err-serialize g c =
    let d = g.A.Serialize.datum c.args.self.now.0.now in let ds = g.R.WriteElements.datums c.args.self.now.1 in
    writes_err (writes_same (writes_stop c.in_err-serialize.ensures (elements_and_end ds)) (elements_more d ds)) (err_from_is_err_and c.from_residual.result c.from_residual.ensures.1)

pub write-requires : goal.write-requires
write-requires g c =
    let w = wrote c.in_ok-serialize.ensures in λ f. element_written g.E.Events.token_state (g.A.Serialize.datum c.args.self.now.0.now) g.met.E.Events.moves (c.requires w.begun) w

pub returns : goal.returns
returns g c =
    let d = g.A.Serialize.datum c.args.self.now.0.now in let ds = g.R.WriteElements.datums c.args.self.now.1 in
    writes_same (writes_then (wrote c.in_ok-serialize.ensures) c.write.ensures) (elements_more d ds)
