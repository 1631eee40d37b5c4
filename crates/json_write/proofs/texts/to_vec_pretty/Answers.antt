use Rattle.std.proofs.Common.{Some, codes, refl, ap, inl}
use Rattle.std.proofs.lemmas.Result.{err_from_is_err_and}
use Rattle.json_model.specs.Print.{IsIndent}
use Rattle.json_io.specs.Outside.{SinkState}
use Rattle.json_io.specs.Sinks.{vec_sink_state}
use Rattle.json_print.specs.contracts.pretty.PrettyFormatterFormatter.TheImpl.{ghosts}
use Rattle.json_write.proofs.Refused.{if_err}
use Rattle.json_write.proofs.Printing.{memory_or_refused, text_gained, text_in_vec, text_is_utf8}
use Rattle.json_write.proofs.Parts.{wrote}
use Rattle.json_write.proofs.texts.to_vec_pretty.Goals as goal

two_spaces : IsIndent (Some (codes "  "))
two_spaces = (inl refl, (inl refl, tt))

pub returns-in_err-serialize-clause-err : goal.returns-in_err-serialize-clause-err
returns-in_err-serialize-clause-err g c =
    if_err _ _ _ (err_from_is_err_and c.from_residual.result c.from_residual.ensures.1) (memory_or_refused ghosts.form _ _ _ _ (g.T.Serialize.datum c.args.value.now) _ c.pretty-out.ensures.fresh c.in_err-serialize.ensures refl)

pub returns-clause-ok : goal.returns-clause-ok
returns-clause-ok g c =
    let d = g.T.Serialize.datum c.args.value.now in
    let w : SinkState = vec_sink_state c.new.result in let w' : SinkState = vec_sink_state c.into_inner.result in
    text_in_vec d (Some (codes "  ")) w w' _ (ap (λ (s : SinkState). s.gained) c.new.ensures) (text_gained _ _ _ _ _ d _ w w' (Some (codes "  ")) c.pretty-out.ensures.starts c.pretty-out.ensures.laid c.in_ok-serialize.ensures c.into_inner.ensures.written) c.into_vec.ensures

pub returns-clause-utf8 : goal.returns-clause-utf8
returns-clause-utf8 g c =
    let d = g.T.Serialize.datum c.args.value.now in
    let w : SinkState = vec_sink_state c.new.result in let w' : SinkState = vec_sink_state c.into_inner.result in
    text_is_utf8 d (Some (codes "  ")) w w' _ two_spaces (ap (λ (s : SinkState). s.gained) c.new.ensures) (text_gained _ _ _ _ _ d _ w w' (Some (codes "  ")) c.pretty-out.ensures.starts c.pretty-out.ensures.laid c.in_ok-serialize.ensures c.into_inner.ensures.written) c.into_vec.ensures
    (wrote c.in_ok-serialize.ensures).proper
