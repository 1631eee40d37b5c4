use Rattle.json_write.proofs.Sending.{text_written}
use Rattle.json_write.proofs.writing.formatted.Goals as goal

pub returns : goal.returns
returns g c =
    record {
      text = λ t indent is laid. text_written g.F.Formatter.form c.args.formatter (g.W.Sink.state c.args.writer) _ _ _ _ _ (g.T.Serialize.datum c.args.value.now) t indent _ is laid
          c.with_formatter-out.ensures.starts c.with_formatter-out.ensures.fresh c.serialize-went.ensures c.into_inner.ensures.written;
    }
