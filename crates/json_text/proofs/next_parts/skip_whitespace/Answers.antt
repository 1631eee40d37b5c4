use Rattle.json_text.proofs.ReaderSteps.{stood_spaced}
use Rattle.json_text.proofs.next_parts.skip_whitespace.Goals as goal

pub returns-clause-reader : goal.returns-clause-reader
returns-clause-reader c = λ lossy n d ts s. let r = c.ws_end.ensures.ends in stood_spaced lossy n c.args.bytes.now c.args.from c.ws_end.result d c.args.expected ts s r.order r.within r.run
