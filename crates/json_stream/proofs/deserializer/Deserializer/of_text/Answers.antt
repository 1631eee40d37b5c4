use Rattle.std.proofs.Common.{sym}
use Rattle.json_stream.proofs.Values.{of_whole_text, text_begins}
use Rattle.json_stream.proofs.deserializer.Deserializer.of_text.Goals as goal

pub invariant_of-result : goal.invariant_of-result
invariant_of-result c =
    let b = c.as_bytes in
    (of_whole_text c.args.repaired c.args.text.now b.result.now (sym b.ensures.value) c.requires, text_begins b.result.now c.args.text.now (sym b.ensures.value) b.ensures.utf8)
