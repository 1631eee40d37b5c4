use Rattle.std.proofs.lemmas.Bool.{ltb-true}
use Rattle.json_text.proofs.HexEscapes.{usual_to}
use Rattle.json_text.proofs.escape.is_usual.Goals as goal

pub returns : goal.returns
returns c = λ lossy t.
    let m = c.unit_limit.ensures in
    usual_to lossy c.args.bytes.now c.args.at c.code_unit_after.result c.unit_limit.result c.requires c.code_unit_after.ensures m.long m.short (ltb-true _ _ t)
