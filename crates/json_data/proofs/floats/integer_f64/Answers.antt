use Rattle.std.proofs.Common.{◌∙◌, sym}
use Rattle.json_number.proofs.Doubles.{integer_double}
use Rattle.json_number.proofs.Forms.{reads}
use Rattle.json_data.proofs.floats.integer_f64.Goals as goal

pub returns : goal.returns
returns c = let r = reads c.args.n in c.as_f64.ensures ∙ sym (integer_double _ _ r.0 r.1)
