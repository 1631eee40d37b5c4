use Rattle.std.proofs.Common.{◌∙◌, sym}
use Rattle.std.proofs.Output.{has_written_of_eq}
use Rattle.json_layout.proofs.Escapes.{unit_text}
use Rattle.json_layout.proofs.quoted.write_escape.Goals as goal

pub returns-in-None : goal.returns-in-None
returns-in-None g c plain ok =
    let w = rw (c.laid_out.ensures, c.in_radix.ensures) at c.write.ensures.writes in
    has_written_of_eq _ _ _ _ _ (unit_text c.args.byte c.ranges.byte.fits ∙ sym c.in-None.ensures) (w plain ok)
