use Rattle.std.proofs.Common.{arith}
use Rattle.std.proofs.lemmas.Bool.Decides.{Decides-eqb}
use Rattle.std.proofs.lemmas.Slice.Eq.{slice_eq-Decides}
use Rattle.json_text.proofs.parser.literals.word_is.Goals as goal

pub returns : goal.returns
returns c =
    let d = slice_eq-Decides Decides-eqb _ _ _ c.eq.ensures in (
      λ e. record { order = omega arith; within = omega arith; bytes = d.0 e },
      λ h. d.1 h.bytes,
    )
