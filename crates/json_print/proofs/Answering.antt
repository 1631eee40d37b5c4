-- A call of a serializer that stopped.
use Rattle.std.proofs.Common.{◌≡◌, ◌∙◌, ap, Option, None, Result, Err, false}
use Rattle.json_io.specs.declared.error.Error.{Error}
use Rattle.json_print.specs.Given.{TokenOrInteger}
use Rattle.json_print.specs.Layouts.{FormatterModel}
use Rattle.json_print.specs.Printer.{SerializerState, StopsTaking, took}
use Rattle.json_print.specs.Steps.{StopsShort, kept_result}
use Rattle.json_print.specs.Taking.{Takes}

pub answered : {F : Type 0} (m : FormatterModel F) (old new : SerializerState F) (g : TokenOrInteger) (failed failed' : Option Error) (r : Result (Unit {0}) Error) → failed ≡ None → old.deep ≡ false → StopsShort old new (took m old g) failed' → r ≡ kept_result failed'
    → Takes (took m) (StopsTaking m) old new failed failed' g r
answered m old new g failed failed' r n d h e =
    let refused : r ≡ Err h.error = e ∙ ap kept_result h.kept in
    rw (n, refused) (record { ok = tt; fresh = tt; failed = h.kept; stopped = λ _. (d, h.stops); again = tt })
