-- What a serializer's state is, and what a step of it does.
use Rattle.std.specs.Prelude.{false, reverse, Option, Result}
use Rattle.json_io.specs.declared.error.Error.{Error}
use Rattle.json_io.specs.Outside.{SinkState}
use Rattle.json_print.specs.declared.serializer.SerializerFailed.{SerializerFailed}
use Rattle.json_print.specs.declared.serializer.Serializer.{Serializer}
use Rattle.json_print.specs.Printer.{SerializerState}
use Rattle.json_print.specs.Steps.{Steps}

-- its open containers have the innermost last
abbrev pub out_of : {W F : Type 0} → (W → SinkState) → Serializer W F → SerializerState F
out_of sink s =
    record { formatter = s.formatter; turn = s.turn; opened = reverse s.opened.items; sorts = s.sorts; layers = reverse s.objects.items; gained = (sink s.writer).gained; faults = (sink s.writer).faults; lacks = (sink s.writer).lacks; loan = (sink s.writer).loan; deep = false }

-- the formatter by whose calls it writes
abbrev pub formatter_of : {W F : Type 0} → Serializer W F → F
formatter_of s = s.formatter

-- the error that it answered
abbrev pub error_of : {W F : Type 0} → Serializer W F → Option Error
error_of s = s.failed

-- it takes this step, or stops on the way and keeps the error
abbrev pub StepsBy : {W F : Type 0} → (W → SinkState) → Serializer W F → Serializer W F → (SerializerState F → SerializerState F) → Result (Unit {0}) SerializerFailed → Type 0
StepsBy sink old new step went = Steps (out_of sink old) (out_of sink new) (step (out_of sink old)) new.failed went
