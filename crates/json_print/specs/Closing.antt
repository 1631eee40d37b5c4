-- The end of a container after its members.
use Rattle.json_grammar.specs.declared.Kind.{Kind}
use Rattle.json_grammar.specs.Place.{outside}
use Rattle.json_print.specs.Calls.{end_call}
use Rattle.json_print.specs.Layouts.{FormatterModel}
use Rattle.json_print.specs.Printer.{SerializerState, call, value_ended}

-- the innermost container is closed, and is a value of the next
abbrev pub closed : {F : Type 0} → FormatterModel F → SerializerState F → Kind → SerializerState F
closed m s k = let a = call m s (end_call k) in value_ended m (record a { opened = outside a.opened })
