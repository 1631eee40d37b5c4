-- The calls that a serializer makes.
use Rattle.std.specs.Prelude.{true}
use Rattle.std.specs.Fmt.{decimal, signed_decimal}
use Rattle.json_print.specs.declared.part.Part.{Part}
use Rattle.json_print.specs.declared.part.Part.TheVariants.{Null, Bool, Int, Uint, Number, Text, Begin, End, BeginElement, EndElement, BeginKey, EndKey, BeginMember, EndMember}
use Rattle.json_print.specs.Calls.{FormatterCall, null_call, boolean_call, number_call, string_call, begin_call, end_call, begin_element, end_element, begin_key, end_key, begin_member, end_member}

abbrev pub meaning : Part → FormatterCall
meaning Null = null_call
meaning (Bool b) = boolean_call b
meaning (Int n) = number_call (signed_decimal n)
meaning (Uint n) = number_call (decimal n)
meaning (Number l) = number_call l.now
meaning (Text s) = string_call true s.now
meaning (Begin k) = begin_call k
meaning (End k) = end_call k
meaning (BeginElement first) = begin_element first
meaning EndElement = end_element
meaning (BeginKey first) = begin_key first
meaning EndKey = end_key
meaning BeginMember = begin_member
meaning EndMember = end_member
