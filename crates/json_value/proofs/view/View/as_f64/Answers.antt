use Rattle.std.proofs.Common.{◌∙◌}
use Rattle.json_value.proofs.SeenNumbers.{literal_seen, number_double}
use Rattle.json_value.proofs.view.View.as_f64.Goals as goal

pub f64_of-requires : goal.f64_of-requires
f64_of-requires c = literal_seen c.args.self _ c.in_ok-literal-in-None.ensures

pub returns-in-Some : goal.returns-in-Some
returns-in-Some c = c.as_f64.ensures ∙ number_double _ c.in-Some.number c.in-Some.ensures.text
