use Rattle.std.proofs.Common.{sym, ap, ◌∙◌}
use Rattle.json_query.specs.TextStates.{is_name_class}
use Rattle.json_query.proofs.TextParts.{name_ends_at}
use Rattle.json_query.proofs.parse.next_name_char.Goals as goal

pub returns-else-is_name_class : goal.returns-else-is_name_class
returns-else-is_name_class c = name_ends_at c.in-Some.c c.args.text.now c.in-Some.rest.now c.in-Some.ensures (ap is_name_class (sym c.class_of.ensures) ∙ sym c.is_name_class.ensures ∙ c.if-is_name_class.false)
