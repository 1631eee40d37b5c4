use Rattle.std.proofs.Common.{sym, subst}
use Rattle.json_query.specs.Reading.{ClassAt}
use Rattle.json_query.proofs.TextChars.{class_at_char}
use Rattle.json_query.proofs.cursor.split_class.Goals as goal

pub returns-in-Some : goal.returns-in-Some
returns-in-Some c = subst (λ k. ClassAt k c.args.text.now c.in-Some.rest.now) (sym c.class_of.ensures) (class_at_char c.in-Some.c c.args.text.now c.in-Some.rest.now c.in-Some.ensures)
