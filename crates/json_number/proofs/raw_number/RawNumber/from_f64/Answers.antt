use Rattle.std.proofs.Common.{sym, ap, ◌∙◌, subst}
use Rattle.std.specs.Float.{binary64}
use Rattle.std.specs.Float.Parse.{parse_float}
use Rattle.json_grammar.specs.Grammar.{number}
use Rattle.json_number.proofs.Floats.{plain_number, nearest_of}
use Rattle.json_number.proofs.raw_number.RawNumber.from_f64.Goals as goal

pub from_literal-requires : goal.from_literal-requires
from_literal-requires c = plain_number _ c.format_finite.ensures.plain

pub returns-clause-number : goal.returns-clause-number
returns-clause-number c = subst number (sym c.in_ok-from_literal.ensures.ok) (plain_number _ c.format_finite.ensures.plain)

pub returns-clause-nearest : goal.returns-clause-nearest
returns-clause-nearest c = λ n. nearest_of binary64 _ n _ (ap (parse_float binary64) c.in_ok-from_literal.ensures.ok ∙ c.format_finite.ensures.parses)
