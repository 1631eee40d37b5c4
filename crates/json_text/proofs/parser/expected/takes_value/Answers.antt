use Rattle.std.proofs.Common.{inl, inr, refl, sym, subst}
use Rattle.json_grammar.specs.Place.{TakesValue, takes_at_value, takes_first}
use Rattle.json_text.proofs.parser.expected.takes_value.Goals as goal

pub returns-in-Value : goal.returns-in-Value
returns-in-Value c = (λ _. elim c.in-Value.is [ inl e ↦ subst TakesValue (sym e) takes_at_value | inr e ↦ subst TakesValue (sym e) takes_first ], λ _. refl)
