use Rattle.std.proofs.Common.{inl, inr, refl, sym, subst}
use Rattle.json_grammar.specs.Place.{TakesKey, takes_key, takes_key_or_end}
use Rattle.json_text.proofs.parser.expected.takes_key.Goals as goal

pub returns-in-Key : goal.returns-in-Key
returns-in-Key c = (λ _. elim c.in-Key.is [ inl e ↦ subst TakesKey (sym e) takes_key | inr e ↦ subst TakesKey (sym e) takes_key_or_end ], λ _. refl)
