use Rattle.std.proofs.Common.{inl, inr, refl, sym, subst}
use Rattle.json_grammar.specs.declared.Kind.{Kind}
use Rattle.json_grammar.specs.declared.Kind.TheVariants.{Array as array, Object as object}
use Rattle.json_grammar.specs.Place.{TakesEnd, end_first, end_key_or_end, end_done}
use Rattle.json_text.proofs.parser.brackets.may_end.Goals as goal

pub returns-in-First : goal.returns-in-First
returns-in-First c = (
  λ _. subst (λ (k : Kind). TakesEnd k c.args.expected) (sym c.in-Array.is)
      (elim c.in-First.is [ inl e ↦ subst (TakesEnd array) (sym e) end_first | inr e ↦ subst (TakesEnd array) (sym e) end_done ]),
  λ _. refl,
)

pub returns-in-KeyOrEnd : goal.returns-in-KeyOrEnd
returns-in-KeyOrEnd c = (
  λ _. subst (λ (k : Kind). TakesEnd k c.args.expected) (sym c.in-Object.is)
      (elim c.in-KeyOrEnd.is [ inl e ↦ subst (TakesEnd object) (sym e) end_key_or_end | inr e ↦ subst (TakesEnd object) (sym e) end_done ]),
  λ _. refl,
)
