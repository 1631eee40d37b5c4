use Rattle.json_tokens.proofs.ahead.plain_piece.Goals as goal

pub invariant_of-result : goal.invariant_of-result
invariant_of-result c = record { spells = c.args.span.spells; marked = λ _. c.in_default.ensures.none }
