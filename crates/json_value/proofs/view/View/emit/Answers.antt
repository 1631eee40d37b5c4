use Rattle.json_value.specs.Seen.{seen}
use Rattle.json_value.proofs.GivenTrees.{seen_proper}
use Rattle.json_doc_print.proofs.GivenTokens.{tokens_given}
use Rattle.json_doc_print.proofs.Walking.{answered}
use Rattle.json_value.proofs.view.View.emit.Goals as goal

pub null-requires : goal.null-requires
null-requires g c = λ f. let k = c.in-Err.ensures.1.failed in absurd (cc)

pub returns-in-Err-clause-given : goal.returns-in-Err-clause-given
returns-in-Err-clause-given g c = answered _ _ _ _ _ _ _ c.in-Err.ensures.1 c.null.ensures

pub returns-in-Ok-clause-tokens : goal.returns-in-Ok-clause-tokens
returns-in-Ok-clause-tokens g c = tokens_given (seen c.args.self) (seen_proper c.args.self)

pub returns-in-Err-clause-tokens : goal.returns-in-Err-clause-tokens
returns-in-Err-clause-tokens g c = tokens_given (seen c.args.self) (seen_proper c.args.self)
