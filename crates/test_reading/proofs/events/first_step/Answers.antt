use Rattle.std.proofs.Common.{[], false, sym, subst}
use Rattle.json_grammar.specs.declared.ExpectedPart.TheVariants.{Value as at_value}
use Rattle.json_text.specs.Readers.{ReaderAt}
use Rattle.json_text.proofs.ReaderSteps.{stood_start}
use Rattle.test_reading.proofs.events.first_step.Goals as goal

pub step-requires-clause-given : goal.step-requires-clause-given
step-requires-clause-given c = let b = c.args.text.now in ([], subst (λ k. ReaderAt false 254 b 0 k at_value []) (sym c.new.ensures) (stood_start false 254 b))
