use Rattle.std.proofs.Common.{map}
use Rattle.json_value.specs.Edits.{edit_of}
use Rattle.json_text.specs.Ruled.{rules_of}
use Rattle.reshape.specs.Reshape.{layout_of}
use Rattle.reshape.proofs.KnownEdits.{fit_outcome, fault_outcome, unfit_outcome}
use Rattle.reshape.proofs.engine.reshape_with.Goals as goal

pub returns-clause-complete : goal.returns-clause-complete
returns-clause-complete g c = λ fit. fit_outcome (rules_of c.args.rules) c.read_edit_write.result (map edit_of c.args.edits.now) (layout_of c.args.style) _ _ _ _ c.read_edit_write.ensures.refused fit

pub returns-clause-unfit : goal.returns-clause-unfit
returns-clause-unfit g c = λ number why unfit. unfit_outcome (rules_of c.args.rules) c.read_edit_write.result (map edit_of c.args.edits.now) (layout_of c.args.style) _ _ _ _ number why c.read_edit_write.ensures.done c.read_edit_write.ensures.refused unfit

pub returns-clause-exact : goal.returns-clause-exact
returns-clause-exact g c = λ code place bad. fault_outcome (rules_of c.args.rules) c.read_edit_write.result (map edit_of c.args.edits.now) (layout_of c.args.style) _ _ _ _ code place c.read_edit_write.ensures.done c.read_edit_write.ensures.refused bad
