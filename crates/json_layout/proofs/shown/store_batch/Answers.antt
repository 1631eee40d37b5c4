use Rattle.std.proofs.Common.{◌++◌, ◌∙◌, refl, ap, get_or, take, sym, append-nil, append_assoc, arith}
use Rattle.std.proofs.lemmas.List.{take_all}
use Rattle.json_model.specs.Print.{shown_byte, shown_bytes}
use Rattle.json_layout.proofs.Escapes.{byte_shown}
use Rattle.json_layout.proofs.shown.store_batch.Goals as goal

pub each-init : goal.each-init
each-init c = (omega arith, omega arith, refl, sym (append-nil (take c.args.end c.args.room.now)))

pub each-preserved : goal.each-preserved
each-preserved c = (
  omega (arith, c.each-test.true),
  omega (arith, c.each.invariant.1, c.store_shown-to.ensures.few),
  omega (arith, c.each.invariant.2, c.store_shown-to.auto.room),
  c.store_shown-to.ensures.stored ∙ ap (λ x. x ++ shown_byte (get_or c.args.batch.now c.each.at 0)) c.each.invariant.3
      ∙ append_assoc (take c.args.end c.args.room.now) (shown_bytes (take c.each.at c.args.batch.now)) (shown_byte (get_or c.args.batch.now c.each.at 0))
      ∙ ap (λ x. take c.args.end c.args.room.now ++ x) (byte_shown c.args.batch.now c.each.at c.each-test.true),
)

pub returns-clause-stored : goal.returns-clause-stored
returns-clause-stored c = c.each.invariant.3 ∙ ap (λ x. take c.args.end c.args.room.now ++ shown_bytes x) (take_all c.each.at c.args.batch.now (omega (arith, c.each-test.false)))
