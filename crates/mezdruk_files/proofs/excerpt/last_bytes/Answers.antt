use Rattle.std.proofs.Common.{arith, sym, ◌∙◌, length, ◌-◌}
use Rattle.mezdruk_files.proofs.CutLines.{IsBack-drop, skipped_on}
use Rattle.mezdruk_files.proofs.excerpt.last_bytes.Goals as goal

pub skip-preserved : goal.skip-preserved
skip-preserved c = record {
  few = omega arith;
  within = omega arith;
  cut = skipped_on c.args.bytes.now (length c.args.bytes.now - c.args.max) c.skip.start c.skip.invariant.cut (sym c.is_continuation.ensures ∙ c.if-is_continuation.true);
}

pub returns : goal.returns
returns c = IsBack-drop c.args.bytes.now c.args.max c.skip.start c.skip.invariant.few c.skip.invariant.within (omega arith) c.skip.invariant.cut
