use Rattle.std.proofs.Common.{arith, sym, ◌∙◌}
use Rattle.mezdruk_files.proofs.CutLines.{IsFront-take, skipped_back}
use Rattle.mezdruk_files.proofs.excerpt.first_bytes.Goals as goal

pub skip-preserved : goal.skip-preserved
skip-preserved c = record {
  few = omega arith;
  cut = skipped_back c.args.bytes.now c.skip.end c.args.max c.skip.invariant.cut (sym c.is_continuation.ensures ∙ c.if-is_continuation.true);
}

pub returns : goal.returns
returns c = IsFront-take c.args.bytes.now c.args.max c.skip.end c.skip.invariant.few (omega arith) c.skip.invariant.cut
