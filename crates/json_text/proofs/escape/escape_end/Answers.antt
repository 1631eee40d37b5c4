use Rattle.std.proofs.Common.{◌+◌, arith, sym, subst}
use Rattle.json_text.specs.declared.escape.Escape.TheVariants.{Done as finished}
use Rattle.json_text.proofs.HexEscapes.{Leads, pair_leads}
use Rattle.json_text.proofs.escape.escape_end.Goals as goal

pub returns-then-is_low-clause-ok : goal.returns-then-is_low-clause-ok
returns-then-is_low-clause-ok c = record {
  order = omega arith;
  within = omega arith;
  leads =
      subst (λ v. Leads v c.args.bytes.now c.args.from (c.args.from + 11) finished) (sym c.if-not-lossy.true)
      (pair_leads c.args.bytes.now c.args.from (omega arith) (c.is_high_half.ensures c.if-is_high_half.true) (c.is_low.ensures.0 c.if-is_low.true));
}
