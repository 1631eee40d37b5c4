use Rattle.std.proofs.Common.{refl, [], drop, arith}
use Rattle.json_grammar.specs.declared.ExpectedPart.TheVariants.{Value as at_value}
use Rattle.json_text.proofs.Going.{from_rest}
use Rattle.json_text.proofs.ReaderSteps.{stood_start}
use Rattle.json_text.proofs.parser.Parser.new_at.Goals as goal

pub invariant_of-result : goal.invariant_of-result
invariant_of-result c =
    let t = c.args.text.now in let i = c.args.index in let n = c.args.limit in
    record {
      rest_is = c.range_from.ensures.value;
      given = ([], rw c.new.ensures (from_rest c.args.lossy n i 0 t (drop i t) [] at_value [] refl (stood_start c.args.lossy n (drop i t))));
      failed = tt;
      inside = λ w. tt;
      order = omega arith;
      within = omega (arith, c.requires.boundary.0);
      most = c.requires.most;
    }

pub returns : goal.returns
returns c =
    let t = c.args.text.now in let i = c.args.index in let n = c.args.limit in
    record {
      text_is = refl;
      start = refl;
      index = omega arith;
      lossy_is = refl;
      limit_is = refl;
      fresh = rw c.new.ensures (from_rest c.args.lossy n i 0 t (drop i t) [] at_value [] refl (stood_start c.args.lossy n (drop i t)));
      unfailed = refl;
    }
