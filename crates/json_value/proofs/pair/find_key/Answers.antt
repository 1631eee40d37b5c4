use Rattle.std.proofs.Common.{sym, ◌∙◌}
use Rattle.std.proofs.lemmas.Slice.Eq.{bytes_eq-Decides}
use Rattle.json_value.proofs.AppliedTrees.{first_at, not_yet, in_none}
use Rattle.json_value.proofs.pair.find_key.Goals as goal

pub returns-then-eq-clause-first : goal.returns-then-eq-clause-first
returns-then-eq-clause-first c =
    let same = (bytes_eq-Decides c.key.result.now c.args.key.now).0 (sym c.eq.ensures ∙ c.if-eq.true) in
    first_at c.args.key.now c.args.pairs.now c.loop-i.i c.index-pairs-i.result c.loop-i-test.true c.index-pairs-i.is (sym c.key.ensures ∙ same) c.loop-i.invariant

pub loop-i-preserved : goal.loop-i-preserved
loop-i-preserved c =
    not_yet c.args.key.now c.args.pairs.now c.loop-i.i c.index-pairs-i.result c.loop-i-test.true c.index-pairs-i.is (rw (← c.key.ensures) (sym c.eq.ensures ∙ c.if-eq.false)) c.loop-i.invariant

pub returns-clause-none : goal.returns-clause-none
returns-clause-none c = in_none c.args.key.now c.args.pairs.now c.loop-i.i c.loop-i-test.false c.loop-i.invariant
