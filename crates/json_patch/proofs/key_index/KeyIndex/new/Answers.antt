use Rattle.std.proofs.Common.{ℕ, List, ◌∙◌, ◌<◌, ◌+◌, length, subst, arith}
use Rattle.json_patch.specs.KeyIndex.{StartsAtMost}
use Rattle.json_patch.proofs.KeyStarts.{starts_more}
use Rattle.json_patch.proofs.key_index.KeyIndex.new.Goals as goal

pub members-preserved : goal.members-preserved
members-preserved c =
    let low : c.members.i < length c.args.pairs.now = omega arith in
    let i = c.members.i + c.members.index.removed in
    let added = subst (λ (k : List ℕ). StartsAtMost c.add.new.self.starts.items k i) c.key.ensures c.add.ensures.added in (
      starts_more c.members.index.starts.items c.add.new.self.starts.items c.args.pairs.now c.members.i i c.index-pairs-i.result low c.index-pairs-i.is c.add.ensures.others added (omega arith) c.members.invariant.0,
      c.add.ensures.removed ∙ c.members.invariant.1,
    )
