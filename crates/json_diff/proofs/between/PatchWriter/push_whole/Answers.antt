use Rattle.std.proofs.Common.{sym, ◌∙◌, ◌∷◌, []}
use Rattle.std.proofs.lemmas.Result.{on_ok_weaker}
use Rattle.json_diff.specs.Diff.{whole}
use Rattle.json_patch.specs.Patch.{replace}
use Rattle.json_value.specs.Seen.{seen}
use Rattle.json_diff.proofs.DiffParts.{whole_of_others}
use Rattle.json_diff.proofs.DiffWriting.{writes_as, writes_replaced}
use Rattle.json_diff.proofs.between.PatchWriter.push_whole.Goals as goal

pub returns-clause-ok : goal.returns-clause-ok
returns-clause-ok c =
    let old = c.args.self.now in
    let new = c.push_value.new.self in
    let t = seen c.args.from in
    let u = seen c.args.to in
    on_ok_weaker c.push_value.result (λ h. writes_as old new (replace [] u ∷ []) (whole t u) (whole_of_others t u (sym c.if-branch.false ∙ c.in_ok-are_equal.ensures.ok)) (writes_replaced old new u h)) c.push_value.ensures.ok
