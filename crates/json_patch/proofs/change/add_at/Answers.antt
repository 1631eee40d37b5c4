use Rattle.std.proofs.lemmas.Grind.{common_steps}
use Rattle.std.proofs.Common.{arith, ◌≡◌, map, string_bytes, ◌++◌, ◌∷◌, []}
use Rattle.std.proofs.lemmas.Result.{on_ok_weaker}
use Rattle.json_patch.proofs.Touched.{adds_below}
use Rattle.json_patch.proofs.change.add_at.Goals as goal

pub returns-in-Some-clause-children : goal.returns-in-Some-clause-children
returns-in-Some-clause-children c =
    let p = map string_bytes c.in-Some.prefix.now in
    let k = c.as_str.result.now in
    let same : map string_bytes c.args.tokens.now ≡ p ++ (k ∷ []) = grind (arith, common_steps) in
    on_ok_weaker c.add_below.result (adds_below (map string_bytes c.args.tokens.now) p k c.args.value c.args.root.now c.add_below.new.root same) c.add_below.ensures.children
