use Rattle.std.proofs.Common.{◌≡◌, map, string_bytes}
use Rattle.std.proofs.lemmas.Result.{on_ok_weaker}
use Rattle.json_value.specs.Edits.{path_steps, steps_of}
use Rattle.json_value.specs.declared.value.Value.{Value}
use Rattle.json_patch.proofs.Touched.{touches_at}
use Rattle.json_patch.proofs.change.replace.Goals as goal

pub returns-clause-children : goal.returns-clause-children
returns-clause-children c =
    on_ok_weaker c.put.result
    (touches_at (map string_bytes c.args.tokens.now) (λ (before after : Value). after ≡ c.args.value) c.args.root.now c.put.new.target _ (path_steps c.in_ok-path.path) (steps_of c.steps.result.now) c.view.ensures.tree c.in_ok-path.ensures.path c.steps.ensures)
    c.put.ensures.children
