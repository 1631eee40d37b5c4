use Rattle.std.proofs.Common.{◌≡◌, ◌∙◌, Some}
use Rattle.std.proofs.lemmas.Result.{IfOk-weaker, IfErr-weaker}
use Rattle.json_value.specs.Edits.{path_steps}
use Rattle.json_value.specs.EditTrees.{each_in, step_in, path_in}
use Rattle.json_value.specs.Seen.{seen, elements_seen}
use Rattle.json_data.specs.Spelled.{Unspelled}
use Rattle.json_data.proofs.Spelling.{unread, path_of_array}
use Rattle.json_data.proofs.path_values.read_path.Goals as goal

pub returns-in-Some-clause-ok : goal.returns-in-Some-clause-ok
returns-in-Some-clause-ok c =
    IfOk-weaker c.read_steps.result _ (λ p. path_in (seen c.args.view) ≡ Some (path_steps p))
    (λ p h. path_of_array (seen c.args.view) (elements_seen c.in-Some.array) c.in-Some.ensures.trees ∙ h) c.read_steps.ensures.ok

pub returns-in-Some-clause-err : goal.returns-in-Some-clause-err
returns-in-Some-clause-err c =
    IfErr-weaker c.read_steps.result _ (Unspelled (path_in (seen c.args.view)))
    (λ e h. unread (each_in step_in (elements_seen c.in-Some.array)) (path_in (seen c.args.view)) e (λ n. path_of_array (seen c.args.view) (elements_seen c.in-Some.array) c.in-Some.ensures.trees ∙ n) h)
    c.read_steps.ensures.err
