use Rattle.std.proofs.Common.{sym, ap, ◌∙◌}
use Rattle.json_doc.specs.Seen.{view_tree}
use Rattle.json_value.specs.Edits.{step_of}
use Rattle.json_doc_print.specs.Readings.{members}
use Rattle.json_lines.proofs.PathSteps.{key_child}
use Rattle.json_lines.proofs.paths.child_at.Goals as goal

pub returns-in-Object : goal.returns-in-Object
returns-in-Object c =
    let o = c.in-Object.ensures.tree in
    c.find_packed_member.ensures ∙ key_child (step_of c.args.step.now) _ _ _ (view_tree c.args.view) (ap step_of c.in-Key.is) c.as_str.ensures (o.2 ∙ sym (ap members o.1))
