use Rattle.std.proofs.Common.{sym, ◌∙◌}
use Rattle.json_value.specs.Denotes.{tree_of}
use Rattle.json_data.specs.Reading.{read_list}
use Rattle.json_data.specs.ReadingValues.{read_edit}
use Rattle.mezdruk_arguments.proofs.Spelled.{refused, edits_are_formed, edits_refused}
use Rattle.mezdruk_arguments.proofs.spelling.are_edits.Goals as goal
use Rattle.mezdruk_arguments.proofs.spelling.are_edits.Goals.{in-Ok, in-Err, in-Err-2}

pub returns-clause-ok : goal.returns-clause-ok
returns-clause-ok c =
    let t = tree_of c.args.value.now in
    elim c.match-from_value.branch [
      | in-Ok w ↦ rw w.result-is (edits_are_formed t _ w.in-Ok.ensures.ok)
      | in-Err w ↦ rw w.result-is (let r = refused (read_list read_edit) t _ _ (sym w.is_refusal.ensures ∙ w.if-is_refusal.true) w.in-Err.ensures.err in edits_refused t r.0 r.1)
      | in-Err-2 w ↦ rw w.result-is tt
    ]
