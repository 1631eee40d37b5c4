use Rattle.std.proofs.Common.{option_map, sym, ap, ◌∙◌}
use Rattle.mezdruk_files.specs.Differences.{comparison_of}
use Rattle.json_model.specs.Same.{same}
use Rattle.json_value.specs.Denotes.{tree_of}
use Rattle.mezdruk_files.proofs.difference.print_difference.Goals as goal

pub returns-in-Ok-clause-reported : goal.returns-in-Ok-clause-reported
returns-in-Ok-clause-reported g c =
    let are_same = same (tree_of c.args.from.now) (tree_of c.args.to.now) in
    c.compared.ensures (tree_of c.in-Ok-Some.patch) ∙ sym (ap (comparison_of are_same) (c.in-Ok-Some.ensures.ok ∙ ap (option_map tree_of) c.in-Ok-Some.field-0-is))
