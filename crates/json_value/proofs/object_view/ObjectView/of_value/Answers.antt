use Rattle.std.proofs.Common.{Some, sym, ap, ◌∙◌}
use Rattle.json_value.specs.Seen.{object_pairs}
use Rattle.json_doc_print.proofs.Trees.{pairs_again}
use Rattle.json_value.proofs.WholeTrees.{object_in}
use Rattle.json_value.proofs.object_view.ObjectView.of_value.Goals as goal

pub returns-in-Object-clause-trees : goal.returns-in-Object-clause-trees
returns-in-Object-clause-trees c = ap (λ ps. Some ps) (c.view.ensures.trees ∙ sym (pairs_again _)) ∙ ap object_pairs (sym (object_in _ c.in-Object.object c.in-Object.is))
