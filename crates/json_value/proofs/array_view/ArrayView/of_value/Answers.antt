use Rattle.std.proofs.Common.{Some, sym, ap, ◌∙◌}
use Rattle.json_value.specs.Seen.{list_of}
use Rattle.json_doc_print.proofs.Trees.{list_again}
use Rattle.json_value.proofs.WholeTrees.{array_in}
use Rattle.json_value.proofs.array_view.ArrayView.of_value.Goals as goal

pub returns-in-Array-clause-trees : goal.returns-in-Array-clause-trees
returns-in-Array-clause-trees c = ap (λ ts. Some ts) (c.view.ensures.trees ∙ sym (list_again _)) ∙ ap list_of (sym (array_in _ c.in-Array.array c.in-Array.is))
