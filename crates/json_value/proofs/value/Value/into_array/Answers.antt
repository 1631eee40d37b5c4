use Rattle.std.proofs.Common.{Some, sym, ap, ◌∙◌}
use Rattle.json_value.specs.Seen.{list_of}
use Rattle.json_doc_print.proofs.Trees.{list_again}
use Rattle.json_value.proofs.WholeTrees.{array_in}
use Rattle.json_value.proofs.value.Value.into_array.Goals as goal

pub returns-in-Array-clause-list : goal.returns-in-Array-clause-list
returns-in-Array-clause-list c = ap (λ ts. Some ts) (sym (list_again _)) ∙ ap list_of (sym (array_in _ c.in-Array.array c.in-Array.is))
