use Rattle.std.proofs.Common.{sym, ap, None}
use Rattle.json_grammar.specs.Tree.{list, list_trees}
use Rattle.json_model.specs.Print.{shown}
use Rattle.json_layout.proofs.ShownParts.{added_shows, Shows-same}
use Rattle.json_value.specs.Denotes.{form_list}
use Rattle.json_value.proofs.texts.show_array.Goals as goal

pub returns-in-Empty : goal.returns-in-Empty
returns-in-Empty g c = Shows-same _ _ _ _ _ (sym (ap (λ f. shown None 0 (list (list_trees (form_list f)))) c.in-Empty.is)) (added_shows _ _ _ _ c.show_piece.ensures)

pub returns-in-Owned : goal.returns-in-Owned
returns-in-Owned g c = Shows-same _ _ _ _ _ (sym (ap (λ f. shown None 0 (list (list_trees (form_list f)))) c.in-Owned.is)) c.show_values.ensures
