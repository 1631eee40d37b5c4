use Rattle.json_value.proofs.view.View.print_sorted.Goals as goal

pub returns : goal.returns
returns g c = record { text = c.answered.ensures.text _ _ _ _ c.show_sorted.ensures }
