use Rattle.std.proofs.Common.{map, ap, ◌∙◌}
use Rattle.json_value.specs.Denotes.{tree_of}
use Rattle.json_history.specs.Target.{all_but_last}
use Rattle.json_history.proofs.Restoring.{map_all_but_last}
use Rattle.std.proofs.Common.{take, refl, ◌-◌}
use Rattle.json_history.proofs.restore.remove_last_element.Goals as goal

pub returns-clause-ok : goal.returns-clause-ok
returns-clause-ok c =
    let list = c.in_ok-list.list.now in
    ap (map tree_of) c.pop_last.ensures ∙ map_all_but_last tree_of list.items _ list.ok.0 ∙ ap all_but_last c.in_ok-list.ensures.list

pub returns-clause-touched : goal.returns-clause-touched
returns-clause-touched c =
    let list = c.in_ok-list.list.now in
    record { first = list.items; list = c.pop_last.new.list; same = c.in_ok-list.ensures.list; unpacked = c.in_ok-list.ensures.children; is = refl; changed = c.pop_last.ensures ∙ ap (λ n. take (n - 1) list.items) list.ok.0 }
