use Rattle.std.proofs.Common.{map, ap, ◌∙◌}
use Rattle.json_value.specs.Denotes.{pair_of}
use Rattle.json_history.specs.Target.{all_but_last}
use Rattle.json_history.proofs.Restoring.{map_all_but_last}
use Rattle.std.proofs.Common.{take, refl, ◌-◌}
use Rattle.json_history.proofs.restore.remove_last_member.Goals as goal

pub returns-clause-ok : goal.returns-clause-ok
returns-clause-ok c =
    let list = c.in_ok-pairs.pairs.now in
    ap (map pair_of) c.pop_last.ensures ∙ map_all_but_last pair_of list.items _ list.ok.0 ∙ ap all_but_last c.in_ok-pairs.ensures.pairs

pub returns-clause-touched : goal.returns-clause-touched
returns-clause-touched c =
    let pairs = c.in_ok-pairs.pairs.now in
    record { first = pairs.items; list = c.pop_last.new.list; same = c.in_ok-pairs.ensures.pairs; unpacked = c.in_ok-pairs.ensures.children; is = refl; changed = c.pop_last.ensures ∙ ap (λ n. take (n - 1) pairs.items) pairs.ok.0 }
