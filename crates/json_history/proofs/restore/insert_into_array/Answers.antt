use Rattle.std.proofs.Common.{map, ap, ◌∙◌}
use Rattle.std.specs.Prelude.{insert}
use Rattle.json_value.specs.Denotes.{tree_of, list_in}
use Rattle.json_history.proofs.Restoring.{map_insert}
use Rattle.std.proofs.Common.{refl, inr}
use Rattle.json_value.proofs.AppliedTrees.{anyway}
use Rattle.json_history.proofs.restore.insert_into_array.Goals as goal

pub returns-clause-ok : goal.returns-clause-ok
returns-clause-ok c =
    let list = c.in_ok-list.list.now in
    ap (map tree_of) c.in_ok-insert.ensures.items
    ∙ map_insert tree_of list.items c.args.index c.in_ok-old.old
    ∙ ap (λ ts. insert ts c.args.index (tree_of c.in_ok-old.old)) c.in_ok-list.ensures.list
    ∙ ap (insert (list_in c.args.array.now) c.args.index) c.in_ok-old.ensures.tree

pub returns-clause-touched : goal.returns-clause-touched
returns-clause-touched c =
    let list = c.in_ok-list.list.now in
    record {
      first = list.items;
      list = c.insert.new.self;
      same = c.in_ok-list.ensures.list;
      unpacked = c.in_ok-list.ensures.children;
      is = refl;
      changed = (c.in_ok-old.old, λ i. record { position = c.in_ok-old.ensures.position i; parts = c.in_ok-old.ensures.places i }, c.in_ok-insert.ensures.items);
    }

pub returns-in_err-insert-clause-untouched : goal.returns-in_err-insert-clause-untouched
returns-in_err-insert-clause-untouched c =
    let list = c.in_ok-list.list.now in
    anyway _ (inr (record { first = list.items; list = c.insert.new.self; same = c.in_ok-list.ensures.list; unpacked = c.in_ok-list.ensures.children; is = refl; changed = c.in_err-insert.ensures.items }))
