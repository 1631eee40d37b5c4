use Rattle.std.proofs.Common.{refl, inr}
use Rattle.json_value.specs.Denotes.{tree_of}
use Rattle.json_value.proofs.ContainerKinds.{list_read, list_none}
use Rattle.json_value.proofs.ValueLevels.{array_tree}
use Rattle.json_value.proofs.value.Value.array_open.Goals as goal

pub returns-in_ok-make_owned-in-Some : goal.returns-in_ok-make_owned-in-Some
returns-in_ok-make_owned-in-Some c = (
  (refl, (λ w ok. (array_tree w, refl)), tt),
  record {
    writes_back = tt;
    opens = (
      list_read c.args.self.now c.in-Some.array.now c.make_owned.new.self c.in-Some.ensures.value c.in_ok-make_owned-in-Some.ensures.same,
      record { array = c.in-Some.array.now; was = c.in-Some.ensures.value; is_owned = c.in_ok-make_owned-in-Some.ensures.ok; unpacked = c.in_ok-make_owned-in-Some.ensures.children; as_it_was = c.in_ok-make_owned-in-Some.ensures.as_it_was; room = c.in_ok-make_owned-in-Some.ensures.room },
    );
  },
)

pub returns-in-None : goal.returns-in-None
returns-in-None c = ((refl, (λ w never. search), refl), record { writes_back = tt; opens = inr (c.type_unmatched_error.ensures, list_none (tree_of c.args.self.now) c.in-None.ensures.none) })
