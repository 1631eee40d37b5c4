use Rattle.std.proofs.Common.{refl, ap}
use Rattle.json_value.specs.declared.container.Form.TheVariants.{Owned}
use Rattle.json_value.proofs.PlacesKept.{joined, same_object_places}
use Rattle.json_value.proofs.object.Container+Keyed+Value.clone.Goals as goal

pub returns-in_ok-list-in-Owned-clause-places : goal.returns-in_ok-list-in-Owned-clause-places
returns-in_ok-list-in-Owned-clause-places c =
    same_object_places _ c.args.self.now _ (Owned c.in_ok-list-in-Owned.list) refl c.in-Owned.is (ap joined c.in_ok-list-in-Owned.ensures.places)
