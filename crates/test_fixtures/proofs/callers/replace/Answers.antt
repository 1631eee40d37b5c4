use Rattle.std.proofs.Common.{refl}
use Rattle.test_fixtures.proofs.callers.replace.Goals as goal

pub returns-clause-put : goal.returns-clause-put
returns-clause-put g c =
    rw (← c.replace.ensures.after) ((rw c.in_ok-place.was at (c.place_mut.follows.holds c.replace.new.dest)) refl).0
