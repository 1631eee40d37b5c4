use Rattle.reshape.proofs.engine.reshape.Goals as goal

pub returns-clause-done : goal.returns-clause-done
returns-clause-done g c = rw (← c.usual.ensures) c.reshape_with.ensures.done

pub returns-clause-refused : goal.returns-clause-refused
returns-clause-refused g c = rw (← c.usual.ensures) c.reshape_with.ensures.refused

pub returns-clause-complete : goal.returns-clause-complete
returns-clause-complete g c = rw (← c.usual.ensures) c.reshape_with.ensures.complete

pub returns-clause-unfit : goal.returns-clause-unfit
returns-clause-unfit g c = rw (← c.usual.ensures) c.reshape_with.ensures.unfit

pub returns-clause-exact : goal.returns-clause-exact
returns-clause-exact g c = rw (← c.usual.ensures) c.reshape_with.ensures.exact
