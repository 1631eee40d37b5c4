use Rattle.std.proofs.Common.{◌≡◌, take, map}
use Rattle.json_history.specs.Logs.{redo_of}
use Rattle.json_history.proofs.copies.copy_redos.Given as goal

abbrev pub invariant-loop-redo : goal.invariant-loop-redo
invariant-loop-redo l = map redo_of l.copies.items ≡ map redo_of (take l.redo-index l.redos)
