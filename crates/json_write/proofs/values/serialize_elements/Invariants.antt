use Rattle.std.proofs.Common.{take}
use Rattle.json_value.specs.Seen.{elements_seen}
use Rattle.json_write.specs.TreeDatum.{tree_datum}
use Rattle.json_write.proofs.Members.{list_front}
use Rattle.json_write.proofs.Parts.{Wrote}
use Rattle.json_write.proofs.Turns.{InList}
use Rattle.json_write.proofs.values.serialize_elements.Given as goal

abbrev pub invariant-elements : goal.invariant-elements
invariant-elements g l = record {
  wrote : Wrote g.E.Events.after (g.E.Events.state l.fn.out) (g.E.Events.state l.out) (g.E.Events.failed l.fn.out) (g.E.Events.failed l.out) (list_front tree_datum (take l.i (elements_seen l.view)));
  token_state : InList (g.E.Events.token_state (g.E.Events.state l.fn.out)).opened (g.E.Events.token_state (g.E.Events.state l.out));
}
