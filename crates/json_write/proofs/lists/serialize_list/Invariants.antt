use Rattle.std.proofs.Common.{take}
use Rattle.json_write.proofs.Members.{list_front}
use Rattle.json_write.proofs.Parts.{Wrote}
use Rattle.json_write.proofs.Turns.{InList}
use Rattle.json_write.proofs.lists.serialize_list.Given as goal

abbrev pub invariant-loop-item : goal.invariant-loop-item
invariant-loop-item g l = record {
  wrote : Wrote g.E.Events.after (g.E.Events.state l.fn.out) (g.E.Events.state l.out) (g.E.Events.failed l.fn.out) (g.E.Events.failed l.out) (list_front g.T.Serialize.datum (take l.item-index l.items));
  token_state : InList (g.E.Events.token_state (g.E.Events.state l.fn.out)).opened (g.E.Events.token_state (g.E.Events.state l.out));
}
