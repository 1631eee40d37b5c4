use Rattle.json_write.proofs.Turns.{InRows}
use Rattle.json_write.proofs.Rows.{RowsUpTo}
use Rattle.json_write.proofs.maps.BTreeMapSerialize.serialize.Given as goal

abbrev pub invariant-loop-key : goal.invariant-loop-key
invariant-loop-key g l = record {
  upto : RowsUpTo g.K.Serialize.datum g.V.Serialize.datum g.E.Events.after (g.E.Events.state l.fn.out) (g.E.Events.state l.out) (g.E.Events.failed l.fn.out) (g.E.Events.failed l.out) l.self.entries l.key-iterator;
  token_state : InRows (g.E.Events.token_state (g.E.Events.state l.fn.out)).opened (g.E.Events.token_state (g.E.Events.state l.out));
}
