use Rattle.std.proofs.Common.{drop}
use Rattle.json_value.specs.Seen.{members_seen}
use Rattle.json_model.specs.Datum.{text_datum}
use Rattle.json_write.specs.TreeDatum.{tree_datum}
use Rattle.json_write.proofs.Rows.{RowsUpTo}
use Rattle.json_write.proofs.Turns.{InRows}
use Rattle.json_write.proofs.values.serialize_members.Given as goal

abbrev pub invariant-members : goal.invariant-members
invariant-members g l = record {
  upto : RowsUpTo text_datum tree_datum g.E.Events.after (g.E.Events.state l.fn.out) (g.E.Events.state l.out) (g.E.Events.failed l.fn.out) (g.E.Events.failed l.out) (members_seen l.view) (drop l.i (members_seen l.view));
  token_state : InRows (g.E.Events.token_state (g.E.Events.state l.fn.out)).opened (g.E.Events.token_state (g.E.Events.state l.out));
}
