use Rattle.std.proofs.Common.{arith, refl}
use Rattle.std.proofs.lemmas.Result.{err_from_is_err_and}
use Rattle.json_value.specs.Seen.{seen, members_seen}
use Rattle.json_write.specs.TreeDatum.{tree_datum}
use Rattle.json_write.proofs.Parts.{writes_err, writes_stop, wrote}
use Rattle.json_write.proofs.Rows.{rows_start, rows_key_stop, rows_value_stop, rows_next, rows_all}
use Rattle.json_write.proofs.TreeData.{drop_there, drop_all, none_there}
use Rattle.json_write.proofs.Turns.{rows_begun, rows_key, rows_more, rows_take, rows_end, value_takes}
use Rattle.json_write.proofs.values.serialize_members.Goals as goal

pub returns-in_err-begin_object : goal.returns-in_err-begin_object
returns-in_err-begin_object g c = writes_err (writes_stop c.in_err-begin_object.ensures _) (err_from_is_err_and c.from_residual.result c.from_residual.ensures.1)

pub members-init : goal.members-init
members-init g c = record {
  upto = rows_start (wrote c.in_ok-begin_object.ensures) refl;
  token_state = rows_begun g.E.Events.token_state g.met.E.Events.moves (wrote c.in_ok-begin_object.ensures);
}

pub give_key-requires : goal.give_key-requires
give_key-requires g c = λ f. rows_take c.members.invariant.token_state

pub serialize-requires : goal.serialize-requires
serialize-requires g c = λ f. value_takes (rows_key g.E.Events.token_state g.met.E.Events.moves c.members.invariant.token_state (wrote c.in_ok-give_key-in-Some.ensures))

pub end_rows-requires : goal.end_rows-requires
end_rows-requires g c = λ f. rows_end c.members.invariant.token_state

pub returns-in_err-give_key-in-Some : goal.returns-in_err-give_key-in-Some
returns-in_err-give_key-in-Some g c =
    let xs = members_seen c.args.view in
    writes_err (rows_key_stop (c.in-Some.key.now, seen c.in-Some.value) c.members.invariant.upto (drop_there xs c.members.i _ c.in-Some.ensures.tree) refl c.in_err-give_key-in-Some.ensures)
    (err_from_is_err_and c.from_residual-in_err-give_key-in-Some.result c.from_residual-in_err-give_key-in-Some.ensures.1)

pub returns-in_err-serialize-in-Some : goal.returns-in_err-serialize-in-Some
returns-in_err-serialize-in-Some g c =
    let xs = members_seen c.args.view in
    writes_err (rows_value_stop (c.in-Some.key.now, seen c.in-Some.value) c.members.invariant.upto (drop_there xs c.members.i _ c.in-Some.ensures.tree) refl (wrote c.in_ok-give_key-in-Some.ensures) c.in_err-serialize-in-Some.ensures)
    (err_from_is_err_and c.from_residual-in_err-serialize-in-Some.result c.from_residual-in_err-serialize-in-Some.ensures.1)

pub unreachable-requires : goal.unreachable-requires
unreachable-requires g c = none_there (members_seen c.args.view) c.members.i c.in-None.ensures.tree (omega (arith, c.members-test.true, c.len-i-end.ensures))

pub members-preserved : goal.members-preserved
members-preserved g c =
    let xs = members_seen c.args.view in
    let k = wrote c.in_ok-give_key-in-Some.ensures in let v = wrote c.in_ok-serialize-in-Some.ensures in record {
      upto = rows_next (c.in-Some.key.now, seen c.in-Some.value) c.members.invariant.upto (drop_there xs c.members.i _ c.in-Some.ensures.tree) refl k v;
      token_state = rows_more g.E.Events.token_state (tree_datum (seen c.in-Some.value)) g.met.E.Events.moves (rows_key g.E.Events.token_state g.met.E.Events.moves c.members.invariant.token_state k) v;
    }

pub returns : goal.returns
returns g c = rows_all c.members.invariant.upto (drop_all (members_seen c.args.view) c.members.i (omega (arith, c.members-test.false, c.len-i-end.ensures))) c.end_rows.ensures
