use Rattle.json_print.specs.Given.{given}
use Rattle.std.proofs.Common.{◌∙◌, ap, arith, [], ◌∷◌, ◌++◌, Some, suc, take, drop}
use Rattle.std.proofs.lemmas.Result.{err_from_is_err_and}
use Rattle.std.proofs.lemmas.List.{take_all}
use Rattle.json_grammar.specs.declared.Kind.TheVariants.{Array as array}
use Rattle.json_grammar.specs.Tree.{begin, end}
use Rattle.json_write.proofs.Parts.{writes_err, writes_stop, writes_same, writes_then, wrote, wrote_then, wrote_same}
use Rattle.json_write.proofs.Members.{items, list_front, list_front_more, list_around, split_at, take_more}
use Rattle.json_write.proofs.Turns.{list_begun, list_more, list_takes, list_ends}
use Rattle.json_write.proofs.lists.serialize_list.Goals as goal

pub returns-in_err-begin_list : goal.returns-in_err-begin_list
returns-in_err-begin_list g c = writes_err (writes_stop c.in_err-begin_list.ensures _) (err_from_is_err_and c.from_residual.result c.from_residual.ensures.1)

pub loop-item-init : goal.loop-item-init
loop-item-init g c = record {
  wrote = wrote c.in_ok-begin_list.ensures;
  token_state = list_begun g.E.Events.token_state g.met.E.Events.moves (wrote c.in_ok-begin_list.ensures);
}

pub serialize-requires : goal.serialize-requires
serialize-requires g c = λ f. list_takes c.loop-item.invariant.token_state

pub end_list-requires : goal.end_list-requires
end_list-requires g c = λ f. list_ends c.loop-item.invariant.token_state

pub returns-in_err-serialize : goal.returns-in_err-serialize
returns-in_err-serialize g c =
    let xs = c.args.items.now in let i = c.loop-item.item-index in let x = c.item-item.result in
    let r = list_around g.T.Serialize.datum xs (take i xs) (drop (suc i) xs) x (split_at xs i x c.loop-item-test.true c.item-item.is) in
    writes_err (writes_same (writes_then c.loop-item.invariant.wrote (writes_stop c.in_err-serialize.ensures r.0)) r.1) (err_from_is_err_and c.from_residual-in_err-serialize.result c.from_residual-in_err-serialize.ensures.1)

pub loop-item-preserved : goal.loop-item-preserved
loop-item-preserved g c =
    let xs = c.args.items.now in let i = c.loop-item.item-index in let x = c.item-item.result in let f = g.T.Serialize.datum in
    let w = wrote c.in_ok-serialize.ensures in record {
      wrote = wrote_same (wrote_then c.loop-item.invariant.wrote w) (list_front_more f (take i xs) x ∙ ap (list_front f) (take_more xs i x c.loop-item-test.true c.item-item.is));
      token_state = list_more g.E.Events.token_state (f x) g.met.E.Events.moves c.loop-item.invariant.token_state w;
    }

pub returns : goal.returns
returns g c =
    let xs = c.args.items.now in let f = g.T.Serialize.datum in
    writes_same (writes_then c.loop-item.invariant.wrote c.end_list.ensures) (ap (λ ys. Some (given (begin array)) ∷ (items f ys ++ Some (given (end array)) ∷ [])) (take_all c.loop-item.item-index xs (omega arith)))
