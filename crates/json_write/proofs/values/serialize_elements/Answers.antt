use Rattle.std.proofs.Common.{◌∙◌, ap, arith, [], ◌∷◌, ◌++◌, Some, suc, take, drop}
use Rattle.std.proofs.lemmas.Result.{err_from_is_err_and}
use Rattle.std.proofs.lemmas.List.{take_all}
use Rattle.json_grammar.specs.declared.Kind.TheVariants.{Array as array}
use Rattle.json_grammar.specs.Tree.{begin, end}
use Rattle.json_print.specs.Given.{given}
use Rattle.json_value.specs.Seen.{seen, elements_seen}
use Rattle.json_write.specs.TreeDatum.{tree_datum}
use Rattle.json_write.proofs.Members.{items, list_front, list_front_more, list_around}
use Rattle.json_write.proofs.Parts.{writes_err, writes_stop, writes_same, writes_then, wrote, wrote_then, wrote_same}
use Rattle.json_write.proofs.TreeData.{split_there, take_there, none_there}
use Rattle.json_write.proofs.Turns.{list_begun, list_more, list_takes, list_ends}
use Rattle.json_write.proofs.values.serialize_elements.Goals as goal

pub returns-in_err-begin_list : goal.returns-in_err-begin_list
returns-in_err-begin_list g c = writes_err (writes_stop c.in_err-begin_list.ensures _) (err_from_is_err_and c.from_residual.result c.from_residual.ensures.1)

pub elements-init : goal.elements-init
elements-init g c = record {
  wrote = wrote c.in_ok-begin_list.ensures;
  token_state = list_begun g.E.Events.token_state g.met.E.Events.moves (wrote c.in_ok-begin_list.ensures);
}

pub serialize-requires : goal.serialize-requires
serialize-requires g c = λ f. list_takes c.elements.invariant.token_state

pub end_list-requires : goal.end_list-requires
end_list-requires g c = λ f. list_ends c.elements.invariant.token_state

pub returns-in_err-serialize-in-Some : goal.returns-in_err-serialize-in-Some
returns-in_err-serialize-in-Some g c =
    let xs = elements_seen c.args.view in let i = c.elements.i in let x = seen c.in-Some.element in
    let r = list_around tree_datum xs (take i xs) (drop (suc i) xs) x (split_there xs i x c.in-Some.ensures.tree) in
    writes_err (writes_same (writes_then c.elements.invariant.wrote (writes_stop c.in_err-serialize-in-Some.ensures r.0)) r.1) (err_from_is_err_and c.from_residual-in_err-serialize-in-Some.result c.from_residual-in_err-serialize-in-Some.ensures.1)

pub unreachable-requires : goal.unreachable-requires
unreachable-requires g c = none_there (elements_seen c.args.view) c.elements.i c.in-None.ensures.tree (omega (arith, c.elements-test.true, c.len-i-end.ensures))

pub elements-preserved : goal.elements-preserved
elements-preserved g c =
    let xs = elements_seen c.args.view in let i = c.elements.i in let x = seen c.in-Some.element in
    let w = wrote c.in_ok-serialize-in-Some.ensures in record {
      wrote = wrote_same (wrote_then c.elements.invariant.wrote w) (list_front_more tree_datum (take i xs) x ∙ ap (list_front tree_datum) (take_there xs i x c.in-Some.ensures.tree));
      token_state = list_more g.E.Events.token_state (tree_datum x) g.met.E.Events.moves c.elements.invariant.token_state w;
    }

pub returns : goal.returns
returns g c =
    let xs = elements_seen c.args.view in
    writes_same (writes_then c.elements.invariant.wrote c.end_list.ensures) (ap (λ ys. Some (given (begin array)) ∷ (items tree_datum ys ++ Some (given (end array)) ∷ [])) (take_all c.elements.i xs (omega (arith, c.elements-test.false, c.len-i-end.ensures))))
