use Rattle.std.proofs.Common.{[], ◌∷◌, ◌++◌, map, sym, ap, ◌∙◌, arith, append_assoc}
use Rattle.std.proofs.lemmas.Result.{err_from_is_err_and}
use Rattle.json_grammar.specs.declared.Kind.TheVariants.{Array as array, Object as object}
use Rattle.json_grammar.specs.Tree.{begin, end, key_token, num_token, text_token}
use Rattle.json_grammar.specs.Sizes.{nodes}
use Rattle.json_value.specs.Denotes.{tree_of, pair_of}
use Rattle.json_print.specs.Given.{given}
use Rattle.json_doc_print.specs.Emitting.{tree_given}
use Rattle.json_doc_print.proofs.ExpectedTokens.{after_append}
use Rattle.json_doc_print.proofs.TokensGiven.{emits_none, emits_refused, emits_last, stops_one, stops_within, array_given, array_around, array_whole, array_front, array_state, array_step, object_given, object_around, object_whole, object_front, object_state, object_step, member_state, value_within, element_within}
use Rattle.json_value.proofs.GivenTrees.{literal_given}
use Rattle.json_doc_print.proofs.Walking.{took, not_taken, reported, walks_one, walks_same, halts}
use Rattle.json_value.proofs.WholeTrees.{null_in, bool_in, number_in, text_in, array_there, object_there, key_of_item, tree_of_item}
use Rattle.json_doc_print.proofs.Items.{item_there, items_end}
use Rattle.json_value.proofs.emit.+value.Goals as goal

pub emit_value-returns-in-Null : goal.emit_value-returns-in-Null
emit_value-returns-in-Null g t c = walks_one _ _ (ap tree_given (null_in _ c.in-Null.is)) c.events_result.ensures c.null.ensures

pub emit_value-returns-in-Bool : goal.emit_value-returns-in-Bool
emit_value-returns-in-Bool g t c = walks_one _ _ (ap tree_given (bool_in _ _ c.in-Bool.is)) c.events_result-in-Bool.ensures c.boolean.ensures

pub emit_value-returns-in-Number : goal.emit_value-returns-in-Number
emit_value-returns-in-Number g t c = walks_same _ _ _ _ _ _ _ _ _ (sym (number_in _ c.in-Number.number c.in-Number.is)) c.emit_number.ensures

pub emit_value-returns-in-Raw : goal.emit_value-returns-in-Raw
emit_value-returns-in-Raw g t c = walks_one _ _ (literal_given _ c.in-Raw.literal c.in-Raw.is ∙ ap (λ s. given (num_token s) ∷ []) (sym c.as_str.ensures.literal)) c.events_result-in-Raw.ensures c.raw_number.ensures

pub emit_value-returns-in-Text : goal.emit_value-returns-in-Text
emit_value-returns-in-Text g t c = walks_one _ _ (ap tree_given (text_in _ c.in-Text.text c.in-Text.is) ∙ ap (λ s. given (text_token s) ∷ []) (sym c.as_str-in-Text.ensures)) c.events_result-in-Text.ensures c.text.ensures

pub emit_value-returns-in-Owned : goal.emit_value-returns-in-Owned
emit_value-returns-in-Owned g t c = walks_same _ _ _ _ _ _ _ _ _ (sym (array_there _ c.in-Array.array _ c.in-Array.is c.in-Owned.is)) c.emit_values.ensures

pub emit_value-returns-in-Owned-form : goal.emit_value-returns-in-Owned-form
emit_value-returns-in-Owned-form g t c = walks_same _ _ _ _ _ _ _ _ _ (sym (object_there _ c.in-Object.object _ c.in-Object.is c.in-Owned-form.is)) c.emit_pairs.ensures

pub emit_value-emit_values-requires : goal.emit_value-emit_values-requires
emit_value-emit_values-requires g t c κs within =
    let e = array_there _ c.in-Array.array _ c.in-Array.is c.in-Owned.is in
    (omega (arith, ap nodes e), (within, c.requires))

pub emit_value-emit_pairs-requires : goal.emit_value-emit_pairs-requires
emit_value-emit_pairs-requires g t c κs within =
    let e = object_there _ c.in-Object.object _ c.in-Object.is c.in-Owned-form.is in
    (omega (arith, ap nodes e), (within, c.requires))

pub emit_values-returns-in_err-events_result : goal.emit_values-returns-in_err-events_result
emit_values-returns-in_err-events_result g t c =
    let d = not_taken _ c.begin_array.ensures c.in_err-events_result.ensures in
    halts _ d.0 (err_from_is_err_and c.from_residual.result c.from_residual.ensures.1) (emits_none _ _ _ _ _ _ (given (begin array)) _ _ _ (array_given (map tree_of c.args.values.now.items)) d.1)

pub emit_values-emit_value-requires : goal.emit_values-emit_value-requires
emit_values-emit_value-requires g t c κs within =
    let xs = c.args.values.now.items in let i = c.loop-value.value-index in let u = tree_of c.value-item.result in
    let e = item_there tree_of _ xs i c.value-item.result c.deref-value-items.ensures.value c.loop-value-test.true c.value-item.is in (
      omega (arith, element_within (map tree_of xs) i u e),
      (within, λ f. (array_state g.E.Events.after g.E.Events.token_state g.met.E.Events.moves _ _ (map tree_of xs) i c.loop-value.invariant.0).0),
    )

pub emit_values-returns-in_err-emit_value : goal.emit_values-returns-in_err-emit_value
emit_values-returns-in_err-emit_value g t c =
    let xs = c.args.values.now.items in let i = c.loop-value.value-index in let u = tree_of c.value-item.result in
    let r = array_around (map tree_of xs) i u (item_there tree_of _ xs i c.value-item.result c.deref-value-items.ensures.value c.loop-value-test.true c.value-item.is) in
    halts _ _ (err_from_is_err_and c.from_residual-in_err-emit_value.result c.from_residual-in_err-emit_value.ensures.1) (emits_refused _ _ _ _ _ _ _ _ c.loop-value.invariant.2 c.in_err-emit_value.ensures.1.failed
    (stops_within g.E.Events.after g.E.Events.stopped _ _ _ (array_front (map tree_of xs) i) (tree_given u) r.0 _ _ c.loop-value.invariant.0 r.1 (c.in_err-emit_value.ensures.1.stops c.loop-value.invariant.1)))

pub emit_values-loop-value-preserved : goal.emit_values-loop-value-preserved
emit_values-loop-value-preserved g t c =
    let xs = c.args.values.now.items in let i = c.loop-value.value-index in (
      array_step _ _ _ _ (map tree_of xs) i _ c.loop-value.invariant.0 c.in_ok-emit_value.ensures.all (item_there tree_of _ xs i c.value-item.result c.deref-value-items.ensures.value c.loop-value-test.true c.value-item.is),
      c.in_ok-emit_value.ensures.fresh,
      c.loop-value.invariant.2,
    )

pub emit_values-end_array-requires : goal.emit_values-end_array-requires
emit_values-end_array-requires g t c = λ f. (array_state g.E.Events.after g.E.Events.token_state g.met.E.Events.moves _ _ (map tree_of c.args.values.now.items) c.loop-value.value-index c.loop-value.invariant.0).1

pub emit_values-returns : goal.emit_values-returns
emit_values-returns g t c =
    let ts = map tree_of c.args.values.now.items in let i = c.loop-value.value-index in
    reported _ _ c.events_result-2.ensures (emits_last _ _ _ _ _ _ _ _ (array_front ts i) (given (end array)) _ _ c.loop-value.invariant.2 c.loop-value.invariant.0 c.loop-value.invariant.1 (array_whole ts i (items_end tree_of _ c.args.values.now.items i c.deref-value-items.ensures.value c.loop-value-test.false)) c.end_array.ensures)

pub emit_pairs-returns-in_err-events_result : goal.emit_pairs-returns-in_err-events_result
emit_pairs-returns-in_err-events_result g t c =
    let d = not_taken _ c.begin_object.ensures c.in_err-events_result.ensures in
    halts _ d.0 (err_from_is_err_and c.from_residual.result c.from_residual.ensures.1) (emits_none _ _ _ _ _ _ (given (begin object)) _ _ _ (object_given (map pair_of c.args.values.now.items)) d.1)

pub emit_pairs-key-requires : goal.emit_pairs-key-requires
emit_pairs-key-requires g t c = λ f. (object_state g.E.Events.after g.E.Events.token_state g.met.E.Events.moves _ _ (map pair_of c.args.values.now.items) c.loop-pair.pair-index c.loop-pair.invariant.0).0

pub emit_pairs-returns-in_err-events_result-2 : goal.emit_pairs-returns-in_err-events_result-2
emit_pairs-returns-in_err-events_result-2 g t c =
    let d = not_taken _ c.key.ensures c.in_err-events_result-2.ensures in
    let xs = c.args.values.now.items in let ps = map pair_of xs in let i = c.loop-pair.pair-index in let k = c.as_str.result.now in let u = tree_of c.pair-item.result.value in
    let e = item_there pair_of _ xs i c.pair-item.result c.deref-pair-items.ensures.value c.loop-pair-test.true c.pair-item.is in
    let r = object_around ps i k u (key_of_item ps i c.pair-item.result k e c.as_str.ensures) (tree_of_item ps i c.pair-item.result e) in
    halts _ d.0 (err_from_is_err_and c.from_residual-in_err-events_result-2.result c.from_residual-in_err-events_result-2.ensures.1) (emits_refused _ _ _ _ _ _ _ _ c.loop-pair.invariant.2 d.1.failed (stops_within _ _ _ _ _ (object_front ps i) (given (key_token k) ∷ []) (tree_given u ++ r.0) _ _ c.loop-pair.invariant.0 r.1 (stops_one _ _ _ _ _ _ _ _ c.loop-pair.invariant.1 d.1)))

pub emit_pairs-emit_value-requires : goal.emit_pairs-emit_value-requires
emit_pairs-emit_value-requires g t c κs within =
    let xs = c.args.values.now.items in let ps = map pair_of xs in let i = c.loop-pair.pair-index in let u = tree_of c.pair-item.result.value in
    let e = tree_of_item ps i c.pair-item.result (item_there pair_of _ xs i c.pair-item.result c.deref-pair-items.ensures.value c.loop-pair-test.true c.pair-item.is) in
    (omega (arith, value_within ps i u e), (within, λ f. member_state g.E.Events.after g.E.Events.token_state g.met.E.Events.moves _ _ c.as_str.result.now (took _ c.key.ensures c.in_ok-events_result-2.ensures).ok))

pub emit_pairs-returns-in_err-emit_value : goal.emit_pairs-returns-in_err-emit_value
emit_pairs-returns-in_err-emit_value g t c =
    let xs = c.args.values.now.items in let ps = map pair_of xs in let i = c.loop-pair.pair-index in let k = c.as_str.result.now in let u = tree_of c.pair-item.result.value in
    let e = item_there pair_of _ xs i c.pair-item.result c.deref-pair-items.ensures.value c.loop-pair-test.true c.pair-item.is in
    let r = object_around ps i k u (key_of_item ps i c.pair-item.result k e c.as_str.ensures) (tree_of_item ps i c.pair-item.result e) in
    halts _ _ (err_from_is_err_and c.from_residual-in_err-emit_value.result c.from_residual-in_err-emit_value.ensures.1) (emits_refused _ _ _ _ _ _ _ _ c.loop-pair.invariant.2 c.in_err-emit_value.ensures.1.failed
    (stops_within _ _ _ _ _ (object_front ps i ++ given (key_token k) ∷ []) (tree_given u) r.0 _ _
    ((took _ c.key.ensures c.in_ok-events_result-2.ensures).ok ∙ ap (λ z. g.E.Events.after z (given (key_token k))) c.loop-pair.invariant.0 ∙ sym (after_append g.E.Events.after (g.E.Events.state c.args.out.now) (object_front ps i) (given (key_token k) ∷ [])))
    (r.1 ∙ sym (append_assoc (object_front ps i) (given (key_token k) ∷ []) (tree_given u ++ r.0))) (c.in_err-emit_value.ensures.1.stops (took _ c.key.ensures c.in_ok-events_result-2.ensures).fresh)))

pub emit_pairs-loop-pair-preserved : goal.emit_pairs-loop-pair-preserved
emit_pairs-loop-pair-preserved g t c =
    let xs = c.args.values.now.items in let ps = map pair_of xs in let i = c.loop-pair.pair-index in let k = c.as_str.result.now in
    let e = item_there pair_of _ xs i c.pair-item.result c.deref-pair-items.ensures.value c.loop-pair-test.true c.pair-item.is in (
      object_step _ _ _ _ _ ps i k _ c.loop-pair.invariant.0 (took _ c.key.ensures c.in_ok-events_result-2.ensures).ok c.in_ok-emit_value.ensures.all (key_of_item ps i c.pair-item.result k e c.as_str.ensures) (tree_of_item ps i c.pair-item.result e),
      c.in_ok-emit_value.ensures.fresh,
      c.loop-pair.invariant.2,
    )

pub emit_pairs-end_object-requires : goal.emit_pairs-end_object-requires
emit_pairs-end_object-requires g t c = λ f. (object_state g.E.Events.after g.E.Events.token_state g.met.E.Events.moves _ _ (map pair_of c.args.values.now.items) c.loop-pair.pair-index c.loop-pair.invariant.0).1

pub emit_pairs-returns : goal.emit_pairs-returns
emit_pairs-returns g t c =
    let ps = map pair_of c.args.values.now.items in let i = c.loop-pair.pair-index in
    reported _ _ c.events_result-2.ensures (emits_last _ _ _ _ _ _ _ _ (object_front ps i) (given (end object)) _ _ c.loop-pair.invariant.2 c.loop-pair.invariant.0 c.loop-pair.invariant.1 (object_whole ps i (items_end pair_of _ c.args.values.now.items i c.deref-pair-items.ensures.value c.loop-pair-test.false)) c.end_object.ensures)
