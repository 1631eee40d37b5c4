use Rattle.std.proofs.Common.{◌+◌, [], ◌∷◌, ◌++◌, sym, ap, ◌∙◌, arith, append_assoc}
use Rattle.std.proofs.lemmas.Result.{err_from_is_err_and}
use Rattle.json_grammar.specs.declared.Kind.TheVariants.{Array as array, Object as object}
use Rattle.json_grammar.specs.Tree.{begin, end, key_token}
use Rattle.json_grammar.specs.Sizes.{nodes}
use Rattle.json_doc.specs.Left.{children_left, pairs_left}
use Rattle.json_doc.specs.Seen.{view_tree}
use Rattle.json_print.specs.Given.{given}
use Rattle.json_doc_print.specs.Emitting.{number_given, tree_given}
use Rattle.json_doc_print.proofs.ExpectedTokens.{after_append}
use Rattle.json_doc_print.proofs.TokensGiven.{emits_none, emits_refused, emits_last, stops_one, stops_within, list_seen, array_given, array_around, array_whole, array_front, array_state, array_step, pairs_seen, object_given, object_around, object_whole, object_front, object_state, object_step, member_state, element_within, value_within, item_left, rest_left, nothing_after}
use Rattle.json_doc_print.proofs.Walking.{took, not_taken, reported, walks_one, walks_same, halts}
use Rattle.json_doc_print.proofs.Items.{map_there}
use Rattle.json_doc_print.proofs.emit_packed.+document.Goals as goal

pub emit_document-returns-in-Null : goal.emit_document-returns-in-Null
emit_document-returns-in-Null g t c = walks_one _ _ (ap tree_given c.in-Null.ensures.tree) c.events_result.ensures c.null.ensures

pub emit_document-returns-in-Boolean : goal.emit_document-returns-in-Boolean
emit_document-returns-in-Boolean g t c = walks_one _ _ (ap tree_given c.in-Boolean.ensures.tree) c.events_result-in-Boolean.ensures c.boolean.ensures

pub emit_document-returns-in-Raw : goal.emit_document-returns-in-Raw
emit_document-returns-in-Raw g t c = walks_one _ _ (ap tree_given c.in-Raw.ensures.tree ∙ ap (λ o. number_given o c.in-Raw.literal.now ∷ []) c.in-Raw.ensures.number.1) c.events_result-in-Raw.ensures c.raw_number.ensures

pub emit_document-returns-in-String : goal.emit_document-returns-in-String
emit_document-returns-in-String g t c = walks_one _ _ (ap tree_given c.in-String.ensures.tree) c.events_result-in-String.ensures c.text.ensures

pub emit_document-emit_children-requires : goal.emit_document-emit_children-requires
emit_document-emit_children-requires g t c κs within =
    let a = c.in-Array.ensures.tree in
    (omega (arith, ap nodes (list_seen (view_tree c.args.view) a.0 (children_left c.in-Array.children) a.1 a.2)), (within, c.requires))

pub emit_document-emit_packed_pairs-requires : goal.emit_document-emit_packed_pairs-requires
emit_document-emit_packed_pairs-requires g t c κs within =
    let o = c.in-Object.ensures.tree in
    (omega (arith, ap nodes (pairs_seen (view_tree c.args.view) o.0 (pairs_left c.in-Object.members) o.1 o.2)), (within, c.requires))

pub emit_document-returns-in-Array : goal.emit_document-returns-in-Array
emit_document-returns-in-Array g t c =
    let a = c.in-Array.ensures.tree in
    walks_same _ _ _ _ _ _ _ _ _ (list_seen (view_tree c.args.view) a.0 (children_left c.in-Array.children) a.1 a.2) c.emit_children.ensures

pub emit_document-returns-in-Object : goal.emit_document-returns-in-Object
emit_document-returns-in-Object g t c =
    let o = c.in-Object.ensures.tree in
    walks_same _ _ _ _ _ _ _ _ _ (pairs_seen (view_tree c.args.view) o.0 (pairs_left c.in-Object.members) o.1 o.2) c.emit_packed_pairs.ensures

pub emit_children-returns-in_err-events_result : goal.emit_children-returns-in_err-events_result
emit_children-returns-in_err-events_result g t c =
    let d = not_taken _ c.begin_array.ensures c.in_err-events_result.ensures in
    halts _ d.0 (err_from_is_err_and c.from_residual.result c.from_residual.ensures.1) (emits_none _ _ _ _ _ _ (given (begin array)) _ _ _ (array_given (children_left c.args.children)) d.1)

pub emit_children-emit_document-requires : goal.emit_children-emit_document-requires
emit_children-emit_document-requires g t c κs within =
    let ts = children_left c.args.children in let h = c.loop-child.invariant in let u = view_tree c.in-Some.child in
    let e = item_left ts _ h.2 u (h.3 ∙ c.in-Some.ensures.steps.0) in
    (omega (arith, element_within ts h.2 u e), (within, λ f. (array_state g.E.Events.after g.E.Events.token_state g.met.E.Events.moves _ _ ts h.2 h.4).0))

pub emit_children-returns-in_err-emit_document : goal.emit_children-returns-in_err-emit_document
emit_children-returns-in_err-emit_document g t c =
    let ts = children_left c.args.children in let h = c.loop-child.invariant in let u = view_tree c.in-Some.child in
    let r = array_around ts h.2 u (item_left ts _ h.2 u (h.3 ∙ c.in-Some.ensures.steps.0)) in
    halts _ _ (err_from_is_err_and c.from_residual-in_err-emit_document.result c.from_residual-in_err-emit_document.ensures.1) (emits_refused _ _ _ _ _ _ _ _ h.6 c.in_err-emit_document.ensures.1.failed
    (stops_within g.E.Events.after g.E.Events.stopped _ _ _ (array_front ts h.2) (tree_given u) r.0 _ _ h.4 r.1 (c.in_err-emit_document.ensures.1.stops h.5)))

pub emit_children-loop-child-preserved : goal.emit_children-loop-child-preserved
emit_children-loop-child-preserved g t c =
    let ts = children_left c.args.children in let h = c.loop-child.invariant in let u = view_tree c.in-Some.child in let e = h.3 ∙ c.in-Some.ensures.steps.0 in
    (tt, tt, h.2 + 1, rest_left ts _ h.2 u e, array_step _ _ _ _ ts h.2 u h.4 c.in_ok-emit_document.ensures.all (item_left ts _ h.2 u e), c.in_ok-emit_document.ensures.fresh, h.6)

pub emit_children-end_array-requires : goal.emit_children-end_array-requires
emit_children-end_array-requires g t c = λ f. (array_state g.E.Events.after g.E.Events.token_state g.met.E.Events.moves _ _ (children_left c.args.children) c.loop-child.invariant.2 c.loop-child.invariant.4).1

pub emit_children-returns : goal.emit_children-returns
emit_children-returns g t c =
    let ts = children_left c.args.children in let h = c.loop-child.invariant in
    reported _ _ c.events_result-2.ensures (emits_last _ _ _ _ _ _ _ _ (array_front ts h.2) (given (end array)) _ _ h.6 h.4 h.5 (array_whole ts h.2 (nothing_after ts h.2 (h.3 ∙ c.in-None.ensures.steps.0.0))) c.end_array.ensures)

pub emit_packed_pairs-returns-in_err-events_result : goal.emit_packed_pairs-returns-in_err-events_result
emit_packed_pairs-returns-in_err-events_result g t c =
    let d = not_taken _ c.begin_object.ensures c.in_err-events_result.ensures in
    halts _ d.0 (err_from_is_err_and c.from_residual.result c.from_residual.ensures.1) (emits_none _ _ _ _ _ _ (given (begin object)) _ _ _ (object_given (pairs_left c.args.members)) d.1)

pub emit_packed_pairs-key-requires : goal.emit_packed_pairs-key-requires
emit_packed_pairs-key-requires g t c = λ f. (object_state g.E.Events.after g.E.Events.token_state g.met.E.Events.moves _ _ (pairs_left c.args.members) c.loop-key.invariant.2 c.loop-key.invariant.4).0

pub emit_packed_pairs-returns-in_err-events_result-2 : goal.emit_packed_pairs-returns-in_err-events_result-2
emit_packed_pairs-returns-in_err-events_result-2 g t c =
    let d = not_taken _ c.key.ensures c.in_err-events_result-2.ensures in
    let ps = pairs_left c.args.members in let h = c.loop-key.invariant in let k = c.in-Some.key.now in let u = view_tree c.in-Some.value in
    let e = item_left ps _ h.2 (k, u) (h.3 ∙ c.in-Some.ensures.steps.0) in
    let r = object_around ps h.2 k u (map_there (λ p. p.0) ps h.2 (k, u) e) (map_there (λ p. p.1) ps h.2 (k, u) e) in
    halts _ d.0 (err_from_is_err_and c.from_residual-in_err-events_result-2.result c.from_residual-in_err-events_result-2.ensures.1) (emits_refused _ _ _ _ _ _ _ _ h.6 d.1.failed (stops_within _ _ _ _ _ (object_front ps h.2) (given (key_token k) ∷ []) (tree_given u ++ r.0) _ _ h.4 r.1 (stops_one _ _ _ _ _ _ _ _ h.5 d.1)))

pub emit_packed_pairs-emit_document-requires : goal.emit_packed_pairs-emit_document-requires
emit_packed_pairs-emit_document-requires g t c κs within =
    let ps = pairs_left c.args.members in let h = c.loop-key.invariant in let k = c.in-Some.key.now in let u = view_tree c.in-Some.value in
    let e = item_left ps _ h.2 (k, u) (h.3 ∙ c.in-Some.ensures.steps.0) in
    (omega (arith, value_within ps h.2 u (map_there (λ p. p.1) ps h.2 (k, u) e)), (within, λ f. member_state g.E.Events.after g.E.Events.token_state g.met.E.Events.moves _ _ k (took _ c.key.ensures c.in_ok-events_result-2.ensures).ok))

pub emit_packed_pairs-returns-in_err-emit_document : goal.emit_packed_pairs-returns-in_err-emit_document
emit_packed_pairs-returns-in_err-emit_document g t c =
    let ps = pairs_left c.args.members in let h = c.loop-key.invariant in let k = c.in-Some.key.now in let u = view_tree c.in-Some.value in
    let e = item_left ps _ h.2 (k, u) (h.3 ∙ c.in-Some.ensures.steps.0) in
    let r = object_around ps h.2 k u (map_there (λ p. p.0) ps h.2 (k, u) e) (map_there (λ p. p.1) ps h.2 (k, u) e) in
    halts _ _ (err_from_is_err_and c.from_residual-in_err-emit_document.result c.from_residual-in_err-emit_document.ensures.1) (emits_refused _ _ _ _ _ _ _ _ h.6 c.in_err-emit_document.ensures.1.failed
    (stops_within _ _ _ _ _ (object_front ps h.2 ++ given (key_token k) ∷ []) (tree_given u) r.0 _ _
    ((took _ c.key.ensures c.in_ok-events_result-2.ensures).ok ∙ ap (λ z. g.E.Events.after z (given (key_token k))) h.4 ∙ sym (after_append g.E.Events.after (g.E.Events.state c.args.out.now) (object_front ps h.2) (given (key_token k) ∷ [])))
    (r.1 ∙ sym (append_assoc (object_front ps h.2) (given (key_token k) ∷ []) (tree_given u ++ r.0))) (c.in_err-emit_document.ensures.1.stops (took _ c.key.ensures c.in_ok-events_result-2.ensures).fresh)))

pub emit_packed_pairs-loop-key-preserved : goal.emit_packed_pairs-loop-key-preserved
emit_packed_pairs-loop-key-preserved g t c =
    let ps = pairs_left c.args.members in let h = c.loop-key.invariant in let k = c.in-Some.key.now in let u = view_tree c.in-Some.value in
    let left = h.3 ∙ c.in-Some.ensures.steps.0 in let e = item_left ps _ h.2 (k, u) left in (
      tt,
      tt,
      h.2 + 1,
      rest_left ps _ h.2 (k, u) left,
      object_step _ _ _ _ _ ps h.2 k u h.4 (took _ c.key.ensures c.in_ok-events_result-2.ensures).ok c.in_ok-emit_document.ensures.all (map_there (λ p. p.0) ps h.2 (k, u) e) (map_there (λ p. p.1) ps h.2 (k, u) e),
      c.in_ok-emit_document.ensures.fresh,
      h.6,
    )

pub emit_packed_pairs-end_object-requires : goal.emit_packed_pairs-end_object-requires
emit_packed_pairs-end_object-requires g t c = λ f. (object_state g.E.Events.after g.E.Events.token_state g.met.E.Events.moves _ _ (pairs_left c.args.members) c.loop-key.invariant.2 c.loop-key.invariant.4).1

pub emit_packed_pairs-returns : goal.emit_packed_pairs-returns
emit_packed_pairs-returns g t c =
    let ps = pairs_left c.args.members in let h = c.loop-key.invariant in
    reported _ _ c.events_result-2.ensures (emits_last _ _ _ _ _ _ _ _ (object_front ps h.2) (given (end object)) _ _ h.6 h.4 h.5 (object_whole ps h.2 (nothing_after ps h.2 (h.3 ∙ c.in-None.ensures.steps.0.0))) c.end_object.ensures)
