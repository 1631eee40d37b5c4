use Rattle.std.proofs.Common.{map, Ok, inr, sym, ap, ◌∙◌, subst}
use Rattle.std.proofs.lemmas.Result.{on_ok_weaker, on_err_weaker}
use Rattle.json_grammar.specs.Tree.{list_pairs}
use Rattle.json_model.specs.Edit.{inserted}
use Rattle.json_value.specs.Denotes.{tree_of, text_bytes, pair_of}
use Rattle.json_value.proofs.AppliedTrees.{object_changed, object_kept}
use Rattle.json_value.specs.Places.{value_origin}
use Rattle.json_value.specs.Touched.{Inserts, Same}
use Rattle.json_value.proofs.PlacesKept.{leads_as}
use Rattle.json_value.proofs.EditedValues.{object_touched}
use Rattle.json_value.proofs.value.Value.insert_copy.Goals as goal

pub returns-in_ok-pairs-in-Some-clause-ok : goal.returns-in_ok-pairs-in-Some-clause-ok
returns-in_ok-pairs-in-Some-clause-ok c =
    let k = text_bytes c.args.key.now in
    let t = tree_of c.args.value.now in
    let pairs = c.in_ok-pairs-in-Some.pairs.now in
    let before = list_pairs (map pair_of pairs.items) in
    on_ok_weaker c.insert_pair.result
    (λ h. object_changed c.args.self.now c.in-Some.object.now pairs c.in-Some.ensures.value c.in_ok-pairs-in-Some.ensures.pairs (λ ps. Ok (inserted k t ps)) c.insert_pair.new.pairs (ap (λ u. Ok (inserted k u before)) (sym c.in_ok-value-in-Some.ensures.tree) ∙ ap Ok h))
    c.insert_pair.ensures.ok

pub returns-in_ok-pairs-in-Some-clause-kept : goal.returns-in_ok-pairs-in-Some-clause-kept
returns-in_ok-pairs-in-Some-clause-kept c =
    on_err_weaker c.insert_pair.result
    (λ h. object_kept c.args.self.now c.in-Some.object.now c.in_ok-pairs-in-Some.pairs.now c.in-Some.ensures.value c.in_ok-pairs-in-Some.ensures.pairs c.insert_pair.new.pairs (ap (map pair_of) h))
    c.insert_pair.ensures.kept

pub returns-in_ok-pairs-in-Some-clause-children : goal.returns-in_ok-pairs-in-Some-clause-children
returns-in_ok-pairs-in-Some-clause-children c =
    let lent = c.in_ok-pairs-in-Some in
    let items = lent.pairs.now.items in
    let now = c.insert_pair.new.pairs in
    on_ok_weaker c.insert_pair.result
    (λ h. object_touched (Inserts c.args.key.now (value_origin c.args.value.now)) c.args.self.now c.in-Some.object.now lent.pairs.now now c.in-Some.ensures.value lent.ensures.pairs lent.ensures.children
    (subst (λ s. Inserts c.args.key.now s items now.items) (leads_as _ _ c.in_ok-value-in-Some.ensures.position c.in_ok-value-in-Some.ensures.places) h))
    c.insert_pair.ensures.children

pub returns-in_ok-pairs-in-Some-clause-kept_along : goal.returns-in_ok-pairs-in-Some-clause-kept_along
returns-in_ok-pairs-in-Some-clause-kept_along c =
    let lent = c.in_ok-pairs-in-Some in
    on_err_weaker c.insert_pair.result
    (λ h. inr (object_touched Same c.args.self.now c.in-Some.object.now lent.pairs.now c.insert_pair.new.pairs c.in-Some.ensures.value lent.ensures.pairs lent.ensures.children h))
    c.insert_pair.ensures.kept
