use Rattle.std.proofs.Common.{◌≡◌, inl, inr, map, refl, sym, ap, ◌∙◌, ◌++◌, ◌∷◌, []}
use Rattle.json_grammar.specs.Tree.{list_pairs}
use Rattle.json_value.specs.Denotes.{pair_of}
use Rattle.json_value.specs.declared.pair.Keyed.{Keyed}
use Rattle.json_value.specs.declared.value.Value.{Value}
use Rattle.json_value.proofs.AppliedTrees.{first_moved, none_moved, insert_over, insert_beside}
use Rattle.json_value.proofs.EditedValues.{at_member}
use Rattle.json_patch.proofs.change.upsert_member.Goals as goal

pub returns-in-Some-clause-ok : goal.returns-in-Some-clause-ok
returns-in-Some-clause-ok c =
    let k = c.args.key.now in
    let items = c.args.pairs.now.items in
    let first = first_moved k k c.as_slice.result.now items c.in-Some.i refl c.as_slice.ensures.value c.in-Some.ensures.first in
    insert_over k items c.in-Some.i c.index_mut-member.result.now c.index_mut-member.ensures.value first c.args.value

pub returns-in_ok-push-in-None-clause-ok : goal.returns-in_ok-push-in-None-clause-ok
returns-in_ok-push-in-None-clause-ok c =
    let k = c.args.key.now in
    let items = c.args.pairs.now.items in
    let none = none_moved k k c.as_slice.result.now items refl c.as_slice.ensures.value c.in-None.ensures.none in
    insert_beside k items c.in_ok-key-in-None.key c.args.value c.in_ok-key-in-None.ensures.text none
    ∙ ap (λ vs. list_pairs (map pair_of vs)) (sym (c.in_ok-push-in-None.ensures.items ∙ ap (λ (m : Keyed Value). items ++ m ∷ []) c.new.ensures.member))

pub returns-in-Some-clause-children : goal.returns-in-Some-clause-children
returns-in-Some-clause-children c =
    let k = c.args.key.now in
    let items = c.args.pairs.now.items in
    let first = first_moved k k c.as_slice.result.now items c.in-Some.i refl c.as_slice.ensures.value c.in-Some.ensures.first in
    inl (at_member (λ (before after : Value). after ≡ c.args.value) k items c.in-Some.i c.index_mut-member.result.now c.args.value c.index_mut-member.ensures.value first refl)

pub returns-in_ok-push-in-None-clause-children : goal.returns-in_ok-push-in-None-clause-children
returns-in_ok-push-in-None-clause-children c =
    let k = c.args.key.now in
    let items = c.args.pairs.now.items in
    let none = none_moved k k c.as_slice.result.now items refl c.as_slice.ensures.value c.in-None.ensures.none in
    inr (record { member = c.new.result; none = none; more = c.in_ok-push-in-None.ensures.items; is = ap (λ (m : Keyed Value). m.value) c.new.ensures.member })
