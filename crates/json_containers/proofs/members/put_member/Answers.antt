use Rattle.std.proofs.Common.{set, map, refl, sym, ap, ◌∙◌}
use Rattle.json_grammar.specs.Tree.{list_pairs}
use Rattle.json_value.specs.Denotes.{pair_of, text_bytes}
use Rattle.json_value.specs.Rows.{keyed_so}
use Rattle.json_value.proofs.AppliedTrees.{first_moved, none_moved, insert_over, insert_beside}
use Rattle.json_value.proofs.Merging.{member_over, member_beside}
use Rattle.json_containers.proofs.members.put_member.Goals as goal

pub returns-in-Some-clause-pairs : goal.returns-in-Some-clause-pairs
returns-in-Some-clause-pairs c =
    let p = c.args.pair in
    let k = text_bytes p.key in
    let ms = c.args.pairs.now.items in
    let m = c.index_mut.result.now in
    let first = first_moved c.key.result.now k c.as_slice.result.now ms c.in-Some.at c.key.ensures c.as_slice.ensures.value c.in-Some.ensures.first in
    ap (λ v. list_pairs (map pair_of (set ms c.in-Some.at (keyed_so m.key v)))) (c.take.ensures.value ∙ c.value_mut.ensures.value) ∙ sym (insert_over k ms c.in-Some.at m c.index_mut.ensures.value first p.value)

pub returns-in-None-clause-pairs : goal.returns-in-None-clause-pairs
returns-in-None-clause-pairs c =
    let p = c.args.pair in
    let k = text_bytes p.key in
    let ms = c.args.pairs.now.items in
    let none = none_moved c.key.result.now k c.as_slice.result.now ms c.key.ensures c.as_slice.ensures.value c.in-None.ensures.none in
    ap (λ vs. list_pairs (map pair_of vs)) c.add_member.ensures.items ∙ sym (insert_beside k ms p.key p.value refl none)

pub returns-in-Some-clause-members : goal.returns-in-Some-clause-members
returns-in-Some-clause-members c =
    let p = c.args.pair in
    let ms = c.args.pairs.now.items in
    let m = c.index_mut.result.now in
    let first = first_moved c.key.result.now (text_bytes p.key) c.as_slice.result.now ms c.in-Some.at c.key.ensures c.as_slice.ensures.value c.in-Some.ensures.first in
    ap (λ v. set ms c.in-Some.at (keyed_so m.key v)) (c.take.ensures.value ∙ c.value_mut.ensures.value) ∙ member_over p ms c.in-Some.at m c.index_mut.ensures.value first

pub returns-in-None-clause-members : goal.returns-in-None-clause-members
returns-in-None-clause-members c =
    let p = c.args.pair in
    let ms = c.args.pairs.now.items in
    let none = none_moved c.key.result.now (text_bytes p.key) c.as_slice.result.now ms c.key.ensures c.as_slice.ensures.value c.in-None.ensures.none in
    c.add_member.ensures.items ∙ member_beside p ms none
