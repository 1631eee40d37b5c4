use Rattle.std.proofs.Common.{List, [], map, refl, sym, ap, ◌∙◌}
use Rattle.std.proofs.lemmas.Iterator.Consumers.{YieldsList-end}
use Rattle.std.proofs.lemmas.Iterator.Adapters.{YieldsList-from_vec}
use Rattle.json_grammar.specs.Tree.{Pairs, pairs, no_pairs}
use Rattle.json_value.specs.Denotes.{pair_of}
use Rattle.json_model.specs.Merged.{inserted_all}
use Rattle.json_value.specs.Merged.{with_members}
use Rattle.json_value.specs.Rows.{owned}
use Rattle.json_value.specs.declared.pair.Keyed.{Keyed}
use Rattle.json_value.specs.declared.value.Value.{Value}
use Rattle.json_value.proofs.Merging.{put_one_more, member_one_more, as_given}
use Rattle.json_value.proofs.ValueLevels.{object_tree}
use Rattle.json_value.proofs.value.Value.from_pairs.Goals as goal

pub loop-pair-preserved : goal.loop-pair-preserved
loop-pair-preserved c = record {
  trees = put_one_more c.loop-pair.yielded c.in-Some.pair no_pairs _ _ c.loop-pair.invariant.trees c.in_ok-put_pair.ensures.ok;
  members = member_one_more c.loop-pair.yielded c.in-Some.pair [] _ _ c.loop-pair.invariant.members c.in_ok-put_pair.ensures.members;
}

pub returns-clause-tree : goal.returns-clause-tree
returns-clause-tree c =
    let given = YieldsList-end (YieldsList-from_vec {s = c.into_iter-pair-iterator.result} c.args.pairs.items c.into_iter-pair-iterator.ensures.into_iter_gives.0 (c.into_iter-pair-iterator.ensures.into_iter_gives.1 ∙ c.args.pairs.ok.0)) c.loop-pair.yielded c.loop-pair.pair-iterator c.loop-pair.yielded_by _ c.next.new.self c.in-None.is c.next.ensures.steps in
    object_tree (owned c.loop-pair.members)
    ∙ ap (λ (ps : Pairs). pairs ps) (sym c.loop-pair.invariant.trees ∙ ap (λ (qs : List (Keyed Value)). inserted_all (map pair_of qs) no_pairs) (as_given c.loop-pair.yielded c.args.pairs.items given.0))

pub returns-clause-members : goal.returns-clause-members
returns-clause-members c =
    let given = YieldsList-end (YieldsList-from_vec {s = c.into_iter-pair-iterator.result} c.args.pairs.items c.into_iter-pair-iterator.ensures.into_iter_gives.0 (c.into_iter-pair-iterator.ensures.into_iter_gives.1 ∙ c.args.pairs.ok.0)) c.loop-pair.yielded c.loop-pair.pair-iterator c.loop-pair.yielded_by _ c.next.new.self c.in-None.is c.next.ensures.steps in
    (c.loop-pair.members, refl, sym c.loop-pair.invariant.members ∙ ap (λ (qs : List (Keyed Value)). with_members qs []) (as_given c.loop-pair.yielded c.args.pairs.items given.0))
