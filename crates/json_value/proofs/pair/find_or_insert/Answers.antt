use Rattle.std.proofs.Common.{inr, refl, ◌∙◌}
use Rattle.json_grammar.specs.Tree.{list_pairs}
use Rattle.json_value.specs.Denotes.{pair_of}
use Rattle.std.proofs.Common.{map}
use Rattle.json_value.proofs.AppliedTrees.{first_moved, none_moved, key_found}
use Rattle.json_value.proofs.Lent.{seated_there, seated_first, seated_pairs}
use Rattle.json_value.specs.Rows.{keyed_so}
use Rattle.json_value.specs.declared.value.Value.{Null}
use Rattle.json_value.proofs.pair.find_or_insert.Goals as goal

pub returns-in-Some-clause-pairs : goal.returns-in-Some-clause-pairs
returns-in-Some-clause-pairs c =
    let k = c.args.key.now in
    let items = c.args.pairs.now.items in
    seated_there k (list_pairs (map pair_of items)) (key_found k items c.in-Some.i (first_moved k k c.as_slice.result.now items c.in-Some.i refl c.as_slice.ensures.value c.in-Some.ensures.first))

pub returns-in_ok-push-in-None-clause-first : goal.returns-in_ok-push-in-None-clause-first
returns-in_ok-push-in-None-clause-first c =
    let k = c.args.key.now in
    let items = c.args.pairs.now.items in
    let none = none_moved k k c.as_slice.result.now items refl c.as_slice.ensures.value c.in-None.ensures.none in
    seated_first k items c.push.new.self.items c.in_ok-key-in-None.key c.in_ok-push-in-None.ensures.items c.in_ok-key-in-None.ensures.text none c.len-i.result (c.len-i.ensures ∙ c.args.pairs.now.ok.0)

pub returns-in_ok-push-in-None-clause-pairs : goal.returns-in_ok-push-in-None-clause-pairs
returns-in_ok-push-in-None-clause-pairs c =
    let k = c.args.key.now in
    let items = c.args.pairs.now.items in
    let none = none_moved k k c.as_slice.result.now items refl c.as_slice.ensures.value c.in-None.ensures.none in
    seated_pairs k items c.push.new.self.items c.in_ok-key-in-None.key c.in_ok-push-in-None.ensures.items c.in_ok-key-in-None.ensures.text none

pub returns-in_ok-push-in-None-clause-seated : goal.returns-in_ok-push-in-None-clause-seated
returns-in_ok-push-in-None-clause-seated c =
    let k = c.args.key.now in
    let items = c.args.pairs.now.items in
    let none = none_moved k k c.as_slice.result.now items refl c.as_slice.ensures.value c.in-None.ensures.none in
    inr (
      c.len-i.ensures ∙ c.args.pairs.now.ok.0,
      record { member = keyed_so c.in_ok-key-in-None.key Null; none = none; more = c.in_ok-push-in-None.ensures.items; is = (c.in_ok-key-in-None.ensures.position, refl) },
    )
