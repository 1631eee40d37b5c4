use Rattle.std.proofs.Common.{◌∙◌, ◌+◌, ◌++◌, ◌∷◌, [], List, length, map, sym, ap, arith}
use Rattle.json_grammar.specs.Tree.{list_pairs}
use Rattle.json_value.specs.Denotes.{text_bytes, pair_of}
use Rattle.json_value.specs.declared.pair.Keyed.{Keyed}
use Rattle.json_value.specs.declared.value.Value.{Value}
use Rattle.json_value.proofs.AppliedTrees.{insert_beside}
use Rattle.json_patch.proofs.KeyStarts.{at_more, starts_appended}
use Rattle.json_patch.proofs.merge.append_member.Goals as goal

pub returns-clause-ok : goal.returns-clause-ok
returns-clause-ok c =
    let items = c.args.pairs.now.items in
    ap (λ (ms : List (Keyed Value)). list_pairs (map pair_of ms)) (c.in_ok-push.ensures.items ∙ ap (λ (m : Keyed Value). items ++ m ∷ []) c.new.ensures.member)
    ∙ sym (insert_beside c.args.key.now items c.in_ok-text.text c.args.value c.in_ok-text.ensures.text c.requires.absent)

pub returns-clause-starts : goal.returns-clause-starts
returns-clause-starts c =
    let k = c.args.key.now in
    let items = c.args.pairs.now.items in
    let old = c.args.index.now in
    let new = c.add.new.self in
    let same = ap (λ (m : Keyed Value). text_bytes m.key) c.new.ensures.member ∙ c.in_ok-text.ensures.text in
    let here = at_more new.starts.items k (c.len.result + old.removed) (length items + old.removed) c.add.ensures.added (omega arith) in
    starts_appended old.starts.items new.starts.items old.removed new.removed items c.push.new.self.items c.new.result k c.in_ok-push.ensures.items same c.add.ensures.removed c.add.ensures.others here c.requires.starts
