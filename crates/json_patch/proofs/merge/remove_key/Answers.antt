use Rattle.std.proofs.Common.{not, bytes_eq, rules, refl, sym, map, arith}
use Rattle.std.proofs.lemmas.Fn.{filter_same}
use Rattle.json_grammar.specs.Tree.{list_pairs}
use Rattle.json_value.specs.Denotes.{text_bytes, pair_of}
use Rattle.json_value.proofs.AppliedTrees.{all_taken_out, none_moved}
use Rattle.json_patch.proofs.KeyStarts.{starts_removed, none_removed}
use Rattle.json_patch.proofs.merge.remove_key.Goals as goal

pub returns-in_default-clause-removed : goal.returns-in_default-clause-removed
returns-in_default-clause-removed c =
    let k = c.args.key.now in
    let items = c.args.pairs.now.items in
    sym (none_removed k (list_pairs (map pair_of items)) (none_moved k k c.as_slice.result.now items refl c.as_slice.ensures.value c.in_default.ensures.none))

pub returns-clause-removed : goal.returns-clause-removed
returns-clause-removed c =
    let k = c.args.key.now in
    let left = filter_same _ (λ p. not (bytes_eq (text_bytes p.key) k)) _ (λ p b f' r. search rules) _ _ c.retain.ensures.filtered in
    sym (all_taken_out k c.args.pairs.now.items c.retain.new.self.items left)

pub returns-clause-starts : goal.returns-clause-starts
returns-clause-starts c =
    let k = c.args.key.now in
    let left = filter_same _ (λ p. not (bytes_eq (text_bytes p.key) k)) _ (λ p b f' r. search rules) _ _ c.retain.ensures.filtered in
    c.subtract.ensures c.retain.new.self.items (starts_removed c.args.index.now.starts.items (λ p. not (bytes_eq (text_bytes p.key) k)) c.args.index.now.removed _ c.args.pairs.now.items c.retain.new.self.items left (omega arith) c.requires)
