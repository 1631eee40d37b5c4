use Rattle.std.proofs.Common.{not, bytes_eq, refl, rules}
use Rattle.std.proofs.lemmas.Fn.{filter_same}
use Rattle.json_value.specs.Denotes.{text_bytes}
use Rattle.json_value.proofs.AppliedTrees.{first_moved, none_moved, key_found, all_taken_out}
use Rattle.json_value.proofs.pair.remove_pairs.Goals as goal

pub returns-in-Some-clause-removed : goal.returns-in-Some-clause-removed
returns-in-Some-clause-removed c =
    let k = c.args.key.now in
    let items = c.args.pairs.now.items in
    let first = first_moved k k c.as_slice.result.now items c.in-Some.field-0 refl c.as_slice.ensures.value c.in-Some.ensures.first in
    let left = filter_same _ (λ p. not (bytes_eq (text_bytes p.key) k)) _ (λ p b f' r. search rules) _ _ c.retain.ensures.filtered in
    λ _. (key_found k items c.in-Some.field-0 first, all_taken_out k items c.retain.new.self.items left)

pub returns-in-None-clause-kept : goal.returns-in-None-clause-kept
returns-in-None-clause-kept c =
    let k = c.args.key.now in
    λ _. (none_moved k k c.as_slice.result.now c.args.pairs.now.items refl c.as_slice.ensures.value c.in-None.ensures.none, refl)

pub returns-in-Some-clause-children : goal.returns-in-Some-clause-children
returns-in-Some-clause-children c =
    let k = c.args.key.now in
    λ _. filter_same _ (λ p. not (bytes_eq (text_bytes p.key) k)) _ (λ p b f' r. search rules) _ _ c.retain.ensures.filtered
