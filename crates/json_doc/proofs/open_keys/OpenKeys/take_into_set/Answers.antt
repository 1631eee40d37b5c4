use Rattle.std.proofs.Common.{◌≡◌, drop, ap, ◌∙◌, subst}
use Rattle.std.specs.Prelude.{not}
use Rattle.std.specs.BTreeSet.{contains}
use Rattle.std.specs.Cow.{cow_str_bytes}
use Rattle.json_grammar.specs.Repeated.{innermost_keys}
use Rattle.json_doc.specs.OpenNames.{front_of, row_has}
use Rattle.json_doc.proofs.NameSets.{reported_by_set, state_set, set_updated, by_front}
use Rattle.json_doc.proofs.open_keys.OpenKeys.take_into_set.Goals as goal

pub returns-clause-ok : goal.returns-clause-ok
returns-clause-ok c all h =
    let s = c.args.self.now in
    let new = c.insert.new.self in
    let name = c.args.name in
    let added = c.in_ok-added.ensures in
    let row = drop s.start s.few.items in
    let f : c.front_number-front.result ≡ front_of (cow_str_bytes name) = c.front_number-front.ensures ∙ ap front_of c.as_str-2.ensures.value in
    let a = subst (λ g. c.in_ok-added.added ≡ not (contains by_front s.many (g, name))) f added.added in (
      reported_by_set row s.many (innermost_keys all) (cow_str_bytes name) c.in_row.result c.in_ok-added.added h.here (c.in_row.ensures ∙ ap (row_has row) c.as_str.ensures.value) c.if-in_row.false a,
      λ e. state_set s.few.items s.start s.many new s.outer.items all (cow_str_bytes name) h c.requires.inside (set_updated s.many new c.front_number-front.result name f added.updates),
    )
