use Rattle.std.proofs.Common.{sym, ◌∙◌}
use Rattle.json_value.specs.Seen.{seen, members_seen}
use Rattle.json_value.proofs.SameViews.{object_seen}
use Rattle.json_diff.proofs.DiffParts.{keyed_found, keyed_repeats_first, keyed_repeats_second}
use Rattle.json_diff.proofs.between.objects_between.Goals.{else-has_unique_keys-via-then-has_unique_keys+else-has_unique_keys-2, else-has_unique_keys-via-else-has_unique_keys}
use Rattle.json_diff.proofs.between.objects_between.Goals as goal

pub returns-then-has_unique_keys-2-clause-from : goal.returns-then-has_unique_keys-2-clause-from
returns-then-has_unique_keys-2-clause-from c = object_seen (seen c.args.from) (members_seen c.in_ok-old.old) c.in_ok-old.ensures.trees

pub returns-then-has_unique_keys-2-clause-to : goal.returns-then-has_unique_keys-2-clause-to
returns-then-has_unique_keys-2-clause-to c = object_seen (seen c.args.to) (members_seen c.in_ok-new.new) c.in_ok-new.ensures.trees

pub returns-then-has_unique_keys-2-clause-found : goal.returns-then-has_unique_keys-2-clause-found
returns-then-has_unique_keys-2-clause-found c =
    let from = object_seen (seen c.args.from) (members_seen c.in_ok-old.old) c.in_ok-old.ensures.trees in
    let to = object_seen (seen c.args.to) (members_seen c.in_ok-new.new) c.in_ok-new.ensures.trees in
    keyed_found (seen c.args.from) (seen c.args.to) (members_seen c.in_ok-old.old) (members_seen c.in_ok-new.new) from to (sym c.has_unique_keys.ensures ∙ c.if-has_unique_keys.true) (sym c.has_unique_keys-then-has_unique_keys.ensures ∙ c.if-has_unique_keys-2.true)

pub returns-else-has_unique_keys-clause-found : goal.returns-else-has_unique_keys-clause-found
returns-else-has_unique_keys-clause-found c =
    let from = object_seen (seen c.args.from) (members_seen c.in_ok-old.old) c.in_ok-old.ensures.trees in
    let to = object_seen (seen c.args.to) (members_seen c.in_ok-new.new) c.in_ok-new.ensures.trees in
    elim c.else-has_unique_keys.branch [
      | else-has_unique_keys-via-then-has_unique_keys+else-has_unique_keys-2 w ↦
          keyed_repeats_second (seen c.args.from) (seen c.args.to) (members_seen c.in_ok-old.old) (members_seen c.in_ok-new.new) from to (sym w.has_unique_keys-then-has_unique_keys.ensures ∙ w.if-has_unique_keys-2.false)
      | else-has_unique_keys-via-else-has_unique_keys w ↦ keyed_repeats_first (seen c.args.from) (seen c.args.to) (members_seen c.in_ok-old.old) (members_seen c.in_ok-new.new) from to (sym c.has_unique_keys.ensures ∙ w.if-has_unique_keys.false)
    ]
