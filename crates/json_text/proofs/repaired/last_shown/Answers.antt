use Rattle.std.proofs.Common.{◌-◌, sym, arith, rules}
use Rattle.std.specs.Prelude.{nat_le}
use Rattle.std.proofs.lemmas.Bool.{leb-true}
use Rattle.std.proofs.lemmas.List.Sorted.{IsPartitionedBy-leb, IsPartitionPoint-from_clause}
use Rattle.json_text.specs.declared.repaired.IllFormed.{IllFormed}
use Rattle.json_text.proofs.Origins.{shown_at}
use Rattle.json_text.proofs.repaired.last_shown.Goals as goal

pub returns-then-count-eq0 : goal.returns-then-count-eq0
returns-then-count-eq0 c =
    let k = c.args.offset in
    let parted = IsPartitionedBy-leb (λ (x : IllFormed). x.shown) _ k c.requires in
    let point = IsPartitionPoint-from_clause (λ (x : IllFormed). nat_le x.shown k) _ _ c.partition_point-count.ensures.partitioned parted (λ a r q h. search rules) in
    let none : IllFormed = record { shown = 0; from = 0; end = 0 } in
    record { last = sym ((shown_at c.args.runs.now c.partition_point-count.result k none point.0 point.1 c.partition_point-count.ensures.bound).0 c.if-count-eq0.true); before = tt }

pub returns-clause-last : goal.returns-clause-last
returns-clause-last c =
    let k = c.args.offset in
    let parted = IsPartitionedBy-leb (λ (x : IllFormed). x.shown) _ k c.requires in
    let point = IsPartitionPoint-from_clause (λ (x : IllFormed). nat_le x.shown k) _ _ c.partition_point-count.ensures.partitioned parted (λ a r q h. search rules) in
    let none : IllFormed = record { shown = 0; from = 0; end = 0 } in
    sym ((shown_at c.args.runs.now c.partition_point-count.result k none point.0 point.1 c.partition_point-count.ensures.bound).1 (omega arith))

pub returns-clause-before : goal.returns-clause-before
returns-clause-before c =
    let k = c.args.offset in
    let parted = IsPartitionedBy-leb (λ (x : IllFormed). x.shown) _ k c.requires in
    let point = IsPartitionPoint-from_clause (λ (x : IllFormed). nat_le x.shown k) _ _ c.partition_point-count.ensures.partitioned parted (λ a r q h. search rules) in
    let none : IllFormed = record { shown = 0; from = 0; end = 0 } in
    leb-true _ _ (point.0 (c.partition_point-count.result - 1) none (omega arith) (omega arith))
