use Rattle.std.proofs.Common.{ℕ, length, IsOk, sym, ap, ◌∙◌, subst, map, arith}
use Rattle.std.specs.Vec.Iter.{into_iter_items}
use Rattle.json_grammar.specs.Tree.{list_pairs}
use Rattle.json_value.specs.Denotes.{pair_of}
use Rattle.json_value.specs.declared.pair.Keyed.{Keyed}
use Rattle.json_value.specs.declared.value.Value.{Value}
use Rattle.json_history.specs.Change.{insert_members}
use Rattle.json_history.specs.ChangeTrees.{removed_member}
use Rattle.json_history.specs.Restores.{with_restored_members}
use Rattle.json_history.proofs.Restoring.{first_member_in_range, first_member_inserted}
use Rattle.json_history.proofs.restore.insert_reserved_members.Goals as goal

pub restore_member-requires-clause-within : goal.restore_member-requires-clause-within
restore_member-requires-clause-within c =
    let ps = list_pairs (map pair_of c.loop-index.pairs.items) in
    let low = first_member_in_range (c.in-Some.index, c.in-Some.pair) (into_iter_items c.next.new.self) c.loop-index.pairs.items
    (subst (λ es. IsOk (insert_members (map removed_member es) ps)) c.in-Some.ensures.steps.0 (subst IsOk (sym c.loop-index.invariant.done) c.requires.places)) in
    omega (arith, low, c.loop-index.pairs.ok.0)

pub loop-index-preserved : goal.loop-index-preserved
loop-index-preserved c =
    let e : ℕ × Keyed Value = (c.in-Some.index, c.in-Some.pair) in
    let es = into_iter_items c.next.new.self in
    let ps = c.loop-index.pairs.items in
    let qs = c.restore_member.new.pairs.items in
    let ms = list_pairs (map pair_of ps) in
    let low = first_member_in_range e es ps (subst (λ ns. IsOk (insert_members (map removed_member ns) ms)) c.in-Some.ensures.steps.0 (subst IsOk (sym c.loop-index.invariant.done) c.requires.places)) in
    record {
      done = sym (first_member_inserted e es ps qs low c.restore_member.ensures.items) ∙ ap (λ ns. insert_members (map removed_member ns) ms) (sym c.in-Some.ensures.steps.0) ∙ c.loop-index.invariant.done;
      items = ap (with_restored_members es) c.restore_member.ensures.items ∙ ap (λ ns. with_restored_members ns ps) (sym c.in-Some.ensures.steps.0) ∙ c.loop-index.invariant.items;
      room = omega (arith, c.restore_member.ensures.len, c.restore_member.ensures.capacity, c.loop-index.invariant.room, ap length c.in-Some.ensures.steps.0);
    }
