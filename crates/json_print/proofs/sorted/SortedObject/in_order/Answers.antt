use Rattle.std.proofs.Common.{◌≡◌, ℕ, ◌<◌, ◌≤◌, List, [], ◌∷◌, ◌++◌, length, map, ap, ap₂, sym, ◌∙◌, arith}
use Rattle.std.proofs.lemmas.List.{map-append, take_at}
use Rattle.json_print.specs.Orders.{numbered_pair, NumberedKey, inserted_pairs}
use Rattle.json_print.specs.Rows.{numbered_rows}
use Rattle.json_print.proofs.Members.{rows_length}
use Rattle.json_print.proofs.Numbering.{numbered_more, numbered_all, numbered_rise}
use Rattle.json_print.proofs.sorted.SortedObject.in_order.Goals as goal

pub loop-number-preserved : goal.loop-number-preserved
loop-number-preserved c =
    let within : c.loop-number.number < length c.args.self.now.rows = omega (arith, c.loop-number-test.true, c.len-number-end.ensures, c.self.inside.members.ok.0, rows_length _ _ _ _ _ _ c.self.view_is) in
    ap (map numbered_pair) c.in_ok-push.ensures.items ∙ map-append numbered_pair c.loop-number.order.items _
    ∙ ap₂ (λ pairs (key : List ℕ). let p : NumberedKey = (key, c.loop-number.number) in pairs ++ p ∷ []) c.loop-number.invariant c.as_bytes.ensures.value
    ∙ sym (numbered_more c.args.self.now.rows c.loop-number.number _ within c.row.ensures)

pub sort_pairs-requires : goal.sort_pairs-requires
sort_pairs-requires c =
    let all : length c.args.self.now.rows ≤ c.loop-number.number = omega (arith, c.loop-number-test.false, c.len-number-end.ensures, c.self.inside.members.ok.0, rows_length _ _ _ _ _ _ c.self.view_is) in
    rw (c.deref_mut.ensures.value, c.loop-number.invariant, numbered_all _ _ all) (numbered_rise 0 c.args.self.now.rows)

pub returns-clause-ok : goal.returns-clause-ok
returns-clause-ok c =
    let all : length c.args.self.now.rows ≤ c.loop-number.number = omega (arith, c.loop-number-test.false, c.len-number-end.ensures, c.self.inside.members.ok.0, rows_length _ _ _ _ _ _ c.self.view_is) in
    let whole : map numbered_pair c.deref_mut.result.now ≡ numbered_rows 0 c.args.self.now.rows = ap (map numbered_pair) c.deref_mut.ensures.value ∙ c.loop-number.invariant ∙ numbered_all _ _ all in
    let len : length c.sort_pairs.new.pairs ≡ c.loop-number.order.len = omega (arith, c.sort_pairs.auto.pairs, c.deref_mut.ensures.len) in
    ap (map numbered_pair) (take_at c.sort_pairs.new.pairs _ c.loop-number.order.len len) ∙ c.sort_pairs.ensures ∙ ap inserted_pairs whole
