use Rattle.std.proofs.Common.{◌+◌, ◌++◌, ◌∙◌, take, ap, arith}
use Rattle.std.specs.Int.Count.{count_trailing_zeros}
use Rattle.json_grammar.specs.Given.{piece}
use Rattle.json_model.specs.Print.{shown_bytes}
use Rattle.json_layout.proofs.PlacedItems.{front_stays}
use Rattle.json_layout.proofs.PlainBlocks.{lowest_within, plain_before, plain_each, plain_front}
use Rattle.json_layout.proofs.StoredBlocks.{block_shown, escape_shown}
use Rattle.json_layout.proofs.blocks.store_next.Goals as goal

pub returns-then-escaped-eq0-clause-stored : goal.returns-then-escaped-eq0-clause-stored
returns-then-escaped-eq0-clause-stored c =
    let text = c.args.text.now in let mask = c.escaped_lanes-escaped in
    block_shown (take c.args.end c.args.room.now) _ text c.args.at 16 c.store_block.ensures (plain_front text c.args.at 16 (plain_each text c.args.at 16 mask.result mask.ensures.plain c.if-escaped-eq0.true))

pub bounds-text-at : goal.bounds-text-at
bounds-text-at c =
    let mask = c.escaped_lanes-escaped in
    let low = lowest_within mask.result 16 c.if-escaped-eq0.false mask.ensures.few (omega arith) in
    omega (arith, low, c.requires.block)

pub returns-then-escaped-eq0-2-clause-next : goal.returns-then-escaped-eq0-2-clause-next
returns-then-escaped-eq0-2-clause-next c =
    let mask = c.escaped_lanes-escaped in
    let low = lowest_within mask.result 16 c.if-escaped-eq0.false mask.ensures.few (omega arith) in
    (omega arith, omega (arith, low))

pub returns-then-escaped-eq0-2-clause-stored : goal.returns-then-escaped-eq0-2-clause-stored
returns-then-escaped-eq0-2-clause-stored c =
    let text = c.args.text.now in let mask = c.escaped_lanes-escaped in let first = count_trailing_zeros 64 mask.result in
    let low = lowest_within mask.result 16 c.if-escaped-eq0.false mask.ensures.few (omega arith) in
    escape_shown c.args.room.now c.store_block.new.room c.store_shown-few.new.room text c.args.end c.args.at first c.store_shown-few.result c.store_block.ensures (omega (arith, c.requires.room)) (omega (arith, low))
    (omega (arith, low, c.requires.block)) (plain_front text c.args.at first (plain_before text c.args.at 16 mask.result mask.ensures.plain c.if-escaped-eq0.false)) c.store_shown-few.ensures.stored

pub returns-clause-stored : goal.returns-clause-stored
returns-clause-stored c =
    c.store_batch.ensures.stored
    ∙ ap (λ x. x ++ shown_bytes (piece c.args.text.now c.args.at (c.args.at + 16))) (front_stays c.args.room.now c.store_block.new.room _ c.args.end (c.args.end + 16) (omega arith) (omega (arith, c.requires.room)) c.store_block.ensures)
