use Rattle.std.proofs.Common.{◌++◌, take, sym, ap, ◌∙◌}
use Rattle.json_layout.proofs.Escapes.{plain_all}
use Rattle.json_layout.proofs.blocks.store_last.Goals as goal

pub returns-then-place_text-clause-stored : goal.returns-then-place_text-clause-stored
returns-then-place_text-clause-stored c =
    let t = c.if-place_text.true in
    c.place_text.ensures.placed t ∙ ap (λ x. take c.args.end c.args.room.now ++ x) (sym (plain_all c.args.text.now (c.place_text.ensures.plain t)))
