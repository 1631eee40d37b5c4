use Rattle.std.proofs.Common.{sym, ap, ◌∙◌, ◌++◌}
use Rattle.json_io.proofs.Pieces.{piece_eight, eight_on}
use Rattle.json_io.proofs.append.append_eight.Goals as goal

pub returns-clause-items : goal.returns-clause-items
returns-clause-items c =
    eight_on _ _ _ _ _ _ _ _ _ _ _ _ _ _ _ _ _ c.push_reserved.ensures.items c.push_reserved-2.ensures.items c.push_reserved-3.ensures.items c.push_reserved-4.ensures.items
    c.push_reserved-5.ensures.items c.push_reserved-6.ensures.items c.push_reserved-7.ensures.items c.push_reserved-8.ensures.items
    ∙ ap (λ x. c.args.out.now.items ++ x) (sym (piece_eight c.args.bytes.now c.args.at c.requires.within))
