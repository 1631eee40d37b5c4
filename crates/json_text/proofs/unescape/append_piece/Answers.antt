use Rattle.std.proofs.Common.{◌≡◌, ◌+◌, ◌-◌, ◌∙◌, ◌++◌, ap, arith}
use Rattle.json_grammar.specs.Given.{piece}
use Rattle.json_text.proofs.unescape.append_piece.Goals as goal

pub returns-then-stop-at-lt-BLOCK-clause-items : goal.returns-then-stop-at-lt-BLOCK-clause-items
returns-then-stop-at-lt-BLOCK-clause-items c =
    let e : c.args.at + (c.args.stop - c.args.at) ≡ c.args.stop = omega arith in
    c.append_of_block.ensures.items ∙ ap (λ k. c.args.out.now.items ++ piece c.args.bytes.now c.args.at k) e
