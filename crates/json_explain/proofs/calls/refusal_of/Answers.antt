use Rattle.std.proofs.Common.{◌∙◌}
use Rattle.json_explain.proofs.Texts.{reads_tree}
use Rattle.json_explain.proofs.calls.refusal_of.Goals as goal

pub returns-in-Ok : goal.returns-in-Ok
returns-in-Ok g c =
    let e = c.in-Ok.ensures.ok in
    let n = c.new.ensures in
    let d = c.depth-tokens.ensures in
    let k = reads_tree c.depth-tokens.result c.explain.new.tokens e.takes.moves.input c.args.text.now 0 e.tree (d.text ∙ n.text) (d.start.0 ∙ n.start.0) (d.mode ∙ n.strict) d.fresh.taken e.takes c.index-end.ensures.read in
    (e.tree, k.0, k.1, (e.answer, e.within))
