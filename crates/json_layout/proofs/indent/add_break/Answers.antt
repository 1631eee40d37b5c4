use Rattle.json_layout.proofs.Breaks.{break_put}
use Rattle.json_layout.proofs.indent.add_break.Goals as goal

pub returns : goal.returns
returns g c =
    break_put _ _ c.args.first c.from.result c.args.level c.args.indent.ready 64 c.args.indent.bytes.now _ c.from.ensures c.if-level-indent.false c.args.indent.fits c.args.indent.spaces c.add.ensures
