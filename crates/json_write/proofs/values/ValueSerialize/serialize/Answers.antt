use Rattle.std.proofs.Common.{subst}
use Rattle.json_grammar.specs.Tree.{Tree}
use Rattle.json_value.proofs.ProperValues.{value_proper}
use Rattle.json_value.specs.Denotes.{tree_of}
use Rattle.json_doc_print.specs.Emitting.{Emits, tree_given}
use Rattle.json_write.proofs.TreeData.{tree_written}
use Rattle.json_write.proofs.values.ValueSerialize.serialize.Goals as goal

pub returns : goal.returns
returns g c =
    tree_written (tree_of c.args.self.now) (value_proper c.args.self.now)
    (subst (λ (t : Tree). Emits g.E.Events.after g.E.Events.stopped (g.E.Events.state c.args.out.now) (g.E.Events.state c.emit.new.out) (g.E.Events.failed c.args.out.now) (g.E.Events.failed c.emit.new.out) (tree_given t) c.emit.result) c.view.ensures.tree c.emit.ensures.given)
