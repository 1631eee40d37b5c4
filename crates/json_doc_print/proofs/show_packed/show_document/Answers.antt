use Rattle.std.proofs.Common.{ap}
use Rattle.json_model.specs.Print.{shown}
use Rattle.json_doc.specs.Seen.{view_tree}
use Rattle.json_layout.proofs.ShownParts.{Shows-same}
use Rattle.json_doc_print.proofs.ShownTrees.{node_is}
use Rattle.json_doc_print.proofs.show_packed.show_document.Goals as goal

pub returns : goal.returns
returns g c = Shows-same _ _ _ _ _ (ap (shown (g.L.Layout.indent c.args.layout) c.args.level) (node_is c.node.result (view_tree c.args.view) c.node.ensures.tree)) c.show_root.ensures
