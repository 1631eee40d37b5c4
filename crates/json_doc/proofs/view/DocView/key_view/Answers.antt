use Rattle.std.proofs.Common.{◌-◌, Some, ap, ◌∙◌, arith}
use Rattle.std.specs.Prelude.{option_map}
use Rattle.json_grammar.specs.Tree.{text}
use Rattle.json_doc.proofs.Shown.{key_string}
use Rattle.json_doc.proofs.view.DocView.key_view.Goals as goal

pub returns-in-Some-clause-tree : goal.returns-in-Some-clause-tree
returns-in-Some-clause-tree c =
    let d = c.args.self.doc.now in
    let k = c.in-Some.at - 1 in
    ap Some (c.view_at.ensures.tree ∙ key_string d k (omega (arith, c.in-Some.ensures.within)) c.in-Some.ensures.keyed) ∙ ap (option_map text) c.in-Some.ensures.key
