use Rattle.std.proofs.Common.{sym, subst, ap, ◌∙◌}
use Rattle.std.proofs.lemmas.Result.{IfOk-weaker}
use Rattle.json_command.specs.Input.{IsInput}
use Rattle.json_doc.specs.Docs.{doc_root, doc_tree}
use Rattle.json_text.specs.Ruled.{rules_of}
use Rattle.mezdruk_files.proofs.document.read_value.Goals as goal

pub returns-in-Ok-clause-ok : goal.returns-in-Ok-clause-ok
returns-in-Ok-clause-ok c =
    IfOk-weaker c.from_place.result _ _
    (λ v e. subst (IsInput (rules_of c.args.rules) c.args.bytes.now) (sym (e ∙ ap (doc_tree c.in-Ok.doc.value) (c.root.ensures.place ∙ ap doc_root c.deref.ensures))) c.in-Ok.ensures.ok) c.from_place.ensures.tree
