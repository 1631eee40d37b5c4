use Rattle.std.proofs.Common.{map}
use Rattle.json_value.specs.Edits.{edit_of}
use Rattle.json_value.proofs.ProperValues.{value_proper}
use Rattle.json_text.specs.Ruled.{rules_of}
use Rattle.reshape.specs.Reshape.{layout_of}
use Rattle.reshape.proofs.Documents.{applied_to, reshaped, print_refused}
use Rattle.reshape.proofs.engine.read_edit_write.Goals as goal

pub returns-clause-done : goal.returns-clause-done
returns-clause-done g c =
    let applied = applied_to (rules_of c.args.forms.rules) (map edit_of c.args.edits.now) c.in_ok-doc.doc.value _ _ _ _ c.in_ok-value.ensures.tree c.root.ensures.place c.deref.ensures c.in_ok-apply_all.ensures.ok in
    reshaped (rules_of c.args.forms.rules) (map edit_of c.args.edits.now) (layout_of c.args.forms.style) _ _ _ _ _ _ c.print_value.result c.in_ok-doc.ensures.read c.args.forms.style.whitespace (value_proper c.apply_all.new.value) applied c.print_value.ensures.prints.ok c.print_value.ensures.prints.flushed

pub returns-clause-refused : goal.returns-clause-refused
returns-clause-refused g c =
    let applied = applied_to (rules_of c.args.forms.rules) (map edit_of c.args.edits.now) c.in_ok-doc.doc.value _ _ _ _ c.in_ok-value.ensures.tree c.root.ensures.place c.deref.ensures c.in_ok-apply_all.ensures.ok in
    print_refused (rules_of c.args.forms.rules) (map edit_of c.args.edits.now) (layout_of c.args.forms.style) _ _ _ _ _ _ c.print_value.result c.in_ok-doc.ensures.read applied c.print_value.ensures.prints c.print_value.ensures.ran_out
