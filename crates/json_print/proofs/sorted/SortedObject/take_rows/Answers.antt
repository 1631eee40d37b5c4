use Rattle.std.proofs.Common.{ap, ◌∙◌, refl, ◌++◌, true}
use Rattle.std.proofs.lemmas.Result.{on_ok_weaker}
use Rattle.std.specs.String.{string_bytes}
use Rattle.json_print.specs.Members.{layer_of}
use Rattle.json_print.specs.Printer.{Layer, rows_sorted}
use Rattle.json_print.specs.Rows.{rows_bytes}
use Rattle.json_print.proofs.Members.{grown, put_bytes, hold_texts, layer_texts}
use Rattle.json_print.proofs.sorted.SortedObject.take_rows.Goals as goal

pub invariant_of-self : goal.invariant_of-self
invariant_of-self g c =
    let q = grown _ _ c.self.inside.texts.bytes.items _ _ _ refl refl c.put_rows.ensures.puts in
    rw q.1 (hold_texts _ _ q.0 _ _ _ c.self.invariant)

pub returns-clause-ok : goal.returns-clause-ok
returns-clause-ok g c =
    let m = g.F.Formatter.form in
    let p = rows_bytes m c.args.formatter.now true (rows_sorted c.args.object.now.rows) in
    on_ok_weaker c.put_rows.result (λ e. ap (λ texts. layer_of (string_bytes c.self.inside.keys) texts c.self.inside.members.items c.self.inside.key_from c.self.inside.text_from) e
    ∙ layer_texts _ _ p _ _ _ c.self.invariant ∙ ap (λ (l : Layer). let r : Layer = record l { text = l.text ++ p } in r) c.self.view_is)
    (put_bytes _ _ c.self.inside.texts.bytes.items _ p _ refl refl c.put_rows.ensures.puts)
