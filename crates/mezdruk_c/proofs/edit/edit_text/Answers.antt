use Rattle.std.proofs.Common.{map, ap, sym, ◌∙◌, Some}
use Rattle.std.proofs.lemmas.Result.{IfOk-weaker}
use Rattle.json_text.specs.Ruled.{rules_of}
use Rattle.json_value.specs.Edits.{edit_of}
use Rattle.reshape.specs.Reshape.{layout_of}
use Rattle.mezdruk_c.specs.Buffers.{buffer_bytes}
use Rattle.mezdruk_c.proofs.EditedTexts.{edited_text, not_edited}
use Rattle.mezdruk_c.proofs.Printed.{no_rise}
use Rattle.mezdruk_c.proofs.edit.edit_text.Goals as goal

pub returns-in-Ok-clause-ok : goal.returns-in-Ok-clause-ok
returns-in-Ok-clause-ok c =
    IfOk-weaker c.of.result _ _
    (λ b is. edited_text (rules_of c.args.rules) (map edit_of c.args.edits.now) (layout_of c.args.style) _ _ _ _ c.args.text.now (buffer_bytes b) c.in-Ok.ensures.done (ap (λ s. s.left) c.new-source.ensures) (ap (λ s. s.gained) c.new-sink.ensures) (c.into_vec.ensures ∙ ap Some (sym is)))
    c.of.ensures.ok

pub returns-in-Err-clause-failed : goal.returns-in-Err-clause-failed
returns-in-Err-clause-failed c =
    not_edited (rules_of c.args.rules) (map edit_of c.args.edits.now) (layout_of c.args.style) _ _ _ _ c.args.text.now c.in-Err.error.code c.in-Err.error.place c.in-Err.ensures.refused (ap (λ s. s.left) c.new-source.ensures) no_rise no_rise
