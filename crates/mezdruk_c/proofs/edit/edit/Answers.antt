use Rattle.std.proofs.Common.{◌<◌, ◌^◌, length, map, sym, ap, subst, ◌∙◌}
use Rattle.std.proofs.lemmas.List.{length-map}
use Rattle.json_value.specs.Edits.{edit_of}
use Rattle.mezdruk_c.proofs.EditedTexts.{few_spelled}
use Rattle.mezdruk_c.proofs.edit.edit.Goals as goal

pub edit_text-requires : goal.edit_text-requires
edit_text-requires c =
    subst (λ n. n < 2 ^ 32) (length-map c.in-Ok.list.items edit_of ∙ ap length (sym c.deref.ensures.value)) (few_spelled c.args.edits.now (map edit_of c.in-Ok.list.items) c.in-Ok.ensures.ok)
