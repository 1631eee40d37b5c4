use Rattle.std.proofs.Common.{refl, ap, ◌∙◌}
use Rattle.json_grammar.specs.Tree.{null, boolean, num, text}
use Rattle.json_model.specs.Print.{quoted}
use Rattle.json_number.specs.Numbers.{text_of_number}
use Rattle.json_value.specs.Denotes.{literal_bytes, text_bytes}
use Rattle.json_value.proofs.WholeTrees.{null_in, bool_in, number_in, literal_in, text_in}
use Rattle.mezdruk_files.proofs.PrintedScalars.{prints_scalar}
use Rattle.mezdruk_files.proofs.text.print_text.Goals as goal

pub returns-in-Null : goal.returns-in-Null
returns-in-Null g c = prints_scalar _ _ c.args.style _ null _ _ (null_in _ c.in-Null.is) refl refl c.write_text.ensures.prints

pub returns-in-Bool : goal.returns-in-Bool
returns-in-Bool g c =
    prints_scalar _ _ c.args.style _ (boolean c.in-Bool.boolean) _ _ (bool_in _ c.in-Bool.boolean c.in-Bool.is) refl (c.as_bytes.ensures.value ∙ c.boolean_text.ensures) c.write_text-in-Bool.ensures.prints

pub returns-in-Number : goal.returns-in-Number
returns-in-Number g c =
    let t = num (text_of_number c.in-Number.number) in
    prints_scalar _ _ c.args.style _ t _ _ (number_in _ c.in-Number.number c.in-Number.is) refl refl (c.flush_added.ensures _ _ c.add_integer.ensures)

pub returns-in-Raw : goal.returns-in-Raw
returns-in-Raw g c =
    let t = num (literal_bytes c.in-Raw.literal) in
    prints_scalar _ _ c.args.style _ t _ _ (literal_in _ c.in-Raw.literal c.in-Raw.is) refl (c.as_bytes-in-Raw.ensures.value ∙ c.as_str.ensures.literal) c.write_text-in-Raw.ensures.prints

pub returns-in-Text : goal.returns-in-Text
returns-in-Text g c =
    let t = text (text_bytes c.in-Text.text) in
    prints_scalar _ _ c.args.style _ t _ _ (text_in _ c.in-Text.text c.in-Text.is) refl (ap quoted c.as_str-in-Text.ensures) (c.flush_added-in-Text.ensures _ _ c.add_string.ensures)
