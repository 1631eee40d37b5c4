use Rattle.std.proofs.Common.{None, Some, ap, ◌∙◌}
use Rattle.json_value.specs.Denotes.{tree_of}
use Rattle.json_command.proofs.Printing.{in_style, style_ran_out}
use Rattle.json_command.proofs.output.styled.Goals as goal

pub returns-in-None : goal.returns-in-None
returns-in-None g c =
    let t = tree_of c.args.value.now in let sorts = c.sorted-sorts.ensures in
    record {
      text = in_style _ _ _ None _ _ _ t c.in-None.ensures.same sorts c.print_laid_out.ensures.text;
      ran_out = λ s e. style_ran_out _ None _ _ _ t c.in-None.ensures.same sorts (c.print_laid_out.ensures.ran_out (sorts ∙ s) e);
    }

pub returns-in-Some : goal.returns-in-Some
returns-in-Some g c =
    let t = tree_of c.args.value.now in let sorts = c.sorted-sorts.ensures in let indent = c.new.ensures ∙ ap Some c.as_bytes.ensures.value ∙ c.in-Some.ensures.same in
    record {
      text = in_style _ _ _ _ _ _ _ t indent sorts c.print_laid_out-in-Some.ensures.text;
      ran_out = λ s e. style_ran_out _ _ _ _ _ t indent sorts (c.print_laid_out-in-Some.ensures.ran_out (sorts ∙ s) e);
    }
