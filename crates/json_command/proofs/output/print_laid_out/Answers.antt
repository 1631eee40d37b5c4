use Rattle.std.proofs.Common.{true, false, refl, sym}
use Rattle.json_value.specs.Denotes.{tree_of}
use Rattle.json_value.specs.Seen.{seen}
use Rattle.json_command.proofs.Printing.{in_style, of_tree, style_ran_out, tree_ran_out}
use Rattle.json_command.proofs.output.print_laid_out.Goals as goal

pub returns-then-sorts : goal.returns-then-sorts
returns-then-sorts g c =
    let i = g.L.Layout.indent c.args.layout in let t = tree_of c.args.value.now in
    record {
      text = in_style _ _ _ i i true _ t refl (sym c.if-sorts.true) (of_tree _ _ _ i true (seen c.view-view.result) t c.view-view.ensures.tree c.print_sorted.ensures.text);
      ran_out = λ s. absurd (cc (s, c.if-sorts.true));
    }

pub returns-else-sorts : goal.returns-else-sorts
returns-else-sorts g c =
    let i = g.L.Layout.indent c.args.layout in let t = tree_of c.args.value.now in
    record {
      text = in_style _ _ _ i i false _ t refl (sym c.if-sorts.false) (of_tree _ _ _ i false (seen c.view-view.result) t c.view-view.ensures.tree c.print.ensures.text);
      ran_out = λ s e. style_ran_out _ i i false _ t refl (sym c.if-sorts.false) (tree_ran_out _ _ i (seen c.view-view.result) t c.view-view.ensures.tree (c.print.ensures.ran_out e));
    }
