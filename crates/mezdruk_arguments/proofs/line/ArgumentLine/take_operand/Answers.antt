use Rattle.std.proofs.Common.{refl, sym, subst, ap, ◌∙◌, map, ◌++◌, ◌∷◌, [], if◌then◌else◌}
use Rattle.json_value.specs.Denotes.{tree_of}
use Rattle.mezdruk_arguments.specs.Line.{SpellAll}
use Rattle.mezdruk_arguments.proofs.Lines.{words_more}
use Rattle.mezdruk_arguments.proofs.line.ArgumentLine.take_operand.Goals as goal

pub returns-then-push_value-clause-ok : goal.returns-then-push_value-clause-ok
returns-then-push_value-clause-ok c =
    λ s h.
    let spelled = c.in_ok-operand.ensures.ok in
    record {
      may = record { allowed = refl; operand = (_, spelled) };
      holds = record {
        verb = h.verb;
        settings = h.settings;
        ended = h.ended;
        awaits_width = h.awaits_width;
        source = h.source;
        operands = subst (λ vs. SpellAll (s.operands ++ (c.args.kind, c.args.word.now) ∷ []) (map tree_of vs)) (sym (c.push_value.ensures ∙ ap (λ b. if b then c.args.self.now.operands.items ++ c.in_ok-operand.operand ∷ [] else c.args.self.now.operands.items) c.if-push_value.true)) (words_more s.operands c.args.self.now.operands.items c.args.kind c.args.word.now c.in_ok-operand.operand h.operands spelled);
        files = h.files;
      };
    }
