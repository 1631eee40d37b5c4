use Rattle.std.proofs.Common.{◌≡◌, ◌∙◌, rules, length, slice_get}
use Rattle.mezdruk_arguments.specs.Arguments.{operands_of}
use Rattle.mezdruk_arguments.proofs.Lines.{words_length, missing_is}
use Rattle.mezdruk_arguments.proofs.line.ArgumentLine.next_operand.Goals as goal

pub returns-in-Some-None : goal.returns-in-Some-None
returns-in-Some-None c =
    λ s h.
    let read : c.copied.result ≡ slice_get (operands_of c.in-Some-None.verb) (length c.args.self.now.operands.items) = search rules in
    read ∙ missing_is c.args.self.now.source s.source c.args.self.now.verb s.verb c.in-Some-None.verb _ _ c.in-Some-None.is-1 h.source c.in-Some-None.is-0 h.verb (words_length s.operands _ h.operands)
