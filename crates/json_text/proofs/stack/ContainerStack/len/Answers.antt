use Rattle.std.proofs.Common.{sym, ◌∙◌, ap, length}
use Rattle.json_text.proofs.Stacks.{kinds_length}
use Rattle.json_text.proofs.stack.ContainerStack.len.Goals as goal

pub returns-clause-value : goal.returns-clause-value
returns-clause-value c = sym (kinds_length c.self.inside.bits c.self.inside.len) ∙ ap length c.self.view_is
