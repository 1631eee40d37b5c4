use Rattle.std.proofs.Common.{subst, sym, ◌∙◌}
use Rattle.json_grammar.specs.Grammar.{number}
use Rattle.json_number.proofs.Forms.{reads}
use Rattle.json_number.proofs.number.Number.to_raw.Goals as goal

pub from_literal-requires : goal.from_literal-requires
from_literal-requires c = subst number (sym (c.as_str.ensures.value ∙ c.in_ok-text.ensures.ok)) (reads c.args.self.now).0
