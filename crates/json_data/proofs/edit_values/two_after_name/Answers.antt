use Rattle.std.proofs.Common.{sym, ◌∙◌}
use Rattle.json_value.specs.Seen.{seen, elements_seen}
use Rattle.json_data.proofs.Spelling.{two_of}
use Rattle.json_data.proofs.edit_values.two_after_name.Goals as goal

pub returns : goal.returns
returns c = two_of (elements_seen c.args.array) (seen c.in_ok-first.first) (seen c.in_ok-second.second) (sym c.len.ensures ∙ c.if-len-ne3.false) c.in_ok-first.ensures.tree c.in_ok-second.ensures.tree
