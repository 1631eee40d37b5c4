use Rattle.std.proofs.Common.{sym, ◌∙◌}
use Rattle.json_value.specs.Seen.{seen, elements_seen}
use Rattle.json_data.proofs.Spelling.{three_of}
use Rattle.json_data.proofs.edit_values.three_after_name.Goals as goal

pub returns : goal.returns
returns c =
    three_of (elements_seen c.args.array) (seen c.in_ok-first.first) (seen c.in_ok-second.second) (seen c.in_ok-third.third) (sym c.len.ensures ∙ c.if-len-ne4.false) c.in_ok-first.ensures.tree
    c.in_ok-second.ensures.tree c.in_ok-third.ensures.tree
