use Rattle.std.proofs.Common.{arith}
use Rattle.json_value.specs.Seen.{seen, elements_seen}
use Rattle.json_lines.proofs.WordsSpelled.{pair_of}
use Rattle.json_lines.proofs.asked.pair_of_elements.Goals as goal

pub returns : goal.returns
returns c = pair_of (elements_seen c.args.array) (seen c.in_ok-first.first) (seen c.in_ok-second.second) (omega (arith, c.len.ensures, c.if-len-ne2.false)) c.in_ok-first.ensures.tree c.in_ok-second.ensures.tree
