use Rattle.std.proofs.Common.{◌≡◌, map, take, false}
use Rattle.json_grammar.specs.Tree.{list_pairs}
use Rattle.json_model.specs.Edit.{has_key}
use Rattle.json_value.specs.Denotes.{pair_of}
use Rattle.json_value.proofs.pair.find_key.Given as goal

-- no member before this one has the key
abbrev pub invariant-loop-i : goal.invariant-loop-i
invariant-loop-i l = has_key l.key (list_pairs (map pair_of (take l.i l.pairs))) ≡ false
