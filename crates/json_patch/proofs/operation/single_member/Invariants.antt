use Rattle.std.proofs.Common.{◌≡◌, ◌++◌, option_map}
use Rattle.json_grammar.specs.Tree.{list_pairs}
use Rattle.json_model.specs.Sort.{values_of}
use Rattle.json_value.specs.Left.{members_left, members_targets_left}
use Rattle.json_value.specs.Seen.{seen, members_seen}
use Rattle.json_value.specs.TargetParts.{members_targets}
use Rattle.json_value.specs.ViewTargets.{view_target}
use Rattle.json_patch.specs.PointerTargets.{first_target}
use Rattle.json_patch.proofs.Members.{listed}
use Rattle.json_patch.proofs.PointerTargets.{or_else}
use Rattle.json_patch.proofs.operation.single_member.Given as goal

-- the values of the key are what was found, and then those of the members left; the first of them
-- is where that was, or else the first of those left
abbrev pub invariant-members : goal.invariant-members
invariant-members l = record {
  values : values_of l.fn.key (list_pairs (members_seen l.fn.object)) ≡ listed (option_map seen l.found) ++ values_of l.fn.key (list_pairs (members_left l.name-iterator));
  first : or_else (option_map view_target l.found) (first_target l.fn.key (members_targets_left l.name-iterator)) ≡ first_target l.fn.key (members_targets l.fn.object);
}
