use Rattle.std.proofs.Common.{◌≡◌, map, string_bytes, drop}
use Rattle.json_patch.specs.Pointer.{value_at_pointer}
use Rattle.json_patch.specs.PointerTargets.{target_at_pointer}
use Rattle.json_value.specs.Seen.{seen}
use Rattle.json_value.specs.ViewTargets.{view_target}
use Rattle.json_patch.proofs.lookup.find_value.Given as goal

-- the tokens left reference the value from here, at the same place
abbrev pub invariant-loop-token : goal.invariant-loop-token
invariant-loop-token l = record {
  tree : value_at_pointer (map string_bytes l.fn.tokens) (seen l.fn.root) ≡ value_at_pointer (map string_bytes (drop l.token-index l.tokens)) (seen l.here);
  target : target_at_pointer (map string_bytes l.fn.tokens) (seen l.fn.root) (view_target l.fn.root) ≡ target_at_pointer (map string_bytes (drop l.token-index l.tokens)) (seen l.here) (view_target l.here);
}
