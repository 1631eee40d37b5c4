use Rattle.std.proofs.Common.{◌≡◌, ◌≤◌, map, string_bytes, drop, length}
use Rattle.json_patch.specs.Patch.{is_proper_prefix}
use Rattle.json_patch.proofs.operation.is_prefix.Given as goal

-- the tokens so far are the same, and those left decide
abbrev pub invariant-prefix : goal.invariant-prefix
invariant-prefix l =
    (is_proper_prefix (map string_bytes l.fn.prefix) (map string_bytes l.fn.tokens) ≡ is_proper_prefix (map string_bytes (drop l.i l.prefix)) (map string_bytes (drop l.i l.tokens))) × (l.i ≤ length l.tokens)
