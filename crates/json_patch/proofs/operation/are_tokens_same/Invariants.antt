use Rattle.std.proofs.Common.{◌≡◌, ◌≤◌, map, string_bytes, drop, length}
use Rattle.json_patch.specs.Patch.{tokens_eq}
use Rattle.json_patch.proofs.operation.are_tokens_same.Given as goal

-- the tokens so far are the same, and those left decide
abbrev pub invariant-first : goal.invariant-first
invariant-first l =
    (tokens_eq (map string_bytes l.fn.first) (map string_bytes l.fn.second) ≡ tokens_eq (map string_bytes (drop l.i l.first)) (map string_bytes (drop l.i l.second))) × (l.i ≤ length l.second)
