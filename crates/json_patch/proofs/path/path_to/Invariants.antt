use Rattle.std.proofs.Common.{◌≡◌, map, string_bytes, drop, ◌++◌, Ok}
use Rattle.json_model.specs.Edit.{within}
use Rattle.json_patch.specs.ValuesAt.{value_at_path}
use Rattle.json_patch.specs.Pointer.{path_of_tokens}
use Rattle.json_value.specs.Edits.{path_steps}
use Rattle.json_value.specs.Seen.{seen}
use Rattle.json_patch.proofs.path.path_to.Given as goal

-- `here` is the value at the path so far, and the tokens left go on from it
abbrev pub invariant-loop-token : goal.invariant-loop-token
invariant-loop-token l =
    (path_of_tokens (map string_bytes l.fn.tokens) (seen l.fn.root) ≡ within (λ q. path_steps l.path ++ q) (path_of_tokens (map string_bytes (drop l.token-index l.tokens)) (seen l.here)))
    × (value_at_path (path_steps l.path) (seen l.fn.root) ≡ Ok (seen l.here))
