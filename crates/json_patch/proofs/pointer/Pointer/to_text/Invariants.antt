use Rattle.std.proofs.Common.{◌≡◌, string_bytes, ◌++◌, map, drop}
use Rattle.json_patch.specs.Lookups.{pointer_tokens}
use Rattle.json_patch.specs.Pointer.{pointer_text}
use Rattle.json_patch.proofs.pointer.Pointer.to_text.Given as goal

-- the text so far, and the tokens left
abbrev pub invariant-loop-token : goal.invariant-loop-token
invariant-loop-token l = pointer_text (pointer_tokens l.self) ≡ string_bytes l.text ++ pointer_text (map string_bytes (drop l.token-index l.self.tokens.items))
