use Rattle.std.proofs.Common.{◌≡◌, string_bytes, map, ◌++◌, length}
use Rattle.std.specs.Prelude.{option_map}
use denote.Text.{Utf8}
use denote.Shadow.{shadow}
use Rattle.json_patch.specs.Pointer.{unescaped_tokens, split_at_slashes}
use Rattle.json_patch.proofs.pointer.read_tokens.Given as goal

-- what was parsed, and what is remaining
abbrev pub invariant-parts : goal.invariant-parts
invariant-parts l = shadow (Utf8 l.remaining) × (unescaped_tokens (split_at_slashes l.fn.parts) ≡ option_map (λ ks. map string_bytes l.tokens.items ++ ks) (unescaped_tokens (split_at_slashes l.remaining)))

abbrev pub decreases-parts : goal.decreases-parts
decreases-parts l = length l.remaining
