use Rattle.std.proofs.Common.{◌≡◌, false, string_bytes, ◌++◌, length}
use Rattle.std.specs.Prelude.{option_map}
use denote.Text.{Utf8}
use denote.Shadow.{shadow}
use Rattle.json_patch.specs.Pointer.{unescaped_after}
use Rattle.json_patch.proofs.pointer.read_token.Given as goal

-- what was parsed, and what is remaining
abbrev pub invariant-tildes : goal.invariant-tildes
invariant-tildes l = shadow (Utf8 l.remaining) × (unescaped_after false l.fn.part ≡ option_map (λ k. string_bytes l.token ++ k) (unescaped_after false l.remaining))

abbrev pub decreases-tildes : goal.decreases-tildes
decreases-tildes l = length l.remaining
