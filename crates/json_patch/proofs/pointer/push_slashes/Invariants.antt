use Rattle.std.proofs.Common.{◌≡◌, string_bytes, ◌++◌, length}
use denote.Text.{Utf8}
use denote.Shadow.{shadow}
use Rattle.json_patch.specs.Pointer.{escaped_token, Lacks}
use Rattle.json_patch.proofs.PointerWriting.{FrontWritten}
use Rattle.json_patch.proofs.pointer.push_slashes.Given as goal

-- what was appended, and what is left to be escaped
abbrev pub invariant-slashes : goal.invariant-slashes
invariant-slashes l =
    shadow (Utf8 l.remaining) × Lacks 126 l.remaining × (string_bytes l.fn.text ++ escaped_token l.fn.part ≡ string_bytes l.text ++ escaped_token l.remaining)
    × FrontWritten (string_bytes l.fn.text) (string_bytes l.text) (escaped_token l.fn.part) (escaped_token l.remaining)

abbrev pub decreases-slashes : goal.decreases-slashes
decreases-slashes l = length l.remaining
