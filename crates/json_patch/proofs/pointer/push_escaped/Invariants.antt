use Rattle.std.proofs.Common.{◌≡◌, string_bytes, ◌++◌, length}
use denote.Text.{Utf8}
use denote.Shadow.{shadow}
use Rattle.json_patch.specs.Pointer.{escaped_token}
use Rattle.json_patch.proofs.PointerWriting.{FrontWritten}
use Rattle.json_patch.proofs.pointer.push_escaped.Given as goal

-- what was appended, and what is left to be escaped
abbrev pub invariant-tildes : goal.invariant-tildes
invariant-tildes l =
    shadow (Utf8 l.remaining) × (string_bytes l.fn.text ++ escaped_token l.fn.token ≡ string_bytes l.text ++ escaped_token l.remaining)
    × FrontWritten (string_bytes l.fn.text) (string_bytes l.text) (escaped_token l.fn.token) (escaped_token l.remaining)

abbrev pub decreases-tildes : goal.decreases-tildes
decreases-tildes l = length l.remaining
