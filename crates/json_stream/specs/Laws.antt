-- Laws on places that are reported.
use Rattle.std.specs.Prelude.{◌≡◌, ℕ, ◌≤◌, Bool, List, length, Some}
use Rattle.std.specs.Str.Lossy.{utf8_lossy}
use Rattle.json_io.specs.Positions.{place_at}
use Rattle.json_text.specs.Repaired.{RepairedText, origin_at, origin_of}
use Rattle.json_stream.specs.Streams.{input_state, reported_place}

-- r is what `repair` makes of the bytes
pub record IsRepairOf (b : List ℕ) (r : RepairedText) : Type 0 where
  pub text : r.text ≡ utf8_lossy b
  pub origin : (k : ℕ) → k ≤ length r.text → origin_of r k ≡ origin_at b k

-- what is reported of a place of the repaired text is its origin in the input
abbrev pub ReportedInInput : Type 0
ReportedInInput =
    (b : List ℕ) (r : RepairedText) (lossy : Bool) (i k : ℕ)
    → IsRepairOf b r
    → k ≤ length r.text
    → reported_place (input_state r.text lossy (Some r) i) k ≡ place_at b (origin_at b k)

-- and of its end, the end of the input
abbrev pub EndReportedInInput : Type 0
EndReportedInInput =
    (b : List ℕ) (r : RepairedText) (lossy : Bool) (i : ℕ)
    → IsRepairOf b r
    → reported_place (input_state r.text lossy (Some r) i) (length r.text) ≡ place_at b (length b)
