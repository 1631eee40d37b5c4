use Rattle.std.proofs.Common.{◌+◌, ◌≤◌, length, arith}
use Rattle.json_text.proofs.Unescaping.{low_begins, begins_low}
use Rattle.json_text.proofs.unescape.low_follows.Goals as goal

pub returns-then-bytes-at-lt-LOW : goal.returns-then-bytes-at-lt-LOW
returns-then-bytes-at-lt-LOW c = (λ h. absurd (cc), λ h. let l = (begins_low c.args.bytes.now c.args.at h).0 in absurd (omega arith))

pub returns : goal.returns
returns c =
    let b = c.args.bytes.now in let i = c.args.at in
    let l : i + 6 ≤ length b = omega arith in
    (λ h. low_begins b i l (c.is_low.ensures.0 h), λ h. c.is_low.ensures.1 (begins_low b i h).1)
