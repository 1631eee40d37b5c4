-- The numbers that options ask for.
use Rattle.std.proofs.Common.{◌≡◌, ℕ, ◌≤◌, List, Some, codes}
use Rattle.json_command.proofs.Numerals.{few_after}
use Rattle.json_command.specs.Options.{depth_in}
use Rattle.reshape.specs.Options.{made_in}

pub depth_few : (w : List ℕ) (n : ℕ) → depth_in w ≡ Some n → n ≤ 1024
depth_few w n e = few_after (codes "--depth") 1024 w n e

pub made_few : (w : List ℕ) (n : ℕ) → made_in w ≡ Some n → n ≤ 100000
made_few w n e = few_after (codes "--make") 100000 w n e
