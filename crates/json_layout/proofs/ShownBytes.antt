-- Bytes as they are shown, by tables.
use Rattle.std.proofs.Common.{◌≡◌, ℕ, ◌+◌, ◌<◌, ◌≤◌, true, nat_lt, List, ◌++◌, length, take, get_or, refl, ap, ◌∙◌, arith}
use Rattle.std.specs.Int.{w64, to_le_bytes}
use Rattle.std.specs.Str.{bytes_eq}
use Rattle.std.proofs.lemmas.Bool.{agree_below, agree_below_at, ltb-true}
use Rattle.std.proofs.lemmas.Slice.Eq.{bytes_eq-Decides}
use lib.Lanes.{put_chunk}
use Rattle.json_model.specs.Print.{shown_byte}
use Rattle.json_layout.proofs.Overlapping.{before_back}
use Rattle.json_layout.specs.declared.shown.TheConstants.{SHOWN, LENGTHS}

-- what the tables say of a byte
abbrev pub by_tables : List ℕ → List ℕ → ℕ → List ℕ
by_tables table lengths b = take (get_or lengths b 0) (to_le_bytes w64 (get_or table b 0))

-- tables that agree at each of the 256 bytes
from_tables : (table lengths : List ℕ) (b : ℕ) → b < 256 → agree_below (λ x. bytes_eq (by_tables table lengths x) (shown_byte x)) (λ _. true) 256 ≡ true → by_tables table lengths b ≡ shown_byte b
from_tables table lengths b small all =
    (bytes_eq-Decides (by_tables table lengths b) (shown_byte b)).0 (agree_below_at (λ x. bytes_eq (by_tables table lengths x) (shown_byte x)) (λ _. true) 256 b all small)

pub tables_shown : (b : ℕ) → b < 256 → by_tables SHOWN LENGTHS b ≡ shown_byte b
unfolding shown_byte
tables_shown b small = from_tables SHOWN LENGTHS b small refl

few_by : (lengths : List ℕ) (b : ℕ) → b < 256 → agree_below (λ x. nat_lt (get_or lengths x 0) 7) (λ _. true) 256 ≡ true → get_or lengths b 0 < 7
few_by lengths b small all = ltb-true _ 7 (agree_below_at (λ x. nat_lt (get_or lengths x 0) 7) (λ _. true) 256 b all small)

pub lengths_few : (b : ℕ) → b < 256 → get_or LENGTHS b 0 < 7
lengths_few b small = few_by LENGTHS b small refl

-- the first of eight bytes that are stored
pub first_stored : (room q : List ℕ) (at n b : ℕ) → at + 8 ≤ length room → length q ≡ 8 → n ≤ 8 → take n q ≡ shown_byte b → take (at + n) (put_chunk at room q) ≡ take at room ++ shown_byte b
first_stored room q at n b fits long few e = before_back room q at n (omega (arith, fits, long)) (omega (arith, long, few)) ∙ ap (λ x. take at room ++ x) e
