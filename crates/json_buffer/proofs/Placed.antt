-- Pieces stored after what is in memory.
use Rattle.std.proofs.Common.{◌≡◌, ℕ, ◌+◌, ◌-◌, ◌<◌, ◌≤◌, List, [], ◌∷◌, ◌++◌, length, take, drop, get_or, sym, ap, ap₂, ◌∙◌, arith, append_assoc}
use Rattle.std.proofs.Math.Seq.{take-add, take-append_seam}
use Rattle.std.proofs.lemmas.List.{take-take}
use Rattle.std.proofs.lemmas.Simd.{length-chunk}
use lib.Lanes.{chunk, put_chunk}
use Rattle.json_grammar.specs.Given.{piece}
use Rattle.json_model.specs.Print.{quoted, shown_byte, shown_bytes}
use Rattle.json_scan.specs.Runs.{plain}
use Rattle.json_layout.proofs.Escapes.{plain_all, run_shown, byte_shown}
use Rattle.json_layout.proofs.Overlapping.{before_back}
use Rattle.json_layout.proofs.PlacedItems.{front_stays}

-- fewer of what stays
pub front_same : (old new : List ℕ) (n m : ℕ) → n ≤ m → take m new ≡ take m old → take n new ≡ take n old
front_same old new n m l h = sym (take-take n m new l) ∙ ap (take n) h ∙ take-take n m old l

-- one piece after another
pub then_placed : (old mid new p q : List ℕ) (end at to : ℕ) → take at mid ≡ take end old ++ p → take to new ≡ take at mid ++ q → take to new ≡ take end old ++ (p ++ q)
then_placed old mid new p q end at to h k = k ∙ ap (λ x. x ++ q) h ∙ append_assoc (take end old) p q

-- a string between its quotes
pub quoted_placed : (old a b c new lead text : List ℕ) (end quote close : ℕ) → plain text → take quote a ≡ take end old ++ lead → take (quote + 1) b ≡ take quote a ++ 34 ∷ [] → take close c ≡ take (quote + 1) b ++ text
    → take (close + 1) new ≡ take close c ++ 34 ∷ [] → take (close + 1) new ≡ take end old ++ (lead ++ quoted text)
quoted_placed old a b c new lead text end quote close p h i j k =
    then_placed old c new (lead ++ (34 ∷ text)) (34 ∷ []) end close (close + 1) (then_placed old b c (lead ++ 34 ∷ []) text end (quote + 1) close (then_placed old a b lead (34 ∷ []) end quote (quote + 1) h i) j ∙ ap (λ x. take end old ++ x) (append_assoc lead (34 ∷ []) text)) k
    ∙ ap (λ x. take end old ++ x) (append_assoc lead (34 ∷ text) (34 ∷ []) ∙ ap (λ x. lead ++ 34 ∷ (x ++ 34 ∷ [])) (sym (plain_all text p)))

-- what is in front of a string that could not be stored
pub quoted_kept : (old a b c lead : List ℕ) (end quote : ℕ) → end ≤ quote → end ≤ length old → quote ≤ length a → take quote a ≡ take end old ++ lead → take (quote + 1) b ≡ take quote a ++ 34 ∷ [] → take (quote + 1) c ≡ take (quote + 1) b
    → take end c ≡ take end old
quoted_kept old a b c lead end quote later room within h i j =
    front_same b c end (quote + 1) (omega (arith, later)) j ∙ front_same a b end quote later (front_stays a b (34 ∷ []) quote (quote + 1) (omega arith) within i) ∙ front_stays old a lead end quote later room h

-- the first bytes of a block
pub block_placed : (old b : List ℕ) (at from to n : ℕ) → to ≤ from + n → from + n ≤ length b → at + n ≤ length old → take (at + (to - from)) (put_chunk at old (chunk from n b)) ≡ take at old ++ piece b from to
block_placed old b at from to n few block room =
    let q : List ℕ = chunk from n b in
    let long : length q ≡ n = length-chunk from n b block in
    before_back old q at (to - from) (omega (arith, room, long)) (omega (arith, few, long)) ∙ ap (λ x. take at old ++ x) (take-take (to - from) n (drop from b) (omega (arith, few)))

-- a run and an escape after what was shown
pub run_placed : (old mid new b : List ℕ) (at end to i j : ℕ) → i ≤ j → plain (piece b i j) → take end mid ≡ take at old ++ shown_bytes (take i b) → take to new ≡ take end mid ++ piece b i j → take to new ≡ take at old ++ shown_bytes (take j b)
run_placed old mid new b at end to i j l p h k = then_placed old mid new _ _ at end to h k ∙ ap (λ x. take at old ++ x) (run_shown b i j l p)

pub escape_placed : (old mid new b : List ℕ) (at end to i : ℕ) → i < length b → take end mid ≡ take at old ++ shown_bytes (take i b) → take to new ≡ take end mid ++ shown_byte (get_or b i 0) → take to new ≡ take at old ++ shown_bytes (take (i + 1) b)
escape_placed old mid new b at end to i l h k = then_placed old mid new _ _ at end to h k ∙ ap (λ x. take at old ++ x) (byte_shown b i l)

-- digits that end where they have to
pub digits_placed : (old new digits rest : List ℕ) (at : ℕ) → take at new ≡ take at old → drop at new ≡ digits ++ rest → take (at + length digits) new ≡ take at old ++ digits
digits_placed old new digits rest at h k =
    take-add at (length digits) new ∙ ap₂ (λ x y. x ++ take (length digits) y) h k ∙ ap (λ x. take at old ++ x) (take-append_seam digits rest)
