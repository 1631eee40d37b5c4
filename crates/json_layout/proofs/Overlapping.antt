-- A piece that is stored by two blocks, which may overlap.
use Rattle.std.proofs.Common.{◌≡◌, ℕ, ◌+◌, ◌-◌, ◌≤◌, List, ◌++◌, length, take, drop, sym, ap, ◌∙◌, arith}
use Rattle.std.proofs.Math.Seq.{take-append-add}
use Rattle.std.proofs.lemmas.List.{take-take, take_all, take-append-drop, length-take, length-drop, append_assoc}
use Rattle.std.proofs.lemmas.Simd.{length-put_chunk, length-chunk, take_more_put_chunk}
use lib.Lanes.{chunk, put_chunk}

-- what precedes the second block, once the first is stored
pub before_back : (b q : List ℕ) (at k : ℕ) → at + length q ≤ length b → k ≤ length q → take (at + k) (put_chunk at b q) ≡ take at b ++ take k q
before_back b q at k room short =
    let whole : take (at + length q) (put_chunk at b q) ≡ take at b ++ q = take_more_put_chunk at b q (at + length q) (omega arith) room in
    let front : length (take at b) ≡ at = omega (arith, length-take at b) in
    let within : at + k ≤ at + length q = omega arith in
    sym (take-take (at + k) (at + length q) (put_chunk at b q) within) ∙ ap (take (at + k)) whole
    ∙ ap (λ n. take (n + k) (take at b ++ q)) (sym front) ∙ take-append-add (take at b) q k

pub stored : (b p : List ℕ) (at n : ℕ) → at + length p ≤ length b → n ≤ length p → length p ≤ n + n
    → take (at + length p) (put_chunk (at + (length p - n)) (put_chunk at b (chunk 0 n p)) (chunk (length p - n) n p)) ≡ take at b ++ p
stored b p at n room long short =
    let k : ℕ = length p - n in
    let q : List ℕ = chunk 0 n p in
    let first : length q ≡ n = length-chunk 0 n p (omega arith) in
    let last : length (chunk k n p) ≡ n = length-chunk k n p (omega arith) in
    let middle : List ℕ = put_chunk at b q in
    let size : length middle ≡ length b = length-put_chunk at b q in
    let back : chunk k n p ≡ drop k p = take_all n (drop k p) (omega (arith, length-drop k p)) in
    take_more_put_chunk (at + k) middle (chunk k n p) (at + length p) (omega arith) (omega arith)
    ∙ ap (λ x. x ++ chunk k n p) (before_back b q at k (omega arith) (omega arith) ∙ ap (λ x. take at b ++ x) (take-take k n p (omega arith)))
    ∙ append_assoc (take at b) (take k p) (chunk k n p) ∙ ap (λ x. take at b ++ (take k p ++ x)) back ∙ ap (λ x. take at b ++ x) (take-append-drop k p)
