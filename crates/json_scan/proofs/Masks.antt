-- From the mask of one block to how many of its bytes are of a class.
use Rattle.std.proofs.Common.{◌≡◌, ℕ, ◌+◌, ◌%◌, ◌^◌, ◌≤◌, ◌==◌, Bool, true, false, cond, not, ◌||◌, List, [], ◌∷◌, map, length, get_or, replicate, Fits, w8, refl, sym, ap, ap₂, ◌∙◌, arith}
use Rattle.std.specs.Prelude.{nat_lt}
use Rattle.std.proofs.lemmas.Bool.{agree_below, agree_below_at, not-true, not-false}
use Rattle.std.proofs.lemmas.Simd.{map-map, mask_l-mod, length-chunk, first_set_mask_l, run_in_chunk_le, run_in_chunk_fails, run_in_chunk_stops}
use Rattle.std.proofs.lemmas.List.{length-map}
use Rattle.std.proofs.lemmas.Bool.Decides.{nat_tests}
use Rattle.std.specs.Int.Count.{count_trailing_zeros}
use Rattle.std.specs.List.{prefix_len}
use lib.Lanes.{chunk, zip2, mask_l, top}
use Rattle.json_grammar.specs.Grammar.{IsWhitespace, IsDigit}
use Rattle.json_scan.specs.Runs.{IsPlain, CountedIn}

zip2-map : (h : ℕ → ℕ → ℕ) (f g : ℕ → ℕ) (xs : List ℕ) → zip2 h (map f xs) (map g xs) ≡ map (λ x. h (f x) (g x)) xs
zip2-map h f g [] = refl
zip2-map h f g (x ∷ xs) = ap (λ r. h (f x) (g x) ∷ r) (zip2-map h f g xs)

-- an operation on two vectors that were computed lane by lane from v
pub joined : (h : ℕ → ℕ → ℕ) (f g : ℕ → ℕ) (v : List ℕ) {a b : List ℕ} → a ≡ map f v → b ≡ map g v → zip2 h a b ≡ map (λ x. h (f x) (g x)) v
joined h f g v p q = ap₂ (zip2 h) p q ∙ zip2-map h f g v

pub splat_is : (v : List ℕ) (n y : ℕ) → length v ≡ n → replicate n y ≡ map (λ _. y) v
splat_is [] n y e = ap (λ k. replicate k y) (sym e)
splat_is (x ∷ xs) n y e = ap (λ k. replicate k y) (sym e) ∙ ap (λ r. y ∷ r) (splat_is xs (length xs) y refl)

-- a test of bytes that decides a class
pub record Decides (class : ℕ → Type 0) (test : ℕ → Bool) : Type 0 where
  pub sound : (x : ℕ) → test x ≡ true → class x
  pub whole : (x : ℕ) → class x → test x ≡ true

module _ (class : ℕ → Type 0) (test : ℕ → Bool) (decides : Decides class test) (b : List ℕ) (i n r : ℕ) (z : List ℕ) (room : i + n ≤ length b) (few : n ≤ 64)
    (fits : (k : ℕ) → Fits w8 (get_or b k 0)) (found : r ≡ cond (mask_l (map (top 7) z) % 2 ^ 64 == 0) n (count_trailing_zeros 64 (mask_l (map (top 7) z) % 2 ^ 64)))
    (f : ℕ → ℕ) (lanes : z ≡ map f (chunk i n b)) where
  abbrev stops : ℕ → Bool
  stops x = top 7 (f x)

  counted : r ≡ prefix_len (λ x. not (stops x)) (chunk i n b)
  counted =
      let v = chunk i n b in
      let long = length-chunk i n b room in
      let mask = ap (λ l. mask_l l % 2 ^ 64) (ap (map (top 7)) lanes ∙ map-map (top 7) f v) ∙ mask_l-mod (map stops v) 64 (omega (arith, length-map v stops, long)) in
      found ∙ ap (λ m. cond (m == 0) n (count_trailing_zeros 64 m)) mask ∙ first_set_mask_l stops v n long few

  -- a lane stops just where the class ends
  pub counted_in : agree_below stops (λ x. not (test x)) 256 ≡ true → CountedIn class b i n r
  counted_in all =
      let same : (k : ℕ) → stops (get_or b k 0) ≡ not (test (get_or b k 0)) = λ k. agree_below_at stops (λ x. not (test x)) 256 (get_or b k 0) all (fits k).fits in
      record {
        few = run_in_chunk_le stops b i n r 0 room counted;
        each = λ k from to. decides.sound (get_or b k 0) (not-false _ (sym (same k) ∙ run_in_chunk_fails stops b i n r 0 room counted k from to));
        stop = λ short h.
            let passed : test (get_or b (i + r) 0) ≡ true = decides.whole (get_or b (i + r) 0) h in
            let failed : test (get_or b (i + r) 0) ≡ false = not-true _ (sym (same (i + r)) ∙ run_in_chunk_stops stops b i n r 0 room counted short) in
            absurd (cc (passed, failed));
      }

abbrev pub plain_test : ℕ → Bool
plain_test x = not (nat_lt x 32 || (x == 34) || (x == 92))

pub plain_decided : Decides IsPlain plain_test
plain_decided = record {
  sound = λ x h. grind (arith, nat_tests);
  whole = λ x h. grind (arith, nat_tests);
}

abbrev pub space_test : ℕ → Bool
space_test x = (x == 32) || (x == 9) || (x == 10) || (x == 13)

pub space_decided : Decides IsWhitespace space_test
space_decided = record {
  sound = λ x h. grind (arith, nat_tests);
  whole = λ x h. grind (arith, nat_tests);
}

abbrev pub digit_test : ℕ → Bool
digit_test x = not (nat_lt x 48 || nat_lt 57 x)

pub digit_decided : Decides IsDigit digit_test
digit_decided = record {
  sound = λ x h. grind (arith, nat_tests);
  whole = λ x h. grind (arith, nat_tests);
}
