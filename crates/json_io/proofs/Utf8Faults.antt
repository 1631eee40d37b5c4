-- Bytes that are no UTF-8 have a longest prefix that is.
use Rattle.std.proofs.Common.{◌≡◌, ℕ, zero, suc, ◌<◌, ◌≤◌, Bool, true, false, List, length, take, arith, refl, subst, inl, inr, ◌⊎◌, IsUtf8}
use Rattle.std.proofs.lemmas.Bool.{cases_lt}
use Rattle.std.proofs.lemmas.List.{take_all}
use Rattle.std.proofs.lemmas.Str.{IsUtf8-from_is_utf8, is_utf8-from_IsUtf8, IsUtf8-nil}
use Rattle.std.specs.Str.{is_utf8}
use Rattle.json_io.specs.Utf8.{IsUtf8Fault}

-- no prefix that is longer than k and no longer than n is UTF-8
record LongestUpTo (b : List ℕ) (n k : ℕ) : Type 0 where
  within : k ≤ n
  front : IsUtf8 (take k b)
  longest : (m : ℕ) → k < m → m ≤ n → ¬ IsUtf8 (take m b)

longest_more : (b : List ℕ) (n k : ℕ) → LongestUpTo b n k → (t : Bool) → is_utf8 (take (suc n) b) ≡ t → (j : ℕ) × LongestUpTo b (suc n) j
longest_more b n k h true e = (suc n, record { within = omega arith; front = IsUtf8-from_is_utf8 (take (suc n) b) e; longest = λ m l le. absurd (omega arith) })
longest_more b n k h false e =
    (k, record { within = omega (arith, h.within); front = h.front; longest = λ m l le. elim (cases_lt m (suc n)) [ inl lt ↦ h.longest m l (omega arith) | inr ge ↦ last m (omega arith) ] })
  where
    last : (m : ℕ) → m ≡ suc n → ¬ IsUtf8 (take m b)
    last m same u = let t : is_utf8 (take (suc n) b) ≡ true = is_utf8-from_IsUtf8 (take (suc n) b) (subst (λ x. IsUtf8 (take x b)) same u) in cc

longest_up_to : (b : List ℕ) (n : ℕ) → (k : ℕ) × LongestUpTo b n k
longest_up_to b zero = (0, record { within = omega arith; front = IsUtf8-nil; longest = λ m l le. absurd (omega arith) })
longest_up_to b (suc n) = longest_more b n (longest_up_to b n).0 (longest_up_to b n).1 (is_utf8 (take (suc n) b)) refl

fault_from : (b : List ℕ) (k : ℕ) → LongestUpTo b (length b) k → ¬ IsUtf8 b → IsUtf8Fault b k
fault_from b k h bad =
    record {
      short = elim (cases_lt k (length b)) [ inl l ↦ l | inr ge ↦ absurd (bad (subst IsUtf8 (take_all k b ge) h.front)) ];
      front = h.front;
      longest = λ m l u. elim (cases_lt m (length b)) [ inl lt ↦ h.longest m l (omega arith) u | inr ge ↦ bad (subst IsUtf8 (take_all m b ge) u) ];
    }

pub some_fault : (b : List ℕ) → IsUtf8 b ⊎ ((k : ℕ) × IsUtf8Fault b k)
some_fault b = by_test (is_utf8 b) refl
  where
    by_test : (t : Bool) → is_utf8 b ≡ t → IsUtf8 b ⊎ ((k : ℕ) × IsUtf8Fault b k)
    by_test true e = inl (IsUtf8-from_is_utf8 b e)
    by_test false e =
        let k = longest_up_to b (length b) in
        inr (k.0, fault_from b k.0 k.1 (λ u. let t : is_utf8 b ≡ true = is_utf8-from_IsUtf8 b u in cc))
