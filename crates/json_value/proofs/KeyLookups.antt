-- The first member of a key, met from the left.
use Rattle.std.proofs.Common.{◌≡◌, true, false, cond, List, ◌∷◌, ℕ, Some, ap}
use Rattle.std.specs.Prelude.{bytes_eq}
use Rattle.json_value.specs.Seen.{first_of}

-- a member of the key is the first
pub first_is : {X : Type 0} (k n : List ℕ) (x : X) (ps : List (List ℕ × X)) → bytes_eq n k ≡ true → first_of k ((n, x) ∷ ps) ≡ Some (n, x)
first_is k n x ps e = ap (λ b. cond b (Some (n, x)) (first_of k ps)) e

-- a member of another key is not
pub first_not : {X : Type 0} (k n : List ℕ) (x : X) (ps : List (List ℕ × X)) → bytes_eq n k ≡ false → first_of k ((n, x) ∷ ps) ≡ first_of k ps
first_not k n x ps e = ap (λ b. cond b (Some (n, x)) (first_of k ps)) e
