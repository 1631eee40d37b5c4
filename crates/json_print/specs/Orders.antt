-- Keys with their numbers, and their order.
use Rattle.std.specs.Prelude.{◌≡◌, ℕ, ◌<◌, ◌⊎◌, List, [], ◌∷◌, cond}
use Rattle.json_model.specs.Sort.{bytes_less}
use Rattle.json_print.specs.declared.order.Numbered.{Numbered}

-- a key and its number
abbrev pub NumberedKey : Type 0
NumberedKey = List ℕ × ℕ

abbrev pub numbered_pair : Numbered → NumberedKey
numbered_pair x = (x.key.now, x.number)

abbrev pub IsMember : {X : Type 0} → X → List X → Type 0
IsMember x [] = ⊥
IsMember x (y ∷ ys) = (x ≡ y) ⊎ IsMember x ys

-- numbers rise
abbrev pub Rise : List NumberedKey → Type 0
Rise [] = Unit {0}
Rise (x ∷ xs) = ((z : NumberedKey) → IsMember z xs → x.1 < z.1) × Rise xs

-- before the first whose key is not smaller
abbrev pub numbered_in : NumberedKey → List NumberedKey → List NumberedKey
numbered_in x [] = x ∷ []
numbered_in x (y ∷ ys) = cond (bytes_less y.0 x.0) (y ∷ numbered_in x ys) (x ∷ y ∷ ys)

abbrev pub inserted_pairs : List NumberedKey → List NumberedKey
inserted_pairs [] = []
inserted_pairs (x ∷ xs) = numbered_in x (inserted_pairs xs)
