-- A list of one machine value.
use Rattle.json_value.proofs.HandProofs.{◌≡◌, [], ◌∷◌, refl, Val, List}
use denote.Struct.Members.{Lone}

pub one_of : (vs : List Val) → Lone vs → (w : Val) × (vs ≡ w ∷ [])
one_of [] one = absurd one
one_of (w ∷ []) one = (w, refl)
one_of (w ∷ u ∷ us) one = absurd one
