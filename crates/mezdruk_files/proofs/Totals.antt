-- The greatest status of outcomes, and of more.
use Rattle.std.proofs.Common.{◌≡◌, ℕ, List, [], ◌∷◌, ◌++◌, ap, ◌∙◌, arith}
use Rattle.std.specs.Prelude.{max}
use Rattle.mezdruk_files.specs.Outcomes.{PartOutcome, outcome_status, greatest_status}

pub max_assoc : (a b c : ℕ) → max a (max b c) ≡ max (max a b) c
max_assoc a b c = omega arith

pub greatest_status-append : (os ps : List PartOutcome) → greatest_status (os ++ ps) ≡ max (greatest_status os) (greatest_status ps)
greatest_status-append [] ps = omega arith
greatest_status-append (o ∷ os) ps = ap (max (outcome_status o)) (greatest_status-append os ps) ∙ max_assoc (outcome_status o) (greatest_status os) (greatest_status ps)
