-- That an indent is whitespace has one proof at most.
use Rattle.std.specs.Prelude.{ℕ, List, [], ◌∷◌, ◌⊎◌, Option, Some, None}
use Rattle.std.specs.Coded.{×_prop, Unit-prop}
use Rattle.std.proofs.Common.{ap, inl, inr, arith}
use native.Mathlib.Nat.{ℕ_set}
use Rattle.json_grammar.specs.Grammar.{IsWhitespace, ws}
use Rattle.json_model.specs.Print.{IsIndent}

either_prop : {A B : Type 0} → IsProp A → IsProp B → (A → B → ⊥) → IsProp (A ⊎ B)
either_prop p q n (inl a) (inl b) = ap inl (p a b)
either_prop p q n (inl a) (inr b) = absurd (n a b)
either_prop p q n (inr a) (inl b) = absurd (n b a)
either_prop p q n (inr a) (inr b) = ap inr (q a b)

IsWhitespace-prop : (x : ℕ) → IsProp (IsWhitespace x)
IsWhitespace-prop x =
    either_prop (ℕ_set _ _) (either_prop (ℕ_set _ _) (either_prop (ℕ_set _ _) (ℕ_set _ _) (λ a b. omega arith)) (λ a b. omega arith)) (λ a b. omega arith)

ws-prop : (s : List ℕ) → IsProp (ws s)
ws-prop [] = Unit-prop
ws-prop (x ∷ s) = ×_prop (IsWhitespace-prop x) (ws-prop s)

pub indent_is_prop : (i : Option (List ℕ)) → IsProp (IsIndent i)
indent_is_prop None = Unit-prop
indent_is_prop (Some s) = ws-prop s
