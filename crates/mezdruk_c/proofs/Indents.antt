-- The indents that C asks for are whitespace.
use Rattle.std.proofs.Common.{◌≡◌, ◌⊎◌, inl, inr, ℕ, zero, suc, ◌-◌, List, [], ◌∷◌, ◌==◌, nat_lt, Bool, true, false, replicate, Option, Some, None, refl, subst}
use Rattle.std.specs.Prelude.{if◌then◌else◌}
use Rattle.json_grammar.specs.Grammar.{ws}
use Rattle.json_model.specs.Print.{IsIndent}
use Rattle.mezdruk_c.specs.Layouts.{indent_asked}

same_some : {A : Type 0} {x y : A} → Some x ≡ Some y → x ≡ y
same_some e = cc

none_some : {A : Type 0} {x : A} → None ≡ Some x → ⊥
none_some e = cc

spaces_ws : (n : ℕ) → ws (replicate n 32)
spaces_ws zero = tt
spaces_ws (suc n) = (inl refl, spaces_ws n)

pub indent_is : (n : ℕ) (i : Option (List ℕ)) → indent_asked n ≡ Some i → IsIndent i
indent_is n i = by (n == 0) (nat_lt n 10) (n == 10)
  where
    by : (a b c : Bool) → (if a then Some None else (if b then Some (Some (replicate (n - 1) 32)) else (if c then Some (Some (9 ∷ [])) else None))) ≡ Some i → IsIndent i
    by true b c e = subst IsIndent (same_some e) tt
    by false true c e = subst IsIndent (same_some e) (spaces_ws (n - 1))
    by false false true e = subst IsIndent (same_some e) (inr (inl refl), tt)
    by false false false e = absurd (none_some e)
