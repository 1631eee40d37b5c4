-- What a search says of a key, said by what `missing_as_none` makes of it.
use Rattle.std.proofs.Common.{◌≡◌, Ok, Err, Result, MutBor, Option, inl, inr, refl, subst, sym}
use Rattle.std.specs.Prelude.{IsOk, IfOk, IfErr, option_map}
use Rattle.json_grammar.specs.Tree.{Tree}
use Rattle.json_io.specs.Errors.{no_memory}
use Rattle.json_io.specs.declared.error.Error.{Error}
use Rattle.json_value.specs.Denotes.{tree_of}
use Rattle.json_value.specs.Lending.{missing_as_none}
use Rattle.json_value.specs.declared.value.Value.{Value}
use Rattle.json_containers.specs.Found.{Finds}

pub missing_found : (P : Type 0) (r : Result (MutBor Value) Error) (o : Option Tree) → Finds P o r → IfOk (missing_as_none r) (λ p. option_map (λ (v : MutBor Value). tree_of v.now) p ≡ o)
missing_found P (Ok x) o h = sym h
missing_found P (Err e) o (inl p) = subst (λ (x : Error). IfOk (missing_as_none {X = Value} (Err x)) (λ p. option_map (λ (v : MutBor Value). tree_of v.now) p ≡ o)) (sym p.0) tt
missing_found P (Err e) o (inr p) = subst (λ (x : Error). IfOk (missing_as_none {X = Value} (Err x)) (λ p. option_map (λ (v : MutBor Value). tree_of v.now) p ≡ o)) (sym p.0) (sym p.1)

pub missing_only : (P : Type 0) (r : Result (MutBor Value) Error) (o : Option Tree) → Finds P o r → IfErr (missing_as_none r) (λ e. e ≡ no_memory)
missing_only P (Ok x) o h = tt
missing_only P (Err e) o (inl p) = subst (λ (x : Error). IfErr (missing_as_none {X = Value} (Err x)) (λ e. e ≡ no_memory)) (sym p.0) refl
missing_only P (Err e) o (inr p) = subst (λ (x : Error). IfErr (missing_as_none {X = Value} (Err x)) (λ e. e ≡ no_memory)) (sym p.0) tt

pub missing_free : (Q : Type 0) (r : Result (MutBor Value) Error) (o : Option Tree) → Finds (Q → ⊥) o r → Q → IsOk (missing_as_none r)
missing_free Q (Ok x) o h q = refl
missing_free Q (Err e) o (inl p) q = absurd (p.1 q)
missing_free Q (Err e) o (inr p) q = subst (λ (x : Error). IsOk (missing_as_none {X = Value} (Err x))) (sym p.0) refl
