-- What an iterator over an array gives, asked in turn at its ends.
use Rattle.std.proofs.Common.{◌≡◌, suc, ◌+◌, List, [], ◌∷◌, ◌++◌, length, Option, Some, None, append_assoc, length-append, arith, refl, sym, ap, ◌∙◌}
use mathlib.Core.List.{append-nil}
use Rattle.json_value.specs.declared.value.Value.{Value}
use Rattle.json_containers.specs.IntoIter.{values_left, TakesFirst, TakesLast}
use Rattle.json_containers.specs.Laws.{EachIsGivenOnce, NothingIsGivenAfterAll, IteratorCall, at_front, at_back, CallsLead, from_front, from_back}
use Rattle.json_containers.specs.declared.into_iter.IntoIter.{IntoIter}

pub each_is_given_once : EachIsGivenOnce
each_is_given_once s t [] g = ap values_left (sym g) ∙ sym (append-nil (values_left t))
each_is_given_once s t (at_front None ∷ turns) g = ap values_left (sym g.1.1) ∙ each_is_given_once g.0 t turns g.2
each_is_given_once s t (at_front (Some x) ∷ turns) g = g.1.0 ∙ ap (λ (xs : List Value). x ∷ xs) (each_is_given_once g.0 t turns g.2)
each_is_given_once s t (at_back None ∷ turns) g =
    ap values_left (sym g.1.1) ∙ each_is_given_once g.0 t turns g.2 ∙ ap (λ (xs : List Value). from_front turns ++ (values_left t ++ xs)) (sym (append-nil (from_back turns)))
each_is_given_once s t (at_back (Some x) ∷ turns) g =
    let front = from_front turns in
    let back = from_back turns in
    g.1.0 ∙ ap (λ (xs : List Value). xs ++ x ∷ []) (each_is_given_once g.0 t turns g.2) ∙ append_assoc front (values_left t ++ back) (x ∷ []) ∙ ap (λ (xs : List Value). front ++ xs) (append_assoc (values_left t) back (x ∷ []))

all_given : (s t : IntoIter) (turns : List IteratorCall) → CallsLead s turns t → length (from_front turns) + length (from_back turns) ≡ length (values_left s) → length (values_left t) ≡ 0
all_given s t turns g all =
    let whole : length (values_left s) ≡ length (from_front turns) + length (values_left t ++ from_back turns) = ap length (each_is_given_once s t turns g) ∙ length-append (from_front turns) (values_left t ++ from_back turns) in
    let rest : length (values_left t ++ from_back turns) ≡ length (values_left t) + length (from_back turns) = length-append (values_left t) (from_back turns) in
    omega (arith, whole, rest, all)

first_none : (t u : IntoIter) (o : Option Value) → length (values_left t) ≡ 0 → TakesFirst t o u → (o ≡ None) × (u ≡ t)
first_none t u None none h = (refl, h.1)
first_none t u (Some x) none h = let e : suc (length (values_left u)) ≡ 0 = sym (ap length h.0) ∙ none in absurd (omega (arith, e))

last_none : (t u : IntoIter) (o : Option Value) → length (values_left t) ≡ 0 → TakesLast t o u → (o ≡ None) × (u ≡ t)
last_none t u None none h = (refl, h.1)
last_none t u (Some x) none h =
    let e : length (values_left u) + 1 ≡ 0 = sym (length-append (values_left u) (x ∷ [])) ∙ sym (ap length h.0) ∙ none in
    absurd (omega (arith, e))

pub nothing_is_given_after_all : NothingIsGivenAfterAll
nothing_is_given_after_all s t turns g all o u = (first_none t u o (all_given s t turns g all), last_none t u o (all_given s t turns g all))
