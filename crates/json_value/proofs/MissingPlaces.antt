-- The value where steps lead, by a result and by what `missing_as_none` makes of it.
use Rattle.std.proofs.Common.{◌≡◌, ◌<◌, length, drop, List, [], ◌∷◌, Some, None, Option, Result, Ok, Err, IfOk, IfErr, MutBor, ◌⊎◌, inl, inr, refl, sym, ap, subst, ◌∙◌}
use Rattle.std.specs.Prelude.{option_map, IfSome}
use Rattle.std.proofs.lemmas.Option.{none-some, same_Some}
use Rattle.json_grammar.specs.Tree.{Tree}
use Rattle.json_io.specs.Errors.{no_memory, type_unmatched as unmatched}
use Rattle.json_io.specs.declared.error.Error.{Error}
use Rattle.json_io.specs.declared.error.ErrorCode.{ErrorCode}
use Rattle.json_io.specs.declared.error.ErrorCode.TheVariants.{NoMemory, NotFound, TypeUnmatched}
use Rattle.json_io.specs.declared.error.Place.{Place}
use Rattle.json_io.specs.declared.error.Place.TheVariants.{None as nowhere}
use Rattle.json_model.specs.Edit.{Step, Changed, EditRefusal, not_found, type_unmatched, at_path}
use Rattle.json_value.specs.Denotes.{tree_of}
use Rattle.json_value.specs.Edits.{RefusesChange, steps_of, step_of as node_step}
use Rattle.json_value.specs.Lending.{first_node, none_or, missing_as_none, lent, lent_name, name_of_ok, LeadsTo, Opens}
use Rattle.json_value.specs.Steps.{child, tree_at}
use Rattle.json_value.specs.declared.value.Value.{Value}
use Rattle.json_value.specs.declared.path.PointerNode.{PointerNode}
use Rattle.json_value.proofs.LentPaths.{there, back, split, seen_along, refused_along, refused_first}

none_name : (X : Type 0) (c : ErrorCode) (e : Error) → lent_name (none_or {X = X} c e) ≡ name_of_ok {X = X} {E = Error} (Err e)
none_name X NoMemory e = refl
none_name X _ e = refl

pub missing_name : {X : Type 0} (r : Result (MutBor X) Error) → lent_name (missing_as_none r) ≡ name_of_ok r
missing_name (Ok x) = refl
missing_name {X} (Err e) = none_name X e.code e

none_lent : {X : Type 0} (c : ErrorCode) (e : Error) (P : X → Type 0) → IfSome (lent (none_or {X = X} c e)) P
none_lent NoMemory e P = tt
none_lent _ e P = tt

-- what is said of what is lent is said of what `missing_as_none` leaves of it
pub missing_lent : {X : Type 0} (r : Result (MutBor X) Error) (P : X → Type 0) → IfOk r (λ v. P v.now) → IfSome (lent (missing_as_none r)) P
missing_lent (Ok x) P h = h
missing_lent (Err e) P h = none_lent e.code e P

-- ---- one step

one_of : (o : Option Tree) → elim o [ None ↦ None | Some u ↦ Some u ] ≡ o
one_of None = refl
one_of (Some u) = refl

pub one_step : (s : Step) (t : Tree) → tree_at (s ∷ []) t ≡ child s t
one_step s t = one_of (child s t)

pub leads_one : (s : Step) (t : Tree) (r : Result (MutBor Value) Error) → IfOk r (λ v. child s t ≡ Some (tree_of v.now)) → IfErr r (λ e. (f : Tree → Changed Tree) → RefusesChange (at_path (s ∷ []) f t) e.code e.place) → LeadsTo (s ∷ []) t r
leads_one s t (Ok x) value refused = one_step s t ∙ value
leads_one s t (Err e) value refused = refused

-- ---- what is there, put back

back_step : (s : Step) (p : List Step) (t u : Tree) (o : Option Tree) → child s t ≡ o → ((c : Tree) → tree_at p c ≡ Some u → at_path p (λ _. Ok u) c ≡ Ok c)
    → elim o [ None ↦ None | Some v ↦ tree_at p v ] ≡ Some u → at_path (s ∷ p) (λ _. Ok u) t ≡ Ok t
back_step s p t u None here more e = absurd (none-some u e)
back_step s p t u (Some c) here more e = split s p (λ _. Ok u) t ∙ there s t c (at_path p (λ _. Ok u)) (Ok c) here (more c e) ∙ back s t c here

pub put_back : (p : List Step) (t u : Tree) → tree_at p t ≡ Some u → at_path p (λ _. Ok u) t ≡ Ok t
put_back [] t u e = ap (λ (v : Tree). Ok v) (sym (same_Some t u e))
put_back (s ∷ p) t u e = back_step s p t u (child s t) refl (λ c. put_back p c u) e

no_ok : (t : Tree) (r : EditRefusal) → ◌≡◌ {A = Changed Tree} (Ok t) (Err r) → ⊥
no_ok t r e = cc

-- where each change is refused there is nothing
missing : (p : List Step) (t : Tree) (r : EditRefusal) → ((f : Tree → Changed Tree) → at_path p f t ≡ Err r) → tree_at p t ≡ None
missing p t r h = by (tree_at p t) refl
  where
    by : (o : Option Tree) → tree_at p t ≡ o → o ≡ None
    by None is = refl
    by (Some u) is = absurd (no_ok t r (sym (put_back p t u is) ∙ h (λ _. Ok u)))

nothing_at : (p : List Step) (t : Tree) (code : ErrorCode) (place : Place) (e : Error) → ((f : Tree → Changed Tree) → RefusesChange (at_path p f t) code place)
    → IfOk (none_or code e) (λ o. option_map (λ (x : MutBor Value). tree_of x.now) o ≡ tree_at p t)
nothing_at p t NoMemory place e h = tt
nothing_at p t NotFound nowhere e h = sym (missing p t not_found h)
nothing_at p t TypeUnmatched nowhere e h = sym (missing p t type_unmatched h)
nothing_at p t code place e h = absurd (h (λ u. Ok u))

pub missing_leads : (p : List Step) (t : Tree) (r : Result (MutBor Value) Error) → LeadsTo p t r → IfOk (missing_as_none r) (λ o. option_map (λ (x : MutBor Value). tree_of x.now) o ≡ tree_at p t)
missing_leads p t (Ok x) h = sym h
missing_leads p t (Err e) h = nothing_at p t e.code e.place e h

memory_left : (p : List Step) (t : Tree) (code : ErrorCode) (place : Place) → ((f : Tree → Changed Tree) → RefusesChange (at_path p f t) code place)
    → IfErr (none_or {X = Value} code (record { code = code; place = place })) (λ e. e ≡ no_memory)
memory_left p t NoMemory nowhere h = refl
memory_left p t NoMemory place h = absurd (h (λ u. Ok u))
memory_left p t code place h = tt

pub missing_only : (p : List Step) (t : Tree) (r : Result (MutBor Value) Error) → LeadsTo p t r → IfErr (missing_as_none r) (λ e. e ≡ no_memory)
missing_only p t (Ok x) h = tt
missing_only p t (Err e) h = memory_left p t e.code e.place h

-- ---- along a path

pub leads_along : (path rest : List PointerNode) (t c : Tree) → 0 < length path → rest ≡ drop 1 path → child (node_step (first_node path)) t ≡ Some c → (r : Result (MutBor Value) Error) → LeadsTo (steps_of rest) c r → LeadsTo (steps_of path) t r
leads_along path rest t c more shorter here (Ok x) h = seen_along path rest t c (tree_of x.now) more shorter here h
leads_along path rest t c more shorter here (Err e) h = refused_along path rest t c more shorter here e.code e.place h

pub leads_first : (path : List PointerNode) (t : Tree) (e : Error) → 0 < length path → LeadsTo (node_step (first_node path) ∷ []) t (Err e) → LeadsTo (steps_of path) t (Err e)
leads_first path t e more h = refused_first path t more e.code e.place h

-- ---- a container

module _ {C A : Type 0} (parts : C → A) (o : Option A) (Opened : C → Type 0) where
  none_there : (e : Error) → (e ≡ no_memory) ⊎ ((e ≡ unmatched) × (o ≡ None)) → IfOk (none_or {X = C} e.code e) (λ p. option_map (λ (c : MutBor C). parts c.now) p ≡ o)
  none_there e (inl is) = subst (λ (d : Error). IfOk (none_or {X = C} d.code d) (λ p. option_map (λ (c : MutBor C). parts c.now) p ≡ o)) (sym is) tt
  none_there e (inr is) = subst (λ (d : Error). IfOk (none_or {X = C} d.code d) (λ p. option_map (λ (c : MutBor C). parts c.now) p ≡ o)) (sym is.0) (sym is.1)

  memory_alone : (e : Error) → (e ≡ no_memory) ⊎ ((e ≡ unmatched) × (o ≡ None)) → IfErr (none_or {X = C} e.code e) (λ d. d ≡ no_memory)
  memory_alone e (inl is) = subst (λ (d : Error). IfErr (none_or {X = C} d.code d) (λ d. d ≡ no_memory)) (sym is) refl
  memory_alone e (inr is) = subst (λ (d : Error). IfErr (none_or {X = C} d.code d) (λ d. d ≡ no_memory)) (sym is.0) tt

  pub missing_opens : (r : Result (MutBor C) Error) → Opens parts o Opened r → IfOk (missing_as_none r) (λ p. option_map (λ (c : MutBor C). parts c.now) p ≡ o)
  missing_opens (Ok c) h = sym h.0
  missing_opens (Err e) h = none_there e h

  pub missing_opened : (r : Result (MutBor C) Error) → Opens parts o Opened r → IfSome (lent (missing_as_none r)) Opened
  missing_opened (Ok c) h = h.1
  missing_opened (Err e) h = none_lent e.code e Opened

  pub missing_opens_only : (r : Result (MutBor C) Error) → Opens parts o Opened r → IfErr (missing_as_none r) (λ e. e ≡ no_memory)
  missing_opens_only (Ok c) h = tt
  missing_opens_only (Err e) h = memory_alone e h
