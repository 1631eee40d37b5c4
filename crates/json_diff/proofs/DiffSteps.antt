-- Operations on a value that a token references, applied to the container around it.
use Rattle.std.proofs.Common.{◌≡◌, ℕ, suc, List, [], ◌∷◌, ◌++◌, map, Option, Some, Result, Ok, Err, refl, sym, ap, ◌∙◌}
use Rattle.json_grammar.specs.Tree.{Tree}
use Rattle.json_model.specs.Edit.{Step, Changed, remove_at, within, at_path, removed, edited_once, and_then}
use Rattle.json_patch.specs.ValuesAt.{value_at_step, value_at_path}
use Rattle.json_patch.specs.Pointer.{ReferenceToken, step_of_token, path_of_tokens}
use Rattle.json_patch.specs.Patch.{Operation, add_at, remove, replace, move, copy, test, PatchFailure, split_last, with_child, added_at, removal_edit, removed_at, replaced_at, lookup_outcome, applied, applied_from}
use Rattle.json_diff.specs.Diff.{under}
use Rattle.json_patch.proofs.ReplacedAt.{replaced_at_step, at_path-step, child_same, child_now, child_twice}
use Rattle.json_patch.proofs.PointerTexts.{step_stays}

-- ---- operations that make one tree of another, whatever their numbers

abbrev pub Makes : List Operation → Tree → Tree → Type 0
Makes os t u = (n : ℕ) → applied_from n os t ≡ Ok u

pub made_nothing : (t : Tree) → Makes [] t t
made_nothing t n = refl

pub made_one : (o : Operation) (t u : Tree) → applied o t ≡ Ok u → Makes (o ∷ []) t u
made_one o t u e n = ap (λ r. elim r as (λ _. Result Tree (PatchFailure × Option ℕ)) [ Ok u ↦ applied_from (suc n) [] u | Err r ↦ Err (r, Some n) ]) e

pub made_first : (o : Operation) (os : List Operation) (t u v : Tree) → applied o t ≡ Ok u → Makes os u v → Makes (o ∷ os) t v
made_first o os t u v e h n = ap (λ r. elim r as (λ _. Result Tree (PatchFailure × Option ℕ)) [ Ok u ↦ applied_from (suc n) os u | Err r ↦ Err (r, Some n) ]) e ∙ h (suc n)

ok_parts : (n : ℕ) (o : Operation) (os : List Operation) (t v : Tree) → applied_from n (o ∷ os) t ≡ Ok v → (u : Tree) × (applied o t ≡ Ok u) × (applied_from (suc n) os u ≡ Ok v)
ok_parts n o os t v h = by (applied o t) h
  where
    by : (r : Result Tree PatchFailure) → elim r as (λ _. Result Tree (PatchFailure × Option ℕ)) [ Ok u ↦ applied_from (suc n) os u | Err r ↦ Err (r, Some n) ] ≡ Ok v → (u : Tree) × (r ≡ Ok u) × (applied_from (suc n) os u ≡ Ok v)
    by (Ok u) e = (u, refl, e)
    by (Err r) e = cc

pub made_both : (os ps : List Operation) (t u v : Tree) → Makes os t u → Makes ps u v → Makes (os ++ ps) t v
made_both [] ps t u v h g = λ n. let same : t ≡ u = let e = h 0 in cc in ap (applied_from n ps) same ∙ g n
made_both (o ∷ os) ps t u v h g = λ n. both n (ok_parts n o os t u (h n))
  where
    rest : (w : Tree) (m : ℕ) → applied_from m os w ≡ Ok u → applied_from m (os ++ ps) w ≡ Ok v
    rest w m e = after os w m e
      where
        after : (os : List Operation) (w : Tree) (m : ℕ) → applied_from m os w ≡ Ok u → applied_from m (os ++ ps) w ≡ Ok v
        after [] w m e = let same : w ≡ u = cc in ap (applied_from m ps) same ∙ g m
        after (o ∷ os) w m e = more (ok_parts m o os w u e) (λ x f. after os x (suc m) f)
          where
            more : (x : Tree) × (applied o w ≡ Ok x) × (applied_from (suc m) os x ≡ Ok u) → ((x : Tree) → applied_from (suc m) os x ≡ Ok u → applied_from (suc m) (os ++ ps) x ≡ Ok v)
                → applied_from m (o ∷ (os ++ ps)) w ≡ Ok v
            more a i = ap (λ r. elim r as (λ _. Result Tree (PatchFailure × Option ℕ)) [ Ok u ↦ applied_from (suc m) (os ++ ps) u | Err r ↦ Err (r, Some m) ]) a.1 ∙ i a.0 a.2

    both : (n : ℕ) → (w : Tree) × (applied o t ≡ Ok w) × (applied_from (suc n) os w ≡ Ok u) → applied_from n (o ∷ (os ++ ps)) t ≡ Ok v
    both n a = ap (λ r. elim r as (λ _. Result Tree (PatchFailure × Option ℕ)) [ Ok u ↦ applied_from (suc n) (os ++ ps) u | Err r ↦ Err (r, Some n) ]) a.1 ∙ rest a.0 (suc n) a.2

-- ---- one operation, by a change of the value there

outcome_ok : (r : Changed Tree) (y : Tree) → lookup_outcome r ≡ Ok y → r ≡ Ok y
outcome_ok (Ok x) y e = let same : x ≡ y = cc in ap Ok same
outcome_ok (Err r) y e = cc

-- an operation that does not add or remove the root
abbrev pub IsBelowRoot : Operation → Type 0
IsBelowRoot (add_at [] u) = ⊥
IsBelowRoot (add_at (k ∷ p) u) = Unit {0}
IsBelowRoot (remove []) = ⊥
IsBelowRoot (remove (k ∷ p)) = Unit {0}
IsBelowRoot (replace p u) = Unit {0}
IsBelowRoot (move q p) = ⊥
IsBelowRoot (copy q p) = ⊥
IsBelowRoot (test p u) = ⊥

abbrev pub AreBelowRoot : List Operation → Type 0
AreBelowRoot [] = Unit {0}
AreBelowRoot (o ∷ os) = IsBelowRoot o × AreBelowRoot os

pub below_both : (os ps : List Operation) → AreBelowRoot os → AreBelowRoot ps → AreBelowRoot (os ++ ps)
below_both [] ps h g = g
below_both (o ∷ os) ps h g = (h.0, below_both os ps h.1 g)

under_below : (k : ReferenceToken) (o : Operation) → IsBelowRoot o → IsBelowRoot (under k o)
under_below k (add_at [] u) h = absurd h
under_below k (add_at (j ∷ p) u) h = tt
under_below k (remove []) h = absurd h
under_below k (remove (j ∷ p)) h = tt
under_below k (replace p u) h = tt
under_below k (move q p) h = h
under_below k (copy q p) h = h
under_below k (test p u) h = h

pub all_below : (k : ReferenceToken) (os : List Operation) → AreBelowRoot os → AreBelowRoot (map (under k) os)
all_below k [] h = tt
all_below k (o ∷ os) h = (under_below k o h.0, all_below k os h.1)

module _ (k : ReferenceToken) (s : Step) (c x : Tree) (is : step_of_token k c ≡ Ok s) (there : value_at_step s c ≡ Ok x) where
  abbrev put : Tree → Tree
  put n = replaced_at_step s n c

  step_in : (q : List Step) (f : Tree → Changed Tree) → at_path (s ∷ q) f c ≡ within put (at_path q f x)
  step_in q f = at_path-step s q f c ∙ ap (λ r. and_then r (λ d. within (λ n. replaced_at_step s n c) (at_path q f d))) there

  path_in : (p : List ReferenceToken) → path_of_tokens (k ∷ p) c ≡ within (λ q. s ∷ q) (path_of_tokens p x)
  path_in p = ap (λ r. and_then r (λ s. and_then (value_at_step s c) (λ u. within (λ q. s ∷ q) (path_of_tokens p u)))) is ∙ ap (λ r. and_then r (λ u. within (λ q. s ∷ q) (path_of_tokens p u))) there

  replaced_in : (p : List ReferenceToken) (u : Tree) → replaced_at (k ∷ p) u c ≡ within put (replaced_at p u x)
  replaced_in p u = ap (λ r. and_then r (λ q. at_path q (λ _. Ok u) c)) (path_in p) ∙ by (path_of_tokens p x)
    where
      by : (r : Changed (List Step)) → and_then (within (λ q. s ∷ q) r) (λ q. at_path q (λ _. Ok u) c) ≡ within put (and_then r (λ q. at_path q (λ _. Ok u) x))
      by (Ok q) = step_in q (λ _. Ok u)
      by (Err e) = refl

  added_in : (j : ReferenceToken) (p : List ReferenceToken) (u : Tree) → added_at (k ∷ j ∷ p) u c ≡ within put (added_at (j ∷ p) u x)
  added_in j p u = ap (λ r. and_then r (λ q. at_path q (with_child (split_last j p).1 u) c)) (path_in (split_last j p).0) ∙ by (path_of_tokens (split_last j p).0 x)
    where
      by : (r : Changed (List Step)) → and_then (within (λ q. s ∷ q) r) (λ q. at_path q (with_child (split_last j p).1 u) c) ≡ within put (and_then r (λ q. at_path q (with_child (split_last j p).1 u) x))
      by (Ok q) = step_in q (with_child (split_last j p).1 u)
      by (Err e) = refl

  removed_in : (j : ReferenceToken) (p : List ReferenceToken) → removed_at (k ∷ j ∷ p) c ≡ within put (removed_at (j ∷ p) x)
  removed_in j p = ap (λ r. and_then r (λ q. and_then (removal_edit q m c) (λ e. edited_once e c))) (path_in (split_last j p).0) ∙ by (path_of_tokens (split_last j p).0 x)
    where
      m : ReferenceToken
      m = (split_last j p).1

      last : (q : List Step) (r : Changed Step) → and_then (within (λ i. remove_at (s ∷ q) i) r) (λ e. edited_once e c) ≡ within put (and_then (within (λ i. remove_at q i) r) (λ e. edited_once e x))
      last q (Ok i) = step_in q (removed i)
      last q (Err e) = refl

      value : (q : List Step) (r : Changed Tree) → and_then (and_then r (λ d. within (λ i. remove_at (s ∷ q) i) (step_of_token m d))) (λ e. edited_once e c)
          ≡ within put (and_then (and_then r (λ d. within (λ i. remove_at q i) (step_of_token m d))) (λ e. edited_once e x))
      value q (Ok d) = last q (step_of_token m d)
      value q (Err e) = refl

      by : (r : Changed (List Step)) → and_then (within (λ q. s ∷ q) r) (λ q. and_then (removal_edit q m c) (λ e. edited_once e c)) ≡ within put (and_then r (λ q. and_then (removal_edit q m x) (λ e. edited_once e x)))
      by (Ok q) = ap (λ r. and_then (and_then (and_then r (value_at_path q)) (λ d. within (λ i. remove_at (s ∷ q) i) (step_of_token m d))) (λ e. edited_once e c)) there ∙ value q (value_at_path q x)
      by (Err e) = refl

  applied_in : (o : Operation) (y : Tree) → IsBelowRoot o → applied o x ≡ Ok y → applied (under k o) c ≡ Ok (put y)
  applied_in (add_at [] u) y h e = absurd h
  applied_in (add_at (j ∷ p) u) y h e = ap lookup_outcome (added_in j p u ∙ ap (within put) (outcome_ok (added_at (j ∷ p) u x) y e))
  applied_in (remove []) y h e = absurd h
  applied_in (remove (j ∷ p)) y h e = ap lookup_outcome (removed_in j p ∙ ap (within put) (outcome_ok (removed_at (j ∷ p) x) y e))
  applied_in (replace p u) y h e = ap lookup_outcome (replaced_in p u ∙ ap (within put) (outcome_ok (replaced_at p u x) y e))
  applied_in (move q p) y h e = absurd h
  applied_in (copy q p) y h e = absurd h
  applied_in (test p u) y h e = absurd h

-- operations that make y of the value x that the token references put y in its place
pub applied_under : (os : List Operation) (n m : ℕ) (k : ReferenceToken) (s : Step) (c x y : Tree) → AreBelowRoot os → step_of_token k c ≡ Ok s → value_at_step s c ≡ Ok x → applied_from n os x ≡ Ok y
    → applied_from m (map (under k) os) c ≡ Ok (replaced_at_step s y c)
applied_under [] n m k s c x y b is there h = let same : x ≡ y = cc in sym (ap (λ z. Ok (replaced_at_step s z c)) (sym same) ∙ ap Ok (child_same s x c there))
applied_under (o ∷ os) n m k s c x y b is there h = by (ok_parts n o os x y h) (λ i j d z. applied_under os i j k s d z y b.1)
  where
    by : (u : Tree) × (applied o x ≡ Ok u) × (applied_from (suc n) os u ≡ Ok y)
        → ((i j : ℕ) (d z : Tree) → step_of_token k d ≡ Ok s → value_at_step s d ≡ Ok z → applied_from i os z ≡ Ok y → applied_from j (map (under k) os) d ≡ Ok (replaced_at_step s y d))
        → applied_from m (under k o ∷ map (under k) os) c ≡ Ok (replaced_at_step s y c)
    by a more =
        let d : Tree = replaced_at_step s a.0 c in
        ap (λ r. elim r as (λ _. Result Tree (PatchFailure × Option ℕ)) [ Ok u ↦ applied_from (suc m) (map (under k) os) u | Err r ↦ Err (r, Some m) ]) (applied_in k s c x is there o a.0 b.0 a.1)
        ∙ more (suc n) (suc m) d a.0 (step_stays k s a.0 c is) (child_now s x a.0 c there) a.2
        ∙ ap Ok (child_twice s y a.0 c)

pub made_under : (os : List Operation) (k : ReferenceToken) (s : Step) (c x y : Tree) → AreBelowRoot os → step_of_token k c ≡ Ok s → value_at_step s c ≡ Ok x → Makes os x y → Makes (map (under k) os) c (replaced_at_step s y c)
made_under os k s c x y b is there h = λ m. applied_under os 0 m k s c x y b is there (h 0)
