-- Changes where steps lead, and the tree there before and after.
use Rattle.std.proofs.Common.{◌≡◌, ℕ, zero, suc, List, [], ◌∷◌, Bool, true, false, cond, Option, Some, None, Ok, Err, refl, sym, ap, ◌∙◌, subst, bytes_eq}
use Rattle.std.specs.Prelude.{slice_get, option_map, option_and_then, IsErr, IsOkAnd}
use Rattle.std.proofs.lemmas.Option.{none-some, same_Some}
use Rattle.json_grammar.specs.Tree.{Tree, null, boolean, num, text, list, pairs, Trees, no_trees, tree_and, Pairs, no_pairs, pair_and, trees_list, pairs_list}
use Rattle.json_model.specs.Edit.{Step, key_step, index_step, Changed, EditRefusal, within, at_path, at_key, at_index}
use Rattle.json_model.specs.Places.{part_of, part_at}
use Rattle.json_model.specs.Sort.{values_of}
use Rattle.json_value.specs.Laws.{ChangeIsThere, ChangeRefusedThere, NoChangeNowhere, StepsLeadToParts}
use Rattle.json_value.specs.Seen.{first_of}
use Rattle.json_value.specs.Steps.{child, tree_at}
use Rattle.json_value.proofs.LentPaths.{there, passes, split}

-- ---- one step

-- what holds of a part that was changed holds of the whole
within_and : {A B : Type 0} (g : A → B) (P : A → Type 0) (Q : B → Type 0) (r : Changed A) → ((x : A) → P x → Q (g x)) → IsOkAnd r P → IsOkAnd (within g r) Q
within_and g P Q (Ok x) more h = more x h
within_and g P Q (Err e) more h = h

within_err : {A B : Type 0} (g : A → B) (r : Changed A) → IsErr r → IsErr (within g r)
within_err g (Ok x) h = cc
within_err g (Err e) h = refl

abbrev value_of : List ℕ → Pairs → Option Tree
value_of k ps = option_map (λ (q : List ℕ × Tree). q.1) (first_of k (pairs_list ps))

key_written : (k : List ℕ) (ps : Pairs) (c x : Tree) → value_of k ps ≡ Some c → IsOkAnd (at_key k (λ _. Ok x) ps) (λ qs. value_of k qs ≡ Some x)
key_written k no_pairs c x here = absurd (none-some c here)
key_written k (pair_and n t ps) c x here = by (bytes_eq n k) refl here (key_written k ps c x)
  where
    by : (b : Bool) → bytes_eq n k ≡ b → option_map (λ (q : List ℕ × Tree). q.1) (cond b (Some (n, t)) (first_of k (pairs_list ps))) ≡ Some c
        → (value_of k ps ≡ Some c → IsOkAnd (at_key k (λ _. Ok x) ps) (λ qs. value_of k qs ≡ Some x))
        → IsOkAnd (cond b (Ok (pair_and n x ps)) (within (λ qs. pair_and n t qs) (at_key k (λ _. Ok x) ps))) (λ qs. value_of k qs ≡ Some x)
    by true e is more = ap (λ (b : Bool). option_map (λ (q : List ℕ × Tree). q.1) (cond b (Some (n, x)) (first_of k (pairs_list ps)))) e
    by false e is more =
        within_and (λ qs. pair_and n t qs) (λ qs. value_of k qs ≡ Some x) (λ qs. value_of k qs ≡ Some x) (at_key k (λ _. Ok x) ps)
        (λ qs h. ap (λ (b : Bool). option_map (λ (q : List ℕ × Tree). q.1) (cond b (Some (n, t)) (first_of k (pairs_list qs)))) e ∙ h) (more is)

index_written : (i : ℕ) (ts : Trees) (c x : Tree) → slice_get (trees_list ts) i ≡ Some c → IsOkAnd (at_index i (λ _. Ok x) ts) (λ us. slice_get (trees_list us) i ≡ Some x)
index_written i no_trees c x here = absurd (none-some c here)
index_written zero (tree_and t ts) c x here = refl
index_written (suc i) (tree_and t ts) c x here =
    within_and (λ us. tree_and t us) (λ us. slice_get (trees_list us) i ≡ Some x) (λ us. slice_get (trees_list us) (suc i) ≡ Some x) (at_index i (λ _. Ok x) ts) (λ us h. h) (index_written i ts c x here)

written : (s : Step) (t c x : Tree) → child s t ≡ Some c → IsOkAnd (at_path (s ∷ []) (λ _. Ok x) t) (λ n. child s n ≡ Some x)
written (key_step k) (pairs ps) c x here = within_and pairs (λ qs. value_of k qs ≡ Some x) (λ n. child (key_step k) n ≡ Some x) (at_key k (λ _. Ok x) ps) (λ qs h. h) (key_written k ps c x here)
written (key_step k) null c x here = absurd (none-some c here)
written (key_step k) (boolean b) c x here = absurd (none-some c here)
written (key_step k) (num l) c x here = absurd (none-some c here)
written (key_step k) (text s) c x here = absurd (none-some c here)
written (key_step k) (list ts) c x here = absurd (none-some c here)
written (index_step i) (list ts) c x here = within_and list (λ us. slice_get (trees_list us) i ≡ Some x) (λ n. child (index_step i) n ≡ Some x) (at_index i (λ _. Ok x) ts) (λ us h. h) (index_written i ts c x here)
written (index_step i) null c x here = absurd (none-some c here)
written (index_step i) (boolean b) c x here = absurd (none-some c here)
written (index_step i) (num l) c x here = absurd (none-some c here)
written (index_step i) (text s) c x here = absurd (none-some c here)
written (index_step i) (pairs ps) c x here = absurd (none-some c here)

key_missed : (k : List ℕ) (ps : Pairs) (g : Tree → Changed Tree) → value_of k ps ≡ None → IsErr (at_key k g ps)
key_missed k no_pairs g none = refl
key_missed k (pair_and n t ps) g none = by (bytes_eq n k) none (key_missed k ps g)
  where
    by : (b : Bool) → option_map (λ (q : List ℕ × Tree). q.1) (cond b (Some (n, t)) (first_of k (pairs_list ps))) ≡ None → (value_of k ps ≡ None → IsErr (at_key k g ps))
        → IsErr (cond b (within (λ u. pair_and n u ps) (g t)) (within (λ qs. pair_and n t qs) (at_key k g ps)))
    by true is more = absurd (none-some t (sym is))
    by false is more = within_err (λ qs. pair_and n t qs) (at_key k g ps) (more is)

index_missed : (i : ℕ) (ts : Trees) (g : Tree → Changed Tree) → slice_get (trees_list ts) i ≡ None → IsErr (at_index i g ts)
index_missed i no_trees g none = refl
index_missed zero (tree_and t ts) g none = absurd (none-some t (sym none))
index_missed (suc i) (tree_and t ts) g none = within_err (λ us. tree_and t us) (at_index i g ts) (index_missed i ts g none)

missed : (s : Step) (t : Tree) (g : Tree → Changed Tree) → child s t ≡ None → IsErr (at_path (s ∷ []) g t)
missed (key_step k) (pairs ps) g none = within_err pairs (at_key k g ps) (key_missed k ps g none)
missed (key_step k) null g none = refl
missed (key_step k) (boolean b) g none = refl
missed (key_step k) (num l) g none = refl
missed (key_step k) (text s) g none = refl
missed (key_step k) (list ts) g none = refl
missed (index_step i) (list ts) g none = within_err list (at_index i g ts) (index_missed i ts g none)
missed (index_step i) null g none = refl
missed (index_step i) (boolean b) g none = refl
missed (index_step i) (num l) g none = refl
missed (index_step i) (text s) g none = refl
missed (index_step i) (pairs ps) g none = refl

-- ---- one step before the others

abbrev pub onward : List Step → Option Tree → Option Tree
onward p o = elim o [ None ↦ None | Some u ↦ tree_at p u ]

module _ (s : Step) (p : List Step) (f : Tree → Changed Tree) (t c : Tree) (is : child s t ≡ Some c) where
  passed_on : (r : Changed Tree) → at_path p f c ≡ r → at_path (s ∷ p) f t ≡ at_path (s ∷ []) (λ _. r) t
  passed_on r e = split s p f t ∙ there s t c (at_path p f) r is e

  changed_behind : (w : Tree) (r : Changed Tree) → at_path p f c ≡ r → IsOkAnd r (λ x. tree_at p x ≡ Some w) → IsOkAnd (at_path (s ∷ p) f t) (λ n. tree_at (s ∷ p) n ≡ Some w)
  changed_behind w (Ok x) e h =
      subst (λ (r : Changed Tree). IsOkAnd r (λ n. tree_at (s ∷ p) n ≡ Some w)) (sym (passed_on (Ok x) e)) (and_so (at_path (s ∷ []) (λ _. Ok x) t) (written s t c x is))
    where
      and_so : (r : Changed Tree) → IsOkAnd r (λ n. child s n ≡ Some x) → IsOkAnd r (λ n. tree_at (s ∷ p) n ≡ Some w)
      and_so (Ok n) at = ap (onward p) at ∙ h
      and_so (Err e) at = at
  changed_behind w (Err e) g h = absurd h

  refused_behind : (e : EditRefusal) → at_path p f c ≡ Err e → at_path (s ∷ p) f t ≡ Err e
  refused_behind e h = passed_on (Err e) h ∙ passes s t c e is

  missed_behind : (r : Changed Tree) → at_path p f c ≡ r → IsErr r → IsErr (at_path (s ∷ p) f t)
  missed_behind (Ok x) e h = cc
  missed_behind (Err e) g h = subst IsErr (sym (refused_behind e g)) refl

there_step : (s : Step) (p : List Step) (f : Tree → Changed Tree) (t u w : Tree) (o : Option Tree) → child s t ≡ o → onward p o ≡ Some u
    → ((c : Tree) → tree_at p c ≡ Some u → IsOkAnd (at_path p f c) (λ x. tree_at p x ≡ Some w)) → IsOkAnd (at_path (s ∷ p) f t) (λ n. tree_at (s ∷ p) n ≡ Some w)
there_step s p f t u w None is here more = absurd (none-some u here)
there_step s p f t u w (Some c) is here more = changed_behind s p f t c is w (at_path p f c) refl (more c here)

pub change_is_there : ChangeIsThere
change_is_there [] f t u w here e = subst (λ (r : Changed Tree). IsOkAnd r (λ n. tree_at [] n ≡ Some w)) (sym (ap f (same_Some t u here) ∙ e)) refl
change_is_there (s ∷ p) f t u w here e = there_step s p f t u w (child s t) refl here (λ c at. change_is_there p f c u w at e)

refused_step : (s : Step) (p : List Step) (f : Tree → Changed Tree) (t u : Tree) (e : EditRefusal) (o : Option Tree) → child s t ≡ o → onward p o ≡ Some u
    → ((c : Tree) → tree_at p c ≡ Some u → at_path p f c ≡ Err e) → at_path (s ∷ p) f t ≡ Err e
refused_step s p f t u e None is here more = absurd (none-some u here)
refused_step s p f t u e (Some c) is here more = refused_behind s p f t c is e (more c here)

pub change_refused_there : ChangeRefusedThere
change_refused_there [] f t u e here h = ap f (same_Some t u here) ∙ h
change_refused_there (s ∷ p) f t u e here h = refused_step s p f t u e (child s t) refl here (λ c at. change_refused_there p f c u e at h)

missed_step : (s : Step) (p : List Step) (f : Tree → Changed Tree) (t : Tree) (o : Option Tree) → child s t ≡ o → onward p o ≡ None → ((c : Tree) → tree_at p c ≡ None → IsErr (at_path p f c)) → IsErr (at_path (s ∷ p) f t)
missed_step s p f t None is none more = subst IsErr (sym (split s p f t)) (missed s t (at_path p f) is)
missed_step s p f t (Some c) is none more = missed_behind s p f t c is (at_path p f c) refl (more c none)

pub no_change_nowhere : NoChangeNowhere
no_change_nowhere [] f t none = absurd (none-some t (sym none))
no_change_nowhere (s ∷ p) f t none = missed_step s p f t (child s t) refl none (λ c at. no_change_nowhere p f c at)

-- ---- where a path leads

first_value : (k : List ℕ) (ps : Pairs) → value_of k ps ≡ slice_get (values_of k ps) 0
first_value k no_pairs = refl
first_value k (pair_and n t ps) = by (bytes_eq n k) (first_value k ps)
  where
    by : (b : Bool) → value_of k ps ≡ slice_get (values_of k ps) 0
        → option_map (λ (q : List ℕ × Tree). q.1) (cond b (Some (n, t)) (first_of k (pairs_list ps))) ≡ slice_get (cond b (t ∷ values_of k ps) (values_of k ps)) 0
    by true more = refl
    by false more = more

child_is_part : (s : Step) (t : Tree) → child s t ≡ part_of s t
child_is_part (key_step k) (pairs ps) = first_value k ps
child_is_part (key_step k) null = refl
child_is_part (key_step k) (boolean b) = refl
child_is_part (key_step k) (num l) = refl
child_is_part (key_step k) (text s) = refl
child_is_part (key_step k) (list ts) = refl
child_is_part (index_step i) (list ts) = refl
child_is_part (index_step i) null = refl
child_is_part (index_step i) (boolean b) = refl
child_is_part (index_step i) (num l) = refl
child_is_part (index_step i) (text s) = refl
child_is_part (index_step i) (pairs ps) = refl

pub steps_lead_to_parts : StepsLeadToParts
steps_lead_to_parts [] t = refl
steps_lead_to_parts (s ∷ p) t = ap (onward p) (child_is_part s t) ∙ by (part_of s t) (steps_lead_to_parts p)
  where
    by : (o : Option Tree) → ((u : Tree) → tree_at p u ≡ part_at p u) → onward p o ≡ option_and_then (part_at p) o
    by None more = refl
    by (Some u) more = more u
