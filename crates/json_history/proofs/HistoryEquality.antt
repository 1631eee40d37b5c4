-- A test decides whether two histories are equal, so a truncated fact proves that they are.
use Rattle.std.proofs.Common.{◌≡◌, List, [], ◌∷◌, Bool, true, false, Result, Ok, Err, OnOk, OnErr, refl, sym, ap, ◌∙◌, subst, bytes_eq}
use Rattle.std.specs.Prelude.{◌&&◌}
use Rattle.std.specs.Bool.{beq}
use Rattle.std.specs.Cmp.{booleans_Decides}
use Rattle.std.proofs.lemmas.Bool.{and_parts, and_from}
use Rattle.std.proofs.lemmas.Grind.{not_there}
use Rattle.std.proofs.Math.Logic.{∥∥₁_map}
use Rattle.json_grammar.specs.Tree.{Tree, null, boolean, num, text, list, pairs, Trees, no_trees, tree_and, Pairs, no_pairs, pair_and}
use Rattle.json_model.specs.Edit.{Edit}
use Rattle.json_model.proofs.Members.{key_itself, same_key}
use Rattle.json_history.specs.History.{TreeHistory, TreeCall, edit, ChangeLog, IsValidLog, log_edit, log_call, log_or, after_call, history_of}
use Rattle.json_history.proofs.HistoryLaws.{log_follows_call}

abbrev mutual
  tree_equal : Tree → Tree → Bool
  tree_equal null null = true
  tree_equal (boolean a) (boolean b) = beq a b
  tree_equal (num k) (num l) = bytes_eq k l
  tree_equal (text s) (text t) = bytes_eq s t
  tree_equal (list ts) (list us) = trees_equal ts us
  tree_equal (pairs ps) (pairs qs) = pairs_equal ps qs
  tree_equal _ _ = false

  trees_equal : Trees → Trees → Bool
  trees_equal no_trees no_trees = true
  trees_equal (tree_and t ts) (tree_and u us) = tree_equal t u && trees_equal ts us
  trees_equal _ _ = false

  pairs_equal : Pairs → Pairs → Bool
  pairs_equal no_pairs no_pairs = true
  pairs_equal (pair_and k t ps) (pair_and m u qs) = bytes_eq k m && (tree_equal t u && pairs_equal ps qs)
  pairs_equal _ _ = false

mutual
  tree_equal_sound : (t u : Tree) → tree_equal t u ≡ true → t ≡ u
  tree_equal_sound null null h = refl
  tree_equal_sound (boolean a) (boolean b) h = ap boolean ((booleans_Decides a b).0 h)
  tree_equal_sound (num k) (num l) h = ap num (same_key k l h)
  tree_equal_sound (text s) (text t) h = ap text (same_key s t h)
  tree_equal_sound (list ts) (list us) h = ap list (trees_equal_sound ts us h)
  tree_equal_sound (pairs ps) (pairs qs) h = ap pairs (pairs_equal_sound ps qs h)
  tree_equal_sound _ _ h = absurd (cc)

  trees_equal_sound : (ts us : Trees) → trees_equal ts us ≡ true → ts ≡ us
  trees_equal_sound no_trees no_trees h = refl
  trees_equal_sound (tree_and t ts) (tree_and u us) h =
      let p = and_parts (tree_equal t u) (trees_equal ts us) h in
      ap (λ x. tree_and x ts) (tree_equal_sound t u p.0) ∙ ap (tree_and u) (trees_equal_sound ts us p.1)
  trees_equal_sound _ _ h = absurd (cc)

  pairs_equal_sound : (ps qs : Pairs) → pairs_equal ps qs ≡ true → ps ≡ qs
  pairs_equal_sound no_pairs no_pairs h = refl
  pairs_equal_sound (pair_and k t ps) (pair_and m u qs) h =
      let p = and_parts (bytes_eq k m) (tree_equal t u && pairs_equal ps qs) h in
      let q = and_parts (tree_equal t u) (pairs_equal ps qs) p.1 in
      ap (λ n. pair_and n t ps) (same_key k m p.0) ∙ ap (λ x. pair_and m x ps) (tree_equal_sound t u q.0) ∙ ap (pair_and m u) (pairs_equal_sound ps qs q.1)
  pairs_equal_sound _ _ h = absurd (cc)

mutual
  tree_equal_refl : (t : Tree) → tree_equal t t ≡ true
  tree_equal_refl null = refl
  tree_equal_refl (boolean b) = (booleans_Decides b b).1 refl
  tree_equal_refl (num l) = key_itself l
  tree_equal_refl (text s) = key_itself s
  tree_equal_refl (list ts) = trees_equal_refl ts
  tree_equal_refl (pairs ps) = pairs_equal_refl ps

  trees_equal_refl : (ts : Trees) → trees_equal ts ts ≡ true
  trees_equal_refl no_trees = refl
  trees_equal_refl (tree_and t ts) = and_from (tree_equal t t) (trees_equal ts ts) (tree_equal_refl t) (trees_equal_refl ts)

  pairs_equal_refl : (ps : Pairs) → pairs_equal ps ps ≡ true
  pairs_equal_refl no_pairs = refl
  pairs_equal_refl (pair_and k t ps) =
      and_from (bytes_eq k k) (tree_equal t t && pairs_equal ps ps) (key_itself k) (and_from (tree_equal t t) (pairs_equal ps ps) (tree_equal_refl t) (pairs_equal_refl ps))

abbrev all_equal : List Tree → List Tree → Bool
all_equal [] [] = true
all_equal (t ∷ ts) (u ∷ us) = tree_equal t u && all_equal ts us
all_equal _ _ = false

all_equal_sound : (ts us : List Tree) → all_equal ts us ≡ true → ts ≡ us
all_equal_sound [] [] h = refl
all_equal_sound (t ∷ ts) (u ∷ us) h =
    let p = and_parts (tree_equal t u) (all_equal ts us) h in
    ap (λ x. x ∷ ts) (tree_equal_sound t u p.0) ∙ ap (λ xs. u ∷ xs) (all_equal_sound ts us p.1)
all_equal_sound _ _ h = absurd (cc)

all_equal_refl : (ts : List Tree) → all_equal ts ts ≡ true
all_equal_refl [] = refl
all_equal_refl (t ∷ ts) = and_from (tree_equal t t) (all_equal ts ts) (tree_equal_refl t) (all_equal_refl ts)

abbrev history_equal : TreeHistory → TreeHistory → Bool
history_equal h g = tree_equal h.now g.now && (all_equal h.past g.past && all_equal h.future g.future)

history_equal_sound : (h g : TreeHistory) → history_equal h g ≡ true → h ≡ g
history_equal_sound h g e =
    let p = and_parts (tree_equal h.now g.now) (all_equal h.past g.past && all_equal h.future g.future) e in
    let q = and_parts (all_equal h.past g.past) (all_equal h.future g.future) p.1 in
    λ i. record { now = tree_equal_sound h.now g.now p.0 i; past = all_equal_sound h.past g.past q.0 i; future = all_equal_sound h.future g.future q.1 i }

history_equal_refl : (h : TreeHistory) → history_equal h h ≡ true
history_equal_refl h =
    and_from (tree_equal h.now h.now) (all_equal h.past h.past && all_equal h.future h.future) (tree_equal_refl h.now)
    (and_from (all_equal h.past h.past) (all_equal h.future h.future) (all_equal_refl h.past) (all_equal_refl h.future))

from_truncated : {P : Type 0} (b : Bool) → ∥ P ∥₁ → (P → b ≡ true) → b ≡ true
from_truncated true t f = refl
from_truncated false t f = absurd (not_there t (λ p. no (f p)))
  where
    no : false ≡ true → ⊥
    no e = cc

-- histories that are known to be equal are equal
pub history_equal_from : {P : Type 0} (h g : TreeHistory) → ∥ P ∥₁ → (P → h ≡ g) → h ≡ g
history_equal_from h g known f = history_equal_sound h g (from_truncated (history_equal h g) known (λ p. subst (λ x. history_equal h x ≡ true) (f p) (history_equal_refl h)))

-- ---- a valid log stays valid, and represents the history after each call

pub log_edit_is_call : (k n : ChangeLog) (e : Edit) → log_edit k e ≡ Ok n → n ≡ log_call k (edit e)
log_edit_is_call k n e so = sym (ap (log_or k) so)

valid_after_call : (k n : ChangeLog) (c : TreeCall) → n ≡ log_call k c → ∥ IsValidLog k ∥₁ → ∥ IsValidLog n ∥₁
valid_after_call k n c e kept = ∥∥₁_map kept (λ a. subst IsValidLog (sym e) (log_follows_call k c a).1)

pub valid_after_result : {T E : Type 0} (r : Result T E) (k n : ChangeLog) (c : TreeCall) → OnOk r (n ≡ log_call k c) → OnErr r (n ≡ k) → ∥ IsValidLog k ∥₁ → ∥ IsValidLog n ∥₁
valid_after_result (Ok x) k n c ok err kept = valid_after_call k n c ok kept
valid_after_result (Err e) k n c ok err kept = subst (λ m. ∥ IsValidLog m ∥₁) (sym err) kept

pub history_after_call : (k n : ChangeLog) (c : TreeCall) → ∥ IsValidLog k ∥₁ → n ≡ log_call k c → history_of n ≡ after_call (history_of k) c
history_after_call k n c kept e =
    history_equal_from (history_of n) (after_call (history_of k) c) kept (λ a. ap history_of e ∙ (log_follows_call k c a).2)
