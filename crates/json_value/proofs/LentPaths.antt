-- Places along a path: the tree there, and what a write there makes of the whole, one step at a
-- time.
use Rattle.std.proofs.Common.{◌≡◌, ℕ, zero, suc, ◌<◌, List, [], ◌∷◌, Bool, true, false, cond, Some, None, Option, length, drop, refl, sym, ap, ◌∙◌, subst, arith, Result, Ok, Err, inl, inr, ◌⊎◌, bytes_eq}
use Rattle.std.specs.Prelude.{slice_get, option_map}
use Rattle.std.specs.Bool.{OnTrue, OnFalse}
use lib.Dec.{T}
use mathlib.Core.Bool.{not}
use Rattle.std.proofs.lemmas.Option.{none-some, same_Some}
use Rattle.json_grammar.specs.Tree.{Tree, null, boolean, num, text, list, pairs, Trees, no_trees, tree_and, Pairs, no_pairs, pair_and, trees_list, pairs_list}
use Rattle.json_io.specs.declared.error.ErrorCode.{ErrorCode}
use Rattle.json_io.specs.declared.error.Place.{Place}
use Rattle.json_model.specs.Edit.{Step, key_step, index_step, Changed, EditRefusal, within, at_path, at_key, at_index}
use Rattle.json_value.specs.Edits.{steps_of, step_of, RefusesChange}
use Rattle.json_value.specs.Lending.{first_node}
use Rattle.json_value.specs.Seen.{first_of}
use Rattle.json_value.specs.Steps.{child, tree_at}
use Rattle.json_value.specs.declared.path.PointerNode.{PointerNode}
use Rattle.json_value.proofs.AppliedTrees.{refuses_so}

-- ---- a change at the place of one step is what it makes of the tree there

at_key_there : (k : List ℕ) (ps : Pairs) (c : Tree) (g : Tree → Changed Tree) (r : Changed Tree)
    → option_map (λ (q : List ℕ × Tree). q.1) (first_of k (pairs_list ps)) ≡ Some c → g c ≡ r → at_key k g ps ≡ at_key k (λ _. r) ps
at_key_there k no_pairs c g r here e = absurd (none-some c here)
at_key_there k (pair_and n t ps) c g r here e = by (bytes_eq n k) here (at_key_there k ps c g r)
  where
    by : (b : Bool) → option_map (λ (q : List ℕ × Tree). q.1) (cond b (Some (n, t)) (first_of k (pairs_list ps))) ≡ Some c
        → (option_map (λ (q : List ℕ × Tree). q.1) (first_of k (pairs_list ps)) ≡ Some c → g c ≡ r → at_key k g ps ≡ at_key k (λ _. r) ps)
        → cond b (within (λ u. pair_and n u ps) (g t)) (within (λ qs. pair_and n t qs) (at_key k g ps)) ≡ cond b (within (λ u. pair_and n u ps) r) (within (λ qs. pair_and n t qs) (at_key k (λ _. r) ps))
    by true is more = ap (within (λ u. pair_and n u ps)) (ap g (same_Some t c is) ∙ e)
    by false is more = ap (within (λ qs. pair_and n t qs)) (more is e)

at_index_there : (i : ℕ) (ts : Trees) (c : Tree) (g : Tree → Changed Tree) (r : Changed Tree)
    → slice_get (trees_list ts) i ≡ Some c → g c ≡ r → at_index i g ts ≡ at_index i (λ _. r) ts
at_index_there i no_trees c g r here e = absurd (none-some c here)
at_index_there zero (tree_and t ts) c g r here e = ap (within (λ u. tree_and u ts)) (ap g (same_Some t c here) ∙ e)
at_index_there (suc i) (tree_and t ts) c g r here e = ap (within (λ us. tree_and t us)) (at_index_there i ts c g r here e)

pub there : (s : Step) (t c : Tree) (g : Tree → Changed Tree) (r : Changed Tree) → child s t ≡ Some c → g c ≡ r → at_path (s ∷ []) g t ≡ at_path (s ∷ []) (λ _. r) t
there (key_step k) (pairs ps) c g r here e = ap (within pairs) (at_key_there k ps c g r here e)
there (key_step k) null c g r here e = absurd (none-some c here)
there (key_step k) (boolean b) c g r here e = absurd (none-some c here)
there (key_step k) (num l) c g r here e = absurd (none-some c here)
there (key_step k) (text s) c g r here e = absurd (none-some c here)
there (key_step k) (list ts) c g r here e = absurd (none-some c here)
there (index_step i) (list ts) c g r here e = ap (within list) (at_index_there i ts c g r here e)
there (index_step i) null c g r here e = absurd (none-some c here)
there (index_step i) (boolean b) c g r here e = absurd (none-some c here)
there (index_step i) (num l) c g r here e = absurd (none-some c here)
there (index_step i) (text s) c g r here e = absurd (none-some c here)
there (index_step i) (pairs ps) c g r here e = absurd (none-some c here)

-- an error there is one of the whole, and putting back the tree there changes nothing
key_passes : (k : List ℕ) (ps : Pairs) (c : Tree) (e : EditRefusal) → option_map (λ (q : List ℕ × Tree). q.1) (first_of k (pairs_list ps)) ≡ Some c → at_key k (λ _. Err e) ps ≡ Err e
key_passes k no_pairs c e here = absurd (none-some c here)
key_passes k (pair_and n t ps) c e here = by (bytes_eq n k) here (key_passes k ps c e)
  where
    by : (b : Bool) → option_map (λ (q : List ℕ × Tree). q.1) (cond b (Some (n, t)) (first_of k (pairs_list ps))) ≡ Some c
        → (option_map (λ (q : List ℕ × Tree). q.1) (first_of k (pairs_list ps)) ≡ Some c → at_key k (λ _. Err e) ps ≡ Err e)
        → cond b (Err e) (within (λ qs. pair_and n t qs) (at_key k (λ _. Err e) ps)) ≡ Err e
    by true is more = refl
    by false is more = ap (within (λ qs. pair_and n t qs)) (more is)

index_passes : (i : ℕ) (ts : Trees) (c : Tree) (e : EditRefusal) → slice_get (trees_list ts) i ≡ Some c → at_index i (λ _. Err e) ts ≡ Err e
index_passes i no_trees c e here = absurd (none-some c here)
index_passes zero (tree_and t ts) c e here = refl
index_passes (suc i) (tree_and t ts) c e here = ap (within (λ us. tree_and t us)) (index_passes i ts c e here)

pub passes : (s : Step) (t c : Tree) (e : EditRefusal) → child s t ≡ Some c → at_path (s ∷ []) (λ _. Err e) t ≡ Err e
passes (key_step k) (pairs ps) c e here = ap (within pairs) (key_passes k ps c e here)
passes (key_step k) null c e here = absurd (none-some c here)
passes (key_step k) (boolean b) c e here = absurd (none-some c here)
passes (key_step k) (num l) c e here = absurd (none-some c here)
passes (key_step k) (text s) c e here = absurd (none-some c here)
passes (key_step k) (list ts) c e here = absurd (none-some c here)
passes (index_step i) (list ts) c e here = ap (within list) (index_passes i ts c e here)
passes (index_step i) null c e here = absurd (none-some c here)
passes (index_step i) (boolean b) c e here = absurd (none-some c here)
passes (index_step i) (num l) c e here = absurd (none-some c here)
passes (index_step i) (text s) c e here = absurd (none-some c here)
passes (index_step i) (pairs ps) c e here = absurd (none-some c here)

key_back : (k : List ℕ) (ps : Pairs) (c : Tree) → option_map (λ (q : List ℕ × Tree). q.1) (first_of k (pairs_list ps)) ≡ Some c → at_key k (λ _. Ok c) ps ≡ Ok ps
key_back k no_pairs c here = absurd (none-some c here)
key_back k (pair_and n t ps) c here = by (bytes_eq n k) here (key_back k ps c)
  where
    by : (b : Bool) → option_map (λ (q : List ℕ × Tree). q.1) (cond b (Some (n, t)) (first_of k (pairs_list ps))) ≡ Some c
        → (option_map (λ (q : List ℕ × Tree). q.1) (first_of k (pairs_list ps)) ≡ Some c → at_key k (λ _. Ok c) ps ≡ Ok ps)
        → cond b (Ok (pair_and n c ps)) (within (λ qs. pair_and n t qs) (at_key k (λ _. Ok c) ps)) ≡ Ok (pair_and n t ps)
    by true is more = ap (λ (u : Tree). Ok (pair_and n u ps)) (sym (same_Some t c is))
    by false is more = ap (within (λ qs. pair_and n t qs)) (more is)

index_back : (i : ℕ) (ts : Trees) (c : Tree) → slice_get (trees_list ts) i ≡ Some c → at_index i (λ _. Ok c) ts ≡ Ok ts
index_back i no_trees c here = absurd (none-some c here)
index_back zero (tree_and t ts) c here = ap (λ (u : Tree). Ok (tree_and u ts)) (sym (same_Some t c here))
index_back (suc i) (tree_and t ts) c here = ap (within (λ us. tree_and t us)) (index_back i ts c here)

pub back : (s : Step) (t c : Tree) → child s t ≡ Some c → at_path (s ∷ []) (λ _. Ok c) t ≡ Ok t
back (key_step k) (pairs ps) c here = ap (within pairs) (key_back k ps c here)
back (key_step k) null c here = absurd (none-some c here)
back (key_step k) (boolean b) c here = absurd (none-some c here)
back (key_step k) (num l) c here = absurd (none-some c here)
back (key_step k) (text s) c here = absurd (none-some c here)
back (key_step k) (list ts) c here = absurd (none-some c here)
back (index_step i) (list ts) c here = ap (within list) (index_back i ts c here)
back (index_step i) null c here = absurd (none-some c here)
back (index_step i) (boolean b) c here = absurd (none-some c here)
back (index_step i) (num l) c here = absurd (none-some c here)
back (index_step i) (text s) c here = absurd (none-some c here)
back (index_step i) (pairs ps) c here = absurd (none-some c here)

pub same_Ok : (x y : Tree) → ◌≡◌ {A = Changed Tree} (Ok x) (Ok y) → x ≡ y
same_Ok x y e = cc

-- ---- one step and the rest of a path

pub split : (s : Step) (p : List Step) (f : Tree → Changed Tree) (t : Tree) → at_path (s ∷ p) f t ≡ at_path (s ∷ []) (at_path p f) t
split (key_step k) p f t = refl
split (index_step i) p f t = refl

pub along : (path rest : List PointerNode) (t c : Tree) → 0 < length path → rest ≡ drop 1 path → child (step_of (first_node path)) t ≡ Some c
    → (n x w : Tree) → at_path (step_of (first_node path) ∷ []) (λ _. Ok x) t ≡ Ok n → at_path (steps_of rest) (λ _. Ok w) c ≡ Ok x → at_path (steps_of path) (λ _. Ok w) t ≡ Ok n
along [] rest t c more shorter here n x w e f = absurd (omega arith)
along (s ∷ p) rest t c more shorter here n x w e f =
    let g : at_path (steps_of p) (λ _. Ok w) c ≡ Ok x = subst (λ (q : List PointerNode). at_path (steps_of q) (λ _. Ok w) c ≡ Ok x) shorter f in
    split (step_of s) (steps_of p) (λ _. Ok w) t ∙ there (step_of s) t c (at_path (steps_of p) (λ _. Ok w)) (Ok x) here g ∙ e

pub along_kept : (s : Step) (t c : Tree) → child s t ≡ Some c → (n x : Tree) → at_path (s ∷ []) (λ _. Ok x) t ≡ Ok n → x ≡ c → n ≡ t
along_kept s t c here n x e f = same_Ok n t (sym e ∙ ap (λ (u : Tree). at_path (s ∷ []) (λ _. Ok u) t) f ∙ back s t c here)

pub seen_along : (path rest : List PointerNode) (t c u : Tree) → 0 < length path → rest ≡ drop 1 path → child (step_of (first_node path)) t ≡ Some c → tree_at (steps_of rest) c ≡ Some u → tree_at (steps_of path) t ≡ Some u
seen_along [] rest t c u more shorter here f = absurd (omega arith)
seen_along (s ∷ p) rest t c u more shorter here f =
    let g : tree_at (steps_of p) c ≡ Some u = subst (λ (q : List PointerNode). tree_at (steps_of q) c ≡ Some u) shorter f in
    ap (λ (o : Option Tree). elim o [ None ↦ None | Some v ↦ tree_at (steps_of p) v ]) here ∙ g

pub refused_along : (path rest : List PointerNode) (t c : Tree) → 0 < length path → rest ≡ drop 1 path → child (step_of (first_node path)) t ≡ Some c
    → (code : ErrorCode) (place : Place) → ((f : Tree → Changed Tree) → RefusesChange (at_path (steps_of rest) f c) code place) → (f : Tree → Changed Tree) → RefusesChange (at_path (steps_of path) f t) code place
refused_along [] rest t c more shorter here code place h f = absurd (omega arith)
refused_along (s ∷ p) rest t c more shorter here code place h f =
    let g : RefusesChange (at_path (steps_of p) f c) code place = subst (λ (q : List PointerNode). RefusesChange (at_path (steps_of q) f c) code place) shorter (h f) in
    refuses_so (at_path (steps_of p) f c) (at_path (steps_of (s ∷ p)) f t)
    (λ r e. split (step_of s) (steps_of p) f t ∙ there (step_of s) t c (at_path (steps_of p) f) (Err r) here e ∙ passes (step_of s) t c r here) code place g

-- the first step is refused
pub refused_first : (path : List PointerNode) (t : Tree) → 0 < length path
    → (code : ErrorCode) (place : Place) → ((f : Tree → Changed Tree) → RefusesChange (at_path (step_of (first_node path) ∷ []) f t) code place) → (f : Tree → Changed Tree) → RefusesChange (at_path (steps_of path) f t) code place
refused_first [] t more code place h f = absurd (omega arith)
refused_first (s ∷ p) t more code place h f = subst (λ (r : Changed Tree). RefusesChange r code place) (sym (split (step_of s) (steps_of p) f t)) (h (at_path (steps_of p) f))

pub fewer : (path rest : List PointerNode) → 0 < length path → rest ≡ drop 1 path → length rest < length path
fewer [] rest more shorter = absurd (omega arith)
fewer (s ∷ p) rest more shorter = subst (λ (q : List PointerNode). length q < length (s ∷ p)) (sym shorter) (omega arith)

pub put_end : (path : List PointerNode) (t w : Tree) → path ≡ [] → at_path (steps_of path) (λ _. Ok w) t ≡ Ok w
put_end path t w e = rw e refl

pub seen_end : (path : List PointerNode) (t : Tree) → path ≡ [] → tree_at (steps_of path) t ≡ Some t
seen_end path t e = rw e refl

-- ---- what a test and a result say

pub on_true : (b : Bool) (X : Type 0) → T b → OnTrue b X → X
on_true true X h x = x
on_true false X h x = absurd h

pub on_false : (b : Bool) (X : Type 0) → T (not b) → OnFalse b X → X
on_false true X h x = absurd h
on_false false X h x = x

pub which : {A B : Type 0} (r : Result A B) → ((x : A) × (r ≡ Ok x)) ⊎ ((e : B) × (r ≡ Err e))
which (Ok x) = inl (x, refl)
which (Err e) = inr (e, refl)
