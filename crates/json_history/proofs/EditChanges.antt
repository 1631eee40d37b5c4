-- The change of an edit, from the value at its path.
use Rattle.std.proofs.Common.{◌≡◌, ℕ, suc, List, [], ◌∷◌, map, Bool, true, false, cond, Option, Some, None, Ok, Err, refl, sym, ap, ◌∙◌, bytes_eq, length, arith}
use Rattle.std.proofs.lemmas.Bool.{eqb-true, eqb-false}
use Rattle.std.specs.Prelude.{option_map, ◌==◌}
use Rattle.std.specs.Result.{result_ok}
use Rattle.json_grammar.specs.Tree.{Tree, null, boolean, num, text, list, pairs, list_trees, trees_list, Pairs, no_pairs, pair_and, pairs_list, list_pairs}
use Rattle.json_model.specs.Edit.{Step, key_step, index_step, Changed, not_found, within, has_key, and_then}
use Rattle.json_model.specs.Same.{first_value}
use Rattle.json_value.specs.Edits.{edit_of, edit_path, path_steps}
use Rattle.json_value.specs.Seen.{first_of, object_pairs, list_of}
use Rattle.json_value.specs.Steps.{tree_at}
use Rattle.json_value.specs.declared.path.Edit.{Edit}
use Rattle.json_value.specs.declared.pair.Keyed.{Keyed}
use Rattle.json_value.specs.declared.value.Value.{Value}
use Rattle.json_history.specs.ChangeTrees.{removed_member}
use Rattle.json_value.specs.declared.path.Edit.TheVariants.{Set, Insert, Push, Remove}
use Rattle.json_value.specs.declared.path.PointerNode.TheVariants.{Key, Index}
use Rattle.json_doc_print.proofs.Trees.{pairs_back, pairs_again}
use Rattle.json_doc.proofs.Trees.{list_back}
use Rattle.json_history.specs.Lookup.{lookup_step, lookup}
use Rattle.json_history.specs.Change.{TreeChange, put, put_pairs, insert_change, change, members_named, put_back}
use Rattle.json_history.specs.Target.{insert_change_in, remove_change_in, change_in}
use Rattle.json_history.proofs.LookupViews.{first_value_first_of, lookup_some, lookup_tree_at}
use Rattle.json_history.proofs.LookupChanges.{lookup_append}

-- a tree with members is an object, and one with elements an array
pub object_of : (t : Tree) (ms : List (List ℕ × Tree)) → object_pairs t ≡ Some ms → t ≡ pairs (list_pairs ms)
object_of (pairs ps) ms e = let s : pairs_list ps ≡ ms = cc in ap pairs (sym (pairs_back ps) ∙ ap list_pairs s)
object_of null ms e = absurd (cc)
object_of (boolean b) ms e = absurd (cc)
object_of (num l) ms e = absurd (cc)
object_of (text s) ms e = absurd (cc)
object_of (list ts) ms e = absurd (cc)

pub array_of : (t : Tree) (ts : List Tree) → list_of t ≡ Some ts → t ≡ list (list_trees ts)
array_of (list us) ts e = let s : trees_list us ≡ ts = cc in ap list (sym (list_back us) ∙ ap list_trees s)
array_of null ts e = absurd (cc)
array_of (boolean b) ts e = absurd (cc)
array_of (num l) ts e = absurd (cc)
array_of (text s) ts e = absurd (cc)
array_of (pairs ps) ts e = absurd (cc)

-- the first value of a key among members
pub first_value_listed : (k : List ℕ) (ms : List (List ℕ × Tree)) → first_value k (list_pairs ms) ≡ option_map (λ (q : List ℕ × Tree). q.1) (first_of k ms)
first_value_listed k ms = first_value_first_of k (list_pairs ms) ∙ ap (λ (ps : List (List ℕ × Tree)). option_map (λ (q : List ℕ × Tree). q.1) (first_of k ps)) (pairs_again ms)

-- an insertion into an object
pub insert_change_found : (p : List Step) (k : List ℕ) (t : Tree) (ms : List (List ℕ × Tree)) (o : Option Tree)
    → object_pairs t ≡ Some ms → option_map (λ (q : List ℕ × Tree). q.1) (first_of k ms) ≡ o → Some (insert_change p k o) ≡ result_ok (insert_change_in p k t)
insert_change_found p k t ms o e f =
    sym (ap (λ (u : Tree). result_ok (insert_change_in p k u)) (object_of t ms e) ∙ ap (λ (x : Option Tree). Some (insert_change p k x)) (first_value_listed k ms ∙ f))

-- a member is removed where one has the key
pub members_named_none : (n : ℕ) (k : List ℕ) (ps : Pairs) → members_named n k ps ≡ [] → has_key k ps ≡ false
members_named_none n k no_pairs e = refl
members_named_none n k (pair_and m t ps) e = by (bytes_eq m k) e (members_named_none (suc n) k ps)
  where
    by : (b : Bool) → cond b ((n, m, t) ∷ members_named (suc n) k ps) (members_named (suc n) k ps) ≡ [] → (members_named (suc n) k ps ≡ [] → has_key k ps ≡ false) → cond b true (has_key k ps) ≡ false
    by true e i = absurd (cc)
    by false e i = i e

pub members_named_some : (n : ℕ) (k : List ℕ) (ps : Pairs) → (members_named n k ps ≡ [] → ⊥) → has_key k ps ≡ true
members_named_some n k no_pairs e = absurd (e refl)
members_named_some n k (pair_and m t ps) e = by (bytes_eq m k) e (members_named_some (suc n) k ps)
  where
    by : (b : Bool) → (cond b ((n, m, t) ∷ members_named (suc n) k ps) (members_named (suc n) k ps) ≡ [] → ⊥) → ((members_named (suc n) k ps ≡ [] → ⊥) → has_key k ps ≡ true) → cond b true (has_key k ps) ≡ true
    by true e i = refl
    by false e i = i e

-- a removal of a key
abbrev pub key_change : List Step → List ℕ → Pairs → Bool → Option TreeChange
key_change p k ps b = result_ok (cond b (Ok (put_pairs p (members_named 0 k ps))) (Err not_found))

pub key_change_none : (p : List Step) (k : List ℕ) (t : Tree) (ms : List (List ℕ × Tree)) → object_pairs t ≡ Some ms → members_named 0 k (list_pairs ms) ≡ [] → None ≡ result_ok (remove_change_in p (key_step k) t)
key_change_none p k t ms e f =
    sym (ap (λ (u : Tree). result_ok (remove_change_in p (key_step k) u)) (object_of t ms e) ∙ ap (key_change p k (list_pairs ms)) (members_named_none 0 k (list_pairs ms) f))

pub key_change_some : (p : List Step) (k : List ℕ) (t : Tree) (ms : List (List ℕ × Tree)) → object_pairs t ≡ Some ms → (members_named 0 k (list_pairs ms) ≡ [] → ⊥)
    → Some (put_pairs p (members_named 0 k (list_pairs ms))) ≡ result_ok (remove_change_in p (key_step k) t)
key_change_some p k t ms e f =
    sym (ap (λ (u : Tree). result_ok (remove_change_in p (key_step k) u)) (object_of t ms e) ∙ ap (key_change p k (list_pairs ms)) (members_named_some 0 k (list_pairs ms) f))

within_and_then_of : {A B : Type 0} (g : A → B) (r : Changed Tree) (f : Tree → Changed A) → within g (and_then r f) ≡ and_then r (λ c. within g (f c))
within_and_then_of g (Ok c) f = refl
within_and_then_of g (Err e) f = refl

within_as_and_then : {B : Type 0} (r : Changed Tree) (g : Tree → B) → within g r ≡ and_then r (λ c. Ok (g c))
within_as_and_then (Ok c) g = refl
within_as_and_then (Err e) g = refl

lookup_one_step : (s : Step) (t : Tree) → lookup (s ∷ []) t ≡ lookup_step s t
lookup_one_step s t = by (lookup_step s t)
  where
    by : (r : Changed Tree) → and_then r (lookup []) ≡ r
    by (Ok c) = refl
    by (Err e) = refl

pub change_by_target : (e : Edit) (t : Tree) → change t (edit_of e) ≡ and_then (lookup (edit_path e) t) (change_in e)
change_by_target (Set p v) t = within_as_and_then (lookup (path_steps p) t) (put (path_steps p))
change_by_target (Insert p k v) t = refl
change_by_target (Push p v) t = refl
change_by_target (Remove p (Key k)) t = refl
change_by_target (Remove p (Index i)) t =
    ap (within (λ old. put_back (path_steps p) i old)) (lookup_append (path_steps p) (index_step i ∷ []) t)
    ∙ within_and_then_of (λ old. put_back (path_steps p) i old) (lookup (path_steps p) t) (lookup (index_step i ∷ []))
    ∙ by (lookup (path_steps p) t)
  where
    by : (r : Changed Tree) → and_then r (λ c. within (λ old. put_back (path_steps p) i old) (lookup (index_step i ∷ []) c)) ≡ and_then r (change_in (Remove p (Index i)))
    by (Ok c) = ap (within (λ old. put_back (path_steps p) i old)) (lookup_one_step (index_step i) c)
    by (Err e) = refl

-- the value at the end of an edit's path decides its change
pub change_at_target : (e : Edit) (p : List Step) (t c : Tree) → p ≡ edit_path e → tree_at p t ≡ Some c → change t (edit_of e) ≡ change_in e c
change_at_target e p t c is here = change_by_target e t ∙ ap (λ (r : Changed Tree). and_then r (change_in e)) (ap (λ (q : List Step). lookup q t) (sym is) ∙ lookup_some p t c here)

and_then_none : {A : Type 0} (r : Changed Tree) (f : Tree → Changed A) → result_ok r ≡ None → result_ok (and_then r f) ≡ None
and_then_none (Ok c) f e = absurd (cc)
and_then_none (Err r) f e = refl

pub change_missing : (e : Edit) (p : List Step) (t : Tree) → p ≡ edit_path e → tree_at p t ≡ None → None ≡ result_ok (change t (edit_of e))
change_missing e p t is here =
    sym (ap result_ok (change_by_target e t) ∙ and_then_none (lookup (edit_path e) t) (change_in e) (ap (λ (q : List Step). result_ok (lookup q t)) (sym is) ∙ lookup_tree_at p t ∙ here))

-- whether a list has entries
pub removed_members_empty : (xs : List (ℕ × Keyed Value)) (n : ℕ) → n ≡ length xs → (n == 0) ≡ true → map removed_member xs ≡ []
removed_members_empty [] n l e = refl
removed_members_empty (x ∷ xs) n l e = absurd (omega (arith, l, eqb-true n 0 e))

pub removed_members_nonempty : (xs : List (ℕ × Keyed Value)) (n : ℕ) → n ≡ length xs → (n == 0) ≡ false → map removed_member xs ≡ [] → ⊥
removed_members_nonempty [] n l e h = eqb-false n 0 e l
removed_members_nonempty (x ∷ xs) n l e h = absurd (cc)
