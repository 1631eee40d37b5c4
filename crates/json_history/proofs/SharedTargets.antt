-- What is seen one step further, and at the end of arrays and objects.
use Rattle.std.proofs.Common.{◌≡◌, ◌≤◌, ℕ, zero, suc, true, false, cond, bytes_eq, arith, ◌-◌, List, [], ◌∷◌, ◌++◌, Option, Some, None, length, map, drop, sym, ap, ◌∙◌}
use Rattle.std.proofs.lemmas.List.{length-map, map-append, append_assoc}
use Rattle.std.proofs.lemmas.List.FromFn.{length-enumerate_from}
use Rattle.std.specs.List.{enumerate_from}
use Rattle.std.specs.Prelude.{option_and_then, option_map, slice_get}
use Rattle.json_grammar.specs.Tree.{Tree, list_pairs}
use Rattle.json_doc.specs.Seen.{view_tree}
use Rattle.json_doc.specs.Readings.{elements}
use Rattle.json_model.specs.Edit.{Step, key_step}
use Rattle.json_doc_print.specs.Readings.{members}
use Rattle.json_value.specs.Seen.{array_form_seen, elements_seen, first_of, members_seen, object_form_seen}
use Rattle.json_value.specs.TargetParts.{array_form_targets, elements_targets, target_members, members_targets, object_form_targets, target_after, target_along}
use Rattle.json_value.specs.ViewTargets.{ViewTarget}
use Rattle.json_value.specs.Written.{value_in}
use Rattle.json_value.specs.declared.array_view.ArrayForm.{ArrayForm}
use Rattle.json_value.specs.declared.array_view.ArrayForm.TheVariants as array
use Rattle.json_value.specs.declared.array_view.ArrayView.{ArrayView}
use Rattle.json_value.specs.declared.object_view.ObjectForm.{ObjectForm}
use Rattle.json_value.specs.declared.object_view.ObjectForm.TheVariants as object
use Rattle.json_value.specs.declared.object_view.ObjectView.{ObjectView}
use Rattle.json_value.specs.declared.pair.Keyed.{Keyed}
use Rattle.json_value.specs.declared.value.Value.{Value}
use Rattle.json_history.specs.Change.{members_named}
use Rattle.json_history.specs.ChangeTrees.{removed_member}
use Rattle.json_history.specs.SharedParts.{SharesWith, MemberShares, last_of}

-- ---- one step further

pub target_one_more : (p : List Step) (x : Step) (s t u : ViewTarget) → target_along p s ≡ Some t → target_after x t ≡ Some u → target_along (p ++ x ∷ []) s ≡ Some u
target_one_more [] x s t u e f = let q : s ≡ t = cc in ap (λ (o : Option ViewTarget). elim o [ None ↦ None | Some w ↦ target_along [] w ]) (ap (target_after x) q ∙ f)
target_one_more (y ∷ p) x s t u e f = by (target_after y s) (λ w. target_one_more p x w t u) e
  where
    by : (o : Option ViewTarget) → ((w : ViewTarget) → target_along p w ≡ Some t → target_after x t ≡ Some u → target_along (p ++ x ∷ []) w ≡ Some u)
        → elim o as (λ _. Option ViewTarget) [ None ↦ None | Some w ↦ target_along p w ] ≡ Some t
        → elim o as (λ _. Option ViewTarget) [ None ↦ None | Some w ↦ target_along (p ++ x ∷ []) w ] ≡ Some u
    by None h e = absurd (cc)
    by (Some w) h e = h w e f

-- the value of the key in an object of these members
pub target_of_key : (k : List ℕ) (t u : ViewTarget) (ms : List (List ℕ × ViewTarget)) → target_members t ≡ Some ms → option_map (λ (q : List ℕ × ViewTarget). q.1) (first_of k ms) ≡ Some u → target_after (key_step k) t ≡ Some u
target_of_key k t u ms e f = ap (option_and_then (λ (ps : List (List ℕ × ViewTarget)). option_map (λ (q : List ℕ × ViewTarget). q.1) (first_of k ps))) e ∙ f

-- ---- lists

-- what a list has at n, where this is what follows there
pub got_from_drop : {A : Type 0} (xs : List A) (n : ℕ) (y : A) (ys : List A) → y ∷ ys ≡ drop n xs → slice_get xs n ≡ Some y
got_from_drop [] zero y ys e = absurd (cc)
got_from_drop [] (suc n) y ys e = absurd (cc)
got_from_drop (x ∷ xs) zero y ys e = let s : x ≡ y = cc in ap Some s
got_from_drop (x ∷ xs) (suc n) y ys e = got_from_drop xs n y ys e

pub dropped_one_more : {A : Type 0} (xs : List A) (n : ℕ) (y : A) (ys : List A) → y ∷ ys ≡ drop n xs → ys ≡ drop (suc n) xs
dropped_one_more [] zero y ys e = absurd (cc)
dropped_one_more [] (suc n) y ys e = absurd (cc)
dropped_one_more (x ∷ xs) zero y ys e = let s : ys ≡ xs = cc in s
dropped_one_more (x ∷ xs) (suc n) y ys e = dropped_one_more xs n y ys e

-- ---- the last element and the last member

array_form_count : (f : ArrayForm) → length (array_form_targets f) ≡ length (array_form_seen f)
array_form_count (array.Packed p) = length-map (enumerate_from 0 (elements (view_tree p.view))) _ ∙ length-enumerate_from 0 (elements (view_tree p.view))
array_form_count (array.Whole vs) = length-map vs.now _ ∙ sym (length-map vs.now _)

object_form_count : (f : ObjectForm) → length (object_form_targets f) ≡ length (object_form_seen f)
object_form_count (object.Packed p) = length-map (enumerate_from 0 (members (view_tree p.view))) _ ∙ length-enumerate_from 0 (members (view_tree p.view))
object_form_count (object.Whole ps) = length-map ps.now _ ∙ sym (length-map ps.now _)

pub last_element_target : (v : ArrayView) (n : ℕ) (s : ViewTarget) → n ≡ length (elements_seen v) → slice_get (elements_targets v) (n - 1) ≡ Some s → last_of (elements_targets v) ≡ Some s
last_element_target v n s e f = ap (λ m. slice_get (elements_targets v) (m - 1)) (array_form_count v.form ∙ sym e) ∙ f

pub last_member_target : (v : ObjectView) (n : ℕ) (m : List ℕ × ViewTarget) → n ≡ length (members_seen v) → slice_get (members_targets v) (n - 1) ≡ Some m → last_of (members_targets v) ≡ Some m
last_member_target v n m e f = ap (λ k. slice_get (members_targets v) (k - 1)) (object_form_count v.form ∙ sym e) ∙ f

-- ---- members that are met from the left

module _ {A : Type 0} (all : List A) (len left count : ℕ) (x : A) (here rest : List A) (more : left ≡ suc count) (below : left ≤ len) where
  -- the index of the next one
  pub next_index : suc (len - left) ≡ len - (left - 1)
  next_index = omega arith

  -- what is left after the current one
  pub left_behind : here ≡ drop (len - left) all → here ≡ x ∷ rest → rest ≡ drop (len - (left - 1)) all
  left_behind at step = dropped_one_more all (len - left) x rest (sym step ∙ at) ∙ ap (λ k. drop k all) next_index

-- a copy of the one that is met
pub member_shares : (all : List (List ℕ × ViewTarget)) (i : ℕ) (m : List ℕ × ViewTarget) (here rest : List (List ℕ × ViewTarget)) (e : ℕ × Keyed Value) → here ≡ drop i all → here ≡ m ∷ rest → e.0 ≡ i → SharesWith m.1 (value_in e.1) → MemberShares all e
member_shares all i m here rest e at step index shares = (m, ap (slice_get all) index ∙ got_from_drop all i m rest (sym step ∙ at), shares)

-- the members of a key from this one on, if it has the key
pub named_here : (n : ℕ) (k m : List ℕ) (t : Tree) (here rest : List (List ℕ × Tree)) → bytes_eq m k ≡ true → here ≡ (m, t) ∷ rest → members_named n k (list_pairs here) ≡ (n, m, t) ∷ members_named (suc n) k (list_pairs rest)
named_here n k m t here rest same step =
    ap (λ (l : List (List ℕ × Tree)). members_named n k (list_pairs l)) step ∙ ap (λ b. cond b ((n, m, t) ∷ members_named (suc n) k (list_pairs rest)) (members_named (suc n) k (list_pairs rest))) same

-- and if it has another key
pub named_after : (n : ℕ) (k m : List ℕ) (t : Tree) (here rest : List (List ℕ × Tree)) → bytes_eq m k ≡ false → here ≡ (m, t) ∷ rest → members_named n k (list_pairs here) ≡ members_named (suc n) k (list_pairs rest)
named_after n k m t here rest other step =
    ap (λ (l : List (List ℕ × Tree)). members_named n k (list_pairs l)) step ∙ ap (λ b. cond b ((n, m, t) ∷ members_named (suc n) k (list_pairs rest)) (members_named (suc n) k (list_pairs rest))) other

-- a copy of a member before the other members that are removed
pub copied_before : (es : List (ℕ × Keyed Value)) (e : ℕ × Keyed Value) (x : ℕ × List ℕ × Tree) (xs : List (ℕ × List ℕ × Tree)) → removed_member e ≡ x → map removed_member (es ++ e ∷ []) ++ xs ≡ map removed_member es ++ x ∷ xs
copied_before es e x xs is =
    ap (λ l. l ++ xs) (map-append removed_member es (e ∷ [])) ∙ append_assoc (map removed_member es) (removed_member e ∷ []) xs ∙ ap (λ y. map removed_member es ++ y ∷ xs) is
