-- What merging makes of members and of values.
use Rattle.std.proofs.Common.{◌≡◌, ℕ, zero, suc, ◌<◌, List, [], ◌∷◌, Bool, true, false, cond, Option, Some, None, refl, sym, ap, ◌∙◌, subst, bytes_eq, length, get_or, take, map, arith, ◌+◌, ◌≤◌}
use Rattle.std.specs.Prelude.{slice_get, IfSome}
use Rattle.std.proofs.lemmas.List.{length-map}
use Rattle.json_grammar.specs.Tree.{Tree, null, pairs, Pairs, no_pairs, pair_and, list_pairs}
use Rattle.json_grammar.specs.Sizes.{nodes, pairs_nodes}
use Rattle.json_model.specs.Edit.{has_key}
use Rattle.json_model.specs.Same.{first_value}
use Rattle.json_model.proofs.Members.{key_itself}
use Rattle.json_value.specs.Denotes.{tree_of, pair_of, pairs_in}
use Rattle.json_value.specs.FirstMember.{IsFirstOf}
use Rattle.json_value.specs.declared.container.Container.{Container}
use Rattle.json_value.specs.declared.pair.Keyed.{Keyed}
use Rattle.json_value.specs.declared.value.Value.{Value, Object}
use Rattle.json_value.proofs.ValueLevels.{object_tree}
use Rattle.json_value.specs.Steps.{tree_or_null}
use Rattle.json_patch.specs.Merge.{pairs_merged}
use Rattle.json_patch.specs.Merge.{member_merged}

pub fewer_nodes : (all left : List (List ℕ × Tree)) (k : List ℕ) (v : Tree) → all ≡ (k, v) ∷ left → pairs_nodes (list_pairs left) ≤ pairs_nodes (list_pairs all)
fewer_nodes all left k v e = let s : pairs_nodes (list_pairs all) ≡ suc (nodes v + pairs_nodes (list_pairs left)) = ap (λ (ms : List (List ℕ × Tree)). pairs_nodes (list_pairs ms)) e in omega (arith, s)

no_true : true ≡ false → ⊥
no_true e = cc

first_there : (k : List ℕ) (qs : List (List ℕ × Tree)) (i : ℕ) (q : List ℕ × Tree) → has_key k (list_pairs (take i qs)) ≡ false → slice_get qs i ≡ Some q → q.0 ≡ k → first_value k (list_pairs qs) ≡ Some q.1
first_there k [] i q before at is = cc
first_there k (p ∷ qs) zero q before at is =
    let same : p ≡ q = cc in
    ap (λ b. cond b (Some p.1) (first_value k (list_pairs qs))) (ap (λ (r : List ℕ × Tree). bytes_eq r.0 k) same ∙ ap (λ n. bytes_eq n k) is ∙ key_itself k) ∙ ap (λ (r : List ℕ × Tree). Some r.1) same
first_there k (p ∷ qs) (suc i) q before at is = by (bytes_eq p.0 k) before (λ h. first_there k qs i q h at is)
  where
    by : (b : Bool) → cond b true (has_key k (list_pairs (take i qs))) ≡ false → (has_key k (list_pairs (take i qs)) ≡ false → first_value k (list_pairs qs) ≡ Some q.1) → cond b (Some p.1) (first_value k (list_pairs qs)) ≡ Some q.1
    by true h more = absurd (no_true h)
    by false h more = more h

none_there : (k : List ℕ) (ps : Pairs) → has_key k ps ≡ false → first_value k ps ≡ None
none_there k no_pairs h = refl
none_there k (pair_and n t ps) h = by (bytes_eq n k) h (none_there k ps)
  where
    by : (b : Bool) → cond b true (has_key k ps) ≡ false → (has_key k ps ≡ false → first_value k ps ≡ None) → cond b (Some t) (first_value k ps) ≡ None
    by true g more = absurd (no_true g)
    by false g more = more g

pair_at : (ps : List (Keyed Value)) (i : ℕ) (p : Keyed Value) → i < length ps → p ≡ get_or ps i p → slice_get (map pair_of ps) i ≡ Some (pair_of p)
pair_at [] i p h is = absurd (omega arith)
pair_at (q ∷ ps) zero p h is = ap (λ r. Some (pair_of r)) (sym is)
pair_at (q ∷ ps) (suc i) p h is = pair_at ps i p (omega arith) is

-- the first value of a key that is there
pub first_is : (k : List ℕ) (ps : List (Keyed Value)) (i : ℕ) (p : Keyed Value) → p ≡ get_or ps i p → IsFirstOf k (map pair_of ps) i → tree_or_null (first_value k (list_pairs (map pair_of ps))) ≡ tree_of p.value
first_is k ps i p is first =
    let low : i < length ps = rw length-map at first.within in
    let at = pair_at ps i p low is in
    let key = subst (λ (o : Option (List ℕ × Tree)). IfSome o (λ q. q.0 ≡ k)) at first.here in
    ap tree_or_null (first_there k (map pair_of ps) i (pair_of p) first.before at key)

-- and of one that is not
pub first_null : (k : List ℕ) (ps : Pairs) → has_key k ps ≡ false → tree_or_null (first_value k ps) ≡ null
first_null k ps h = ap tree_or_null (none_there k ps h)

-- one member more
pub merged_more : (ps rs : Pairs) (all left : List (List ℕ × Tree)) (k : List ℕ) (v : Tree) → all ≡ (k, v) ∷ left → rs ≡ member_merged k v ps → pairs_merged ps (list_pairs all) ≡ pairs_merged rs (list_pairs left)
merged_more ps rs all left k v e h = ap (λ (qs : List (List ℕ × Tree)). pairs_merged ps (list_pairs qs)) e ∙ ap (λ (qs : Pairs). pairs_merged qs (list_pairs left)) (sym h)

same_pairs : (ps qs : Pairs) → pairs ps ≡ pairs qs → ps ≡ qs
same_pairs ps qs e = cc

-- the members of an object, after merging
pub object_merged : (ps qs : Pairs) (v : Value) (o n : Container (Keyed Value)) → tree_of v ≡ pairs ps → v ≡ Object o → list_pairs (pairs_in n) ≡ pairs_merged (list_pairs (pairs_in o)) qs → tree_of (Object n) ≡ pairs (pairs_merged ps qs)
object_merged ps qs v o n opened is e =
    let same = same_pairs (list_pairs (pairs_in o)) ps (sym (object_tree o) ∙ sym (ap tree_of is) ∙ opened) in
    object_tree n ∙ ap pairs (e ∙ ap (λ us. pairs_merged us qs) same)
