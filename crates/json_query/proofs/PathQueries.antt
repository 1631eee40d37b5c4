-- The normalized path of a node, as a query, selects the node alone, if no name repeats.
use Rattle.std.proofs.Common.{◌≡◌, ℕ, zero, suc, ◌+◌, List, [], ◌∷◌, ◌++◌, Bool, true, false, cond, Option, Some, None, inl, inr, refl, sym, ap, ap₂, ◌∙◌, subst, append_assoc, append-nil, arith, bytes_eq, flat_map, slice_get, length, option_and_then, option_to_list, pos, ◌+ℤ◌, if◌then◌else◌}
use Rattle.std.proofs.lemmas.Int.{ints}
use Rattle.std.specs.List.{AllByRecursion, Contains}
use Rattle.json_grammar.specs.Repeated.{names, RepeatsKey, TreesRepeatKey, PairsRepeatKey}
use Rattle.json_grammar.specs.Tree.{Tree, list, pairs, Trees, no_trees, tree_and, Pairs, no_pairs, pair_and, trees_list, pairs_list}
use Rattle.json_grammar.proofs.Lists.{holds_head, holds_tail}
use Rattle.json_model.proofs.Members.{key_itself, same_key}
use Rattle.json_query.specs.Laws.{IsLocatedIn, IsSelectedByItsPath, PathsSelectTheirNodes}
use Rattle.json_query.specs.Locations.{value_if_named, value_at}
use Rattle.json_query.specs.Nodes.{Nodelist, Location, node_at, element_at, member_at, elements_from, named_from}
use Rattle.json_query.specs.NormalizedPaths.{step_segment, path_query}
use Rattle.json_query.specs.Selecting.{selected, segments_nodes, segment_nodes}
use Rattle.json_query.specs.Slices.{normalized}
use Rattle.json_query.proofs.ItemValues.{item_at-is}
use Rattle.json_query.proofs.LocatedNodes.{nodes_are_located}
use Rattle.json_query.proofs.SliceIndexes.{le_is}

-- ---- members that are the same

name_is : (p q : List ℕ × Tree) → Some p ≡ Some q → p.0 ≡ q.0
name_is p q e = let same : p ≡ q = cc in ap (λ (m : List ℕ × Tree). m.0) same

value_is : (p q : List ℕ × Tree) → Some p ≡ Some q → p.1 ≡ q.1
value_is p q e = let same : p ≡ q = cc in ap (λ (m : List ℕ × Tree). m.1) same

-- ---- parts in which no name repeats

element_unique : (ts : Trees) (i : ℕ) (t : Tree) → (TreesRepeatKey ts → ⊥) → slice_get (trees_list ts) i ≡ Some t → RepeatsKey t → ⊥
element_unique no_trees i t h e r = absurd (cc)
element_unique (tree_and u ts) zero t h e r = let same : u ≡ t = cc in h (inl (subst RepeatsKey (sym same) r))
element_unique (tree_and u ts) (suc i) t h e r = element_unique ts i t (λ g. h (inr g)) e r

member_unique : (ps : Pairs) (i : ℕ) (k : List ℕ) (t : Tree) → (PairsRepeatKey ps → ⊥) → slice_get (pairs_list ps) i ≡ Some (k, t) → RepeatsKey t → ⊥
member_unique no_pairs i k t h e r = absurd (cc)
member_unique (pair_and n u ps) zero k t h e r = let same : u ≡ t = value_is (n, u) (k, t) e in h (inr (inl (subst RepeatsKey (sym same) r)))
member_unique (pair_and n u ps) (suc i) k t h e r = member_unique ps i k t (λ g. h (inr (inr g))) e r

-- ---- the node of a step

element_node : (m : Location) (j : ℕ) (ts : Trees) (i : ℕ) (t : Tree) → slice_get (trees_list ts) i ≡ Some t → slice_get (elements_from m j ts) i ≡ Some (node_at (m ++ element_at (j + i) ∷ []) t)
element_node m j no_trees i t e = absurd (cc)
element_node m j (tree_and u ts) zero t e =
    let same : u ≡ t = cc in
    let here : j ≡ j + zero = omega arith in
    ap₂ (λ (n : ℕ) (v : Tree). Some (node_at (m ++ element_at n ∷ []) v)) here same
element_node m j (tree_and u ts) (suc i) t e =
    let next : suc j + i ≡ j + suc i = omega arith in
    element_node m (suc j) ts i t e ∙ ap (λ n. Some (node_at (m ++ element_at n ∷ []) t)) next

-- the name of the member at an index
name_there : (ps : Pairs) (i : ℕ) (k : List ℕ) (t : Tree) → slice_get (pairs_list ps) i ≡ Some (k, t) → Contains (names ps) k
name_there no_pairs i k t e = absurd (cc)
name_there (pair_and n u ps) zero k t e =
    let same : n ≡ k = name_is (n, u) (k, t) e in subst (λ o. Contains (o ∷ names ps) k) (sym same) (holds_head k (names ps))
name_there (pair_and n u ps) (suc i) k t e = holds_tail n k (names ps) (name_there ps i k t e)

none_named : (k : List ℕ) (m : Location) (j : ℕ) (ps : Pairs) → (Contains (names ps) k → ⊥) → named_from k m j ps ≡ []
none_named k m j no_pairs h = refl
none_named k m j (pair_and n t ps) h = by (bytes_eq n k) refl (none_named k m (suc j) ps (λ g. h (holds_tail n k (names ps) g)))
  where
    by : (b : Bool) → bytes_eq n k ≡ b → named_from k m (suc j) ps ≡ [] → cond b (node_at (m ++ member_at j n ∷ []) t ∷ named_from k m (suc j) ps) (named_from k m (suc j) ps) ≡ []
    by true e g = absurd (h (subst (λ o. Contains (o ∷ names ps) k) (sym (same_key n k e)) (holds_head k (names ps))))
    by false e g = g

-- the one member of a name
member_node : (k : List ℕ) (m : Location) (j : ℕ) (ps : Pairs) (i : ℕ) (t : Tree) → (PairsRepeatKey ps → ⊥) → slice_get (pairs_list ps) i ≡ Some (k, t) → named_from k m j ps ≡ node_at (m ++ member_at (j + i) k ∷ []) t ∷ []
member_node k m j no_pairs i t h e = absurd (cc)
member_node k m j (pair_and n u ps) zero t h e =
    let name : n ≡ k = name_is (n, u) (k, t) e in
    let value : u ≡ t = value_is (n, u) (k, t) e in
    let here : j ≡ j + zero = omega arith in
    let first = node_at (m ++ member_at j n ∷ []) u in
    let others : named_from k m (suc j) ps ≡ [] = none_named k m (suc j) ps (λ g. h (inl (subst (Contains (names ps)) (sym name) g))) in
    ap (λ b. cond b (first ∷ named_from k m (suc j) ps) (named_from k m (suc j) ps)) (ap (λ o. bytes_eq o k) name ∙ key_itself k)
    ∙ ap (λ r. first ∷ r) others
    ∙ ap₂ (λ (o : List ℕ) (v : Tree). node_at (m ++ member_at j o ∷ []) v ∷ []) name value
    ∙ ap (λ p. node_at (m ++ member_at p k ∷ []) t ∷ []) here
member_node k m j (pair_and n u ps) (suc i) t h e = by (bytes_eq n k) refl (member_node k m (suc j) ps i t (λ g. h (inr (inr g))) e)
  where
    next : suc j + i ≡ j + suc i
    next = omega arith

    by : (b : Bool) → bytes_eq n k ≡ b → named_from k m (suc j) ps ≡ node_at (m ++ member_at (suc j + i) k ∷ []) t ∷ []
        → cond b (node_at (m ++ member_at j n ∷ []) u ∷ named_from k m (suc j) ps) (named_from k m (suc j) ps) ≡ node_at (m ++ member_at (j + suc i) k ∷ []) t ∷ []
    by true s g = absurd (h (inl (subst (Contains (names ps)) (sym (same_key n k s)) (name_there ps i k t e))))
    by false s g = g ∙ ap (λ p. node_at (m ++ member_at p k ∷ []) t ∷ []) next

-- ---- the segment of a step

stays : (i n : ℕ) → normalized (pos i) n ≡ pos i
stays i n = ap (λ b. if b then pos i else pos n +ℤ pos i) (le_is (pos 0) (pos i) (omega (arith, ints)))

element_step : (m : Location) (i : ℕ) (ts : Trees) (t : Tree) → slice_get (trees_list ts) i ≡ Some t → flat_map (segment_nodes (step_segment (element_at i))) (node_at m (list ts) ∷ []) ≡ node_at (m ++ element_at i ∷ []) t ∷ []
element_step m i ts t e =
    let all = elements_from m 0 ts in
    let here : 0 + i ≡ i = omega arith in
    ap (λ o. (option_to_list o ++ []) ++ []) (item_at-is (pos i) i all (stays i (length all)) ∙ element_node m 0 ts i t e) ∙ ap (λ n. node_at (m ++ element_at n ∷ []) t ∷ []) here

member_step : (m : Location) (i : ℕ) (k : List ℕ) (ps : Pairs) (t : Tree) → (PairsRepeatKey ps → ⊥) → slice_get (pairs_list ps) i ≡ Some (k, t)
    → flat_map (segment_nodes (step_segment (member_at i k))) (node_at m (pairs ps) ∷ []) ≡ node_at (m ++ member_at i k ∷ []) t ∷ []
member_step m i k ps t h e =
    let here : 0 + i ≡ i = omega arith in
    ap (λ ns. (ns ++ []) ++ []) (member_node k m 0 ps i t h e) ∙ ap (λ n. node_at (m ++ member_at n k ∷ []) t ∷ []) here

-- ---- paths

-- what the path of a location selects of a node: the node there, from a value at the location m on
abbrev Leads : Location → Tree → Type 0
Leads l u = (m : Location) (t : Tree) → (RepeatsKey t → ⊥) → value_at l t ≡ Some u → segments_nodes (path_query l) (node_at m t ∷ []) ≡ node_at (m ++ l) u ∷ []

element_leads : (i : ℕ) (l : Location) (u : Tree) → Leads l u → Leads (element_at i ∷ l) u
element_leads i l u rest m (list ts) h e = by (slice_get (trees_list ts) i) refl e
  where
    by : (o : Option Tree) → slice_get (trees_list ts) i ≡ o → option_and_then (value_at l) o ≡ Some u → segments_nodes (path_query (element_at i ∷ l)) (node_at m (list ts) ∷ []) ≡ node_at (m ++ element_at i ∷ l) u ∷ []
    by None s g = absurd (cc)
    by (Some t) s g =
        ap (segments_nodes (path_query l)) (element_step m i ts t s) ∙ rest (m ++ element_at i ∷ []) t (element_unique ts i t h s) g ∙ ap (λ p. node_at p u ∷ []) (append_assoc m (element_at i ∷ []) l)
element_leads i l u rest m _ h e = absurd (cc)

member_leads : (i : ℕ) (k : List ℕ) (l : Location) (u : Tree) → Leads l u → Leads (member_at i k ∷ l) u
member_leads i k l u rest m (pairs ps) h e = by (slice_get (pairs_list ps) i) refl e
  where
    found : (t : Tree) → slice_get (pairs_list ps) i ≡ Some (k, t) → value_at l t ≡ Some u → segments_nodes (path_query (member_at i k ∷ l)) (node_at m (pairs ps) ∷ []) ≡ node_at (m ++ member_at i k ∷ l) u ∷ []
    found t s g =
        ap (segments_nodes (path_query l)) (member_step m i k ps t h s) ∙ rest (m ++ member_at i k ∷ []) t (member_unique ps i k t h s) g ∙ ap (λ p. node_at p u ∷ []) (append_assoc m (member_at i k ∷ []) l)

    named : (p : List ℕ × Tree) (b : Bool) → bytes_eq p.0 k ≡ b → slice_get (pairs_list ps) i ≡ Some p → option_and_then (value_at l) (cond b (Some p.1) None) ≡ Some u
        → segments_nodes (path_query (member_at i k ∷ l)) (node_at m (pairs ps) ∷ []) ≡ node_at (m ++ member_at i k ∷ l) u ∷ []
    named p true b s g = found p.1 (s ∙ ap (λ o. Some (o, p.1)) (same_key p.0 k b)) g
    named p false b s g = absurd (cc)

    by : (o : Option (List ℕ × Tree)) → slice_get (pairs_list ps) i ≡ o → option_and_then (value_at l) (value_if_named k o) ≡ Some u
        → segments_nodes (path_query (member_at i k ∷ l)) (node_at m (pairs ps) ∷ []) ≡ node_at (m ++ member_at i k ∷ l) u ∷ []
    by None s g = absurd (cc)
    by (Some p) s g = named p (bytes_eq p.0 k) refl s g
member_leads i k l u rest m _ h e = absurd (cc)

leads : (l : Location) (u : Tree) → Leads l u
leads [] u m t h e = let same : t ≡ u = cc in ap₂ (λ (p : Location) (v : Tree). node_at p v ∷ []) (sym (append-nil m)) same
leads (element_at i ∷ l) u m t h e = element_leads i l u (leads l u) m t h e
leads (member_at i k ∷ l) u m t h e = member_leads i k l u (leads l u) m t h e

pub paths_select_their_nodes : PathsSelectTheirNodes
paths_select_their_nodes q t h = all (selected q t) (nodes_are_located q t)
  where
    all : (ns : Nodelist) → AllByRecursion (IsLocatedIn t) ns → AllByRecursion (IsSelectedByItsPath t) ns
    all [] g = tt
    all (n ∷ ns) g = (leads n.location n.value [] t h g.0, all ns g.1)
