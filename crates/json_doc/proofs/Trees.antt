-- The tree at a place, and what is spelled there.
use Rattle.std.proofs.Common.{◌≡◌, ℕ, ℤ, pos, negsuc, zero, suc, ◌+◌, ◌-◌, ◌<◌, ◌≤◌, List, [], ◌∷◌, length, get_or, drop, map, Option, Some, None, refl, sym, ap, ap₂, subst, ◌∙◌, arith}
use Rattle.std.specs.Prelude.{slice_get}
use Rattle.std.specs.Fmt.{signed_decimal}
use Rattle.std.proofs.lemmas.List.{get_or-drop, get_or_past, drop_more}
use Rattle.std.proofs.lemmas.Option.{get_or_from_slice_get, slice_get_within}
use Rattle.std.proofs.lemmas.Bool.{cases_lt}
use Rattle.std.proofs.Math.Logic.{⊎_elim}
use Rattle.json_grammar.specs.Tree.{Tree, null, boolean, num, text, list, pairs, Trees, no_trees, tree_and, Pairs, no_pairs, pair_and, trees_list, list_trees, pairs_list, list_pairs}
use Rattle.json_number.specs.Integers.{integer_in}
use Rattle.json_doc.specs.ByValue.{integer_cell}
use Rattle.json_doc.specs.Texts.{trees_count, pairs_count}
use Rattle.json_doc.specs.Places.{after_subtree, place_after, places_from, place_from}
use Rattle.json_doc.specs.Shape.{CellsInPlace}
use Rattle.json_doc.specs.Spells.{spells_text, spells_number, spells, spells_trees, spells_pairs}
use Rattle.json_doc.specs.Trees.{text_of_tree, tree_after, pair_after, tree_of_cell, trees_from, tree_at_cell}
use Rattle.json_doc.specs.declared.cell.Cell.{Cell}
use Rattle.json_doc.specs.declared.cell.Cell.TheVariants as cell

pub list_back : (ts : Trees) → list_trees (trees_list ts) ≡ ts
list_back no_trees = refl
list_back (tree_and t ts) = ap (tree_and t) (list_back ts)

pub pairs_back : (ps : Pairs) → list_pairs (pairs_list ps) ≡ ps
pairs_back no_pairs = refl
pairs_back (pair_and k t ps) = ap (pair_and k t) (pairs_back ps)

pub places_more : (cells : List Cell) (keys m n at : ℕ) → m ≡ 1 + n → places_from cells keys at m ≡ at ∷ places_from cells keys (place_after cells at + keys) n
places_more cells keys zero n at e = absurd (omega arith)
places_more cells keys (suc m) n at e = let same : m ≡ n = omega arith in ap (λ (k : ℕ). at ∷ places_from cells keys (place_after cells at + keys) k) same

-- what follows a cell is at a later place
pub step_ahead : (cells : List Cell) (bytes : List ℕ) (at : ℕ) → CellsInPlace cells bytes → at < place_after cells at
step_ahead cells bytes at h =
    ⊎_elim (λ l. (h at l).ahead) (λ l. subst (λ (c : Cell). at < after_subtree at c) (sym (get_or_past cells at cell.Null l)) (let next : at < at + 1 = omega arith in next)) (cases_lt at (length cells))

-- places go up
pub place_up : (cells : List Cell) (bytes : List ℕ) (keys at n : ℕ) → CellsInPlace cells bytes → at ≤ place_from cells keys at n
place_up cells bytes keys at zero h = omega arith
place_up cells bytes keys at (suc n) h = let on = step_ahead cells bytes at h in let more = place_up cells bytes keys (place_after cells at + keys) n h in omega arith

integer_tree : (cells : List Cell) (bytes : List ℕ) (at : ℕ) (ts : List Tree) (n : ℤ) → tree_of_cell cells bytes at ts (integer_cell n) ≡ num (signed_decimal n)
integer_tree cells bytes at ts (pos n) = refl
integer_tree cells bytes at ts (negsuc n) = refl

integer_after : (at : ℕ) (n : ℤ) → after_subtree at (integer_cell n) ≡ at + 1
integer_after at (pos n) = refl
integer_after at (negsuc n) = refl

-- the value at a place, and its key before it
abbrev pub pair_at : List Cell → List ℕ → ℕ → List ℕ × Tree
pair_at cells bytes k = (text_of_tree (tree_at_cell cells bytes (k - 1)), tree_at_cell cells bytes k)

module _ (cells : List Cell) (bytes : List ℕ) where
  -- the trees of the cells from a place on
  pub from : ℕ → List Tree
  from at = drop at (trees_from cells bytes 0 cells)

  dropped : (n at : ℕ) (cs : List Cell) → drop n (trees_from cells bytes at cs) ≡ trees_from cells bytes (at + n) (drop n cs)
  unfolding trees_from
  dropped zero at cs = let e : at ≡ at + 0 = omega arith in ap (λ (k : ℕ). trees_from cells bytes k cs) e
  dropped (suc n) at [] = refl
  dropped (suc n) at (c ∷ cs) = let e : (at + 1) + n ≡ at + suc n = omega arith in dropped n (at + 1) cs ∙ ap (λ (k : ℕ). trees_from cells bytes k (drop n cs)) e

  opened : (at : ℕ) (c : Cell) (cs : List Cell) → trees_from cells bytes at (c ∷ cs) ≡ tree_of_cell cells bytes at (trees_from cells bytes (at + 1) cs) c ∷ trees_from cells bytes (at + 1) cs
  unfolding trees_from
  opened at c cs = refl

  from_next : (at : ℕ) → trees_from cells bytes (at + 1) (drop (at + 1) cells) ≡ from (at + 1)
  unfolding from
  from_next at = sym (dropped (at + 1) 0 cells ∙ (let e : 0 + (at + 1) ≡ at + 1 = omega arith in ap (λ (k : ℕ). trees_from cells bytes k (drop (at + 1) cells)) e))

  -- the tree at a cell
  pub tree_where : (at : ℕ) → at < length cells → tree_at_cell cells bytes at ≡ tree_of_cell cells bytes at (from (at + 1)) (get_or cells at cell.Null)
  unfolding from
  tree_where at h =
      let zeroth : at + 0 ≡ at = omega arith in
      let same : 0 + at ≡ at = omega arith in
      let first : get_or (drop at (trees_from cells bytes 0 cells)) 0 null ≡ tree_at_cell cells bytes at = get_or-drop at (trees_from cells bytes 0 cells) 0 null ∙ ap (λ (k : ℕ). get_or (trees_from cells bytes 0 cells) k null) zeroth in
      let here = dropped at 0 cells ∙ ap (λ (k : ℕ). trees_from cells bytes k (drop at cells)) same ∙ ap (trees_from cells bytes at) (drop_more cells at cell.Null h) ∙ opened at (get_or cells at cell.Null) (drop (at + 1) cells) in
      sym first ∙ ap (λ (ts : List Tree). get_or ts 0 null) here ∙ ap (λ (ts : List Tree). tree_of_cell cells bytes at ts (get_or cells at cell.Null)) (from_next at)

  -- what is at a later place
  pub looked : (at k : ℕ) → at + 1 ≤ k → tree_after (from (at + 1)) at k ≡ tree_at_cell cells bytes k
  unfolding from
  looked at k h =
      let same : (at + 1) + (k - (at + 1)) ≡ k = omega arith in
      get_or-drop (at + 1) (trees_from cells bytes 0 cells) (k - (at + 1)) null ∙ ap (λ (i : ℕ). get_or (trees_from cells bytes 0 cells) i null) same

  looked_pair : (at k : ℕ) → at + 2 ≤ k → pair_after (from (at + 1)) at k ≡ pair_at cells bytes k
  looked_pair at k h =
      ap (λ (t : Tree). (text_of_tree t, tree_after (from (at + 1)) at k)) (looked at (k - 1) (omega arith)) ∙ ap (λ (t : Tree). (text_of_tree (tree_at_cell cells bytes (k - 1)), t)) (looked at k (omega arith))

  module _ (h : CellsInPlace cells bytes) where
    pub looked_all : (at keys k n : ℕ) → at + 1 ≤ k → map (tree_after (from (at + 1)) at) (places_from cells keys k n) ≡ map (tree_at_cell cells bytes) (places_from cells keys k n)
    looked_all at keys k zero l = refl
    looked_all at keys k (suc n) l =
        let on = step_ahead cells bytes k h in
        ap₂ (λ (t : Tree) (ts : List Tree). t ∷ ts) (looked at k l) (looked_all at keys (place_after cells k + keys) n (omega arith))

    pub looked_pairs : (at keys k n : ℕ) → at + 2 ≤ k → map (pair_after (from (at + 1)) at) (places_from cells keys k n) ≡ map (pair_at cells bytes) (places_from cells keys k n)
    looked_pairs at keys k zero l = refl
    looked_pairs at keys k (suc n) l =
        let on = step_ahead cells bytes k h in
        ap₂ (λ (p : List ℕ × Tree) (ps : List (List ℕ × Tree)). p ∷ ps) (looked_pair at k l) (looked_pairs at keys (place_after cells k + keys) n (omega arith))

    -- a tree is at a place and takes the cells up to an end
    record Stood (at : ℕ) (t : Tree) (end : ℕ) : Type 0 where
      is_tree : tree_at_cell cells bytes at ≡ t
      is_end : place_after cells at ≡ end

    stood_at : (at end : ℕ) (t : Tree) (c : Cell) → slice_get cells at ≡ Some c → tree_of_cell cells bytes at (from (at + 1)) c ≡ t → after_subtree at c ≡ end → Stood at t end
    stood_at at end t c e f g =
        let is = get_or_from_slice_get cells at c cell.Null e in
        record {
          is_tree = tree_where at (slice_get_within cells at c e) ∙ ap (tree_of_cell cells bytes at (from (at + 1))) is ∙ f;
          is_end = ap (after_subtree at) is ∙ g;
        }

    stood_number : (o : Option ℤ) (at end : ℕ) (l : List ℕ) → spells_number o cells bytes at l → end ≡ at + 1 → Stood at (num l) end
    stood_number (Some n) at end l (e, t) g = stood_at at end (num l) (integer_cell n) e (integer_tree cells bytes at (from (at + 1)) n ∙ ap num (sym t)) (integer_after at n ∙ sym g)
    stood_number None at end l (start, e, t) g = stood_at at end (num l) (cell.Raw start (length l)) e (ap num t) (sym g)

    stood_text : (at : ℕ) (s : List ℕ) → spells_text cells bytes at s → Stood at (text s) (at + 1)
    stood_text at s (start, e, t) = stood_at at (at + 1) (text s) (cell.Str start (length s)) e (ap text t) refl

    mutual
      stood : (at end : ℕ) (t : Tree) → spells cells bytes at t end → Stood at t end
      stood at end null (e, f) = stood_at at end null cell.Null e refl (sym f)
      stood at end (boolean b) (e, f) = stood_at at end (boolean b) (cell.Bool b) e refl (sym f)
      stood at end (num l) (e, f) = stood_number (integer_in l) at end l e f
      stood at end (text s) (e, f) = subst (λ (k : ℕ). Stood at (text s) k) (sym f) (stood_text at s e)
      stood at end (list ts) (e, r) =
          stood_at at end (list ts) (cell.Array end (trees_count ts)) e
          (ap (λ (us : List Tree). list (list_trees us)) (looked_all at 0 (at + 1) (trees_count ts) (omega arith) ∙ stood_row (at + 1) end ts r) ∙ ap list (list_back ts)) refl
      stood at end (pairs ps) (e, r) =
          let first : at + 2 ≡ (at + 1) + 1 = omega arith in
          stood_at at end (pairs ps) (cell.Object end (pairs_count ps)) e
          (ap (λ (us : List (List ℕ × Tree)). pairs (list_pairs us)) (looked_pairs at 1 (at + 2) (pairs_count ps) (omega arith) ∙ ap (λ (k : ℕ). map (pair_at cells bytes) (places_from cells 1 k (pairs_count ps))) first ∙ stood_pairs (at + 1) end ps r) ∙ ap pairs (pairs_back ps)) refl

      stood_row : (at end : ℕ) (ts : Trees) → spells_trees cells bytes at ts end → map (tree_at_cell cells bytes) (places_from cells 0 at (trees_count ts)) ≡ trees_list ts
      stood_row at end no_trees e = refl
      stood_row at end (tree_and t ts) (mid, s, r) =
          let here = stood at mid t s in
          let next : place_after cells at + 0 ≡ mid = omega (arith, here.is_end) in
          ap (map (tree_at_cell cells bytes)) (places_more cells 0 (1 + trees_count ts) (trees_count ts) at refl)
          ∙ ap₂ (λ (u : Tree) (us : List Tree). u ∷ us) here.is_tree (ap (λ (k : ℕ). map (tree_at_cell cells bytes) (places_from cells 0 k (trees_count ts))) next ∙ stood_row mid end ts r)

      -- of objects the values
      stood_pairs : (at end : ℕ) (ps : Pairs) → spells_pairs cells bytes at ps end → map (pair_at cells bytes) (places_from cells 1 (at + 1) (pairs_count ps)) ≡ pairs_list ps
      stood_pairs at end no_pairs e = refl
      stood_pairs at end (pair_and k t ps) (mid, f, s, r) =
          let key = stood_text at k f in
          let here = stood (at + 1) mid t s in
          let before : (at + 1) - 1 ≡ at = omega arith in
          let next : place_after cells (at + 1) + 1 ≡ mid + 1 = omega (arith, here.is_end) in
          let is_key : text_of_tree (tree_at_cell cells bytes ((at + 1) - 1)) ≡ k = ap (λ (i : ℕ). text_of_tree (tree_at_cell cells bytes i)) before ∙ ap text_of_tree key.is_tree in
          let first : pair_at cells bytes (at + 1) ≡ (k, t) = ap₂ (λ (x : List ℕ) (u : Tree). (x, u)) is_key here.is_tree in
          ap (map (pair_at cells bytes)) (places_more cells 1 (1 + pairs_count ps) (pairs_count ps) (at + 1) refl)
          ∙ ap₂ (λ (p : List ℕ × Tree) (us : List (List ℕ × Tree)). p ∷ us) first (ap (λ (i : ℕ). map (pair_at cells bytes) (places_from cells 1 i (pairs_count ps))) next ∙ stood_pairs mid end ps r)

    pub spelled : (at end : ℕ) (t : Tree) → spells cells bytes at t end → tree_at_cell cells bytes at ≡ t
    spelled at end t s = (stood at end t s).is_tree
