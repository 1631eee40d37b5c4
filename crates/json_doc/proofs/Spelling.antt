-- The cells of a tree spell it at their place.
use Rattle.std.proofs.Common.{◌≡◌, ℕ, ℤ, zero, suc, ◌+◌, ◌-◌, List, [], ◌∷◌, ◌++◌, length, drop, Option, Some, None, refl, sym, ap, subst, ◌∙◌, arith, append_assoc, length-append}
use Rattle.std.specs.Prelude.{slice_get, slice_range}
use Rattle.std.proofs.lemmas.List.{drop_at, take_at, length_push}
use Rattle.json_grammar.specs.Tree.{Tree, null, boolean, num, text, list, pairs, Trees, no_trees, tree_and, Pairs, no_pairs, pair_and}
use Rattle.json_number.specs.Integers.{integer_in}
use Rattle.json_doc.specs.Texts.{trees_count, pairs_count}
use Rattle.json_doc.specs.Segment.{SegmentAt, text_cell, number_cell, node, trees_row, pairs_row}
use Rattle.json_doc.specs.Spells.{spells_text, spells_number, spells, spells_trees, spells_pairs}
use Rattle.json_doc.specs.declared.cell.Cell.{Cell}
use Rattle.json_doc.specs.declared.cell.Cell.TheVariants as cell

pub get_after : {X : Type 0} (a : List X) (x : X) (b : List X) (n : ℕ) → length a ≡ n → slice_get (a ++ x ∷ b) n ≡ Some x
get_after [] x b zero e = refl
get_after [] x b (suc n) e = absurd (omega arith)
get_after (y ∷ a) x b zero e = absurd (omega arith)
get_after (y ∷ a) x b (suc n) e = get_after a x b n (omega arith)

pub is_there_first : {X : Type 0} (xs : List X) (at : ℕ) (y : X) (ys : List X) → SegmentAt xs at (y ∷ ys) → slice_get xs at ≡ Some y
is_there_first xs at y ys s = ap (λ zs. slice_get zs at) s.row ∙ get_after s.before y (ys ++ s.after) at s.place

pub is_there_rest : {X : Type 0} (xs : List X) (at : ℕ) (y : X) (ys : List X) → SegmentAt xs at (y ∷ ys) → SegmentAt xs (at + 1) ys
is_there_rest xs at y ys s = record {
  before = s.before ++ y ∷ [];
  after = s.after;
  row = s.row ∙ sym (append_assoc s.before (y ∷ []) (ys ++ s.after));
  place = length_push s.before y ∙ ap (λ (n : ℕ). n + 1) s.place;
}

pub is_there_left : {X : Type 0} (xs : List X) (at : ℕ) (ys zs : List X) → SegmentAt xs at (ys ++ zs) → SegmentAt xs at ys
is_there_left xs at ys zs s = record {
  before = s.before;
  after = zs ++ s.after;
  row = s.row ∙ ap (λ x. s.before ++ x) (append_assoc ys zs s.after);
  place = s.place;
}

pub is_there_right : {X : Type 0} (xs : List X) (at : ℕ) (ys zs : List X) → SegmentAt xs at (ys ++ zs) → SegmentAt xs (at + length ys) zs
is_there_right xs at ys zs s = record {
  before = s.before ++ ys;
  after = s.after;
  row = s.row ∙ ap (λ x. s.before ++ x) (append_assoc ys zs s.after) ∙ sym (append_assoc s.before ys (zs ++ s.after));
  place = length-append s.before ys ∙ ap (λ (n : ℕ). n + length ys) s.place;
}

pub is_there_range : {X : Type 0} (xs : List X) (at n : ℕ) (ys : List X) → length ys ≡ n → SegmentAt xs at ys → slice_range xs at (at + n) ≡ ys
is_there_range xs at n ys e s =
    let d : drop at xs ≡ ys ++ s.after = ap (drop at) s.row ∙ drop_at s.before (ys ++ s.after) at s.place in
    let k : (at + n) - at ≡ n = omega arith in
    rw (k, d) (take_at ys s.after n e)

pub text_spells : (cells : List Cell) (bytes : List ℕ) (c : Cell) (at : ℕ) (s : List ℕ) → text_cell bytes c s → slice_get cells at ≡ Some c → spells_text cells bytes at s
text_spells cells bytes c at s (start, e, h) g = (start, g ∙ ap Some e, is_there_range bytes start (length s) s refl h.0)

number_spells : (o : Option ℤ) (cells : List Cell) (bytes : List ℕ) (c : Cell) (at : ℕ) (l : List ℕ) → number_cell o bytes c l → slice_get cells at ≡ Some c → spells_number o cells bytes at l
number_spells (Some n) cells bytes c at l (e, t) g = (g ∙ ap Some e, t)
number_spells None cells bytes c at l (start, e, s) g = (start, g ∙ ap Some e, is_there_range bytes start (length l) l refl s.0)

module _ (cells : List Cell) (bytes : List ℕ) where
  alone : (at : ℕ) (cs : List Cell) (c : Cell) → cs ≡ c ∷ [] → SegmentAt cells at cs → slice_get cells at ≡ Some c
  alone at cs c e s = is_there_first cells at c [] (subst (λ (x : List Cell). SegmentAt cells at x) e s)

  one : (at : ℕ) (cs : List Cell) (c : Cell) → cs ≡ c ∷ [] → at + length cs ≡ at + 1
  one at cs c e = ap (λ (x : List Cell). at + length x) e

  mutual
    pub node_spells : (at : ℕ) (cs : List Cell) (t : Tree) → node bytes at cs t → SegmentAt cells at cs → spells cells bytes at t (at + length cs)
    node_spells at cs null e s = (alone at cs cell.Null e s, one at cs cell.Null e)
    node_spells at cs (boolean b) e s = (alone at cs (cell.Bool b) e s, one at cs (cell.Bool b) e)
    node_spells at cs (num l) (is, c, e, h) s = (number_spells (integer_in l) cells bytes c at l h (alone at cs c e s), one at cs c e)
    node_spells at cs (text w) (c, e, h) s = (text_spells cells bytes c at w h (alone at cs c e s), one at cs c e)
    node_spells at cs (list ts) (rest, e, r) s =
        let header = cell.Array ((at + 1) + length rest) (trees_count ts) in
        let there = subst (λ (x : List Cell). SegmentAt cells at x) e s in
        let end : (at + 1) + length rest ≡ at + length cs = omega (arith, ap length e) in (
          is_there_first cells at header rest there ∙ ap (λ (n : ℕ). Some (cell.Array n (trees_count ts))) end,
          subst (λ (n : ℕ). spells_trees cells bytes (at + 1) ts n) end (row_spells (at + 1) rest ts r (is_there_rest cells at header rest there)),
        )
    node_spells at cs (pairs ps) (rest, e, r) s =
        let header = cell.Object ((at + 1) + length rest) (pairs_count ps) in
        let there = subst (λ (x : List Cell). SegmentAt cells at x) e s in
        let end : (at + 1) + length rest ≡ at + length cs = omega (arith, ap length e) in (
          is_there_first cells at header rest there ∙ ap (λ (n : ℕ). Some (cell.Object n (pairs_count ps))) end,
          subst (λ (n : ℕ). spells_pairs cells bytes (at + 1) ps n) end (pair_row_spells (at + 1) rest ps r (is_there_rest cells at header rest there)),
        )

    row_spells : (at : ℕ) (cs : List Cell) (ts : Trees) → trees_row bytes at cs ts → SegmentAt cells at cs → spells_trees cells bytes at ts (at + length cs)
    row_spells at cs no_trees e s = omega (arith, ap length e)
    row_spells at cs (tree_and t ts) (a, b, e, n, r) s =
        let there = subst (λ (x : List Cell). SegmentAt cells at x) e s in
        let end : (at + length a) + length b ≡ at + length cs = omega (arith, ap length e, length-append a b) in
        (at + length a, node_spells at a t n (is_there_left cells at a b there), subst (λ (n : ℕ). spells_trees cells bytes (at + length a) ts n) end (row_spells (at + length a) b ts r (is_there_right cells at a b there)))

    pair_row_spells : (at : ℕ) (cs : List Cell) (ps : Pairs) → pairs_row bytes at cs ps → SegmentAt cells at cs → spells_pairs cells bytes at ps (at + length cs)
    pair_row_spells at cs no_pairs e s = omega (arith, ap length e)
    pair_row_spells at cs (pair_and k t ps) (key, a, b, e, f, n, r) s =
        let there = subst (λ (x : List Cell). SegmentAt cells at x) e s in
        let behind = is_there_rest cells at key (a ++ b) there in
        let end : ((at + 1) + length a) + length b ≡ at + length cs = omega (arith, ap length e, length-append a b) in (
          (at + 1) + length a,
          text_spells cells bytes key at k f (is_there_first cells at key (a ++ b) there),
          node_spells (at + 1) a t n (is_there_left cells (at + 1) a b behind),
          subst (λ (n : ℕ). spells_pairs cells bytes ((at + 1) + length a) ps n) end (pair_row_spells ((at + 1) + length a) b ps r (is_there_right cells (at + 1) a b behind)),
        )
