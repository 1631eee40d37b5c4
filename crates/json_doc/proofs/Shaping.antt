-- Each cell of a finished tree is in its place.
use Rattle.std.proofs.Common.{◌≡◌, true, false, ℕ, ℤ, pos, negsuc, zero, suc, ◌+◌, ◌-◌, ◌<◌, ◌≤◌, List, [], ◌∷◌, ◌++◌, length, Option, Some, None, refl, sym, ap, subst, ◌∙◌, arith, length-append, append_assoc, append-nil}
use Rattle.std.specs.Prelude.{slice_get, slice_range, slice_index_or}
use Rattle.std.specs.Str.{IsUtf8, IsCharBoundary}
use Rattle.std.specs.Fmt.{signed_decimal}
use Rattle.std.proofs.lemmas.Str.{IsCharBoundary-start, IsCharBoundary-at_seam, IsUtf8-append}
use Rattle.std.proofs.lemmas.Grind.{merely}
use Rattle.std.proofs.lemmas.Option.{get_or_from_slice_get}
use Rattle.std.proofs.lemmas.Bool.{cases_lt}
use Rattle.std.proofs.Math.Logic.{⊎_elim}
use Rattle.json_grammar.specs.Grammar.{number}
use Rattle.json_grammar.specs.Tree.{Tree, null, boolean, num, text, list, pairs, Trees, no_trees, tree_and, Pairs, no_pairs, pair_and}
use Rattle.json_number.specs.Integers.{integer_in}
use Rattle.json_doc.specs.ByValue.{value_of_cell}
use Rattle.json_doc.specs.CellReadings.{cell_len}
use Rattle.json_doc.specs.Texts.{trees_count, pairs_count}
use Rattle.json_doc.specs.Places.{after_subtree, place_after, place_from}
use Rattle.json_doc.specs.Segment.{SegmentAt, TextAt, text_cell, number_cell, node, trees_row, pairs_row}
use Rattle.json_doc.specs.Shape.{first_byte, span_of, keys_of, is_str, is_raw, CellInPlace, CellsInPlace}
use Rattle.json_doc.specs.declared.cell.Cell.{Cell}
use Rattle.json_doc.specs.declared.cell.Cell.TheVariants as cell
use Rattle.json_doc.proofs.Segments.{node_some}
use Rattle.json_doc.proofs.Spelling.{is_there_first, is_there_rest, is_there_left, is_there_right, is_there_range}

text_begins : (bytes : List ℕ) (at : ℕ) (s : List ℕ) → TextAt bytes at s → IsCharBoundary bytes at
text_begins bytes at s (h, u, v) = subst (λ (n : ℕ). IsCharBoundary bytes n) h.place (IsCharBoundary-at_seam bytes h.before (s ++ h.after) h.row (IsUtf8-append s h.after u v))

text_ends : (bytes : List ℕ) (at : ℕ) (s : List ℕ) → TextAt bytes at s → IsCharBoundary bytes (at + length s)
text_ends bytes at s (h, u, v) =
    subst (λ (n : ℕ). IsCharBoundary bytes n) (length-append h.before s ∙ ap (λ (n : ℕ). n + length s) h.place)
    (IsCharBoundary-at_seam bytes (h.before ++ s) h.after (h.row ∙ sym (append_assoc h.before s h.after)) v)

-- an integer by value is the one that its decimal text represents
abbrev pub Valued : Cell → Type 0
Valued c = (n : ℤ) → value_of_cell c ≡ Some n → integer_in (signed_decimal n) ≡ Some n

no_value : (c : Cell) → value_of_cell c ≡ None → Valued c
no_value c e n h = absurd (cc)

one_value : (c : Cell) (l : List ℕ) (n : ℤ) → integer_in l ≡ Some n → l ≡ signed_decimal n → value_of_cell c ≡ Some n → Valued c
one_value c l n e t is m h = let same : n ≡ m = cc in subst (λ (z : ℤ). integer_in (signed_decimal z) ≡ Some z) same (ap integer_in (sym t) ∙ e)

-- a part of a list is within it
pub is_there_within : {X : Type 0} (xs : List X) (at : ℕ) (ys : List X) → SegmentAt xs at ys → at + length ys ≤ length xs
is_there_within xs at ys s = omega (arith, ap length s.row, length-append s.before (ys ++ s.after), length-append ys s.after, s.place)

module _ (cells : List Cell) (bytes : List ℕ) where
  -- the place after a tree
  behind_cell : (at : ℕ) (c : Cell) (rest cs : List Cell) → cs ≡ c ∷ rest → SegmentAt cells at cs → place_after cells at ≡ after_subtree at c
  behind_cell at c rest cs e s = ap (after_subtree at) (get_or_from_slice_get cells at c cell.Null (is_there_first cells at c rest (subst (λ (x : List Cell). SegmentAt cells at x) e s)))

  one_behind : (at : ℕ) (c : Cell) (cs : List Cell) → cs ≡ c ∷ [] → after_subtree at c ≡ at + 1 → SegmentAt cells at cs → place_after cells at ≡ at + length cs
  one_behind at c cs e f s = behind_cell at c [] cs e s ∙ f ∙ ap (λ (x : List Cell). at + length x) (sym e)

  number_behind : (o : Option ℤ) (at : ℕ) (c : Cell) (l : List ℕ) → number_cell o bytes c l → after_subtree at c ≡ at + 1
  number_behind (Some (pos n)) at c l (e, t) = ap (after_subtree at) e
  number_behind (Some (negsuc n)) at c l (e, t) = ap (after_subtree at) e
  number_behind None at c l (start, e, h) = ap (after_subtree at) e

  pub node_behind : (at : ℕ) (cs : List Cell) (t : Tree) → node bytes at cs t → SegmentAt cells at cs → place_after cells at ≡ at + length cs
  node_behind at cs null e s = one_behind at cell.Null cs e refl s
  node_behind at cs (boolean b) e s = one_behind at (cell.Bool b) cs e refl s
  node_behind at cs (num l) (is, c, e, h) s = one_behind at c cs e (number_behind (integer_in l) at c l h) s
  node_behind at cs (text w) (c, e, (start, f, h)) s = one_behind at c cs e (ap (after_subtree at) f) s
  node_behind at cs (list ts) (rest, e, r) s = behind_cell at _ rest cs e s ∙ omega (arith, ap length e)
  node_behind at cs (pairs ps) (rest, e, r) s = behind_cell at _ rest cs e s ∙ omega (arith, ap length e)

  -- each element is within
  row_inside : (at : ℕ) (cs : List Cell) (ts : Trees) → trees_row bytes at cs ts → SegmentAt cells at cs → (i : ℕ) → i < trees_count ts → place_from cells 0 at i < at + length cs
  row_inside at cs no_trees r s i h = absurd (omega arith)
  row_inside at cs (tree_and t ts) (a, b, e, n, r) s zero h = omega (arith, ap length e, length-append a b, node_some bytes at a t n)
  row_inside at cs (tree_and t ts) (a, b, e, n, r) s (suc i) h =
      let there = subst (λ (x : List Cell). SegmentAt cells at x) e s in
      let next : place_after cells at + 0 ≡ at + length a = omega (arith, node_behind at a t n (is_there_left cells at a b there)) in
      let more = row_inside (at + length a) b ts r (is_there_right cells at a b there) i (omega arith) in
      let moved : place_from cells 0 (place_after cells at + 0) i < (at + length a) + length b = subst (λ (k : ℕ). place_from cells 0 k i < (at + length a) + length b) (sym next) more in
      omega (arith, moved, ap length e, length-append a b)

  -- each value is within, and the cell before it is that of its key
  record Paired (at i end : ℕ) : Type 0 where
    inside : place_from cells 1 at i < end
    keyed : is_str (slice_index_or cells (place_from cells 1 at i - 1) cell.Null) ≡ true

  pair_row_inside : (at : ℕ) (cs : List Cell) (ps : Pairs) → pairs_row bytes at cs ps → SegmentAt cells at cs → (i : ℕ) → i < pairs_count ps → Paired (at + 1) i (at + length cs)
  pair_row_inside at cs no_pairs r s i h = absurd (omega arith)
  pair_row_inside at cs (pair_and k t ps) (key, a, b, e, (start, f, u), n, r) s zero h =
      let there = subst (λ (x : List Cell). SegmentAt cells at x) e s in
      let before : (at + 1) - 1 ≡ at = omega arith in
      record {
        inside = omega (arith, ap length e, length-append a b, node_some bytes (at + 1) a t n);
        keyed = rw before (ap is_str (get_or_from_slice_get cells at key cell.Null (is_there_first cells at key (a ++ b) there) ∙ f));
      }
  pair_row_inside at cs (pair_and k t ps) (key, a, b, e, first, n, r) s (suc i) h =
      let there = is_there_rest cells at key (a ++ b) (subst (λ (x : List Cell). SegmentAt cells at x) e s) in
      let next : place_after cells (at + 1) + 1 ≡ ((at + 1) + length a) + 1 = ap (λ (k : ℕ). k + 1) (node_behind (at + 1) a t n (is_there_left cells (at + 1) a b there)) in
      let more = pair_row_inside ((at + 1) + length a) b ps r (is_there_right cells (at + 1) a b there) i (omega arith) in
      let end : ((at + 1) + length a) + length b ≡ at + length cs = omega (arith, ap length e, length-append a b) in
      subst (λ (k : ℕ). Paired (at + 1) (suc i) k) end (shifted next more)
    where
      shifted : {from to j m : ℕ} → place_after cells from + 1 ≡ to → Paired to j m → Paired from (suc j) m
      shifted {j = j} {m = m} e p = record {
        inside = subst (λ (k : ℕ). place_from cells 1 k j < m) (sym e) p.inside;
        keyed = subst (λ (k : ℕ). is_str (slice_index_or cells (place_from cells 1 k j - 1) cell.Null) ≡ true) (sym e) p.keyed;
      }

pub itself : {X : Type 0} (xs : List X) → SegmentAt xs 0 xs
itself xs = record {
  before = [];
  after = [];
  row = sym (append-nil xs);
  place = refl;
}

module _ (cells : List Cell) (bytes : List ℕ) (whole : IsUtf8 bytes) where
  -- a cell without children
  bare : (at : ℕ) (c d : Cell) → c ≡ d → IsCharBoundary bytes (first_byte d) → IsCharBoundary bytes (first_byte d + span_of d) → after_subtree at d ≡ at + 1 → cell_len d ≡ 0 → keys_of d ≡ 0
      → (is_raw d ≡ true → ∥ number (slice_range bytes (first_byte d) (first_byte d + span_of d)) ∥₁) → (is_raw d ≡ true → integer_in (slice_range bytes (first_byte d) (first_byte d + span_of d)) ≡ None) → Valued d
      → CellInPlace cells bytes at c
  bare at c d e p q on n m numeric raw valued =
      subst (λ (x : Cell). CellInPlace cells bytes at x) (sym e)
      (record {
        begins = p;
        ends = q;
        ahead = omega arith;
        inside = λ i h. absurd (omega arith);
        keyed = λ i h. absurd (omega arith);
        numeric = numeric;
        raw = raw;
        valued = valued;
      })

  plain : (at : ℕ) (c d : Cell) → c ≡ d → first_byte d ≡ 0 → span_of d ≡ 0 → after_subtree at d ≡ at + 1 → cell_len d ≡ 0 → keys_of d ≡ 0 → is_raw d ≡ false → Valued d → CellInPlace cells bytes at c
  plain at c d e p q on n m other valued =
      let start = IsCharBoundary-start bytes whole in
      let both : 0 ≡ first_byte d + span_of d = omega arith in
      bare at c d e (subst (λ (k : ℕ). IsCharBoundary bytes k) (sym p) start) (subst (λ (k : ℕ). IsCharBoundary bytes k) both start) on n m (λ h. absurd (cc)) (λ h. absurd (cc)) valued

  text_in_place : (at : ℕ) (c : Cell) (s : List ℕ) → text_cell bytes c s → CellInPlace cells bytes at c
  text_in_place at c s (start, e, h) =
      bare at c (cell.Str start (length s)) e (text_begins bytes start s h) (text_ends bytes start s h) refl refl refl (λ h. absurd (cc)) (λ h. absurd (cc)) (no_value (cell.Str start (length s)) refl)

  number_in_place : (at : ℕ) (c : Cell) (l : List ℕ) (o : Option ℤ) → integer_in l ≡ o → number l → number_cell o bytes c l → CellInPlace cells bytes at c
  number_in_place at c l (Some (pos n)) i is (e, t) = plain at c (cell.Unsigned n) e refl refl refl refl refl refl (one_value (cell.Unsigned n) l (pos n) i t refl)
  number_in_place at c l (Some (negsuc n)) i is (e, t) = plain at c (cell.Negative (negsuc n)) e refl refl refl refl refl refl (one_value (cell.Negative (negsuc n)) l (negsuc n) i t refl)
  number_in_place at c l None i is (start, e, s) =
      let there = is_there_range bytes start (length l) l refl s.0 in
      bare at c (cell.Raw start (length l)) e (text_begins bytes start l s) (text_ends bytes start l s) refl refl refl
      (λ h. merely (subst number (sym there) is)) (λ h. ap integer_in there ∙ i) (no_value (cell.Raw start (length l)) refl)

  -- the cell at a place
  At : ℕ → Type 0
  At k = CellInPlace cells bytes k (slice_index_or cells k cell.Null)

  at_cell : (k at : ℕ) (c : Cell) → k ≡ at → slice_get cells at ≡ Some c → CellInPlace cells bytes at c → At k
  unfolding At
  at_cell k at c e g h =
      subst (λ (x : ℕ). CellInPlace cells bytes x (slice_index_or cells x cell.Null)) (sym e) (subst (λ (x : Cell). CellInPlace cells bytes at x) (sym (get_or_from_slice_get cells at c cell.Null g)) h)

  -- a tree of one cell
  alone : (at : ℕ) (cs : List Cell) (c : Cell) → cs ≡ c ∷ [] → SegmentAt cells at cs → CellInPlace cells bytes at c → (k : ℕ) → at ≤ k → k < at + length cs → At k
  alone at cs c e s h k p q =
      let one : length cs ≡ 1 = ap length e in
      at_cell k at c (omega arith) (is_there_first cells at c [] (subst (λ (x : List Cell). SegmentAt cells at x) e s)) h

  -- a container's own cell, before all that is below it
  headed : (at : ℕ) (cs rest : List Cell) (c : Cell) → cs ≡ c ∷ rest → SegmentAt cells at cs → CellInPlace cells bytes at c
      → ((k : ℕ) → at + 1 ≤ k → k < (at + 1) + length rest → At k) → (k : ℕ) → at ≤ k → k < at + length cs → At k
  headed at cs rest c e s h below k p q =
      let count : length cs ≡ suc (length rest) = ap length e in
      ⊎_elim (λ l. at_cell k at c (omega arith) (is_there_first cells at c rest (subst (λ (x : List Cell). SegmentAt cells at x) e s)) h) (λ l. below k l (omega arith)) (cases_lt k (at + 1))

  mutual
    node_in_place : (at : ℕ) (cs : List Cell) (t : Tree) → node bytes at cs t → SegmentAt cells at cs → (k : ℕ) → at ≤ k → k < at + length cs → At k
    node_in_place at cs null e s = alone at cs cell.Null e s (plain at cell.Null cell.Null refl refl refl refl refl refl refl (no_value cell.Null refl))
    node_in_place at cs (boolean b) e s = alone at cs (cell.Bool b) e s (plain at (cell.Bool b) (cell.Bool b) refl refl refl refl refl refl refl (no_value (cell.Bool b) refl))
    node_in_place at cs (num l) (is, c, e, h) s = alone at cs c e s (number_in_place at c l (integer_in l) refl is h)
    node_in_place at cs (text w) (c, e, h) s = alone at cs c e s (text_in_place at c w h)
    node_in_place at cs (list ts) (rest, e, r) s =
        let start = IsCharBoundary-start bytes whole in
        let c = cell.Array ((at + 1) + length rest) (trees_count ts) in
        let behind_it = is_there_rest cells at c rest (subst (λ (x : List Cell). SegmentAt cells at x) e s) in
        let within = is_there_within cells (at + 1) rest behind_it in
        let here : CellInPlace cells bytes at c =
        record {
          begins = start;
          ends = start;
          ahead = omega arith;
          inside = λ i q. omega (arith, row_inside cells bytes (at + 1) rest ts r behind_it i q, within);
          keyed = λ i q. absurd (omega arith);
          numeric = λ q. absurd (cc);
          raw = λ q. absurd (cc);
          valued = no_value c refl;
        } in
        headed at cs rest c e s here (row_in_place (at + 1) rest ts r behind_it)
    node_in_place at cs (pairs ps) (rest, e, r) s =
        let start = IsCharBoundary-start bytes whole in
        let c = cell.Object ((at + 1) + length rest) (pairs_count ps) in
        let behind_it = is_there_rest cells at c rest (subst (λ (x : List Cell). SegmentAt cells at x) e s) in
        let within = is_there_within cells (at + 1) rest behind_it in
        let first : (at + 1) + 1 ≡ at + 2 = omega arith in
        let each = λ (i : ℕ) (q : i < pairs_count ps). subst (λ (k : ℕ). Paired cells bytes k i ((at + 1) + length rest)) first (pair_row_inside cells bytes (at + 1) rest ps r behind_it i q) in
        let here : CellInPlace cells bytes at c =
        record {
          begins = start;
          ends = start;
          ahead = omega arith;
          inside = λ i q. omega (arith, (each i q).inside, within);
          keyed = λ i q. (each i q).keyed;
          numeric = λ q. absurd (cc);
          raw = λ q. absurd (cc);
          valued = no_value c refl;
        } in
        headed at cs rest c e s here (pair_row_in_place (at + 1) rest ps r behind_it)

    row_in_place : (at : ℕ) (cs : List Cell) (ts : Trees) → trees_row bytes at cs ts → SegmentAt cells at cs → (k : ℕ) → at ≤ k → k < at + length cs → At k
    row_in_place at cs no_trees e s k p q = absurd (omega (arith, ap length e))
    row_in_place at cs (tree_and t ts) (a, b, e, n, r) s k p q =
        let there = subst (λ (x : List Cell). SegmentAt cells at x) e s in
        let count : length cs ≡ length a + length b = ap length e ∙ length-append a b in
        ⊎_elim (λ l. node_in_place at a t n (is_there_left cells at a b there) k p l) (λ l. row_in_place (at + length a) b ts r (is_there_right cells at a b there) k l (omega arith)) (cases_lt k (at + length a))

    pair_row_in_place : (at : ℕ) (cs : List Cell) (ps : Pairs) → pairs_row bytes at cs ps → SegmentAt cells at cs → (k : ℕ) → at ≤ k → k < at + length cs → At k
    pair_row_in_place at cs no_pairs e s k p q = absurd (omega (arith, ap length e))
    pair_row_in_place at cs (pair_and n t ps) (key, a, b, e, f, h, r) s k p q =
        let there = subst (λ (x : List Cell). SegmentAt cells at x) e s in
        let behind_key = is_there_rest cells at key (a ++ b) there in
        let count : length cs ≡ suc (length a + length b) = ap length e ∙ ap suc (length-append a b) in
        ⊎_elim (λ l. at_cell k at key (omega arith) (is_there_first cells at key (a ++ b) there) (text_in_place at key n f))
        (λ m. ⊎_elim (λ l. node_in_place (at + 1) a t h (is_there_left cells (at + 1) a b behind_key) k m l) (λ l. pair_row_in_place ((at + 1) + length a) b ps r (is_there_right cells (at + 1) a b behind_key) k l (omega arith)) (cases_lt k ((at + 1) + length a)))
        (cases_lt k (at + 1))

  -- each cell of a finished tree
  pub all_in_place : (t : Tree) → node bytes 0 cells t → CellsInPlace cells bytes
  unfolding At
  all_in_place t n k h = node_in_place 0 cells t n (itself cells) k (omega arith) (omega arith)
