-- Rows of cells: one tree more at the end, and more bytes after them.
use Rattle.std.proofs.Common.{◌≡◌, ℕ, ℤ, Option, Some, None, ◌+◌, ◌*◌, ◌≤◌, List, [], ◌∷◌, ◌++◌, length, refl, sym, ap, subst, ◌∙◌, append_assoc, append-nil, arith, length-append}
use Rattle.std.specs.Str.{IsUtf8}
use Rattle.std.proofs.lemmas.Str.{IsUtf8-append}
use Rattle.json_grammar.specs.Tree.{Tree, null, boolean, num, text, list, pairs, Trees, no_trees, tree_and, Pairs, no_pairs, pair_and, Token, key_token, tokens, trees_tokens, pairs_tokens}
use Rattle.json_number.specs.Integers.{integer_in}
use Rattle.json_doc.specs.Texts.{trees_count, pairs_count}
use Rattle.json_doc.specs.Segment.{SegmentAt, TextAt, text_cell, number_cell, node, trees_row, pairs_row}
use Rattle.json_doc.specs.declared.cell.Cell.{Cell}

pub trees_push : Trees → Tree → Trees
trees_push no_trees u = tree_and u no_trees
trees_push (tree_and t ts) u = tree_and t (trees_push ts u)

pub pairs_push : Pairs → List ℕ → Tree → Pairs
pairs_push no_pairs n u = pair_and n u no_pairs
pairs_push (pair_and k t ps) n u = pair_and k t (pairs_push ps n u)

pub trees_push_tokens : (ts : Trees) (u : Tree) → trees_tokens (trees_push ts u) ≡ trees_tokens ts ++ tokens u
unfolding trees_push
trees_push_tokens no_trees u = append-nil (tokens u)
trees_push_tokens (tree_and t ts) u = ap (λ (x : List Token). tokens t ++ x) (trees_push_tokens ts u) ∙ sym (append_assoc (tokens t) (trees_tokens ts) (tokens u))

pub pairs_push_tokens : (ps : Pairs) (n : List ℕ) (u : Tree) → pairs_tokens (pairs_push ps n u) ≡ (pairs_tokens ps ++ key_token n ∷ []) ++ tokens u
unfolding pairs_push
pairs_push_tokens no_pairs n u = ap (λ (x : List Token). key_token n ∷ x) (append-nil (tokens u))
pairs_push_tokens (pair_and k t ps) n u =
    ap (λ (x : List Token). key_token k ∷ (tokens t ++ x)) (pairs_push_tokens ps n u) ∙ ap (λ (x : List Token). key_token k ∷ x) (simp append_assoc)

pub trees_push_count : (ts : Trees) (u : Tree) → trees_count (trees_push ts u) ≡ trees_count ts + 1
unfolding trees_push
trees_push_count no_trees u = refl
trees_push_count (tree_and t ts) u = let e = trees_push_count ts u in omega arith

pub pairs_push_count : (ps : Pairs) (n : List ℕ) (u : Tree) → pairs_count (pairs_push ps n u) ≡ pairs_count ps + 1
unfolding pairs_push
pairs_push_count no_pairs n u = refl
pairs_push_count (pair_and k t ps) n u = let e = pairs_push_count ps n u in omega arith

pub row_push : (bytes : List ℕ) (at : ℕ) (cs seg : List Cell) (us : Trees) (t : Tree) → trees_row bytes at cs us → node bytes (at + length cs) seg t → trees_row bytes at (cs ++ seg) (trees_push us t)
unfolding trees_push
row_push bytes at cs seg no_trees t e n =
    let here : at + length cs ≡ at = omega (arith, ap length e) in
    (seg, [], ap (λ (x : List Cell). x ++ seg) e ∙ sym (append-nil seg), subst (λ (x : ℕ). node bytes x seg t) here n, refl)
row_push bytes at cs seg (tree_and u us) t (a, b, e, h, r) n =
    let there : at + length cs ≡ (at + length a) + length b = omega (arith, ap length e, length-append a b) in
    (a, b ++ seg, ap (λ (x : List Cell). x ++ seg) e ∙ append_assoc a b seg, h, row_push bytes (at + length a) b seg us t r (subst (λ (x : ℕ). node bytes x seg t) there n))

pub pair_row_push : (bytes : List ℕ) (at : ℕ) (cs seg : List Cell) (us : Pairs) (key : Cell) (n : List ℕ) (t : Tree)
    → pairs_row bytes at cs us → text_cell bytes key n → node bytes ((at + length cs) + 1) seg t → pairs_row bytes at ((cs ++ key ∷ []) ++ seg) (pairs_push us n t)
unfolding pairs_push
pair_row_push bytes at cs seg no_pairs key n t e k h =
    let here : (at + length cs) + 1 ≡ at + 1 = omega (arith, ap length e) in
    (key, seg, [], ap (λ (x : List Cell). (x ++ key ∷ []) ++ seg) e ∙ ap (λ (x : List Cell). key ∷ x) (sym (append-nil seg)), k, subst (λ (x : ℕ). node bytes x seg t) here h, refl)
pair_row_push bytes at cs seg (pair_and k' u us) key n t (first, a, b, e, f, here, r) k h =
    let there : (at + length cs) + 1 ≡ (((at + 1) + length a) + length b) + 1 = omega (arith, ap length e, length-append a b) in
    let row_so : (cs ++ key ∷ []) ++ seg ≡ first ∷ (a ++ ((b ++ key ∷ []) ++ seg)) = ap (λ (x : List Cell). (x ++ key ∷ []) ++ seg) e ∙ ap (λ (x : List Cell). first ∷ x) (simp append_assoc) in
    (first, a, (b ++ key ∷ []) ++ seg, row_so, f, here, pair_row_push bytes ((at + 1) + length a) b seg us key n t r k (subst (λ (x : ℕ). node bytes x seg t) there h))

-- each tree takes a cell at least
mutual
  pub node_some : (bytes : List ℕ) (at : ℕ) (cs : List Cell) (t : Tree) → node bytes at cs t → 1 ≤ length cs
  node_some bytes at cs null e = omega (arith, ap length e)
  node_some bytes at cs (boolean b) e = omega (arith, ap length e)
  node_some bytes at cs (num l) (is, c, e, h) = omega (arith, ap length e)
  node_some bytes at cs (text s) (c, e, h) = omega (arith, ap length e)
  node_some bytes at cs (list ts) (rest, e, r) = omega (arith, ap length e)
  node_some bytes at cs (pairs ps) (rest, e, r) = omega (arith, ap length e)

  pub row_some : (bytes : List ℕ) (at : ℕ) (cs : List Cell) (ts : Trees) → trees_row bytes at cs ts → trees_count ts ≤ length cs
  row_some bytes at cs no_trees e = omega arith
  row_some bytes at cs (tree_and t ts) (a, b, e, n, r) = omega (arith, ap length e, length-append a b, node_some bytes at a t n, row_some bytes (at + length a) b ts r)

  pub pair_row_some : (bytes : List ℕ) (at : ℕ) (cs : List Cell) (ps : Pairs) → pairs_row bytes at cs ps → 2 * pairs_count ps ≤ length cs
  pair_row_some bytes at cs no_pairs e = omega arith
  pair_row_some bytes at cs (pair_and k t ps) (key, a, b, e, f, n, r) = omega (arith, ap length e, length-append a b, node_some bytes (at + 1) a t n, pair_row_some bytes ((at + 1) + length a) b ps r)

-- ---- more bytes after them

pub is_there_more : {X : Type 0} (xs : List X) (at : ℕ) (ys more : List X) → SegmentAt xs at ys → SegmentAt (xs ++ more) at ys
is_there_more xs at ys more s = record {
  before = s.before;
  after = s.after ++ more;
  row = ap (λ zs. zs ++ more) s.row ∙ simp append_assoc;
  place = s.place;
}

text_is_there_more : (bytes : List ℕ) (at : ℕ) (s more : List ℕ) → IsUtf8 more → TextAt bytes at s → TextAt (bytes ++ more) at s
unfolding is_there_more
text_is_there_more bytes at s more u (h, v, w) = (is_there_more bytes at s more h, v, IsUtf8-append h.after more w u)

pub text_more : (bytes : List ℕ) (c : Cell) (s more : List ℕ) → IsUtf8 more → text_cell bytes c s → text_cell (bytes ++ more) c s
text_more bytes c s more u (start, e, h) = (start, e, text_is_there_more bytes start s more u h)

number_more : (o : Option ℤ) (bytes : List ℕ) (c : Cell) (l more : List ℕ) → IsUtf8 more → number_cell o bytes c l → number_cell o (bytes ++ more) c l
number_more (Some z) bytes c l more u h = h
number_more None bytes c l more u (start, e, h) = (start, e, text_is_there_more bytes start l more u h)

module _ (bytes extra : List ℕ) (u : IsUtf8 extra) where
  mutual
    pub node_more : (at : ℕ) (cs : List Cell) (t : Tree) → node bytes at cs t → node (bytes ++ extra) at cs t
    node_more at cs null h = h
    node_more at cs (boolean b) h = h
    node_more at cs (num l) (is, c, e, h) = (is, c, e, number_more (integer_in l) bytes c l extra u h)
    node_more at cs (text s) (c, e, h) = (c, e, text_more bytes c s extra u h)
    node_more at cs (list ts) (rest, e, h) = (rest, e, row_more (at + 1) rest ts h)
    node_more at cs (pairs ps) (rest, e, h) = (rest, e, pair_row_more (at + 1) rest ps h)

    pub row_more : (at : ℕ) (cs : List Cell) (ts : Trees) → trees_row bytes at cs ts → trees_row (bytes ++ extra) at cs ts
    row_more at cs no_trees h = h
    row_more at cs (tree_and t ts) (a, b, e, h, hs) = (a, b, e, node_more at a t h, row_more (at + length a) b ts hs)

    pub pair_row_more : (at : ℕ) (cs : List Cell) (ps : Pairs) → pairs_row bytes at cs ps → pairs_row (bytes ++ extra) at cs ps
    pair_row_more at cs no_pairs h = h
    pair_row_more at cs (pair_and k t ps) (key, a, b, e, kh, h, hs) = (key, a, b, e, text_more bytes key k extra u kh, node_more (at + 1) a t h, pair_row_more ((at + 1) + length a) b ps hs)
