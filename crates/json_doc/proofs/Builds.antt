-- Each event takes a builder one token further.
use Rattle.std.proofs.Common.{◌≡◌, ℕ, ◌+◌, ◌*◌, ◌/◌, ◌≤◌, List, [], ◌∷◌, ◌++◌, length, refl, sym, ap, subst, ◌∙◌, append_assoc, arith, length-append}
use Rattle.std.specs.Prelude.{slice_set}
use Rattle.std.specs.Str.{IsUtf8}
use Rattle.std.proofs.lemmas.List.{set_at}
use Rattle.json_grammar.specs.declared.Kind.TheVariants.{Array as array, Object as object}
use Rattle.json_grammar.specs.Tree.{Tree, list, pairs, no_trees, no_pairs, Token, begin, end, key_token, tokens, trees_tokens, pairs_tokens}
use Rattle.json_grammar.specs.TokenStates.{TokenState, state_after_value, after_token, ValueMayCome, NameMayCome, EndMayCome}
use Rattle.json_doc.specs.CellReadings.{cell_len}
use Rattle.json_doc.specs.OpenCells.{link_of}
use Rattle.json_doc.specs.Texts.{trees_count, pairs_count}
use Rattle.json_doc.specs.Segment.{text_cell, node}
use Rattle.json_doc.specs.Building.{BuilderState, nothing, whole, in_array, in_object, in_pair}
use Rattle.json_doc.specs.declared.cell.Cell.{Cell}
use Rattle.json_doc.specs.declared.cell.Cell.TheVariants as cell
use Rattle.json_doc.proofs.Segments.{trees_push, pairs_push, trees_push_tokens, pairs_push_tokens, trees_push_count, pairs_push_count, row_push, pair_row_push, row_some, pair_row_some, node_some, node_more, row_more, pair_row_more, text_more}

pub builds_more : {bytes : List ℕ} {front : List Cell} {p n : ℕ} {s : TokenState} {ts : List Token} (extra : List ℕ) → IsUtf8 extra → BuilderState bytes front p n s ts → BuilderState (bytes ++ extra) front p n s ts
builds_more extra u nothing = nothing
builds_more {bytes = bytes} extra u (whole {cs = cs} t h) = whole t (node_more bytes extra u 0 cs t h)
builds_more {bytes = bytes} extra u (in_array {front = front} cs us b v h) = in_array cs us (builds_more extra u b) v (row_more bytes extra u (length front + 1) cs us h)
builds_more {bytes = bytes} extra u (in_object {front = front} cs us b v h) = in_object cs us (builds_more extra u b) v (pair_row_more bytes extra u (length front + 1) cs us h)
builds_more {bytes = bytes} extra u (in_pair {front = front} {key = key} cs us k b v h n) = in_pair cs us k (builds_more extra u b) v (pair_row_more bytes extra u (length front + 1) cs us h) (text_more bytes key k extra u n)

-- no more children are counted than there are cells
pub count_within : {bytes : List ℕ} {front : List Cell} {p n : ℕ} {s : TokenState} {ts : List Token} → BuilderState bytes front p n s ts → n ≤ length front
count_within nothing = omega arith
count_within {bytes = bytes} (whole {cs = cs} t h) = node_some bytes 0 cs t h
count_within {bytes = bytes} (in_array {front = front} {p = p} {n = n} cs us b v h) = omega (arith, length-append front (cell.Array p n ∷ cs), row_some bytes (length front + 1) cs us h)
count_within {bytes = bytes} (in_object {front = front} {p = p} {n = n} cs us b v h) = omega (arith, length-append front (cell.Object p n ∷ cs), pair_row_some bytes (length front + 1) cs us h)
count_within {bytes = bytes} (in_pair {front = front} {p = p} {n = n} {key = key} cs us k b v h m) =
    omega (arith, length-append front (cell.Object p n ∷ (cs ++ key ∷ [])), length-append cs (key ∷ []), pair_row_some bytes (length front + 1) cs us h)

module _ (bytes : List ℕ) where
  built : (front front' : List Cell) (p n m : ℕ) (s : TokenState) (ts ts' : List Token) → BuilderState bytes front' p m s ts' → front' ≡ front → m ≡ n → ts' ≡ ts → BuilderState bytes front p n s ts
  built front front' p n m s ts ts' b e k g =
      subst (λ (x : List Cell). BuilderState bytes x p n s ts) e (subst (λ (x : ℕ). BuilderState bytes front' p x s ts) k (subst (λ (x : List Token). BuilderState bytes front' p m s x) g b))

  -- ---- a finished value

  pub builds_value : {front : List Cell} {p n : ℕ} {s : TokenState} {ts : List Token} (seg : List Cell) (t : Tree)
      → BuilderState bytes front p n s ts → ValueMayCome s.expected → node bytes (length front) seg t → BuilderState bytes (front ++ seg) p (n + 1) (state_after_value s) (ts ++ tokens t)
  builds_value seg t nothing v h = whole t h
  builds_value seg t (whole u k) v h = absurd v
  builds_value seg t (in_array {front = front} {p = p} {n = n} {ts = ts} cs us b o r) v h =
      let here : length (front ++ cell.Array p n ∷ cs) ≡ (length front + 1) + length cs = omega (arith, length-append front (cell.Array p n ∷ cs)) in
      built _ _ (length front) _ _ _ _ _ (in_array (cs ++ seg) (trees_push us t) b o (row_push bytes (length front + 1) cs seg us t r (subst (λ (x : ℕ). node bytes x seg t) here h)))
      (sym (append_assoc front (cell.Array p n ∷ cs) seg)) (trees_push_count us t)
      (ap (λ (x : List Token). ts ++ begin array ∷ x) (trees_push_tokens us t) ∙ sym (append_assoc ts (begin array ∷ trees_tokens us) (tokens t)))
  builds_value seg t (in_object cs us b o r) v h = absurd v
  builds_value seg t (in_pair {front = front} {p = p} {n = n} {ts = ts} {key = key} cs us k b o r m) v h =
      let header = cell.Object p n in
      let here : length (front ++ header ∷ (cs ++ key ∷ [])) ≡ ((length front + 1) + length cs) + 1 = omega (arith, length-append front (header ∷ (cs ++ key ∷ [])), length-append cs (key ∷ [])) in
      let count : 2 * pairs_count (pairs_push us k t) ≡ (2 * pairs_count us + 1) + 1 = omega (arith, pairs_push_count us k t) in
      built _ _ (length front) _ _ _ _ _ (in_object ((cs ++ key ∷ []) ++ seg) (pairs_push us k t) b o (pair_row_push bytes (length front + 1) cs seg us key k t r m (subst (λ (x : ℕ). node bytes x seg t) here h)))
      (sym (append_assoc front (header ∷ (cs ++ key ∷ [])) seg)) count
      (ap (λ (x : List Token). ts ++ begin object ∷ x) (pairs_push_tokens us k t) ∙ sym (append_assoc ts (begin object ∷ (pairs_tokens us ++ key_token k ∷ [])) (tokens t)))

  -- ---- a key

  pub builds_key : {front : List Cell} {p n : ℕ} {s : TokenState} {ts : List Token} (c : Cell) (k : List ℕ)
      → BuilderState bytes front p n s ts → NameMayCome s.expected → text_cell bytes c k → BuilderState bytes (front ++ c ∷ []) p (n + 1) (after_token s (key_token k)) (ts ++ key_token k ∷ [])
  builds_key c k nothing v h = absurd v
  builds_key c k (whole u g) v h = absurd v
  builds_key c k (in_array cs us b o r) v h = absurd v
  builds_key c k (in_object {front = front} {p = p} {n = n} {ts = ts} cs us b o r) v h =
      built _ _ (length front) _ _ _ _ _ (in_pair cs us k b o r h)
      (sym (append_assoc front (cell.Object p n ∷ cs) (c ∷ []))) refl (sym (append_assoc ts (begin object ∷ pairs_tokens us) (key_token k ∷ [])))
  builds_key c k (in_pair cs us m b o r g) v h = absurd v

  -- ---- a container begins

  pub builds_array : {front : List Cell} {p n : ℕ} {s : TokenState} {ts : List Token} → BuilderState bytes front p n s ts → ValueMayCome s.expected
      → BuilderState bytes (front ++ cell.Array p n ∷ []) (length front) 0 (after_token s (begin array)) (ts ++ begin array ∷ [])
  builds_array b v = in_array [] no_trees b v refl

  pub builds_object : {front : List Cell} {p n : ℕ} {s : TokenState} {ts : List Token} → BuilderState bytes front p n s ts → ValueMayCome s.expected
      → BuilderState bytes (front ++ cell.Object p n ∷ []) (length front) 0 (after_token s (begin object)) (ts ++ begin object ∷ [])
  builds_object b v = in_object [] no_pairs b v refl

-- ---- a container ends

-- what a builder holds within a container that may end with the token x, whose cell becomes the cell c
pub record Within (x : Token) (c : Cell) (bytes : List ℕ) (front : List Cell) (p : ℕ) (after : TokenState) (ts : List Token) : Type 0 where
  pub outer : List Cell
  pub around : ℕ
  pub count : ℕ
  pub state : TokenState
  pub before : List Token
  pub open_cell : Cell
  pub cs : List Cell
  pub tree : Tree
  pub is_front : front ≡ outer ++ open_cell ∷ cs
  pub is_place : length outer ≡ p
  pub is_link : link_of open_cell ≡ around
  pub is_len : cell_len open_cell ≡ count
  pub is_tokens : ts ++ x ∷ [] ≡ before ++ tokens tree
  pub takes_value : ValueMayCome state.expected
  pub is_after : state_after_value state ≡ after
  pub built_outer : BuilderState bytes outer around count state before
  pub finished : node bytes p (c ∷ cs) tree

cells_after : (front cs : List Cell) (c : Cell) → length (front ++ c ∷ cs) ≡ (length front + 1) + length cs
cells_after front cs c = omega (arith, length-append front (c ∷ cs))

pub within_array : {bytes : List ℕ} {front : List Cell} {p n : ℕ} {s : TokenState} {ts : List Token}
    → BuilderState bytes front p n s ts → EndMayCome s.expected array → Within (end array) (cell.Array (length front) n) bytes front p (after_token s (end array)) ts
within_array nothing e = absurd e
within_array (whole t h) e = absurd e
within_array (in_array {front = front} {p = p} {n = n} {s = s} {ts = ts} cs us b v h) e = record {
  outer = front;
  around = p;
  count = n;
  state = s;
  before = ts;
  open_cell = cell.Array p n;
  cs = cs;
  tree = list us;
  is_front = refl;
  is_place = refl;
  is_link = refl;
  is_len = refl;
  is_tokens = append_assoc ts (begin array ∷ trees_tokens us) (end array ∷ []);
  takes_value = v;
  is_after = refl;
  built_outer = b;
  finished = (cs, ap (λ (k : ℕ). cell.Array k (trees_count us) ∷ cs) (cells_after front cs (cell.Array p n)), h);
}
within_array (in_object cs us b v h) e = absurd e
within_array (in_pair cs us k b v h n) e = absurd e

half : (n : ℕ) → (2 * n) / 2 ≡ n
half n = omega arith

pub within_object : {bytes : List ℕ} {front : List Cell} {p n : ℕ} {s : TokenState} {ts : List Token}
    → BuilderState bytes front p n s ts → EndMayCome s.expected object → Within (end object) (cell.Object (length front) (n / 2)) bytes front p (after_token s (end object)) ts
within_object nothing e = absurd e
within_object (whole t h) e = absurd e
within_object (in_array cs us b v h) e = absurd e
within_object (in_object {front = front} {p = p} {n = n} {s = s} {ts = ts} cs us b v h) e = record {
  outer = front;
  around = p;
  count = n;
  state = s;
  before = ts;
  open_cell = cell.Object p n;
  cs = cs;
  tree = pairs us;
  is_front = refl;
  is_place = refl;
  is_link = refl;
  is_len = refl;
  is_tokens = append_assoc ts (begin object ∷ pairs_tokens us) (end object ∷ []);
  takes_value = v;
  is_after = refl;
  built_outer = b;
  finished = (cs, ap (λ (k : ℕ). cell.Object k ((2 * pairs_count us) / 2) ∷ cs) (cells_after front cs (cell.Object p n)) ∙ ap (λ (k : ℕ). cell.Object ((length front + 1) + length cs) k ∷ cs) (half (pairs_count us)), h);
}
within_object (in_pair cs us k b v h n) e = absurd e

-- the container's cell is finished
pub closed_cells : (x : Token) (c : Cell) (bytes : List ℕ) (front : List Cell) (p : ℕ) (after : TokenState) (ts : List Token) → (i : Within x c bytes front p after ts) → slice_set front p c ≡ i.outer ++ c ∷ i.cs
closed_cells x c bytes front p after ts i = ap (λ (cells : List Cell). slice_set cells p c) i.is_front ∙ set_at i.outer i.open_cell i.cs c p i.is_place

-- what a builder holds then
pub ends : (x : Token) (c : Cell) (bytes : List ℕ) (front : List Cell) (p : ℕ) (after : TokenState) (ts : List Token) → (i : Within x c bytes front p after ts) → BuilderState bytes (slice_set front p c) i.around (i.count + 1) after (ts ++ x ∷ [])
ends x c bytes front p after ts i =
    let h : node bytes (length i.outer) (c ∷ i.cs) i.tree = subst (λ (k : ℕ). node bytes k (c ∷ i.cs) i.tree) (sym i.is_place) i.finished in
    let b = subst (λ (s : TokenState). BuilderState bytes (i.outer ++ c ∷ i.cs) i.around (i.count + 1) s (i.before ++ tokens i.tree)) i.is_after (builds_value bytes (c ∷ i.cs) i.tree i.built_outer i.takes_value h) in
    subst (λ (us : List Token). BuilderState bytes (slice_set front p c) i.around (i.count + 1) after us) (sym i.is_tokens)
    (subst (λ (cells : List Cell). BuilderState bytes cells i.around (i.count + 1) after (i.before ++ tokens i.tree)) (sym (closed_cells x c bytes front p after ts i)) b)
