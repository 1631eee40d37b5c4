-- The members of an object that is open in a builder, gone through key by key.
use Rattle.std.proofs.Common.{◌≡◌, ◌⊎◌, inl, inr, Bool, true, false, ℕ, ◌+◌, ◌-◌, ◌<◌, ◌≤◌, List, [], ◌∷◌, ◌++◌, length, refl, sym, ap, subst, ◌∙◌, arith, append_assoc, length-append}
use Rattle.std.specs.Prelude.{◌≢◌, slice_get, slice_index_or}
use Rattle.std.specs.List.{Contains}
use Rattle.std.proofs.lemmas.List.{length_push}
use Rattle.std.proofs.lemmas.List.Elements.{Contains-append_right, Contains-append_cases}
use Rattle.json_grammar.specs.Tree.{Pairs, no_pairs, pair_and, Token, key_token}
use Rattle.json_grammar.specs.Repeated.{names, open_keys}
use Rattle.json_grammar.proofs.OpenKeys.{key_inside}
use Rattle.json_grammar.specs.TokenStates.{TokenState, a_value, initial_state, after_tokens}
use Rattle.json_doc.specs.Building.{BuilderState, nothing, whole, in_array, in_object, in_pair}
use Rattle.json_doc.specs.Recorded.{RecordsTokens}
use Rattle.json_doc.specs.Segment.{SegmentAt, text_cell}
use Rattle.json_doc.specs.Places.{place_after}
use Rattle.json_doc.specs.OpenObject.{NamesText, MembersAt, MembersThenKey}
use Rattle.json_doc.specs.declared.cell.Cell.{Cell}
use Rattle.json_doc.specs.declared.cell.Cell.TheVariants as cell
use Rattle.json_grammar.proofs.TokenStates.{after_append}
use Rattle.json_doc.proofs.Segments.{node_some}
use Rattle.json_doc.proofs.Spelling.{get_after, is_there_first, is_there_rest, is_there_left, is_there_right}
use Rattle.json_doc.proofs.Shaping.{node_behind, is_there_within}

module _ (cells : List Cell) (bytes : List ℕ) where
  -- the first of some members: its key, and the others after its value
  pub record OneMember (at end : ℕ) (ps : Pairs) : Type 0 where
    pub key : List ℕ
    pub rest : Pairs
    pub names_are : names ps ≡ key ∷ names rest
    pub named : NamesText cells bytes at key
    pub within : at + 1 < length cells
    pub later : at < place_after cells (at + 1)
    pub after : MembersAt cells bytes (place_after cells (at + 1)) rest end

  pub one_member : (at end : ℕ) (ps : Pairs) → MembersAt cells bytes at ps end → at < end → OneMember at end ps
  one_member at end no_pairs (cs, s, r, e) l = absurd (omega (arith, ap length r))
  one_member at end (pair_and k t ps) (cs, s, (key, a, b, e, n, h, r), f) l =
      let there = subst (λ (x : List Cell). SegmentAt cells at x) e s in
      let inner = is_there_rest cells at key (a ++ b) there in
      let some = node_some bytes (at + 1) a t h in
      let next : place_after cells (at + 1) ≡ (at + 1) + length a = node_behind cells bytes (at + 1) a t h (is_there_left cells (at + 1) a b inner) in
      let within = is_there_within cells (at + 1) (a ++ b) inner in
      record {
        key = k;
        rest = ps;
        names_are = refl;
        named = (key, is_there_first cells at key (a ++ b) there, n);
        within = omega (arith, within, length-append a b, some);
        later = omega (arith, next);
        after = subst (λ (n : ℕ). MembersAt cells bytes n ps end) (sym next) (b, is_there_right cells (at + 1) a b inner, r, omega (arith, ap length e, length-append a b, f));
      }

  -- with no member left
  pub none_left : (at end : ℕ) (ps : Pairs) → MembersAt cells bytes at ps end → end ≤ at → names ps ≡ []
  none_left at end no_pairs m l = refl
  none_left at end (pair_and k t ps) (cs, s, (key, a, b, e, n, h, r), f) l = absurd (omega (arith, ap length e, f))

pub in_rest : (k s : List ℕ) (ks : List (List ℕ)) → k ≢ s → Contains (k ∷ ks) s → Contains ks s
in_rest k s ks h c = by (Contains-append_cases (k ∷ []) ks s c)
  where
    by : Contains (k ∷ []) s ⊎ Contains ks s → Contains ks s
    by (inl (i, l, e)) = absurd (h (first i l e))
      where
        first : (i : ℕ) → i < 1 → slice_index_or (k ∷ []) i s ≡ s → k ≡ s
        first i l e = let zeroth : i ≡ 0 = omega arith in subst (λ (n : ℕ). slice_index_or (k ∷ []) n s ≡ s) zeroth e
    by (inr r) = r

pub is_first : (ks : List (List ℕ)) (k s : List ℕ) (rest : List (List ℕ)) → ks ≡ k ∷ rest → k ≡ s → Contains ks s
is_first ks k s rest e f = rw e (0, omega arith, f)

pub is_later : (ks : List (List ℕ)) (k s : List ℕ) (rest : List (List ℕ)) → ks ≡ k ∷ rest → Contains rest s → Contains ks s
is_later ks k s rest e c = subst (λ x. Contains x s) (sym e) (Contains-append_right (k ∷ []) rest s c)

pub none_there : (ks : List (List ℕ)) (s : List ℕ) → ks ≡ [] → Contains ks s → ⊥
none_there ks s e (i, l, f) = let none : length ks ≡ 0 = ap length e in absurd (omega arith)

pub not_both : (b : Bool) → b ≡ true → b ≡ false → ⊥
not_both b t f = let e : true ≡ false = sym t ∙ f in absurd (cc)

-- ---- the object that is open where a key was recorded last

-- a value follows a name
after_name : (ts : List Token) (s : List ℕ) → (after_tokens initial_state (ts ++ key_token s ∷ [])).expected ≡ a_value
after_name ts s = ap (λ (z : TokenState). z.expected) (after_append initial_state ts (key_token s ∷ []))

no_last : (ts : List Token) (x : Token) → [] ≡ ts ++ x ∷ [] → ⊥
no_last [] x e = cc
no_last (y ∷ ts) x e = cc

pub record OpenKey (cells : List Cell) (bytes : List ℕ) (p : ℕ) (ts : List Token) (s : List ℕ) : Type 0 where
  pub members : Pairs
  pub is_there : MembersThenKey cells bytes (p + 1) members (length cells - 1) s
  pub keys : open_keys ts ≡ names members

key_built : {bytes : List ℕ} {cells : List Cell} {p n : ℕ} {z : TokenState} {us : List Token} (ts : List Token) (s : List ℕ)
    → BuilderState bytes cells p n z us → z.expected ≡ a_value → us ≡ ts ++ key_token s ∷ [] → OpenKey cells bytes p ts s
key_built ts s nothing e f = absurd (no_last ts (key_token s) f)
key_built ts s (whole t h) e f = absurd (cc)
key_built ts s (in_array cs us b v r) e f = absurd (cc)
key_built ts s (in_object cs us b v r) e f = absurd (cc)
key_built {bytes = bytes} ts s (in_pair {front = front} {p = p} {n = n} {ts = before} {key = key} cs us k b v r m) e f =
    let header = cell.Object p n in
    let all = front ++ header ∷ (cs ++ key ∷ []) in
    let told = key_inside ts before us s k (sym f) in
    let long : length all ≡ ((length front + 1) + length cs) + 1 = omega (arith, length-append front (header ∷ (cs ++ key ∷ [])), length-append cs (key ∷ [])) in
    let split : all ≡ (front ++ header ∷ cs) ++ key ∷ [] = sym (append_assoc front (header ∷ cs) (key ∷ [])) in
    let last : length (front ++ header ∷ cs) ≡ length all - 1 = omega (arith, long, length-append front (header ∷ cs)) in
    let there : SegmentAt all (length front + 1) cs = record {
      before = front ++ header ∷ [];
      after = key ∷ [];
      row = sym (append_assoc front (header ∷ []) (cs ++ key ∷ []));
      place = length_push front header;
    } in
    record {
      members = us;
      is_there = (
        (cs, there, r, omega (arith, long)),
        (key, ap (λ (x : List Cell). slice_get x (length all - 1)) split ∙ get_after (front ++ header ∷ cs) key [] (length all - 1) last, subst (λ (x : List ℕ). text_cell bytes key x) (sym told.0) m),
      );
      keys = told.1;
    }

pub open_key : (cells : List Cell) (bytes : List ℕ) (p n : ℕ) (ts : List Token) (s : List ℕ) → RecordsTokens cells bytes p n (ts ++ key_token s ∷ []) → OpenKey cells bytes p ts s
open_key cells bytes p n ts s h = key_built ts s h.built (after_name ts s) refl
