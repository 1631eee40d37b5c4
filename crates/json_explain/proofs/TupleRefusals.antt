-- A tuple, and where it is refused.
use Rattle.std.proofs.Common.{◌≡◌, ◌≢◌, ◌+◌, ℕ, suc, length, inl, inr, List, [], ◌∷◌, ◌++◌, Option, Some, None, Result, Ok, Err, sym, ◌∙◌, ap, subst, refl, arith, IfOk, IfSome, OnOk}
use Rattle.json_doc.specs.declared.json_type.JsonType.TheVariants as kinds
use Rattle.json_grammar.specs.declared.Kind.TheVariants.{Array as array}
use Rattle.json_grammar.specs.Tree.{Tree, Trees, no_trees, tree_and, trees_tokens, trees_list, list_trees, list, Token as Tok, begin, end}
use Rattle.json_io.specs.declared.error.ErrorCode.TheVariants.{TypeUnmatched}
use Rattle.json_tokens.specs.ExpectedTokens.{InArray}
use Rattle.json_tokens.specs.declared.token.TokenKind.{TokenKind}
use Rattle.json_tokens.specs.declared.token.TokenKind.TheVariants as kind
use Rattle.json_tokens.specs.TokensStates.{TokensState, TakesTokens, TakesOne, Peeks, Leaves}
use Rattle.json_tokens.proofs.Steps.{peek_tree}
use Rattle.json_data.proofs.Lists.{in_array_again}
use Rattle.json_data.proofs.TupleReading.{end_alone, element_more, elements_left, elements_peeked, whole_array}
use Rattle.json_explain.specs.Refused.{Refused, RefusedStep, element_step, refused_here, refused_within, elements_refused_by, tuple_refused}
use Rattle.json_explain.specs.Explaining.{ExplainsTree, ExplainsElements, IsAmong, IsWithin, refused_in}
use Rattle.json_explain.specs.Paths.{PathLeadsTo}
use Rattle.json_explain.specs.declared.refusal.Refusal.{Refusal}
use Rattle.json_explain.specs.declared.refusal.Wanted.{Wanted}

-- ---- where an element is refused

-- what is said of the elements after the first one holds of all
among_more : (i : ℕ) (t : Tree) (ts : Trees) (r : Option Refused) → IfSome r (IsAmong (i + 1) ts) → IfSome r (IsAmong i (tree_and t ts))
among_more i t ts None w = tt
among_more i t ts (Some x) (inl p) = inl p
among_more i t ts (Some x) (inr (before, after, u, y, e, w, q)) =
    let n : (i + 1) + length before ≡ i + suc (length before) = omega arith in
    inr (t ∷ before, after, u, y, ap (λ (us : List Tree). t ∷ us) e, w, q ∙ ap (λ (j : ℕ). refused_within (element_step j) y) n)

array_within : (ts : Trees) (path : List RefusedStep) → path ≡ [] → PathLeadsTo (list ts) path (list ts) []
array_within ts path e = subst (λ (p : List RefusedStep). PathLeadsTo (list ts) p (list ts) []) (sym e) (refl, refl)

within_array : (ts : Trees) (r : Option Refused) → IfSome r (IsAmong 0 ts) → IfSome r (IsWithin (list ts))
within_array ts None w = tt
within_array ts (Some x) (inl p) = (list ts, [], array_within ts x.path p.0, sym p.1)
within_array ts (Some x) (inr (before, after, u, y, e, w, q)) =
    subst (λ (z : Refused). IsWithin (list ts) z) (sym q) (
      w.0,
      begin array ∷ trees_tokens (list_trees before) ++ w.1,
      (u, begin array ∷ trees_tokens (list_trees before), w.1, (before, after, e, omega arith, refl), w.2, refl),
      w.3,
    )

-- ---- what was taken

module _ {S : Type 0} {taken : S → List Tok → Type 0} {state : S → TokensState} where
  pub array_ended : {w : Wanted} {r : Tree → Option Refused} {rs : List (Tree → Option Refused)} {i : ℕ} {b c : S} {x : Refused}
      → x ≡ refused_here TypeUnmatched None (Some w) kinds.Array → TakesOne taken state b c (end array) → ExplainsElements taken state w (r ∷ rs) i b c (Some x)
  array_ended e o = record { elements = no_trees; takes = end_alone o; answer = ap Some (sym e); within = inl (ap (λ (z : Refused). z.path) e, ap (λ (z : Refused). z.found_type) e) }

  pub all_read : {w : Wanted} {i : ℕ} {b c : S} → TakesOne taken state b c (end array) → ExplainsElements taken state w [] i b c None
  all_read o = record { elements = no_trees; takes = end_alone o; answer = refl; within = tt }

  pub array_longer : {w : Wanted} {i : ℕ} {b c d : S} {k : TokenKind} {x : Refused}
      → x ≡ refused_here TypeUnmatched None (Some w) kinds.Array → InArray (state b).expected → Peeks (state b) (state c) k → TakesTokens taken b [] c → k ≢ kind.EndArray → Leaves taken state c d
      → ExplainsElements taken state w [] i b d (Some x)
  array_longer e a y z n l =
      let m = elements_peeked a y z n l in
      record { elements = tree_and m.0 m.1; takes = m.2; answer = ap Some (sym e); within = inl (ap (λ (z : Refused). z.path) e, ap (λ (z : Refused). z.found_type) e) }

  -- an element was refused, and then the array was left
  element_refused : {w : Wanted} {f : Tree → Option Refused} {fs : List (Tree → Option Refused)} {i : ℕ} {b c d e : S} {k : TokenKind} {x : Refused}
      → InArray (state b).expected → Peeks (state b) (state c) k → TakesTokens taken b [] c → ExplainsTree taken state f c d (Some x) → Leaves taken state d e
      → ExplainsElements taken state w (f ∷ fs) i b e (Some (refused_within (element_step i) x))
  element_refused {i = i} {x = x} a y z v l =
      let t = peek_tree y z v.takes in
      let m = elements_left (in_array_again _ _ a t.moves.expected) l in
      let n : i ≡ i + 0 = omega arith in
      record {
        elements = tree_and v.tree m.0;
        takes = element_more a t m.1;
        answer = rw v.answer;
        within = inr ([], trees_list m.0, v.tree, x, refl, v.within, ap (λ (j : ℕ). refused_within (element_step j) x) n);
      }

  pub element_left : (w : Wanted) {f : Tree → Option Refused} (fs : List (Tree → Option Refused)) (i : ℕ) {b c d : S} {k : TokenKind} {x : Refused} {E : Type 0} (e : S) (r : Result (Option Refusal) E)
      → InArray (state b).expected → Peeks (state b) (state c) k → TakesTokens taken b [] c → ExplainsTree taken state f c d (Some x) → OnOk r (Leaves taken state d e)
      → IfOk r (λ o. refused_in o ≡ Some (refused_within (element_step i) x)) → IfOk r (λ o. ExplainsElements taken state w (f ∷ fs) i b e (refused_in o))
  element_left w {f = f} fs i {b = b} e (Ok o) a y z v l p =
      subst (λ (q : Option Refused). ExplainsElements taken state w (f ∷ fs) i b e q) (sym p) (element_refused a y z v l)
  element_left w fs i e (Err x) a y z v l p = tt

  -- an element was read, and then the others
  pub element_read : {w : Wanted} {f : Tree → Option Refused} {fs : List (Tree → Option Refused)} {i : ℕ} {b c d e : S} {k : TokenKind} {r : Option Refused}
      → InArray (state b).expected → Peeks (state b) (state c) k → TakesTokens taken b [] c → ExplainsTree taken state f c d None → ExplainsElements taken state w fs (i + 1) d e r
      → ExplainsElements taken state w (f ∷ fs) i b e r
  element_read {w = w} {fs = fs} {i = i} {r = r} a y z v l =
      let n : suc i ≡ i + 1 = omega arith in
      record {
        elements = tree_and v.tree l.elements;
        takes = element_more a (peek_tree y z v.takes) l.takes;
        answer = rw v.answer (ap (λ (j : ℕ). elements_refused_by w fs j l.elements) n ∙ l.answer);
        within = among_more i v.tree l.elements r l.within;
      }

  -- and the whole array
  pub tuple_explains : {w : Wanted} {fs : List (Tree → Option Refused)} {a b c : S} {r : Option Refused}
      → TakesOne taken state a b (begin array) → ExplainsElements taken state w fs 0 b c r → ExplainsTree taken state (tuple_refused w fs) a c r
  tuple_explains {r = r} o l = record { tree = list l.elements; takes = whole_array o l.takes; answer = l.answer; within = within_array l.elements r l.within }
