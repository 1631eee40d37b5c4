-- What a reader of a list promises where an element was refused.
use Rattle.std.proofs.Common.{◌≡◌, List, Bool, true, false, ◌≢◌, refl, sym, ◌∙◌, ap, subst, inl, inr, ◌⊎◌}
use Rattle.json_io.specs.declared.error.Error.{Error}
use Rattle.json_io.specs.declared.error.ErrorCode.{ErrorCode}
use Rattle.json_io.specs.declared.error.ErrorCode.TheVariants.{TypeUnmatched, NumberOutOfRange}
use Rattle.json_grammar.specs.Tree.{Tree, Trees, Token as Tok, null, boolean, num, text, list, pairs, no_trees, tree_and}
use Rattle.json_data.specs.Reading.{Reading, refuses, read_option}
use Rattle.json_tokens.specs.TokensStates.{TokensState, TakesTree, Leaves, TokensFail}
use Rattle.json_data.specs.Reader.{ReadsTree, StopsReading, Misses, GivesUp}
use Rattle.json_tokens.specs.Refusals.{error_without_place, is_refusal}
use Rattle.json_data.proofs.Lists.{InList, join, one_more, leaves}

pub join-join : (ts us vs : Trees) → join (join ts us) vs ≡ join ts (join us vs)
join-join no_trees us vs = refl
join-join (tree_and t ts) us vs = ap (λ (ws : Trees). tree_and t ws) (join-join ts us vs)

-- the element t was refused, and then the list was left
pub refused_in : {S : Type 0} {taken : S → List Tok → Type 0} {state : S → TokensState} {f h : Tree → Reading} {a b c d : S} {ts : Trees} {k : ErrorCode}
    → InList taken state a b ts → ReadsTree taken state f b c (refuses k) → Leaves taken state c d
    → ((t : Tree) (us : Trees) → f t ≡ refuses k → h (list (join ts (tree_and t us))) ≡ refuses k)
    → ReadsTree taken state h a d (refuses k)
refused_in {taken = taken} {state = state} {a = a} {d = d} {ts = ts} w r l q =
    let p = leaves (one_more w r.takes) l in
    let e : join (join ts (tree_and r.tree no_trees)) p.0 ≡ join ts (tree_and r.tree p.0) = join-join ts (tree_and r.tree no_trees) p.0 in
    record {
      tree = list (join ts (tree_and r.tree p.0));
      takes = subst (λ (us : Trees). TakesTree taken state a d (list us)) e p.1;
      answer = q r.tree p.0 r.answer;
    }

-- a refusal of a whole tree
pub refusing : {S : Type 0} {taken : S → List Tok → Type 0} {state : S → TokensState} {h : Tree → Reading} {a d : S} {e : Error}
    → is_refusal e.code ≡ true → e ≡ error_without_place e.code → ReadsTree taken state h a d (refuses e.code) → StopsReading taken state h a d e
refusing p e r = record { refused = λ _. (e, r); gave_up = λ q. cc }

pub giving_up : {S : Type 0} {taken : S → List Tok → Type 0} {state : S → TokensState} {h : Tree → Reading} {a d : S} {e : Error}
    → GivesUp (state a) (state d) e → StopsReading taken state h a d e
giving_up g = record { refused = λ q. absurd (let p = g.no_refusal in cc); gave_up = λ _. g }

pub stop_in_at : {S : Type 0} {taken : S → List Tok → Type 0} {state : S → TokensState} {f h : Tree → Reading} {a b c d : S} {ts : Trees} {e r : Error}
    → (v : Bool) → is_refusal e.code ≡ v → InList taken state a b ts → StopsReading taken state f b c e
    → (is_refusal e.code ≡ true → ((r ≡ e) × Leaves taken state c d) ⊎ TokensFail (state c) (state d) r)
    → (is_refusal e.code ≡ false → (r ≡ e) × (d ≡ c))
    → ((t : Tree) (us : Trees) → f t ≡ refuses e.code → h (list (join ts (tree_and t us))) ≡ refuses e.code)
    → StopsReading taken state h a d r
stop_in_at {S = S} {taken = taken} {state = state} {h = h} {a = a} {b = b} {c = c} {d = d} {e = e} {r = r} true p w s l k q =
    let x = s.refused p in
    elim (l p) [
      | inl y ↦ subst (λ (z : Error). StopsReading taken state h a d z) (sym y.0) (refusing p x.0 (refused_in w x.1 y.1 q))
      | inr y ↦ giving_up (record { input = y.input ∙ x.1.takes.moves.input ∙ w.input; no_refusal = y.no_refusal; cause = inr y.failed })
    ]
stop_in_at {S = S} {taken = taken} {state = state} {h = h} {a = a} {b = b} {c = c} {d = d} {e = e} {r = r} false p w s l k q =
    let x = s.gave_up p in
    let y = k p in
    let u : StopsReading taken state h a c e = giving_up (record { input = x.input ∙ w.input; no_refusal = x.no_refusal; cause = x.cause }) in
    subst (λ (z : Error). StopsReading taken state h a d z) (sym y.0) (subst (λ (z : S). StopsReading taken state h a z e) (sym y.1) u)

pub stop_in : {S : Type 0} {taken : S → List Tok → Type 0} {state : S → TokensState} {f h : Tree → Reading} {a b c d : S} {ts : Trees} {e r : Error}
    → InList taken state a b ts → StopsReading taken state f b c e
    → (is_refusal e.code ≡ true → ((r ≡ e) × Leaves taken state c d) ⊎ TokensFail (state c) (state d) r)
    → (is_refusal e.code ≡ false → (r ≡ e) × (d ≡ c))
    → ((t : Tree) (us : Trees) → f t ≡ refuses e.code → h (list (join ts (tree_and t us))) ≡ refuses e.code)
    → StopsReading taken state h a d r
stop_in {e = e} = stop_in_at (is_refusal e.code) refl

pub mismatch : {S : Type 0} {taken : S → List Tok → Type 0} {state : S → TokensState} {h : Tree → Reading} {a d : S} {r : Error} {t : Tree}
    → r ≡ error_without_place TypeUnmatched → TakesTree taken state a d t → h t ≡ refuses TypeUnmatched → StopsReading taken state h a d r
mismatch {taken = taken} {state = state} {h = h} {a = a} {d = d} {t = t} e x y =
    subst (λ (z : Error). StopsReading taken state h a d z) (sym e) (refusing refl refl (record { tree = t; takes = x; answer = y }))

pub out_of_range : {S : Type 0} {taken : S → List Tok → Type 0} {state : S → TokensState} {h : Tree → Reading} {a d : S} {r : Error} {t : Tree}
    → r ≡ error_without_place NumberOutOfRange → TakesTree taken state a d t → h t ≡ refuses NumberOutOfRange → StopsReading taken state h a d r
out_of_range {taken = taken} {state = state} {h = h} {a = a} {d = d} {t = t} e x y =
    subst (λ (z : Error). StopsReading taken state h a d z) (sym e) (refusing refl refl (record { tree = t; takes = x; answer = y }))

-- ---- trees other than null

option_tree : (f : Tree → Reading) (t : Tree) (k : ErrorCode) → read_option f t ≡ refuses k → (t ≢ null) × (f t ≡ refuses k)
option_tree f null k e = cc
option_tree f (boolean b) k e = (λ h. cc, e)
option_tree f (num l) k e = (λ h. cc, e)
option_tree f (text s) k e = (λ h. cc, e)
option_tree f (list ts) k e = (λ h. cc, e)
option_tree f (pairs ps) k e = (λ h. cc, e)

-- where null is not refused, a tree that is refused is another
pub missed : {S : Type 0} {taken : S → List Tok → Type 0} {state : S → TokensState} {f : Tree → Reading} {a b : S} {e : Error}
    → StopsReading taken state (read_option f) a b e → Misses taken state f a b e
missed {f = f} {e = e} h = record {
  refused = λ p. let k = h.refused p in let o = option_tree f k.1.tree e.code k.1.answer in (k.0, record { tree = k.1.tree; takes = k.1.takes; answer = o.1; some = o.0 });
  gave_up = h.gave_up;
}

pub misses_stop : {S : Type 0} {taken : S → List Tok → Type 0} {state : S → TokensState} {f : Tree → Reading} {a b : S} {e : Error}
    → Misses taken state f a b e → StopsReading taken state f a b e
misses_stop h = record { refused = λ p. let k = h.refused p in (k.0, record { tree = k.1.tree; takes = k.1.takes; answer = k.1.answer }); gave_up = h.gave_up }
