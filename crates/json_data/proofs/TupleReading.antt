-- The elements of a tuple, one after another.
use Rattle.std.proofs.Common.{◌≡◌, ◌≢◌, ◌⊎◌, inl, inr, Bool, List, [], ◌∷◌, ◌++◌, true, false, Some, Result, Ok, Err, IfOk, IfErr, refl, sym, ◌∙◌, ap, subst, append_assoc, arith}
use Rattle.json_grammar.specs.declared.Kind.{Kind}
use Rattle.json_grammar.specs.declared.Kind.TheVariants.{Array as array, Object as object}
use Rattle.json_grammar.specs.Tree.{Tree, Trees, list, no_trees, tree_and, Token as Tok, tokens, trees_tokens, begin, end}
use Rattle.json_grammar.specs.TokenStates.{TokenState, Expected, a_value, element_or_end, name_or_end, nothing, state_in, state_after_value, after_token}
use Rattle.json_io.specs.declared.error.Error.{Error}
use Rattle.json_io.specs.declared.error.ErrorCode.TheVariants.{TypeUnmatched}
use Rattle.json_model.specs.Datum.{Datum, list_datum, list_data}
use Rattle.json_tokens.specs.declared.token.TokenKind.{TokenKind}
use Rattle.json_tokens.specs.declared.token.TokenKind.TheVariants.{EndArray}
use Rattle.json_tokens.specs.Refusals.{is_refusal, error_without_place}
use Rattle.json_tokens.specs.ExpectedTokens.{around, InArray, BeforeElement}
use Rattle.json_tokens.specs.TokensStates.{TokensState, TakesTokens, Peeks, Moves, TakesTree, TakesOne, Leaves, RestOfContainer, RestAt, FirstIs, TokensFail}
use Rattle.json_tokens.proofs.Steps.{joins, is_end, peek_moves, peeked_before}
use Rattle.json_data.specs.Reading.{Reading, gives, Series, gives_all, as_list}
use Rattle.json_data.specs.Reader.{ReadsTree, ReadsNonNull, StopsReading, Misses}
use Rattle.json_data.specs.Tuples.{read_tuple, TakesElements, ReadsElements, StopsElements}
use Rattle.json_data.proofs.Lists.{in_array_again}

-- after an element of an array the next one or the end may come, as before it
stays : (p : TokenState) → InArray p → state_after_value p ≡ p
stays p i = by p.expected p.opened i
  where
    by : (e : Expected) (c : List Kind) → BeforeElement e c → state_in c ≡ record { opened = c; expected = e }
    by a_value c i = absurd i
    by element_or_end [] i = absurd i
    by element_or_end (array ∷ c) i = refl
    by element_or_end (object ∷ c) i = absurd i
    by name_or_end c i = absurd i
    by nothing c i = absurd i

-- a kind was peeked, and then one token was taken
pub peek_one : {S : Type 0} {taken : S → List Tok → Type 0} {state : S → TokensState} {a b c : S} {k : TokenKind} {x : Tok}
    → Peeks (state a) (state b) k → TakesTokens taken a [] b → TakesOne taken state b c x → TakesOne taken state a c x
peek_one {state = state} {a = a} {c = c} {x = x} h z r = record {
  takes = joins z r.takes;
  moves = subst (λ (p : TokenState). Moves (state a) (state c) (after_token p x)) h.expected (peek_moves h r.moves);
  as_peeked = peeked_before h r.as_peeked;
}

-- ---- what was taken

pub end_alone : {S : Type 0} {taken : S → List Tok → Type 0} {state : S → TokensState} {b c : S}
    → TakesOne taken state b c (end array) → TakesElements taken state b c no_trees
end_alone r = record { takes = r.takes; moves = r.moves }

pub end_peeked : {S : Type 0} {taken : S → List Tok → Type 0} {state : S → TokensState} {b c d : S} {x : Tok} {k : TokenKind}
    → k ≡ EndArray → Peeks (state b) (state c) k → TakesTokens taken b [] c → TakesOne taken state c d x → TakesElements taken state b d no_trees
end_peeked {taken = taken} {state = state} {b = b} {c = c} {d = d} {x = x} i y z r =
    let e : x ≡ end array = is_end x (r.as_peeked.peeked EndArray (y.peeked ∙ ap Some i)) in
    end_alone (subst (λ (x : Tok). TakesOne taken state b d x) e (peek_one y z r))

pub element_more : {S : Type 0} {taken : S → List Tok → Type 0} {state : S → TokensState} {b c d : S} {t : Tree} {ts : Trees}
    → InArray (state b).expected → TakesTree taken state b c t → TakesElements taken state c d ts → TakesElements taken state b d (tree_and t ts)
element_more {taken = taken} {state = state} {b = b} {d = d} {t = t} {ts = ts} i r e = record {
  takes = subst (λ (xs : List Tok). TakesTokens taken b xs d) (sym (append_assoc (tokens t) (trees_tokens ts) (end array ∷ []))) (joins r.takes e.takes);
  moves = record {
    input = e.moves.input ∙ r.moves.input;
    expected = e.moves.expected ∙ ap (λ (p : TokenState). around p) (r.moves.expected ∙ stays (state b).expected i);
    peeked = e.moves.peeked;
    left = omega (arith, e.moves.left, r.moves.left);
  };
}

rest_of_array : (p : TokenState) (xs : List Tok) → InArray p → RestOfContainer p xs → (us : Trees) × (xs ≡ trees_tokens us ++ end array ∷ [])
rest_of_array p xs i r = by p.expected p.opened i r
  where
    by : (e : Expected) (c : List Kind) → BeforeElement e c → RestAt e c xs → (us : Trees) × (xs ≡ trees_tokens us ++ end array ∷ [])
    by a_value c i r = absurd i
    by element_or_end c i r = r
    by name_or_end c i r = absurd i
    by nothing c i r = absurd i

pub elements_left : {S : Type 0} {taken : S → List Tok → Type 0} {state : S → TokensState} {b c : S}
    → InArray (state b).expected → (r : Leaves taken state b c) → (us : Trees) × TakesElements taken state b c us × (r.rest ≡ trees_tokens us ++ end array ∷ [])
elements_left {taken = taken} {state = state} {b = b} {c = c} i r =
    let p = rest_of_array (state b).expected r.rest i r.is_rest in
    (p.0, record { takes = subst (λ (xs : List Tok). TakesTokens taken b xs c) p.1 r.takes; moves = r.moves }, p.1)

pub whole_array : {S : Type 0} {taken : S → List Tok → Type 0} {state : S → TokensState} {a b c : S} {ts : Trees}
    → TakesOne taken state a b (begin array) → TakesElements taken state b c ts → TakesTree taken state a c (list ts)
whole_array r e = record {
  takes = joins r.takes e.takes;
  moves = record {
    input = e.moves.input ∙ r.moves.input;
    expected = e.moves.expected ∙ ap (λ (p : TokenState). around p) r.moves.expected;
    peeked = e.moves.peeked;
    left = omega (arith, e.moves.left, r.moves.left);
  };
  as_peeked = r.as_peeked;
}

-- ---- what was read

pub no_element : {S : Type 0} {taken : S → List Tok → Type 0} {state : S → TokensState} {b c : S}
    → TakesElements taken state b c no_trees → ReadsElements taken state [] b c (gives_all [])
no_element e = record { elements = no_trees; takes = e; series = refl }

pub element_then : {S : Type 0} {taken : S → List Tok → Type 0} {state : S → TokensState} {f : Tree → Reading} {fs : List (Tree → Reading)} {b c d : S} {x : Datum} {xs : List Datum}
    → InArray (state b).expected → ReadsTree taken state f b c (gives x) → ReadsElements taken state fs c d (gives_all xs)
    → ReadsElements taken state (f ∷ fs) b d (gives_all (x ∷ xs))
element_then i r e = record { elements = tree_and r.tree e.elements; takes = element_more i r.takes e.takes; series = rw (r.answer, e.series) }

-- the array was too short, or too long
pub too_short : {S : Type 0} {taken : S → List Tok → Type 0} {state : S → TokensState} {f : Tree → Reading} {fs : List (Tree → Reading)} {b c : S} {e : Error}
    → e ≡ error_without_place TypeUnmatched → TakesOne taken state b c (end array) → StopsElements taken state (f ∷ fs) b c e
too_short {taken = taken} {state = state} {f = f} {fs = fs} {b = b} {c = c} i r =
    subst (λ (e : Error). StopsElements taken state (f ∷ fs) b c e) (sym i)
    (record { refused = λ _. (refl, record { elements = no_trees; takes = end_alone r; series = refl }); gave_up = λ q. cc })

some_left : {S : Type 0} {taken : S → List Tok → Type 0} {state : S → TokensState} {b d : S} (k : TokenKind) (xs : List Tok) (us : Trees)
    → FirstIs xs k → k ≢ EndArray → xs ≡ trees_tokens us ++ end array ∷ [] → TakesElements taken state b d us
    → (t : Tree) × (vs : Trees) × TakesElements taken state b d (tree_and t vs)
some_left k xs no_trees f n i e = absurd (n (sym (subst (λ (ys : List Tok). FirstIs ys k) i f)))
some_left k xs (tree_and t us) f n i e = (t, us, e)

-- what is left of an array of which the next token is not its end
pub elements_peeked : {S : Type 0} {taken : S → List Tok → Type 0} {state : S → TokensState} {b c d : S} {k : TokenKind}
    → InArray (state b).expected → Peeks (state b) (state c) k → TakesTokens taken b [] c → k ≢ EndArray → Leaves taken state c d
    → (t : Tree) × (us : Trees) × TakesElements taken state b d (tree_and t us)
elements_peeked {taken = taken} {state = state} {b = b} {c = c} {d = d} {k = k} a y z n l =
    let m = elements_left (subst (λ (p : TokenState). InArray p) (sym y.expected) a) l in
    some_left k l.rest m.0 (l.as_peeked k y.peeked) n m.2 (record {
      takes = joins z m.1.takes;
      moves = record {
        input = m.1.moves.input ∙ y.input;
        expected = m.1.moves.expected ∙ ap (λ (p : TokenState). around p) y.expected;
        peeked = m.1.moves.peeked;
        left = omega (arith, m.1.moves.left, y.left);
      };
    })

pub too_long : {S : Type 0} {taken : S → List Tok → Type 0} {state : S → TokensState} {b c d : S} {k : TokenKind} {e : Error}
    → e ≡ error_without_place TypeUnmatched → InArray (state b).expected → Peeks (state b) (state c) k → TakesTokens taken b [] c → k ≢ EndArray → Leaves taken state c d
    → StopsElements taken state [] b d e
too_long {taken = taken} {state = state} {b = b} {d = d} i a y z n l =
    let m = elements_peeked a y z n l in
    subst (λ (e : Error). StopsElements taken state [] b d e) (sym i)
    (record { refused = λ _. (refl, record { elements = tree_and m.0 m.1; takes = m.2; series = refl }); gave_up = λ q. cc })

-- an element was refused, and then the array was left
refused_first : {S : Type 0} {taken : S → List Tok → Type 0} {state : S → TokensState} {f : Tree → Reading} {fs : List (Tree → Reading)} {b c d : S} {e r : Error}
    → (v : Bool) → is_refusal e.code ≡ v → InArray (state b).expected → StopsReading taken state f b c e
    → (is_refusal e.code ≡ true → ((r ≡ e) × Leaves taken state c d) ⊎ TokensFail (state c) (state d) r)
    → (is_refusal e.code ≡ false → (r ≡ e) × (d ≡ c))
    → StopsElements taken state (f ∷ fs) b d r
refused_first {taken = taken} {state = state} {f = f} {fs = fs} {b = b} {c = c} {d = d} {e = e} {r = r} true p i s l k =
    let x = s.refused p in
    elim (l p) [
      | inl y ↦
          let m = elements_left (in_array_again _ _ i x.1.takes.moves.expected) y.1 in
          subst (λ (z : Error). StopsElements taken state (f ∷ fs) b d z) (sym y.0) (record {
            refused = λ _. (x.0, record { elements = tree_and x.1.tree m.0; takes = element_more i x.1.takes m.1; series = rw x.1.answer });
            gave_up = λ q. cc;
          })
      | inr y ↦ record {
        refused = λ q. absurd (let h = y.no_refusal in cc);
        gave_up = λ _. record { input = y.input ∙ x.1.takes.moves.input; no_refusal = y.no_refusal; cause = inr y.failed };
      }
    ]
refused_first {S = S} {taken = taken} {state = state} {f = f} {fs = fs} {b = b} {c = c} {d = d} {e = e} {r = r} false p i s l k =
    let y = k p in
    let u : StopsElements taken state (f ∷ fs) b c e = record { refused = λ q. cc; gave_up = s.gave_up } in
    subst (λ (z : Error). StopsElements taken state (f ∷ fs) b d z) (sym y.0) (subst (λ (z : S). StopsElements taken state (f ∷ fs) b z e) (sym y.1) u)

pub first_stops : {S : Type 0} {taken : S → List Tok → Type 0} {state : S → TokensState} {f : Tree → Reading} {fs : List (Tree → Reading)} {b c d : S} {e r : Error}
    → InArray (state b).expected → StopsReading taken state f b c e
    → (is_refusal e.code ≡ true → ((r ≡ e) × Leaves taken state c d) ⊎ TokensFail (state c) (state d) r)
    → (is_refusal e.code ≡ false → (r ≡ e) × (d ≡ c))
    → StopsElements taken state (f ∷ fs) b d r
first_stops {e = e} = refused_first (is_refusal e.code) refl

pub later_stops : {S : Type 0} {taken : S → List Tok → Type 0} {state : S → TokensState} {f : Tree → Reading} {fs : List (Tree → Reading)} {b c d : S} {x : Datum} {e : Error}
    → InArray (state b).expected → ReadsTree taken state f b c (gives x) → StopsElements taken state fs c d e → StopsElements taken state (f ∷ fs) b d e
later_stops i r s = record {
  refused = λ p. let k = s.refused p in (k.0, record { elements = tree_and r.tree k.1.elements; takes = element_more i r.takes k.1.takes; series = rw (r.answer, k.1.series) });
  gave_up = λ p. let k = s.gave_up p in record { input = k.input ∙ r.takes.moves.input; no_refusal = k.no_refusal; cause = k.cause };
}

-- nothing was taken before
pub reads_from : {S : Type 0} {taken : S → List Tok → Type 0} {state : S → TokensState} {fs : List (Tree → Reading)} {a b c : S} {s : Series}
    → b ≡ a → ReadsElements taken state fs b c s → ReadsElements taken state fs a c s
reads_from {S = S} {taken = taken} {state = state} {fs = fs} {c = c} {s = s} e r = subst (λ (z : S). ReadsElements taken state fs z c s) e r

pub stops_from : {S : Type 0} {taken : S → List Tok → Type 0} {state : S → TokensState} {fs : List (Tree → Reading)} {a b c : S} {e : Error}
    → b ≡ a → StopsElements taken state fs b c e → StopsElements taken state fs a c e
stops_from {S = S} {taken = taken} {state = state} {fs = fs} {c = c} {e = e} i r = subst (λ (z : S). StopsElements taken state fs z c e) i r

-- what `?` returns
pub stops_err : {S V : Type 0} {taken : S → List Tok → Type 0} {state : S → TokensState} {a b : S} {e : Error} (fs : List (Tree → Reading)) (r : Result V Error)
    → (y : Error) × (r ≡ Err y) × (y ≡ e) → StopsElements taken state fs a b e → IfErr r (λ x. StopsElements taken state fs a b x)
stops_err {taken = taken} {state = state} {a = a} {b = b} fs r p s = subst (λ z. IfErr z (λ x. StopsElements taken state fs a b x)) (sym (p.1 ∙ ap Err p.2)) s

-- ---- the whole array

pub tuple_read : {S : Type 0} {taken : S → List Tok → Type 0} {state : S → TokensState} {fs : List (Tree → Reading)} {a b c : S} {ds : List Datum}
    → TakesOne taken state a b (begin array) → ReadsElements taken state fs b c (gives_all ds)
    → ReadsNonNull taken state (read_tuple fs) a c (gives (list_datum (list_data ds)))
tuple_read r e = record { tree = list e.elements; takes = whole_array r e.takes; answer = ap as_list e.series; some = λ i. cc }

pub tuple_missed : {S : Type 0} {taken : S → List Tok → Type 0} {state : S → TokensState} {fs : List (Tree → Reading)} {a b c : S} {e : Error}
    → TakesOne taken state a b (begin array) → StopsElements taken state fs b c e → Misses taken state (read_tuple fs) a c e
tuple_missed r s = record {
  refused = λ p. let k = s.refused p in (k.0, record { tree = list k.1.elements; takes = whole_array r k.1.takes; answer = ap as_list k.1.series; some = λ i. cc });
  gave_up = λ p. let k = s.gave_up p in record { input = k.input ∙ r.moves.input; no_refusal = k.no_refusal; cause = k.cause };
}

pub tuple_ok : {S V E : Type 0} {taken : S → List Tok → Type 0} {state : S → TokensState} (fs : List (Tree → Reading)) {a b : S} (c : S) (f : V → List Datum) (r : Result V E)
    → TakesOne taken state a b (begin array) → IfOk r (λ p. ReadsElements taken state fs b c (gives_all (f p)))
    → IfOk r (λ p. ReadsNonNull taken state (read_tuple fs) a c (gives (list_datum (list_data (f p)))))
tuple_ok fs c f (Ok p) o h = tuple_read o h
tuple_ok fs c f (Err e) o h = tt

pub tuple_err : {S V : Type 0} {taken : S → List Tok → Type 0} {state : S → TokensState} (fs : List (Tree → Reading)) {a b : S} (c : S) (r : Result V Error)
    → TakesOne taken state a b (begin array) → IfErr r (λ e. StopsElements taken state fs b c e) → IfErr r (λ e. Misses taken state (read_tuple fs) a c e)
tuple_err fs c (Ok p) o h = tt
tuple_err fs c (Err e) o h = tuple_missed o h
