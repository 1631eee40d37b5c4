-- The elements of a list, taken one after another.
use Rattle.std.proofs.Common.{◌≡◌, ◌<◌, List, [], ◌∷◌, ◌++◌, refl, sym, ◌∙◌, ap, subst, append_assoc, arith}
use Rattle.std.proofs.lemmas.List.{append-nil}
use Rattle.json_tokens.specs.declared.token.TokenKind.{TokenKind}
use Rattle.json_tokens.specs.declared.token.TokenKind.TheVariants.{BeginArray, EndArray}
use Rattle.json_io.specs.declared.error.ErrorCode.{ErrorCode}
use Rattle.json_grammar.specs.Tree.{Tree, Trees, Token as Tok, list, no_trees, tree_and, tokens, trees_tokens, begin, end}
use Rattle.json_grammar.specs.declared.Kind.{Kind}
use Rattle.json_grammar.specs.declared.Kind.TheVariants.{Array as array, Object as object}
use Rattle.json_model.specs.Datum.{Datum}
use Rattle.json_data.specs.Reading.{Reading, gives, refuses, Series, gives_all, stops, prepend_reading, each}
use Rattle.json_grammar.specs.TokenStates.{TokenState, Expected, a_value, element_or_end, name_or_end, nothing, state_in, state_after_value, after_token}
use Rattle.json_tokens.specs.ExpectedTokens.{around, InArray, BeforeElement}
use Rattle.json_tokens.specs.TokensStates.{TokensState, TakesTokens, Peeks, MatchesPeek, TakesTree, TakesOne, Leaves, RestOfContainer}
use Rattle.json_tokens.proofs.Steps.{joins, is_begin, is_end}

abbrev pub join : Trees → Trees → Trees
join no_trees us = us
join (tree_and t ts) us = tree_and t (join ts us)

pub tokens-join : (ts us : Trees) → trees_tokens (join ts us) ≡ trees_tokens ts ++ trees_tokens us
tokens-join no_trees us = refl
tokens-join (tree_and t ts) us = ap (λ (xs : List Tok). tokens t ++ xs) (tokens-join ts us) ∙ sym (append_assoc (tokens t) (trees_tokens ts) (trees_tokens us))

-- the source is in a list, after the elements ts
pub record InList {S : Type 0} (taken : S → List Tok → Type 0) (state : S → TokensState) (a b : S) (ts : Trees) : Type 0 where
  pub takes : TakesTokens taken a (begin array ∷ trees_tokens ts) b
  pub input : (state b).input ≡ (state a).input
  pub expected : (state b).expected ≡ after_token (state a).expected (begin array)
  pub left : (state b).left < (state a).left
  pub as_peeked : MatchesPeek (state a) BeginArray

pub opens : {S : Type 0} {taken : S → List Tok → Type 0} {state : S → TokensState} {a b c : S} {x : Tok} {k : TokenKind}
    → k ≡ BeginArray → Peeks (state a) (state b) k → TakesTokens taken a [] b → TakesOne taken state b c x → InList taken state a c no_trees
opens {taken = taken} {state = state} {a = a} {b = b} {c = c} {x = x} i y z r =
    let h = subst (λ (j : TokenKind). Peeks (state a) (state b) j) i y in
    let e : x ≡ begin array = is_begin x (r.as_peeked.peeked BeginArray h.peeked) in
    record {
      takes = subst (λ (y : Tok). TakesTokens taken a (y ∷ []) c) e (joins z r.takes);
      input = r.moves.input ∙ h.input;
      expected = r.moves.expected ∙ ap (λ (y : Tok). after_token (state b).expected y) e ∙ ap (λ (p : TokenState). after_token p (begin array)) h.expected;
      left = omega (arith, h.left, r.moves.left);
      as_peeked = record { may = h.may; peeked = h.again };
    }

pub begun : {S : Type 0} {taken : S → List Tok → Type 0} {state : S → TokensState} {a c : S} → TakesOne taken state a c (begin array) → InList taken state a c no_trees
begun r = record { takes = r.takes; input = r.moves.input; expected = r.moves.expected; left = r.moves.left; as_peeked = r.as_peeked }

pub ended : {S : Type 0} {taken : S → List Tok → Type 0} {state : S → TokensState} {a b c : S} {ts : Trees}
    → InList taken state a b ts → TakesOne taken state b c (end array) → TakesTree taken state a c (list ts)
ended w r = record {
  takes = joins w.takes r.takes;
  moves = record { input = r.moves.input ∙ w.input; expected = r.moves.expected ∙ ap (λ (p : TokenState). around p) w.expected; peeked = r.moves.peeked; left = omega (arith, w.left, r.moves.left) };
  as_peeked = w.as_peeked;
}

pub still_in : {S : Type 0} {taken : S → List Tok → Type 0} {state : S → TokensState} {a b c : S} {ts : Trees}
    → c ≡ b → InList taken state a b ts → InList taken state a c ts
still_in {S = S} {taken = taken} {state = state} {a = a} {ts = ts} e w = subst (λ (s : S). InList taken state a s ts) (sym e) w

pub peeks_on : {S : Type 0} {taken : S → List Tok → Type 0} {state : S → TokensState} {a b c : S} {k : TokenKind} {ts : Trees}
    → InList taken state a b ts → Peeks (state b) (state c) k → TakesTokens taken b [] c → InList taken state a c ts
peeks_on {taken = taken} {a = a} {c = c} {ts = ts} w h z = record {
  takes = subst (λ (xs : List Tok). TakesTokens taken a xs c) (append-nil (begin array ∷ trees_tokens ts)) (joins w.takes z);
  input = h.input ∙ w.input;
  expected = h.expected ∙ w.expected;
  left = omega (arith, w.left, h.left);
  as_peeked = w.as_peeked;
}

pub one_more : {S : Type 0} {taken : S → List Tok → Type 0} {state : S → TokensState} {a b c : S} {ts : Trees} {t : Tree}
    → InList taken state a b ts → TakesTree taken state b c t → InList taken state a c (join ts (tree_and t no_trees))
one_more {taken = taken} {a = a} {c = c} {ts = ts} {t = t} w r =
    let e : trees_tokens (join ts (tree_and t no_trees)) ≡ trees_tokens ts ++ tokens t = tokens-join ts (tree_and t no_trees) ∙ ap (λ (xs : List Tok). trees_tokens ts ++ xs) (append-nil (tokens t)) in
    record {
      takes = subst (λ (xs : List Tok). TakesTokens taken a (begin array ∷ xs) c) (sym e) (joins w.takes r.takes);
      input = r.moves.input ∙ w.input;
      expected = r.moves.expected ∙ ap (λ (p : TokenState). state_after_value p) w.expected;
      left = omega (arith, w.left, r.moves.left);
      as_peeked = w.as_peeked;
    }

pub closes : {S : Type 0} {taken : S → List Tok → Type 0} {state : S → TokensState} {a b c d : S} {ts : Trees} {x : Tok} {k : TokenKind}
    → k ≡ EndArray → InList taken state a b ts → Peeks (state b) (state c) k → TakesTokens taken b [] c → TakesOne taken state c d x → TakesTree taken state a d (list ts)
closes {taken = taken} {state = state} {a = a} {b = b} {c = c} {d = d} {ts = ts} {x = x} i w y z r =
    let h = subst (λ (j : TokenKind). Peeks (state b) (state c) j) i y in
    let v = peeks_on w h z in
    let e : x ≡ end array = is_end x (r.as_peeked.peeked EndArray h.peeked) in
    record {
      takes = subst (λ (y : Tok). TakesTokens taken a (begin array ∷ (trees_tokens ts ++ y ∷ [])) d) e (joins v.takes r.takes);
      moves = record {
        input = r.moves.input ∙ v.input;
        expected = r.moves.expected ∙ ap (λ (y : Tok). after_token (state c).expected y) e ∙ ap (λ (p : TokenState). around p) v.expected;
        peeked = r.moves.peeked;
        left = omega (arith, v.left, r.moves.left);
      };
      as_peeked = w.as_peeked;
    }

pub leaves : {S : Type 0} {taken : S → List Tok → Type 0} {state : S → TokensState} {a b c : S} {ts : Trees}
    → InList taken state a b ts → (r : Leaves taken state b c) → (us : Trees) × TakesTree taken state a c (list (join ts us)) × (r.rest ≡ trees_tokens us ++ end array ∷ [])
leaves {taken = taken} {state = state} {a = a} {b = b} {c = c} {ts = ts} w r =
    let rest : (us : Trees) × (r.rest ≡ trees_tokens us ++ end array ∷ []) = subst (λ (p : TokenState). RestOfContainer p r.rest) w.expected r.is_rest in
    let us = rest.0 in
    let e : trees_tokens ts ++ r.rest ≡ trees_tokens (join ts us) ++ end array ∷ [] =
    ap (λ (xs : List Tok). trees_tokens ts ++ xs) rest.1 ∙ sym (append_assoc (trees_tokens ts) (trees_tokens us) (end array ∷ []))
    ∙ ap (λ (xs : List Tok). xs ++ end array ∷ []) (sym (tokens-join ts us)) in (
      us,
      record {
        takes = subst (λ (xs : List Tok). TakesTokens taken a (begin array ∷ xs) c) e (joins w.takes r.takes);
        moves = record {
          input = r.moves.input ∙ w.input;
          expected = r.moves.expected ∙ ap (λ (p : TokenState). around p) w.expected;
          peeked = r.moves.peeked;
          left = omega (arith, w.left, r.moves.left);
        };
        as_peeked = w.as_peeked;
      },
      rest.1,
    )

-- after an element it is in the list again
pub in_array_again : (p q : TokenState) → InArray p → q ≡ state_after_value p → InArray q
in_array_again p q i e = subst (λ (s : TokenState). InArray s) (sym e) (by p.expected p.opened i)
  where
    by : (e : Expected) (c : List Kind) → BeforeElement e c → InArray (state_in c)
    by a_value c i = absurd i
    by element_or_end [] i = absurd i
    by element_or_end (array ∷ c) i = tt
    by element_or_end (object ∷ c) i = absurd i
    by name_or_end c i = absurd i
    by nothing c i = absurd i

pub still_array : {S : Type 0} (state : S → TokensState) {b c : S} → c ≡ b → InArray (state b).expected → InArray (state c).expected
still_array {S = S} state e i = subst (λ (s : S). InArray (state s).expected) (sym e) i

-- ---- what the elements give

abbrev pub ahead : List Datum → Series → Series
ahead [] s = s
ahead (d ∷ ds) s = prepend_reading (gives d) (ahead ds s)

pub ahead-stops : (ds : List Datum) (c : ErrorCode) → ahead ds (stops c) ≡ stops c
ahead-stops [] c = refl
ahead-stops (d ∷ ds) c = ap (λ (s : Series). prepend_reading (gives d) s) (ahead-stops ds c)

pub ahead-gives : (ds es : List Datum) → ahead ds (gives_all es) ≡ gives_all (ds ++ es)
ahead-gives [] es = refl
ahead-gives (d ∷ ds) es = ap (λ (s : Series). prepend_reading (gives d) s) (ahead-gives ds es)

-- what gave a list before gives it first
pub split : (r : Reading) (s : Series) (ds : List Datum) → prepend_reading r s ≡ gives_all ds → (d : Datum) × (es : List Datum) × (r ≡ gives d) × (s ≡ gives_all es) × (ds ≡ d ∷ es)
split (refuses c) s ds e = cc
split (gives d) (stops c) ds e = cc
split (gives d) (gives_all es) ds e = (d, es, refl, refl, cc)

pub each-join : (f : Tree → Reading) (ts us : Trees) (ds : List Datum) → each f ts ≡ gives_all ds → each f (join ts us) ≡ ahead ds (each f us)
each-join f no_trees us ds e = let h : ds ≡ [] = cc in subst (λ (es : List Datum). each f us ≡ ahead es (each f us)) (sym h) refl
each-join f (tree_and t ts) us ds e =
    let p = split (f t) (each f ts) ds e in
    let q : each f (join ts us) ≡ ahead p.1 (each f us) = each-join f ts us p.1 p.3 in
    ap (λ (r : Reading). prepend_reading r (each f (join ts us))) p.2 ∙ ap (λ (s : Series). prepend_reading (gives p.0) s) q
    ∙ ap (λ (es : List Datum). ahead es (each f us)) (sym p.4)

pub more-gives : (f : Tree → Reading) (ts : Trees) (t : Tree) (ds : List Datum) (d : Datum)
    → each f ts ≡ gives_all ds → f t ≡ gives d → each f (join ts (tree_and t no_trees)) ≡ gives_all (ds ++ d ∷ [])
more-gives f ts t ds d e h = each-join f ts (tree_and t no_trees) ds e
    ∙ ap (λ (r : Reading). ahead ds (prepend_reading r (gives_all []))) h ∙ ahead-gives ds (d ∷ [])

pub stopped : (f : Tree → Reading) (ts us : Trees) (t : Tree) (ds : List Datum) (c : ErrorCode)
    → each f ts ≡ gives_all ds → f t ≡ refuses c → each f (join ts (tree_and t us)) ≡ stops c
stopped f ts us t ds c e h = each-join f ts (tree_and t us) ds e
    ∙ ap (λ (r : Reading). ahead ds (prepend_reading r (each f us))) h ∙ ahead-stops ds c
