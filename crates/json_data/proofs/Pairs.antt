-- The pairs of an object, taken one after another.
use Rattle.std.proofs.Common.{◌≡◌, ◌<◌, ◌⊎◌, inl, inr, ℕ, Bool, true, false, List, [], ◌∷◌, ◌++◌, refl, sym, ◌∙◌, ap, subst, append_assoc, arith}
use Rattle.std.proofs.lemmas.List.{append-nil}
use Rattle.json_grammar.specs.declared.Kind.{Kind}
use Rattle.json_grammar.specs.declared.Kind.TheVariants.{Array as array, Object as object}
use Rattle.json_grammar.specs.Tree.{Tree, Pairs, pairs, no_pairs, pair_and, tokens, pairs_tokens, Token as Tok, begin, end, key_token}
use Rattle.json_io.specs.declared.error.Error.{Error}
use Rattle.json_io.specs.declared.error.ErrorCode.{ErrorCode}
use Rattle.json_tokens.specs.declared.token.TokenKind.TheVariants.{BeginObject}
use Rattle.json_data.specs.Reading.{Reading, refuses}
use Rattle.json_tokens.specs.Refusals.{error_without_place, is_refusal}
use Rattle.json_data.specs.Reader.{ReadsTree, StopsReading, KeyReadingFails}
use Rattle.json_grammar.specs.TokenStates.{TokenState, Expected, a_value, element_or_end, name_or_end, nothing, state_in, state_after_value, after_token}
use Rattle.json_tokens.specs.ExpectedTokens.{around, InObject, BeforeName}
use Rattle.json_tokens.specs.TokensStates.{TokensState, TakesTokens, MatchesPeek, TakesTree, TakesOne, Leaves, RestOfContainer, TokensFail}
use Rattle.json_tokens.proofs.Steps.{joins}
use Rattle.json_data.proofs.Exits.{refusing, giving_up}

abbrev pub join_pairs : Pairs → Pairs → Pairs
join_pairs no_pairs qs = qs
join_pairs (pair_and k t ps) qs = pair_and k t (join_pairs ps qs)

pub tokens-join_pairs : (ps qs : Pairs) → pairs_tokens (join_pairs ps qs) ≡ pairs_tokens ps ++ pairs_tokens qs
tokens-join_pairs no_pairs qs = refl
tokens-join_pairs (pair_and k t ps) qs = ap (λ (xs : List Tok). key_token k ∷ (tokens t ++ xs)) (tokens-join_pairs ps qs) ∙ ap (λ (xs : List Tok). key_token k ∷ xs) (sym (append_assoc (tokens t) (pairs_tokens ps) (pairs_tokens qs)))

pub join-join_pairs : (ps qs rs : Pairs) → join_pairs (join_pairs ps qs) rs ≡ join_pairs ps (join_pairs qs rs)
join-join_pairs no_pairs qs rs = refl
join-join_pairs (pair_and k t ps) qs rs = ap (λ (us : Pairs). pair_and k t us) (join-join_pairs ps qs rs)

-- the source is in an object, after the pairs ps
pub record InPairs {S : Type 0} (taken : S → List Tok → Type 0) (state : S → TokensState) (a b : S) (ps : Pairs) : Type 0 where
  pub takes : TakesTokens taken a (begin object ∷ pairs_tokens ps) b
  pub input : (state b).input ≡ (state a).input
  pub expected : (state b).expected ≡ after_token (state a).expected (begin object)
  pub left : (state b).left < (state a).left
  pub as_peeked : MatchesPeek (state a) BeginObject

-- and after one more key
pub record InMember {S : Type 0} (taken : S → List Tok → Type 0) (state : S → TokensState) (a b : S) (ps : Pairs) (k : List ℕ) : Type 0 where
  pub takes : TakesTokens taken a (begin object ∷ (pairs_tokens ps ++ key_token k ∷ [])) b
  pub input : (state b).input ≡ (state a).input
  pub expected : (state b).expected ≡ record { opened = object ∷ (state a).expected.opened; expected = a_value }
  pub left : (state b).left < (state a).left
  pub as_peeked : MatchesPeek (state a) BeginObject

pub begun_pairs : {S : Type 0} {taken : S → List Tok → Type 0} {state : S → TokensState} {a c : S} → TakesOne taken state a c (begin object) → InPairs taken state a c no_pairs
begun_pairs r = record { takes = r.takes; input = r.moves.input; expected = r.moves.expected; left = r.moves.left; as_peeked = r.as_peeked }

pub ended_pairs : {S : Type 0} {taken : S → List Tok → Type 0} {state : S → TokensState} {a b c : S} {ps : Pairs}
    → InPairs taken state a b ps → TakesOne taken state b c (end object) → TakesTree taken state a c (pairs ps)
ended_pairs w r = record {
  takes = joins w.takes r.takes;
  moves = record { input = r.moves.input ∙ w.input; expected = r.moves.expected ∙ ap (λ (p : TokenState). around p) w.expected; peeked = r.moves.peeked; left = omega (arith, w.left, r.moves.left) };
  as_peeked = w.as_peeked;
}

pub one_key : {S : Type 0} {taken : S → List Tok → Type 0} {state : S → TokensState} {a b c : S} {ps : Pairs} {k : List ℕ}
    → InPairs taken state a b ps → TakesOne taken state b c (key_token k) → InMember taken state a c ps k
one_key {k = k} w r = record {
  takes = joins w.takes r.takes;
  input = r.moves.input ∙ w.input;
  expected = r.moves.expected ∙ ap (λ (p : TokenState). after_token p (key_token k)) w.expected;
  left = omega (arith, w.left, r.moves.left);
  as_peeked = w.as_peeked;
}

member-row : (ps : Pairs) (k : List ℕ) (t : Tree) → (pairs_tokens ps ++ key_token k ∷ []) ++ tokens t ≡ pairs_tokens (join_pairs ps (pair_and k t no_pairs))
member-row ps k t = append_assoc (pairs_tokens ps) (key_token k ∷ []) (tokens t) ∙ ap (λ (xs : List Tok). pairs_tokens ps ++ key_token k ∷ xs) (sym (append-nil (tokens t))) ∙ sym (tokens-join_pairs ps (pair_and k t no_pairs))

pub one_member : {S : Type 0} {taken : S → List Tok → Type 0} {state : S → TokensState} {a b c : S} {ps : Pairs} {k : List ℕ} {t : Tree}
    → InMember taken state a b ps k → TakesTree taken state b c t → InPairs taken state a c (join_pairs ps (pair_and k t no_pairs))
one_member {taken = taken} {a = a} {c = c} {ps = ps} {k = k} {t = t} w r = record {
  takes = subst (λ (xs : List Tok). TakesTokens taken a (begin object ∷ xs) c) (member-row ps k t) (joins w.takes r.takes);
  input = r.moves.input ∙ w.input;
  expected = r.moves.expected ∙ ap (λ (p : TokenState). state_after_value p) w.expected;
  left = omega (arith, w.left, r.moves.left);
  as_peeked = w.as_peeked;
}

pub leaves_pairs : {S : Type 0} {taken : S → List Tok → Type 0} {state : S → TokensState} {a b c : S} {ps : Pairs}
    → InPairs taken state a b ps → Leaves taken state b c → (qs : Pairs) × TakesTree taken state a c (pairs (join_pairs ps qs))
leaves_pairs {taken = taken} {state = state} {a = a} {b = b} {c = c} {ps = ps} w r =
    let rest : (qs : Pairs) × (r.rest ≡ pairs_tokens qs ++ end object ∷ []) = subst (λ (p : TokenState). RestOfContainer p r.rest) w.expected r.is_rest in
    let qs = rest.0 in
    let e : pairs_tokens ps ++ r.rest ≡ pairs_tokens (join_pairs ps qs) ++ end object ∷ [] =
    ap (λ (xs : List Tok). pairs_tokens ps ++ xs) rest.1 ∙ sym (append_assoc (pairs_tokens ps) (pairs_tokens qs) (end object ∷ []))
    ∙ ap (λ (xs : List Tok). xs ++ end object ∷ []) (sym (tokens-join_pairs ps qs)) in (
      qs,
      record {
        takes = subst (λ (xs : List Tok). TakesTokens taken a (begin object ∷ xs) c) e (joins w.takes r.takes);
        moves = record {
          input = r.moves.input ∙ w.input;
          expected = r.moves.expected ∙ ap (λ (p : TokenState). around p) w.expected;
          peeked = r.moves.peeked;
          left = omega (arith, w.left, r.moves.left);
        };
        as_peeked = w.as_peeked;
      },
    )

pub leaves_member : {S : Type 0} {taken : S → List Tok → Type 0} {state : S → TokensState} {a b c : S} {ps : Pairs} {k : List ℕ}
    → InMember taken state a b ps k → Leaves taken state b c → (t : Tree) × (qs : Pairs) × TakesTree taken state a c (pairs (join_pairs ps (pair_and k t qs)))
leaves_member {taken = taken} {state = state} {a = a} {b = b} {c = c} {ps = ps} {k = k} w r =
    let rest : (t : Tree) × (qs : Pairs) × (r.rest ≡ (tokens t ++ pairs_tokens qs) ++ end object ∷ []) = subst (λ (p : TokenState). RestOfContainer p r.rest) w.expected r.is_rest in
    let t = rest.0 in
    let qs = rest.1 in
    let e : (pairs_tokens ps ++ key_token k ∷ []) ++ r.rest ≡ pairs_tokens (join_pairs ps (pair_and k t qs)) ++ end object ∷ [] =
    append_assoc (pairs_tokens ps) (key_token k ∷ []) r.rest ∙ ap (λ (xs : List Tok). pairs_tokens ps ++ key_token k ∷ xs) rest.2
    ∙ sym (append_assoc (pairs_tokens ps) (pairs_tokens (pair_and k t qs)) (end object ∷ []))
    ∙ ap (λ (xs : List Tok). xs ++ end object ∷ []) (sym (tokens-join_pairs ps (pair_and k t qs))) in (
      t,
      qs,
      record {
        takes = subst (λ (xs : List Tok). TakesTokens taken a (begin object ∷ xs) c) e (joins w.takes r.takes);
        moves = record {
          input = r.moves.input ∙ w.input;
          expected = r.moves.expected ∙ ap (λ (p : TokenState). around p) w.expected;
          peeked = r.moves.peeked;
          left = omega (arith, w.left, r.moves.left);
        };
        as_peeked = w.as_peeked;
      },
    )

-- after a member it is in the object again
pub in_object_again : (p q r : TokenState) (k : List ℕ) → InObject p → q ≡ after_token p (key_token k) → r ≡ state_after_value q → InObject r
in_object_again p q r k i e h = subst (λ (s : TokenState). InObject s) (sym (h ∙ ap (λ (s : TokenState). state_after_value s) e)) (by p.expected p.opened i)
  where
    by : (e : Expected) (c : List Kind) → BeforeName e c → InObject (state_in c)
    by a_value c i = absurd i
    by element_or_end c i = absurd i
    by name_or_end [] i = absurd i
    by name_or_end (array ∷ c) i = absurd i
    by name_or_end (object ∷ c) i = tt
    by nothing c i = absurd i

-- ---- refusals

abbrev Left : {S : Type 0} → (S → List Tok → Type 0) → (S → TokensState) → S → S → Error → Error → Type 0
Left taken state c d e r = is_refusal e.code ≡ true → ((r ≡ e) × Leaves taken state c d) ⊎ TokensFail (state c) (state d) r

-- a key was refused, and then the object was left
stop_key_at : {S : Type 0} {taken : S → List Tok → Type 0} {state : S → TokensState} {h : Tree → Reading} {a b d : S} {ps : Pairs} {k : List ℕ} {e r : Error}
    → is_refusal e.code ≡ true → e ≡ error_without_place e.code → InMember taken state a b ps k
    → (((r ≡ e) × Leaves taken state b d) ⊎ TokensFail (state b) (state d) r)
    → ((t : Tree) (qs : Pairs) → h (pairs (join_pairs ps (pair_and k t qs))) ≡ refuses e.code)
    → StopsReading taken state h a d r
stop_key_at {taken = taken} {state = state} {h = h} {a = a} {d = d} p i w (inl y) q =
    let l = leaves_member w y.1 in
    subst (λ (z : Error). StopsReading taken state h a d z) (sym y.0) (refusing p i (record { tree = pairs (join_pairs _ (pair_and _ l.0 l.1)); takes = l.2; answer = q l.0 l.1 }))
stop_key_at p i w (inr y) q = giving_up (record { input = y.input ∙ w.input; no_refusal = y.no_refusal; cause = inr y.failed })

pub stop_key : {S : Type 0} {taken : S → List Tok → Type 0} {state : S → TokensState} {h : Tree → Reading} {a b d : S} {ps : Pairs} {k : List ℕ} {e r : Error}
    → is_refusal e.code ≡ true → e ≡ error_without_place e.code → InMember taken state a b ps k → Left taken state b d e r
    → ((t : Tree) (qs : Pairs) → h (pairs (join_pairs ps (pair_and k t qs))) ≡ refuses e.code)
    → StopsReading taken state h a d r
stop_key p i w l q = stop_key_at p i w (l p) q

-- a value was refused, or the source failed, and then the object was left
pub refused_member : {S : Type 0} {taken : S → List Tok → Type 0} {state : S → TokensState} {f h : Tree → Reading} {a b c d : S} {ps : Pairs} {k : List ℕ} {x : ErrorCode}
    → InMember taken state a b ps k → ReadsTree taken state f b c (refuses x) → Leaves taken state c d
    → ((t : Tree) (qs : Pairs) → f t ≡ refuses x → h (pairs (join_pairs ps (pair_and k t qs))) ≡ refuses x)
    → ReadsTree taken state h a d (refuses x)
refused_member {taken = taken} {state = state} {a = a} {d = d} {ps = ps} {k = k} w r l q =
    let p = leaves_pairs (one_member w r.takes) l in
    let e : join_pairs (join_pairs ps (pair_and k r.tree no_pairs)) p.0 ≡ join_pairs ps (pair_and k r.tree p.0) = join-join_pairs ps (pair_and k r.tree no_pairs) p.0 in
    record {
      tree = pairs (join_pairs ps (pair_and k r.tree p.0));
      takes = subst (λ (us : Pairs). TakesTree taken state a d (pairs us)) e p.1;
      answer = q r.tree p.0 r.answer;
    }

stop_member_at : {S : Type 0} {taken : S → List Tok → Type 0} {state : S → TokensState} {f h : Tree → Reading} {a b c d : S} {ps : Pairs} {k : List ℕ} {e r : Error}
    → (v : Bool) → is_refusal e.code ≡ v → InMember taken state a b ps k → StopsReading taken state f b c e → Left taken state c d e r
    → (is_refusal e.code ≡ false → (r ≡ e) × (d ≡ c))
    → ((t : Tree) (qs : Pairs) → f t ≡ refuses e.code → h (pairs (join_pairs ps (pair_and k t qs))) ≡ refuses e.code)
    → StopsReading taken state h a d r
stop_member_at {taken = taken} {state = state} {h = h} {a = a} {c = c} {d = d} {e = e} {r = r} true p w s l k q =
    let x = s.refused p in
    elim (l p) [
      | inl y ↦ subst (λ (z : Error). StopsReading taken state h a d z) (sym y.0) (refusing p x.0 (refused_member w x.1 y.1 q))
      | inr y ↦ giving_up (record { input = y.input ∙ x.1.takes.moves.input ∙ w.input; no_refusal = y.no_refusal; cause = inr y.failed })
    ]
stop_member_at {S = S} {taken = taken} {state = state} {h = h} {a = a} {c = c} {d = d} {e = e} {r = r} false p w s l k q =
    let x = s.gave_up p in
    let y = k p in
    let u : StopsReading taken state h a c e = giving_up (record { input = x.input ∙ w.input; no_refusal = x.no_refusal; cause = x.cause }) in
    subst (λ (z : Error). StopsReading taken state h a d z) (sym y.0) (subst (λ (z : S). StopsReading taken state h a z e) (sym y.1) u)

pub stop_member : {S : Type 0} {taken : S → List Tok → Type 0} {state : S → TokensState} {f h : Tree → Reading} {a b c d : S} {ps : Pairs} {k : List ℕ} {e r : Error}
    → InMember taken state a b ps k → StopsReading taken state f b c e → Left taken state c d e r
    → (is_refusal e.code ≡ false → (r ≡ e) × (d ≡ c))
    → ((t : Tree) (qs : Pairs) → f t ≡ refuses e.code → h (pairs (join_pairs ps (pair_and k t qs))) ≡ refuses e.code)
    → StopsReading taken state h a d r
stop_member {e = e} = stop_member_at (is_refusal e.code) refl

stop_key_when : {S : Type 0} {taken : S → List Tok → Type 0} {state : S → TokensState} {says : List ℕ → Type 0} {f : List ℕ → Reading} {h : Tree → Reading} {a b d : S} {ps : Pairs} {k : List ℕ} {e r : Error}
    → (v : Bool) → is_refusal e.code ≡ v → InMember taken state a b ps k → KeyReadingFails says f e → says k → Left taken state b d e r
    → (is_refusal e.code ≡ false → (r ≡ e) × (d ≡ b))
    → ((t : Tree) (qs : Pairs) → f k ≡ refuses e.code → h (pairs (join_pairs ps (pair_and k t qs))) ≡ refuses e.code)
    → StopsReading taken state h a d r
stop_key_when {k = k} true p w s y l i q = let x = s.refused p in stop_key p x.0 w l (λ t qs. q t qs (x.1 k y))
stop_key_when {S = S} {taken = taken} {state = state} {h = h} {a = a} {b = b} {d = d} {e = e} {r = r} false p w s y l i q =
    let x = i p in
    let u : StopsReading taken state h a b e = giving_up (record { input = w.input; no_refusal = p; cause = inl (s.gave_up p) }) in
    subst (λ (z : Error). StopsReading taken state h a d z) (sym x.0) (subst (λ (z : S). StopsReading taken state h a z e) (sym x.1) u)

-- no key was made, and then the object was left
pub stop_key_of : {S : Type 0} {taken : S → List Tok → Type 0} {state : S → TokensState} {says : List ℕ → Type 0} {f : List ℕ → Reading} {h : Tree → Reading} {a b d : S} {ps : Pairs} {k : List ℕ} {e r : Error}
    → InMember taken state a b ps k → KeyReadingFails says f e → says k → Left taken state b d e r
    → (is_refusal e.code ≡ false → (r ≡ e) × (d ≡ b))
    → ((t : Tree) (qs : Pairs) → f k ≡ refuses e.code → h (pairs (join_pairs ps (pair_and k t qs))) ≡ refuses e.code)
    → StopsReading taken state h a d r
stop_key_of {e = e} = stop_key_when (is_refusal e.code) refl
