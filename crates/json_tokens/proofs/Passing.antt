-- Tokens that are passed over, up to the end of a container.
use Rattle.std.proofs.Common.{◌≡◌, ◌≢◌, ◌∙◌, ◌⊎◌, inl, inr, ℕ, ℤ, ◌≤◌, List, [], ◌∷◌, ◌++◌, true, Option, Some, None, refl, sym, ap, subst, append_assoc, arith}
use Rattle.std.proofs.lemmas.List.{append-nil}
use Rattle.json_grammar.specs.declared.Kind.{Kind}
use Rattle.json_grammar.specs.declared.Kind.TheVariants.{Array as array, Object as object}
use Rattle.json_grammar.specs.Tree.{Tree, null, boolean, num, text, list, pairs, Trees, no_trees, tree_and, Pairs, no_pairs, pair_and, Token as Tok, null_token, boolean_token, num_token, text_token, begin, end, key_token, tokens, trees_tokens, pairs_tokens}
use Rattle.json_number.specs.Integers.{integer_in}
use Rattle.json_tokens.specs.declared.token.TokenKind.{TokenKind}
use Rattle.json_tokens.specs.declared.token.TokenKind.TheVariants as kind
use Rattle.json_tokens.specs.Kinds.{kind_of, first_kind, number_kind}
use Rattle.json_grammar.specs.TokenStates.{TokenState, Expected, a_value, element_or_end, name_or_end, nothing, state_in, state_after_value, after_token, NameMayCome, EndMayCome}
use Rattle.json_tokens.specs.ExpectedTokens.{around, KindMayCome, begins_value, WithinContainer, IsOpen}
use Rattle.json_tokens.specs.TokensStates.{TokensState, TakesTokens, Peeks, TakesTree, TakesOne, Leaves, RestOfContainer, RestAt, FirstIs, IsPeekedValue, WantsAt, WantsValueAt}
use Rattle.json_tokens.proofs.Steps.{joins, scalar}

-- in an object, after a name
abbrev pub named : List Kind → TokenState
named c = record { opened = object ∷ c; expected = a_value }

-- from p the tokens lead to a state in the same container
pub data Passing (p : TokenState) : List Tok → TokenState → Type 0 where
  here : Passing p [] p
  one_element : {xs : List Tok} {c : List Kind} → Passing p xs (state_in (array ∷ c)) → (t : Tree) → Passing p (xs ++ tokens t) (state_in (array ∷ c))
  one_key : {xs : List Tok} {c : List Kind} → Passing p xs (state_in (object ∷ c)) → (k : List ℕ) → Passing p (xs ++ key_token k ∷ []) (named c)
  one_member : {xs : List Tok} {c : List Kind} → Passing p xs (named c) → (t : Tree) → Passing p (xs ++ tokens t) (state_in (object ∷ c))

pub rest_of : {p : TokenState} {xs : List Tok} {q : TokenState} → Passing p xs q → (ys : List Tok) → RestOfContainer q ys → RestOfContainer p (xs ++ ys)
rest_of here ys r = r
rest_of {p} (one_element {xs = xs} h t) ys (ts, e) =
    subst (RestOfContainer p) (sym (append_assoc xs (tokens t) ys))
    (rest_of h (tokens t ++ ys) (tree_and t ts, ap (λ (zs : List Tok). tokens t ++ zs) e ∙ sym (append_assoc (tokens t) (trees_tokens ts) (end array ∷ []))))
rest_of {p} (one_key {xs = xs} h k) ys (t, ps, e) =
    subst (RestOfContainer p) (sym (append_assoc xs (key_token k ∷ []) ys)) (rest_of h (key_token k ∷ ys) (pair_and k t ps, ap (λ (zs : List Tok). key_token k ∷ zs) e))
rest_of {p} (one_member {xs = xs} h t) ys (ps, e) =
    subst (RestOfContainer p) (sym (append_assoc xs (tokens t) ys))
    (rest_of h (tokens t ++ ys) (t, ps, ap (λ (zs : List Tok). tokens t ++ zs) e ∙ sym (append_assoc (tokens t) (pairs_tokens ps) (end object ∷ []))))

around_same : {p : TokenState} {xs : List Tok} {q : TokenState} → Passing p xs q → around q ≡ around p
around_same here = refl
around_same (one_element h t) = around_same h
around_same (one_key h k) = around_same h
around_same (one_member h t) = around_same h

-- the first of them has the kind k, or where there is none it was peeked
abbrev pub First : List Tok → Option TokenKind → TokenKind → Type 0
First [] o k = o ≡ Some k
First (x ∷ xs) o k = kind_of x ≡ k

-- what was passed between a and b
pub record Passed {S : Type 0} (taken : S → List Tok → Type 0) (state : S → TokensState) (a b : S) : Type 0 where
  pub xs : List Tok
  pub path : Passing (state a).expected xs (state b).expected
  pub open_there : IsOpen (state b).expected
  pub takes : TakesTokens taken a xs b
  pub input : (state b).input ≡ (state a).input
  pub unfailed : (state b).failed ≡ None
  pub left : (state b).left ≤ (state a).left
  pub first : (k : TokenKind) → (state a).peeked ≡ Some k → First xs (state b).peeked k

pub passed_none : {S : Type 0} {taken : S → List Tok → Type 0} {state : S → TokensState} (a : S) → IsOpen (state a).expected → (state a).failed ≡ None → Passed taken state a a
passed_none {taken = taken} a o u = record {
  xs = [];
  path = here;
  open_there = o;
  takes = record { on = λ ts t. subst (taken a) (sym (append-nil ts)) t };
  input = refl;
  unfailed = u;
  left = omega arith;
  first = λ k e. e;
}

-- a peeked token is taken
pub peek_one : {S : Type 0} {taken : S → List Tok → Type 0} {state : S → TokensState} {a b c : S} {k : TokenKind} {x : Tok}
    → Peeks (state a) (state b) k → TakesTokens taken a [] b → TakesOne taken state b c x → TakesOne taken state a c x × (kind_of x ≡ k)
peek_one {taken = taken} {state = state} {a = a} {b = b} {c = c} {k = k} {x = x} h z r =
    let e : kind_of x ≡ k = r.as_peeked.peeked k h.peeked in
    let m = r.moves in (
      record {
        takes = joins z r.takes;
        moves = record { input = m.input ∙ h.input; expected = m.expected ∙ ap (λ (p : TokenState). after_token p x) h.expected; peeked = m.peeked; left = omega (arith, h.left, m.left) };
        as_peeked = record { may = subst (λ (i : TokenKind). KindMayCome (state a).expected i) (sym e) h.may; peeked = λ i t. e ∙ h.again i t };
      },
      e,
    )

first_append : (xs ys : List Tok) (o : Option TokenKind) (k : TokenKind) → First xs o k → (o ≡ Some k → FirstIs ys k) → FirstIs (xs ++ ys) k
first_append [] ys o k f g = g f
first_append (x ∷ xs) ys o k f g = f

first_more : (zs : List Tok) (o : Option TokenKind) (k : TokenKind) → FirstIs zs k → First zs o k
first_more [] o k f = absurd f
first_more (z ∷ zs) o k f = f

pub first_tree : (t : Tree) → FirstIs (tokens t) (first_kind t)
first_tree null = refl
first_tree (boolean b) = refl
first_tree (num l) = refl
first_tree (text s) = refl
first_tree (list ts) = refl
first_tree (pairs ps) = refl

value_first : (t : Tree) → (first_kind t ≢ kind.Key) × (first_kind t ≢ kind.EndObject)
value_first null = (λ e. cc, λ e. cc)
value_first (boolean b) = (λ e. cc, λ e. cc)
value_first (num l) = by (integer_in l)
  where
    by : (o : Option ℤ) → (number_kind o ≢ kind.Key) × (number_kind o ≢ kind.EndObject)
    by None = (λ e. cc, λ e. cc)
    by (Some n) = (λ e. cc, λ e. cc)
value_first (text s) = (λ e. cc, λ e. cc)
value_first (list ts) = (λ e. cc, λ e. cc)
value_first (pairs ps) = (λ e. cc, λ e. cc)

key_kinds : (c : List Kind) (k : TokenKind) → KindMayCome (record { opened = c; expected = name_or_end }) k → (k ≡ kind.Key) ⊎ (k ≡ kind.EndObject)
key_kinds c kind.Key m = inl refl
key_kinds c kind.EndObject m = inr refl
key_kinds c kind.Null m = absurd m
key_kinds c kind.Bool m = absurd m
key_kinds c kind.Int m = absurd m
key_kinds c kind.Raw m = absurd m
key_kinds c kind.Text m = absurd m
key_kinds c kind.BeginArray m = absurd m
key_kinds c kind.EndArray m = absurd m
key_kinds c kind.BeginObject m = absurd m

value_path : {p : TokenState} {xs : List Tok} (q : TokenState) → Passing p xs q → IsOpen q → (t : Tree) → KindMayCome q (first_kind t) → Passing p (xs ++ tokens t) (state_after_value q) × IsOpen (state_after_value q)
value_path {p = p} {xs = xs} q h o t m = by q.expected q.opened h o m
  where
    no_value : (first_kind t ≡ kind.Key) ⊎ (first_kind t ≡ kind.EndObject) → ⊥
    no_value (inl e) = (value_first t).0 e
    no_value (inr e) = (value_first t).1 e

    by : (e : Expected) (c : List Kind) → Passing p xs (record { opened = c; expected = e }) → WithinContainer e c → KindMayCome (record { opened = c; expected = e }) (first_kind t) → Passing p (xs ++ tokens t) (state_in c) × IsOpen (state_in c)
    by a_value [] h o m = absurd o
    by a_value (array ∷ c) h o m = absurd o
    by a_value (object ∷ c) h o m = (one_member h t, tt)
    by element_or_end [] h o m = absurd o
    by element_or_end (array ∷ c) h o m = (one_element h t, tt)
    by element_or_end (object ∷ c) h o m = absurd o
    by name_or_end c h o m = absurd (no_value (key_kinds c (first_kind t) m))
    by nothing c h o m = absurd o

-- a tree more
pub passed_tree : {S : Type 0} {taken : S → List Tok → Type 0} {state : S → TokensState} {a b c : S} {t : Tree} → Passed taken state a b → TakesTree taken state b c t → (state c).failed ≡ None → Passed taken state a c
passed_tree {taken = taken} {state = state} {a = a} {b = b} {c = c} {t = t} w r u =
    let m = r.moves in
    let h = value_path (state b).expected w.path w.open_there t r.as_peeked.may in
    record {
      xs = w.xs ++ tokens t;
      path = subst (λ (q : TokenState). Passing (state a).expected (w.xs ++ tokens t) q) (sym m.expected) h.0;
      open_there = subst IsOpen (sym m.expected) h.1;
      takes = joins w.takes r.takes;
      input = m.input ∙ w.input;
      unfailed = u;
      left = omega (arith, w.left, m.left);
      first = λ k e. first_more (w.xs ++ tokens t) (state c).peeked k (first_append w.xs (tokens t) (state b).peeked k (w.first k e) (λ f. subst (FirstIs (tokens t)) (r.as_peeked.peeked k f) (first_tree t)));
    }

key_path : {p : TokenState} {xs : List Tok} (q : TokenState) → Passing p xs q → IsOpen q → (s : List ℕ) → KindMayCome q kind.Key → Passing p (xs ++ key_token s ∷ []) (after_token q (key_token s)) × IsOpen (after_token q (key_token s))
key_path {p = p} {xs = xs} q h o s m = by q.expected q.opened h o m
  where
    by : (e : Expected) (c : List Kind) → Passing p xs (record { opened = c; expected = e }) → WithinContainer e c → NameMayCome e → Passing p (xs ++ key_token s ∷ []) (record { opened = c; expected = a_value }) × WithinContainer a_value c
    by a_value c h o m = absurd m
    by element_or_end c h o m = absurd m
    by name_or_end [] h o m = absurd o
    by name_or_end (array ∷ c) h o m = absurd o
    by name_or_end (object ∷ c) h o m = (one_key h s, tt)
    by nothing c h o m = absurd m

-- a key more
passed_key : {S : Type 0} {taken : S → List Tok → Type 0} {state : S → TokensState} {a b c : S} {s : List ℕ} → Passed taken state a b → TakesOne taken state b c (key_token s) → (state c).failed ≡ None → Passed taken state a c
passed_key {taken = taken} {state = state} {a = a} {b = b} {c = c} {s = s} w r u =
    let m = r.moves in
    let h = key_path (state b).expected w.path w.open_there s r.as_peeked.may in
    record {
      xs = w.xs ++ key_token s ∷ [];
      path = subst (λ (q : TokenState). Passing (state a).expected (w.xs ++ key_token s ∷ []) q) (sym m.expected) h.0;
      open_there = subst IsOpen (sym m.expected) h.1;
      takes = joins w.takes r.takes;
      input = m.input ∙ w.input;
      unfailed = u;
      left = omega (arith, w.left, m.left);
      first = λ k e. first_more (w.xs ++ key_token s ∷ []) (state c).peeked k (first_append w.xs (key_token s ∷ []) (state b).peeked k (w.first k e) (λ f. r.as_peeked.peeked k f));
    }

-- a token that is no bracket
pub passed_one : {S : Type 0} {taken : S → List Tok → Type 0} {state : S → TokensState} {a b c : S} (x : Tok) → Passed taken state a b → TakesOne taken state b c x
    → kind_of x ≢ kind.BeginArray → kind_of x ≢ kind.BeginObject → kind_of x ≢ kind.EndArray → kind_of x ≢ kind.EndObject → (state c).failed ≡ None → Passed taken state a c
passed_one null_token w r f g i j u = passed_tree w (scalar null null_token refl refl refl refl r) u
passed_one (boolean_token b) w r f g i j u = passed_tree w (scalar (boolean b) (boolean_token b) refl refl refl refl r) u
passed_one (num_token l) w r f g i j u = passed_tree w (scalar (num l) (num_token l) refl refl refl refl r) u
passed_one (text_token s) w r f g i j u = passed_tree w (scalar (text s) (text_token s) refl refl refl refl r) u
passed_one (begin array) w r f g i j u = absurd (f refl)
passed_one (begin object) w r f g i j u = absurd (g refl)
passed_one (end array) w r f g i j u = absurd (i refl)
passed_one (end object) w r f g i j u = absurd (j refl)
passed_one (key_token s) w r f g i j u = passed_key w r u

-- a container, whole
pub whole_container : {S : Type 0} {taken : S → List Tok → Type 0} {state : S → TokensState} {a b c : S} (x : Tok) → (kind_of x ≡ kind.BeginArray) ⊎ (kind_of x ≡ kind.BeginObject) → TakesOne taken state a b x → Leaves taken state b c
    → (t : Tree) × TakesTree taken state a c t
whole_container {taken = taken} {state = state} {a = a} {b = b} {c = c} (begin array) e r l =
    let m = r.moves in
    let n = l.moves in
    let i : (ts : Trees) × (l.rest ≡ trees_tokens ts ++ end array ∷ []) = subst (λ (p : TokenState). RestOfContainer p l.rest) m.expected l.is_rest in (
      list i.0,
      record {
        takes = subst (λ (ys : List Tok). TakesTokens taken a (begin array ∷ ys) c) i.1 (joins r.takes l.takes);
        moves = record { input = n.input ∙ m.input; expected = n.expected ∙ ap (λ (p : TokenState). around p) m.expected; peeked = n.peeked; left = omega (arith, m.left, n.left) };
        as_peeked = r.as_peeked;
      },
    )
whole_container {taken = taken} {state = state} {a = a} {b = b} {c = c} (begin object) e r l =
    let m = r.moves in
    let n = l.moves in
    let i : (ps : Pairs) × (l.rest ≡ pairs_tokens ps ++ end object ∷ []) = subst (λ (p : TokenState). RestOfContainer p l.rest) m.expected l.is_rest in (
      pairs i.0,
      record {
        takes = subst (λ (ys : List Tok). TakesTokens taken a (begin object ∷ ys) c) i.1 (joins r.takes l.takes);
        moves = record { input = n.input ∙ m.input; expected = n.expected ∙ ap (λ (p : TokenState). around p) m.expected; peeked = n.peeked; left = omega (arith, m.left, n.left) };
        as_peeked = r.as_peeked;
      },
    )
whole_container null_token (inl e) r l = absurd (cc)
whole_container null_token (inr e) r l = absurd (cc)
whole_container (boolean_token b) (inl e) r l = absurd (cc)
whole_container (boolean_token b) (inr e) r l = absurd (cc)
whole_container (num_token n) e r l = absurd (no_begin (integer_in n) e)
  where
    no_begin : (o : Option ℤ) → (number_kind o ≡ kind.BeginArray) ⊎ (number_kind o ≡ kind.BeginObject) → ⊥
    no_begin None (inl e) = cc
    no_begin None (inr e) = cc
    no_begin (Some n) (inl e) = cc
    no_begin (Some n) (inr e) = cc
whole_container (text_token s) (inl e) r l = absurd (cc)
whole_container (text_token s) (inr e) r l = absurd (cc)
whole_container (end array) (inl e) r l = absurd (cc)
whole_container (end array) (inr e) r l = absurd (cc)
whole_container (end object) (inl e) r l = absurd (cc)
whole_container (end object) (inr e) r l = absurd (cc)
whole_container (key_token s) (inl e) r l = absurd (cc)
whole_container (key_token s) (inr e) r l = absurd (cc)

-- the end follows
end_array : (e : Expected) (c : List Kind) → EndMayCome e array → RestAt e c (end array ∷ [])
end_array a_value c m = absurd m
end_array element_or_end c m = (no_trees, refl)
end_array name_or_end c m = absurd m
end_array nothing c m = absurd m

end_object : (e : Expected) (c : List Kind) → EndMayCome e object → RestAt e c (end object ∷ [])
end_object a_value c m = absurd m
end_object element_or_end c m = absurd m
end_object name_or_end c m = (no_pairs, refl)
end_object nothing c m = absurd m

end_rest : (q : TokenState) (x : Tok) → (kind_of x ≡ kind.EndArray) ⊎ (kind_of x ≡ kind.EndObject) → KindMayCome q (kind_of x) → RestOfContainer q (x ∷ []) × (after_token q x ≡ around q)
end_rest q (end array) e m = (end_array q.expected q.opened m, refl)
end_rest q (end object) e m = (end_object q.expected q.opened m, refl)
end_rest q null_token (inl e) m = absurd (cc)
end_rest q null_token (inr e) m = absurd (cc)
end_rest q (boolean_token b) (inl e) m = absurd (cc)
end_rest q (boolean_token b) (inr e) m = absurd (cc)
end_rest q (num_token n) e m = absurd (no_end (integer_in n) e)
  where
    no_end : (o : Option ℤ) → (number_kind o ≡ kind.EndArray) ⊎ (number_kind o ≡ kind.EndObject) → ⊥
    no_end None (inl e) = cc
    no_end None (inr e) = cc
    no_end (Some n) (inl e) = cc
    no_end (Some n) (inr e) = cc
end_rest q (text_token s) (inl e) m = absurd (cc)
end_rest q (text_token s) (inr e) m = absurd (cc)
end_rest q (begin array) (inl e) m = absurd (cc)
end_rest q (begin array) (inr e) m = absurd (cc)
end_rest q (begin object) (inl e) m = absurd (cc)
end_rest q (begin object) (inr e) m = absurd (cc)
end_rest q (key_token s) (inl e) m = absurd (cc)
end_rest q (key_token s) (inr e) m = absurd (cc)

pub passed_end : {S : Type 0} {taken : S → List Tok → Type 0} {state : S → TokensState} {a b c : S} (x : Tok) → (kind_of x ≡ kind.EndArray) ⊎ (kind_of x ≡ kind.EndObject) → Passed taken state a b → TakesOne taken state b c x
    → Leaves taken state a c
passed_end {taken = taken} {state = state} {a = a} {b = b} {c = c} x e w r =
    let m = r.moves in
    let h = end_rest (state b).expected x e r.as_peeked.may in
    record {
      rest = w.xs ++ x ∷ [];
      is_rest = rest_of w.path (x ∷ []) h.0;
      as_peeked = λ k f. first_append w.xs (x ∷ []) (state b).peeked k (w.first k f) (λ i. r.as_peeked.peeked k i);
      takes = joins w.takes r.takes;
      moves = record { input = m.input ∙ w.input; expected = m.expected ∙ h.1 ∙ around_same w.path; peeked = m.peeked; left = omega (arith, w.left, m.left) };
    }

-- ---- one value

pub wants : (p : TokenState) (o : Option TokenKind) (k : TokenKind) → WantsValueAt p o → KindMayCome p k → ((j : TokenKind) → o ≡ Some j → k ≡ j) → begins_value k ≡ true
wants p o k w m t = by p.expected w m
  where
    value_only : (k : TokenKind) → KindMayCome (record { opened = p.opened; expected = a_value }) k → begins_value k ≡ true
    value_only kind.Null m = refl
    value_only kind.Bool m = refl
    value_only kind.Int m = refl
    value_only kind.Raw m = refl
    value_only kind.Text m = refl
    value_only kind.Key m = absurd m
    value_only kind.BeginArray m = refl
    value_only kind.EndArray m = absurd m
    value_only kind.BeginObject m = refl
    value_only kind.EndObject m = absurd m

    as_told : (o : Option TokenKind) → IsPeekedValue o → ((j : TokenKind) → o ≡ Some j → k ≡ j) → begins_value k ≡ true
    as_told None w t = absurd w
    as_told (Some j) w t = subst (λ (i : TokenKind). begins_value i ≡ true) (sym (t j refl)) w

    by : (e : Expected) → WantsAt e o → KindMayCome (record { opened = p.opened; expected = e }) k → begins_value k ≡ true
    by a_value w m = value_only k m
    by element_or_end w m = as_told o w t
    by name_or_end w m = absurd w
    by nothing w m = absurd w

pub whole_scalar : {S : Type 0} {taken : S → List Tok → Type 0} {state : S → TokensState} {a c : S} (x : Tok) → TakesOne taken state a c x
    → kind_of x ≢ kind.BeginArray → kind_of x ≢ kind.BeginObject → begins_value (kind_of x) ≡ true → (t : Tree) × TakesTree taken state a c t
whole_scalar null_token r f g b = (null, scalar null null_token refl refl refl refl r)
whole_scalar (boolean_token v) r f g b = (boolean v, scalar (boolean v) (boolean_token v) refl refl refl refl r)
whole_scalar (num_token l) r f g b = (num l, scalar (num l) (num_token l) refl refl refl refl r)
whole_scalar (text_token s) r f g b = (text s, scalar (text s) (text_token s) refl refl refl refl r)
whole_scalar (begin array) r f g b = absurd (f refl)
whole_scalar (begin object) r f g b = absurd (g refl)
whole_scalar (end array) r f g b = absurd (cc)
whole_scalar (end object) r f g b = absurd (cc)
whole_scalar (key_token s) r f g b = absurd (cc)
