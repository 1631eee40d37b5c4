-- Steps of a source, one after another.
use Rattle.std.proofs.Common.{◌≡◌, ℤ, List, [], ◌∷◌, ◌++◌, Option, Some, None, refl, sym, ◌∙◌, subst, append_assoc, arith, inl, inr, ◌⊎◌}
use Rattle.json_tokens.specs.declared.token.TokenKind.{TokenKind}
use Rattle.json_tokens.specs.declared.token.TokenKind.TheVariants.{BeginArray, EndArray, BeginObject, EndObject}
use Rattle.json_grammar.specs.Tree.{Tree, Token as Tok, tokens, begin, end, null_token, boolean_token, num_token, text_token, key_token}
use Rattle.json_grammar.specs.declared.Kind.TheVariants.{Array as array, Object as object}
use Rattle.json_tokens.specs.Kinds.{kind_of, first_kind, number_kind}
use Rattle.json_number.specs.Integers.{integer_in}
use Rattle.json_grammar.specs.TokenStates.{TokenState, after_token, state_after_value}
use Rattle.json_tokens.specs.ExpectedTokens.{KindMayCome}
use Rattle.json_tokens.specs.TokensStates.{TokensState, TakesTokens, Peeks, Moves, MatchesPeek, TakesTree, TakesOne}

pub joins : {S : Type 0} {taken : S → List Tok → Type 0} {a b c : S} {xs ys : List Tok} → TakesTokens taken a xs b → TakesTokens taken b ys c → TakesTokens taken a (xs ++ ys) c
joins {taken = taken} {c = c} {xs = xs} {ys = ys} h k = record { on = λ ts p. subst (λ (zs : List Tok). taken c zs) (append_assoc ts xs ys) (k.on (ts ++ xs) (h.on ts p)) }

pub peeked_before : {a b : TokensState} {k j : TokenKind} → Peeks a b k → MatchesPeek b j → MatchesPeek a j
peeked_before {a = a} {k = k} {j = j} p q = let e : j ≡ k = q.peeked k p.peeked in record {
  may = subst (λ (i : TokenKind). KindMayCome a.expected i) (sym e) p.may;
  peeked = λ i h. e ∙ p.again i h;
}

pub peek_moves : {a b c : TokensState} {k : TokenKind} {p : TokenState} → Peeks a b k → Moves b c p → Moves a c p
peek_moves h m = record { input = m.input ∙ h.input; expected = m.expected; peeked = m.peeked; left = omega (arith, h.left, m.left) }

-- a kind was peeked, and then a tree was taken
pub peek_tree : {S : Type 0} {taken : S → List Tok → Type 0} {state : S → TokensState} {a b c : S} {k : TokenKind} {t : Tree}
    → Peeks (state a) (state b) k → TakesTokens taken a [] b → TakesTree taken state b c t → TakesTree taken state a c t
peek_tree {taken = taken} {state = state} {a = a} {b = b} {c = c} {t = t} h z r = record {
  takes = joins z r.takes;
  moves = subst (λ (p : TokenState). Moves (state a) (state c) (state_after_value p)) h.expected (peek_moves h r.moves);
  as_peeked = peeked_before h r.as_peeked;
}

-- a tree of one token
pub scalar : {S : Type 0} {taken : S → List Tok → Type 0} {state : S → TokensState} {b c : S} {x : Tok} (t : Tree) (y : Tok)
    → x ≡ y → tokens t ≡ y ∷ [] → kind_of y ≡ first_kind t → after_token (state b).expected y ≡ state_after_value (state b).expected
    → TakesOne taken state b c x → TakesTree taken state b c t
scalar {taken = taken} {state = state} {b = b} {c = c} t y i e k p q =
    let r = subst (λ (z : Tok). TakesOne taken state b c z) i q in
    record {
      takes = subst (λ (xs : List Tok). TakesTokens taken b xs c) (sym e) r.takes;
      moves = subst (λ (q : TokenState). Moves (state b) (state c) q) p r.moves;
      as_peeked = subst (λ (j : TokenKind). MatchesPeek (state b) j) k r.as_peeked;
    }

-- by its kind
no_bracket : (o : Option ℤ) (k : TokenKind) → number_kind o ≡ k → (k ≡ BeginArray) ⊎ ((k ≡ EndArray) ⊎ ((k ≡ BeginObject) ⊎ (k ≡ EndObject))) → ⊥
no_bracket None k e (inl h) = cc
no_bracket None k e (inr (inl h)) = cc
no_bracket None k e (inr (inr (inl h))) = cc
no_bracket None k e (inr (inr (inr h))) = cc
no_bracket (Some n) k e (inl h) = cc
no_bracket (Some n) k e (inr (inl h)) = cc
no_bracket (Some n) k e (inr (inr (inl h))) = cc
no_bracket (Some n) k e (inr (inr (inr h))) = cc

pub is_begin : (x : Tok) → kind_of x ≡ BeginArray → x ≡ begin array
is_begin null_token e = cc
is_begin (boolean_token b) e = cc
is_begin (num_token l) e = absurd (no_bracket (integer_in l) BeginArray e (inl refl))
is_begin (text_token s) e = cc
is_begin (key_token s) e = cc
is_begin (begin array) e = refl
is_begin (begin object) e = cc
is_begin (end array) e = cc
is_begin (end object) e = cc

pub is_end : (x : Tok) → kind_of x ≡ EndArray → x ≡ end array
is_end null_token e = cc
is_end (boolean_token b) e = cc
is_end (num_token l) e = absurd (no_bracket (integer_in l) EndArray e (inr (inl refl)))
is_end (text_token s) e = cc
is_end (key_token s) e = cc
is_end (begin array) e = cc
is_end (begin object) e = cc
is_end (end array) e = refl
is_end (end object) e = cc

pub is_begin_object : (x : Tok) → kind_of x ≡ BeginObject → x ≡ begin object
is_begin_object null_token e = cc
is_begin_object (boolean_token b) e = cc
is_begin_object (num_token l) e = absurd (no_bracket (integer_in l) BeginObject e (inr (inr (inl refl))))
is_begin_object (text_token s) e = cc
is_begin_object (key_token s) e = cc
is_begin_object (begin array) e = cc
is_begin_object (begin object) e = refl
is_begin_object (end array) e = cc
is_begin_object (end object) e = cc
