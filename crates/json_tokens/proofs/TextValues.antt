-- A value of a text is taken.
use Rattle.std.proofs.Common.{◌≡◌, ◌∙◌, ◌≤◌, ◌⊎◌, inl, inr, List, [], ◌∷◌, ◌++◌, length, true, Option, Some, None, refl, sym, ap, subst, arith}
use Rattle.std.proofs.lemmas.List.{append-nil}
use Rattle.json_grammar.specs.declared.Kind.TheVariants.{Array as array, Object as object}
use Rattle.json_grammar.specs.Tree.{Tree, Token as Tok, null_token, boolean_token, num_token, text_token, begin, end, key_token, tokens}
use Rattle.json_doc.specs.declared.doc.Doc.{Doc}
use Rattle.json_doc.specs.Docs.{IsDocOf, doc_tree, doc_root, doc_cells, doc_text}
use Rattle.json_doc.proofs.Trees.{spelled}
use Rattle.json_doc.specs.OneValue.{TokenBeginsValue, HandedOut, ReadsValue, RefusesValue}
use Rattle.json_doc.proofs.ValueRecording.{means_one}
use Rattle.json_io.specs.declared.error.Error.{Error}
use Rattle.json_text.specs.declared.event.Event.{Event}
use Rattle.json_io.specs.Errors.{no_memory}
use Rattle.json_text.specs.Parsing.{ParserState, HasGiven, SameInput}
use Rattle.json_tokens.specs.declared.token.TokenKind.{TokenKind}
use Rattle.json_tokens.specs.Kinds.{kind_of, first_kind}
use Rattle.json_grammar.specs.TokenStates.{TokenState, after_tokens, state_after_value, initial_state}
use Rattle.json_tokens.specs.ExpectedTokens.{begins_value, KindMayCome}
use Rattle.json_tokens.specs.TokensStates.{over_text, WantsValueAt, FirstIs, TakesTokens, Peeks, TakesTree}
use Rattle.json_tokens.specs.Text.{TextTokensState, TakenBefore, text_taken, text_tokens_state, event_kind, TextFails}
use Rattle.json_grammar.proofs.TokenStates.{after_append, after_tree}
use Rattle.json_tokens.proofs.Events.{place_is, expected_back, same_kind}
use Rattle.json_tokens.proofs.Passing.{first_tree, wants}
use Rattle.json_tokens.proofs.ValueFaults.{has_fault}

-- a token of such a kind is no name and no end
begins_one : (x : Tok) → begins_value (kind_of x) ≡ true → TokenBeginsValue x
begins_one null_token e = tt
begins_one (boolean_token b) e = tt
begins_one (num_token l) e = tt
begins_one (text_token s) e = tt
begins_one (begin k) e = tt
begins_one (end array) e = absurd (cc)
begins_one (end object) e = absurd (cc)
begins_one (key_token s) e = absurd (cc)

-- where a value is wanted, the event that was peeked begins one
pub handed_out : (a : TextTokensState) (p : ParserState) (e : Event) (k : TokenKind) (f : Option Error) → (ts : List Tok) × TakenBefore (Some e) p ts → p.failure ≡ None
    → WantsValueAt (text_tokens_state a).expected (text_tokens_state a).peeked → Peeks (text_tokens_state a) (text_tokens_state (record { parser = p; ahead = Some e; failed = f })) k → HandedOut p e
handed_out a p e k f (ts, (x, m, g)) n w h =
    let i : event_kind e ≡ k = let u : Some (event_kind e) ≡ Some k = h.peeked in cc in
    record {
      token = x;
      means = m;
      begins = begins_one x (ap begins_value (same_kind e x m ∙ i) ∙ wants (text_tokens_state a).expected (text_tokens_state a).peeked k w h.may h.again);
      before = ts;
      given = g;
      unfailed = n;
    }

-- the tokens of the tree were taken, the one that was peeked among them
pub takes_value : (a : TextTokensState) (p q : ParserState) (f g : Option Error) (e : Event) (k : TokenKind) (t : Tree) → (ts : List Tok) × TakenBefore (Some e) p ts
    → Peeks (text_tokens_state a) (text_tokens_state (record { parser = p; ahead = Some e; failed = f })) k → TakesTokens text_taken a [] (record { parser = p; ahead = Some e; failed = f })
    → SameInput p q → p.index ≤ q.index → ReadsValue p e t q → TakesTree text_taken text_tokens_state a (record { parser = q; ahead = None; failed = g }) t
takes_value a p q f g e k t (us, (x, m, i)) h z same order r =
    let inputs : over_text q.text q.start q.lossy q.limit ≡ over_text p.text p.start p.lossy p.limit = rw (same.text, same.start, same.lossy, same.limit) in
    let s : (text_tokens_state a).expected ≡ after_tokens initial_state us = sym h.expected ∙ expected_back p e us x m i in
    let on : (ts : List Tok) → TakenBefore (Some e) p ts → HasGiven q (ts ++ tokens t) = λ ts b.
    r.goes ts (subst (λ (y : Tok). HasGiven p (ts ++ y ∷ [])) (means_one e b.0 r.token b.1 r.means) b.2) in
    let j : first_kind t ≡ k =
    sym (subst (λ (xs : List Tok). FirstIs xs (first_kind t)) r.begins (first_tree t)) ∙ same_kind e r.token r.means ∙ (let u : Some (event_kind e) ≡ Some k = h.peeked in cc) in
    record {
      takes = record { on = λ ts b. on ts (subst (TakenBefore (Some e) p) (append-nil ts) (z.on ts b)) };
      moves = record {
        input = inputs ∙ h.input;
        expected = place_is q (us ++ tokens t) (on us (x, m, i)) ∙ after_append initial_state us (tokens t) ∙ after_tree (after_tokens initial_state us) t ∙ ap (λ (p : TokenState). state_after_value p) (sym s);
        peeked = refl;
        left = let l = h.left in omega (arith, ap length same.text);
      };
      as_peeked = record { may = subst (λ (i : TokenKind). KindMayCome (text_tokens_state a).expected i) (sym j) h.may; peeked = λ o b. j ∙ h.again o b };
    }

-- why a value was not packed
pub value_fails : (p : ParserState) (e : Error) → (e ≡ no_memory) ⊎ RefusesValue p e → TextFails p e
value_fails p e (inl m) = inl m
value_fails p e (inr r) = inr (has_fault p e r.due r.in_value)

-- the tree at the root of a document
pub root_is : (d : Doc) (t : Tree) → IsDocOf d t → doc_tree d (doc_root d) ≡ t
root_is d t h = spelled (doc_cells d) (doc_text d) d.in_place (doc_root d) (length (doc_cells d)) t h.spelled
