-- The literals that are read are numbers.
use Rattle.std.proofs.Common.{◌≡◌, Bool, true, false, ℕ, List, [], ◌∷◌, ◌++◌, refl, sym, ◌∙◌}
use Rattle.std.proofs.lemmas.Grind.{not_there}
use Rattle.json_grammar.specs.declared.Kind.{Kind}
use Rattle.json_grammar.specs.declared.ExpectedPart.{ExpectedPart}
use Rattle.json_grammar.specs.Tree.{Tree, null, boolean, num, text, list, pairs, Trees, no_trees, tree_and, Pairs, no_pairs, pair_and, Token, null_token, boolean_token, num_token, text_token, begin, end, key_token, tokens, trees_tokens, pairs_tokens}
use Rattle.json_grammar.specs.Grammar.{number, value, elements, more_elements, members, more_members}
use Rattle.json_grammar.specs.NumberStates.{at_start, number_run, is_whole_number}
use Rattle.json_grammar.specs.Place.{reading, start, open_one, read_value, read_comma, read_key, read_colon}
use Rattle.json_grammar.proofs.NumberRuns.{number_ends}
use Rattle.json_grammar.proofs.NumberScan.{number_by_state, ended_whole}

-- whether some bytes are a number is decidable
pub number_had : (l : List ℕ) → ∥ number l ∥₁ → number l
number_had l h = told (is_whole_number (number_run at_start l)) refl
  where
    told : (b : Bool) → is_whole_number (number_run at_start l) ≡ b → number l
    told true e = number_by_state l e
    told false e = absurd (not_there h (λ n. let both : true ≡ false = sym (ended_whole (number_run at_start l) (number_ends l n)) ∙ e in absurd (cc)))

-- ---- the tokens of a text

-- where the token is of a number, its literal is a number
Numeric : Token → Type 0
Numeric null_token = Unit {0}
Numeric (boolean_token b) = Unit {0}
Numeric (num_token l) = number l
Numeric (text_token s) = Unit {0}
Numeric (begin k) = Unit {0}
Numeric (end k) = Unit {0}
Numeric (key_token s) = Unit {0}

AllNumeric : List Token → Type 0
AllNumeric [] = Unit {0}
AllNumeric (x ∷ ts) = Numeric x × AllNumeric ts

numeric_append : (ts us : List Token) → AllNumeric ts → AllNumeric us → AllNumeric (ts ++ us)
unfolding AllNumeric
numeric_append [] us h k = k
numeric_append (x ∷ ts) us h k = (h.0, numeric_append ts us h.1 k)

numeric_last : (ts : List Token) (x : Token) → AllNumeric (ts ++ x ∷ []) → Numeric x
unfolding AllNumeric
numeric_last [] x h = h.0
numeric_last (y ∷ ts) x h = numeric_last ts x h.1

module _ (lossy : Bool) where
  mutual
    unfolding AllNumeric Numeric

    value_numeric : (t : Tree) (b : List ℕ) → value lossy t b → AllNumeric (tokens t)
    value_numeric null b h = (tt, tt)
    value_numeric (boolean v) b h = (tt, tt)
    value_numeric (num l) b h = (h.0, tt)
    value_numeric (text s) b h = (tt, tt)
    value_numeric (list ts) b (p, q, e, hp, (a, z, f, ha, hz)) = (tt, numeric_append (trees_tokens ts) _ (elements_numeric ts a ha) (tt, tt))
    value_numeric (pairs ps) b (p, q, e, hp, (a, z, f, ha, hz)) = (tt, numeric_append (pairs_tokens ps) _ (members_numeric ps a ha) (tt, tt))

    elements_numeric : (ts : Trees) (b : List ℕ) → elements lossy ts b → AllNumeric (trees_tokens ts)
    elements_numeric no_trees b h = tt
    elements_numeric (tree_and t ts) b (u, a1, e, hu, (v, a2, e1, hv, (w, z, e2, hw, hz))) = numeric_append (tokens t) _ (value_numeric t v hv) (more_elements_numeric ts z hz)

    more_elements_numeric : (ts : Trees) (b : List ℕ) → more_elements lossy ts b → AllNumeric (trees_tokens ts)
    more_elements_numeric no_trees b h = tt
    more_elements_numeric (tree_and t ts) b (p, q, e0, hp, (u, a1, e, hu, (v, a2, e1, hv, (w, z, e2, hw, hz)))) = numeric_append (tokens t) _ (value_numeric t v hv) (more_elements_numeric ts z hz)

    members_numeric : (ps : Pairs) (b : List ℕ) → members lossy ps b → AllNumeric (pairs_tokens ps)
    members_numeric no_pairs b h = tt
    members_numeric (pair_and s t ps) b (u, a1, e, hu, (k, a2, e1, hk, (w, a3, e2, hw, (c, a4, e3, hc, (u', a5, e4, hu', (v, a6, e5, hv, (w', z, e6, hw', hz))))))) =
        (tt, numeric_append (tokens t) _ (value_numeric t v hv) (more_members_numeric ps z hz))

    more_members_numeric : (ps : Pairs) (b : List ℕ) → more_members lossy ps b → AllNumeric (pairs_tokens ps)
    more_members_numeric no_pairs b h = tt
    more_members_numeric (pair_and s t ps) b (p, q, e0, hp, (u, a1, e, hu, (k, a2, e1, hk, (w, a3, e2, hw, (c, a4, e3, hc, (u', a5, e4, hu', (v, a6, e5, hv, (w', z, e6, hw', hz)))))))) =
        (tt, numeric_append (tokens t) _ (value_numeric t v hv) (more_members_numeric ps z hz))

  reading_numeric : {p : List ℕ} {c : List Kind} {w : ExpectedPart} {ts : List Token} → reading lossy p c w ts → AllNumeric ts
  unfolding AllNumeric Numeric
  reading_numeric (start s) = tt
  reading_numeric (open_one {ts = ts} k h v q) = numeric_append ts _ (reading_numeric h) (tt, tt)
  reading_numeric (read_value {ts = ts} t h v (a, z, e, ha, hz)) = numeric_append ts (tokens t) (reading_numeric h) (value_numeric t a ha)
  reading_numeric (read_comma k h q) = reading_numeric h
  reading_numeric (read_key {ts = ts} s h v q) = numeric_append ts _ (reading_numeric h) (tt, tt)
  reading_numeric (read_colon h q) = reading_numeric h

-- so is that of the last token
pub last_number : {lossy : Bool} {p : List ℕ} {c : List Kind} {w : ExpectedPart} (ts : List Token) (l : List ℕ) → reading lossy p c w (ts ++ num_token l ∷ []) → number l
unfolding Numeric
last_number {lossy = lossy} ts l h = numeric_last ts (num_token l) (reading_numeric lossy h)
