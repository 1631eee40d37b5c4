-- The value that a token references.
use Rattle.std.proofs.Common.{◌≡◌, ◌≢◌, ◌⊎◌, inl, inr, ℕ, ◌+◌, ◌<◌, ◌≤◌, ◌^◌, List, [], ◌∷◌, ◌++◌, append_assoc, true, cond, ◌&&◌, Option, Some, None, Result, Ok, Err, refl, sym, ap, ◌∙◌, subst, bytes_eq, codes, arith, ne_eqb, leb-true, get_or, drop, length, zero, suc, drop-cons, add-one}
use Rattle.std.specs.Prelude.{ok_or, option_map, slice_get, nat_le, slice_index}
use Rattle.std.specs.Str.Parse.{IsNumeral, digits_value, without_leading_plus, ParsesUnsigned}
use Rattle.std.proofs.lemmas.Bool.{or_cases, and_parts}
use Rattle.std.proofs.lemmas.Slice.Eq.{bytes_eq-Decides}
use Rattle.json_grammar.specs.Tree.{Tree, null, boolean, num, text, list, pairs, trees_list, pairs_list}
use Rattle.json_model.specs.Edit.{Step, index_step, Changed, within, not_found, and_then}
use Rattle.json_value.specs.Seen.{list_of, object_pairs, first_of}
use Rattle.json_patch.specs.ValuesAt.{value_at_step, value_at_path}
use Rattle.json_patch.specs.Pointer.{ReferenceToken, index_of_token, step_of_token, path_of_tokens, value_at_pointer}
use Rattle.json_patch.proofs.Indexes.{index_is_numeral, numeral_is_index}
use Rattle.json_patch.proofs.PatchLaws.{value_at_pointer-step}
use Rattle.json_patch.proofs.ReplacedAt.{value_at_path-append}
use Rattle.json_patch.proofs.Results.{then_assoc}
use Rattle.json_patch.specs.Lookups.{has_index_start, value_at_token}
use Rattle.json_patch.proofs.ValueAtPath.{first_value-first_of}

-- ---- indexes

-- such a token begins with a digit, and with 0 only if it is `0`
first_digit : (l : List ℕ) → has_index_start l ≡ true → (48 ≤ get_or l 0 0) × (get_or l 0 0 ≤ 57) × ((l ≡ codes "0") ⊎ (get_or l 0 0 ≢ 48))
first_digit l p = by (or_cases (bytes_eq l (codes "0")) (nat_le 49 (slice_index l 0) && nat_le (slice_index l 0) 57) p)
  where
    by : (bytes_eq l (codes "0") ≡ true) ⊎ ((nat_le 49 (slice_index l 0) && nat_le (slice_index l 0) 57) ≡ true) → (48 ≤ get_or l 0 0) × (get_or l 0 0 ≤ 57) × ((l ≡ codes "0") ⊎ (get_or l 0 0 ≢ 48))
    by (inl e) = let same = (bytes_eq-Decides l (codes "0")).0 e in (subst (λ d. 48 ≤ get_or d 0 0) (sym same) (omega arith), subst (λ d. get_or d 0 0 ≤ 57) (sym same) (omega arith), inl same)
    by (inr e) =
        let q = and_parts (nat_le 49 (slice_index l 0)) (nat_le (slice_index l 0) 57) e in
        let low = leb-true 49 (slice_index l 0) q.0 in
        let high = leb-true (slice_index l 0) 57 q.1 in
        (omega (arith, low), high, inr (λ f. omega (arith, low, f)))

no_plus : (l : List ℕ) → 48 ≤ get_or l 0 0 → without_leading_plus l ≡ l
no_plus l h = ap (λ b. drop (cond b 1 0) l) (ne_eqb (get_or l 0 0) 43 (λ e. omega (arith, h, e)))

pub index_of_token-parsed : {E : Type 0} (l : List ℕ) (r : Result ℕ E) (n : ℕ) → has_index_start l ≡ true → ParsesUnsigned 64 10 l r → r ≡ Ok n → index_of_token l ≡ Some n
index_of_token-parsed {E} l r n p h e =
    let d = first_digit l p in
    let same = no_plus l d.0 in
    let g : ParsesUnsigned {E = E} 64 10 l (Ok n) = subst (λ q. ParsesUnsigned {E = E} 64 10 l q) e h in
    let num : IsNumeral 10 l = subst (IsNumeral 10) same g.0.0 in
    numeral_is_index l num d.2 ∙ ap Some (sym (g.1 ∙ ap (digits_value 10) same))

pub index_of_token-unparsed : {E : Type 0} (l : List ℕ) (r : Result ℕ E) (e : E) → has_index_start l ≡ true → ParsesUnsigned 64 10 l r → r ≡ Err e → (i : ℕ) → i < 2 ^ 64 → index_of_token l ≢ Some i
index_of_token-unparsed {E} l r e p h is i small f =
    let d = first_digit l p in
    let same = no_plus l d.0 in
    let g : ParsesUnsigned {E = E} 64 10 l (Err e) = subst (λ q. ParsesUnsigned {E = E} 64 10 l q) is h in
    let n = index_is_numeral l i f in
    g (subst (IsNumeral 10) (sym same) n.0, subst (λ v. v < 2 ^ 64) (sym (ap (digits_value 10) same ∙ n.1)) small)

-- ---- one step

pub at_object : (k : ReferenceToken) (t : Tree) (qs : List (List ℕ × Tree)) → Some qs ≡ object_pairs t → value_at_token k t ≡ ok_or (option_map (λ (q : List ℕ × Tree). q.1) (first_of k qs)) not_found
at_object k (pairs ps) qs e =
    let same : qs ≡ pairs_list ps = cc in
    ap (λ o. ok_or o not_found) (first_value-first_of k ps) ∙ ap (λ xs. ok_or (option_map (λ (q : List ℕ × Tree). q.1) (first_of k xs)) not_found) (sym same)
at_object k null qs e = cc
at_object k (boolean b) qs e = cc
at_object k (num l) qs e = cc
at_object k (text s) qs e = cc
at_object k (list ts) qs e = cc

pub at_array : (k : ReferenceToken) (t : Tree) (xs : List Tree) (i : ℕ) → Some xs ≡ list_of t → index_of_token k ≡ Some i → value_at_token k t ≡ ok_or (slice_get xs i) not_found
at_array k (list ts) xs i e f =
    let same : xs ≡ trees_list ts = cc in
    ap (λ o. and_then (ok_or (option_map index_step o) not_found) (λ s. value_at_step s (list ts))) f ∙ ap (λ ys. ok_or (slice_get ys i) not_found) (sym same)
at_array k (pairs ps) xs i e f = cc
at_array k null xs i e f = cc
at_array k (boolean b) xs i e f = cc
at_array k (num l) xs i e f = cc
at_array k (text s) xs i e f = cc

past_end : (xs : List Tree) (i : ℕ) → length xs ≤ i → slice_get xs i ≡ None
past_end [] i h = refl
past_end (x ∷ xs) zero h = absurd (omega arith)
past_end (x ∷ xs) (suc i) h = past_end xs i (omega arith)

-- an array has no element at an index past its end, or at a token that is no index
pub at_array_none : (k : ReferenceToken) (t : Tree) (xs : List Tree) → Some xs ≡ list_of t → ((i : ℕ) → index_of_token k ≡ Some i → length xs ≤ i) → value_at_token k t ≡ Err not_found
at_array_none k (list ts) xs e h = by (index_of_token k) h
  where
    by : (o : Option ℕ) → ((i : ℕ) → o ≡ Some i → length xs ≤ i) → and_then (ok_or (option_map index_step o) not_found) (λ s. value_at_step s (list ts)) ≡ Err not_found
    by None g = refl
    by (Some i) g =
        let same : xs ≡ trees_list ts = cc in
        ap (λ ys. ok_or (slice_get ys i) not_found) (sym same) ∙ ap (λ o. ok_or o not_found) (past_end xs i (g i refl))
at_array_none k (pairs ps) xs e h = cc
at_array_none k null xs e h = cc
at_array_none k (boolean b) xs e h = cc
at_array_none k (num l) xs e h = cc
at_array_none k (text s) xs e h = cc

-- ---- more steps

pub value_at_pointer-cons : (k : ReferenceToken) (p : List ReferenceToken) (t : Tree) → value_at_pointer (k ∷ p) t ≡ and_then (value_at_token k t) (value_at_pointer p)
value_at_pointer-cons k p t = value_at_pointer-step k p t ∙ sym (then_assoc (step_of_token k t) (λ s. value_at_step s t) (value_at_pointer p))

-- ---- paths

pub path_of_tokens-step : (k : ReferenceToken) (p : List ReferenceToken) (t u : Tree) (s : Step) → step_of_token k t ≡ Ok s → value_at_token k t ≡ Ok u → path_of_tokens (k ∷ p) t ≡ within (λ q. s ∷ q) (path_of_tokens p u)
path_of_tokens-step k p t u s e f =
    let child_there : value_at_step s t ≡ Ok u = sym (ap (λ r. and_then r (λ v. value_at_step v t)) e) ∙ f in
    ap (λ r. and_then r (λ v. and_then (value_at_step v t) (λ w. within (λ q. v ∷ q) (path_of_tokens p w)))) e ∙ ap (λ r. and_then r (λ w. within (λ q. s ∷ q) (path_of_tokens p w))) child_there

within_twice : (a : List Step) (s : Step) (r : Changed (List Step)) → within (λ q. a ++ q) (within (λ q. s ∷ q) r) ≡ within (λ q. (a ++ (s ∷ [])) ++ q) r
within_twice a s (Ok q) = ap Ok (sym (append_assoc a (s ∷ []) q))
within_twice a s (Err e) = refl

-- the tokens read are the path a to the tree t; one token more
pub path_of_tokens-next : (k : ReferenceToken) (p : List ReferenceToken) (t u : Tree) (s : Step) (a : List Step) (r : Changed (List Step)) → r ≡ within (λ q. a ++ q) (path_of_tokens (k ∷ p) t) → step_of_token k t ≡ Ok s → value_at_token k t ≡ Ok u
    → r ≡ within (λ q. (a ++ (s ∷ [])) ++ q) (path_of_tokens p u)
path_of_tokens-next k p t u s a r h e f = h ∙ ap (within (λ q. a ++ q)) (path_of_tokens-step k p t u s e f) ∙ within_twice a s (path_of_tokens p u)

pub value_at_path-next : (k : ReferenceToken) (t u root : Tree) (s : Step) (a : List Step) → value_at_path a root ≡ Ok t → step_of_token k t ≡ Ok s → value_at_token k t ≡ Ok u → value_at_path (a ++ (s ∷ [])) root ≡ Ok u
value_at_path-next k t u root s a h e f =
    let child_there : value_at_step s t ≡ Ok u = sym (ap (λ r. and_then r (λ v. value_at_step v t)) e) ∙ f in
    value_at_path-append a (s ∷ []) root ∙ ap (λ r. and_then r (value_at_path (s ∷ []))) h ∙ ap (λ r. and_then r (value_at_path [])) child_there

pub drop_item : {A : Type 0} (xs : List A) (i : ℕ) (x : A) → i < length xs → x ≡ get_or xs i x → drop i xs ≡ x ∷ drop (i + 1) xs
drop_item xs i x l e = drop-cons xs i x l ∙ ap (λ y. y ∷ drop (suc i) xs) (sym e) ∙ ap (λ n. x ∷ drop n xs) (sym (add-one i))
