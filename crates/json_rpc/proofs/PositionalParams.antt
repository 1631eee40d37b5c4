-- The params of a request in the order of their positions.
use Rattle.std.proofs.Common.{◌≡◌, ◌≢◌, ◌∙◌, ℕ, List, [], ◌∷◌, length, cond, Option, Some, None, slice_get, option_map, option_and_then, refl, sym, ap, ap₂, eq-eqb, ne_eqb}
use Rattle.std.proofs.lemmas.List.{length-map}
use Rattle.json_grammar.specs.Tree.{Tree, null, boolean, num, text, list, pairs, trees_list, pairs_list}
use Rattle.json_doc.specs.Readings.{children}
use Rattle.json_doc_print.specs.Readings.{members}
use Rattle.json_value.specs.Seen.{list_of, object_pairs}
use Rattle.json_rpc.specs.Params.{param_at, params_from, positional_params}
use Rattle.json_rpc.specs.Requests.{named_member}

none_some : {A : Type 0} {x : A} → None ≡ Some x → ⊥
none_some e = cc

-- ---- how many params there are

pub count_of_object : (t : Tree) (ms : List (List ℕ × Tree)) → Some ms ≡ object_pairs t → length ms ≡ length (members t)
count_of_object null ms e = absurd (none_some (sym e))
count_of_object (boolean b) ms e = absurd (none_some (sym e))
count_of_object (num l) ms e = absurd (none_some (sym e))
count_of_object (text s) ms e = absurd (none_some (sym e))
count_of_object (list ts) ms e = absurd (none_some (sym e))
count_of_object (pairs ps) ms e = let i : ms ≡ pairs_list ps = cc in ap (λ (ns : List (List ℕ × Tree)). length ns) i

pub count_of_no_object : (t : Tree) → None ≡ object_pairs t → 0 ≡ length (members t)
count_of_no_object null e = refl
count_of_no_object (boolean b) e = refl
count_of_no_object (num l) e = refl
count_of_no_object (text s) e = refl
count_of_no_object (list ts) e = refl
count_of_no_object (pairs ps) e = absurd (none_some e)

pub count_of_list : (t : Tree) (xs : List Tree) → Some xs ≡ list_of t → length xs ≡ length (children t)
count_of_list null xs e = absurd (none_some (sym e))
count_of_list (boolean b) xs e = absurd (none_some (sym e))
count_of_list (num l) xs e = absurd (none_some (sym e))
count_of_list (text s) xs e = absurd (none_some (sym e))
count_of_list (list ts) xs e = let i : xs ≡ trees_list ts = cc in ap (λ (ys : List Tree). length ys) i
count_of_list (pairs ps) xs e = absurd (none_some (sym e))

pub count_of_no_list : (t : Tree) → None ≡ list_of t → length (members t) ≡ length (children t)
count_of_no_list null e = refl
count_of_no_list (boolean b) e = refl
count_of_no_list (num l) e = refl
count_of_no_list (text s) e = refl
count_of_no_list (list ts) e = absurd (none_some e)
count_of_no_list (pairs ps) e = sym (length-map (pairs_list ps) (λ (p : List ℕ × Tree). p.1))

-- ---- one param

pub param_of_list : (t : Tree) (xs : List Tree) (i : ℕ) (n : List ℕ) → Some xs ≡ list_of t → slice_get xs i ≡ param_at i n t
param_of_list null xs i n e = absurd (none_some (sym e))
param_of_list (boolean b) xs i n e = absurd (none_some (sym e))
param_of_list (num l) xs i n e = absurd (none_some (sym e))
param_of_list (text s) xs i n e = absurd (none_some (sym e))
param_of_list (list ts) xs i n e = let s : xs ≡ trees_list ts = cc in ap (λ (ys : List Tree). slice_get ys i) s
param_of_list (pairs ps) xs i n e = absurd (none_some (sym e))

pub param_by_name : (t : Tree) (i : ℕ) (n : List ℕ) → None ≡ list_of t → named_member n t ≡ param_at i n t
param_by_name null i n e = refl
param_by_name (boolean b) i n e = refl
param_by_name (num l) i n e = refl
param_by_name (text s) i n e = refl
param_by_name (list ts) i n e = absurd (none_some e)
param_by_name (pairs ps) i n e = refl

-- ---- all params

abbrev Names : Type 0
Names = List (List ℕ)

-- there are as many params as names, or another number of them
of_count : (names : Names) (t : Tree) → length (children t) ≡ length names → params_from 0 names t ≡ positional_params names (Some t)
of_count names t e = sym (ap (λ b. cond b (params_from 0 names t) None) (eq-eqb (length (children t)) (length names) e))

pub of_other_count : (names : Names) (t : Tree) → length (children t) ≢ length names → None ≡ positional_params names (Some t)
of_other_count names t h = sym (ap (λ b. cond b (params_from 0 names t) None) (ne_eqb (length (children t)) (length names) h))

-- a param and those after it
abbrev joined : Option Tree → Option (List Tree) → Option (List Tree)
joined o us = option_and_then (λ u. option_map (λ ws. u ∷ ws) us) o

pub no_first : (n : List ℕ) (names : Names) (t : Tree) → length (children t) ≡ length (n ∷ names) → None ≡ param_at 0 n t → None ≡ positional_params (n ∷ names) (Some t)
no_first n names t c e = ap (λ o. joined o (params_from 1 names t)) e ∙ of_count (n ∷ names) t c

pub no_second : (n m : List ℕ) (names : Names) (t a : Tree) → length (children t) ≡ length (n ∷ m ∷ names) → Some a ≡ param_at 0 n t → None ≡ param_at 1 m t → None ≡ positional_params (n ∷ m ∷ names) (Some t)
no_second n m names t a c e f = ap₂ (λ o p. joined o (joined p (params_from 2 names t))) e f ∙ of_count (n ∷ m ∷ names) t c

pub no_third : (n m l : List ℕ) (t a b : Tree) → length (children t) ≡ 3 → Some a ≡ param_at 0 n t → Some b ≡ param_at 1 m t → None ≡ param_at 2 l t → None ≡ positional_params (n ∷ m ∷ l ∷ []) (Some t)
no_third n m l t a b c e f g =
    ap₂ (λ o p. joined o (joined p (joined None (Some [])))) e f ∙ ap (λ q. joined (param_at 0 n t) (joined (param_at 1 m t) (joined q (Some [])))) g ∙ of_count (n ∷ m ∷ l ∷ []) t c

pub one_there : (n : List ℕ) (t a : Tree) → length (children t) ≡ 1 → Some a ≡ param_at 0 n t → Some (a ∷ []) ≡ positional_params (n ∷ []) (Some t)
one_there n t a c e = ap (λ o. joined o (Some [])) e ∙ of_count (n ∷ []) t c

pub two_there : (n m : List ℕ) (t a b : Tree) → length (children t) ≡ 2 → Some a ≡ param_at 0 n t → Some b ≡ param_at 1 m t → Some (a ∷ b ∷ []) ≡ positional_params (n ∷ m ∷ []) (Some t)
two_there n m t a b c e f = ap₂ (λ o p. joined o (joined p (Some []))) e f ∙ of_count (n ∷ m ∷ []) t c

pub three_there : (n m l : List ℕ) (t a b d : Tree) → length (children t) ≡ 3 → Some a ≡ param_at 0 n t → Some b ≡ param_at 1 m t → Some d ≡ param_at 2 l t → Some (a ∷ b ∷ d ∷ []) ≡ positional_params (n ∷ m ∷ l ∷ []) (Some t)
three_there n m l t a b d c e f g =
    ap₂ (λ o p. joined o (joined p (joined (Some d) (Some [])))) e f ∙ ap (λ q. joined (param_at 0 n t) (joined (param_at 1 m t) (joined q (Some [])))) g ∙ of_count (n ∷ m ∷ l ∷ []) t c
