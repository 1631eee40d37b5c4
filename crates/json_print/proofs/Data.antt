-- What is given of a datum, and the tokens of its tree.
use Rattle.std.proofs.Common.{◌≡◌, ℕ, List, [], ◌∷◌, ◌++◌, true, false, Option, Some, None, option_map, refl, ap, ap₂, ◌∙◌}
use Rattle.std.specs.Prelude.{MatchOption}
use Rattle.json_grammar.specs.declared.Kind.TheVariants.{Array as array, Object as object}
use Rattle.json_grammar.specs.Tree.{Tree, list, pairs, Trees, Pairs, Token, begin, end, key_token, tokens, trees_tokens, pairs_tokens}
use Rattle.json_model.specs.Datum.{Datum, null_datum, boolean_datum, integer_datum, text_datum, literal_datum, list_datum, rows_datum, Data, no_data, datum_and, Rows, no_rows, row_and, key_of, element_before, member_before, tree_of_datum, trees_of, pairs_of}
use Rattle.json_print.specs.Data.{parts, data_parts, rows_parts, before_gap, keys_have_texts}
use Rattle.json_print.specs.Given.{TokenOrInteger, given, given_tokens}
use Rattle.json_print.proofs.Taking.{tokens_append}

-- ---- where the gaps are

pub before_append : (ps qs : List (Option TokenOrInteger)) → keys_have_texts ps ≡ true → before_gap (ps ++ qs) ≡ before_gap ps ++ before_gap qs
before_append [] qs w = refl
before_append (None ∷ ps) qs w = absurd (cc)
before_append (Some g ∷ ps) qs w = ap (λ gs. g ∷ gs) (before_append ps qs w)

pub whole_append : (ps qs : List (Option TokenOrInteger)) → keys_have_texts ps ≡ true → keys_have_texts (ps ++ qs) ≡ keys_have_texts qs
whole_append [] qs w = refl
whole_append (None ∷ ps) qs w = absurd (cc)
whole_append (Some g ∷ ps) qs w = whole_append ps qs w

pub gap_append : (ps qs : List (Option TokenOrInteger)) → keys_have_texts ps ≡ false → keys_have_texts (ps ++ qs) ≡ false
gap_append [] qs w = absurd (cc)
gap_append (None ∷ ps) qs w = refl
gap_append (Some g ∷ ps) qs w = gap_append ps qs w

-- ---- the tokens of trees

Spelled : {A : Type 0} → (A → List Token) → Option A → List (Option TokenOrInteger) → Type 0
Spelled f o ps = MatchOption o (keys_have_texts ps ≡ false) (λ t. (keys_have_texts ps ≡ true) × (given_tokens (before_gap ps) ≡ f t))

two : (ps qs : List (Option TokenOrInteger)) (a b : List Token) → keys_have_texts ps ≡ true → given_tokens (before_gap ps) ≡ a → given_tokens (before_gap qs) ≡ b → given_tokens (before_gap (ps ++ qs)) ≡ a ++ b
two ps qs a b w h k = ap given_tokens (before_append ps qs w) ∙ tokens_append (before_gap ps) (before_gap qs) ∙ ap₂ (λ x y. x ++ y) h k

in_list : (o : Option Trees) (ps : List (Option TokenOrInteger)) → Spelled trees_tokens o ps → Spelled tokens (option_map list o) (Some (given (begin array)) ∷ (ps ++ Some (given (end array)) ∷ []))
unfolding Spelled
in_list None ps h = gap_append ps (Some (given (end array)) ∷ []) h
in_list (Some ts) ps h = (whole_append ps (Some (given (end array)) ∷ []) h.0, ap (λ o. begin array ∷ o) (two ps (Some (given (end array)) ∷ []) (trees_tokens ts) (end array ∷ []) h.0 h.1 refl))

in_object : (o : Option Pairs) (ps : List (Option TokenOrInteger)) → Spelled pairs_tokens o ps → Spelled tokens (option_map pairs o) (Some (given (begin object)) ∷ (ps ++ Some (given (end object)) ∷ []))
unfolding Spelled
in_object None ps h = gap_append ps (Some (given (end object)) ∷ []) h
in_object (Some qs) ps h = (whole_append ps (Some (given (end object)) ∷ []) h.0, ap (λ o. begin object ∷ o) (two ps (Some (given (end object)) ∷ []) (pairs_tokens qs) (end object ∷ []) h.0 h.1 refl))

one_more : (a : Option Tree) (b : Option Trees) (ps qs : List (Option TokenOrInteger)) → Spelled tokens a ps → Spelled trees_tokens b qs → Spelled trees_tokens (element_before a b) (ps ++ qs)
unfolding Spelled
one_more None b ps qs h k = gap_append ps qs h
one_more (Some t) None ps qs h k = whole_append ps qs h.0 ∙ k
one_more (Some t) (Some ts) ps qs h k = (whole_append ps qs h.0 ∙ k.0, two ps qs (tokens t) (trees_tokens ts) h.0 h.1 k.1)

one_more_row : (s : Option (List ℕ)) (a : Option Tree) (b : Option Pairs) (ps qs : List (Option TokenOrInteger)) → Spelled tokens a ps → Spelled pairs_tokens b qs
    → Spelled pairs_tokens (member_before s a b) (option_map (λ k. given (key_token k)) s ∷ (ps ++ qs))
unfolding Spelled
one_more_row None a b ps qs h k = refl
one_more_row (Some s) None b ps qs h k = gap_append ps qs h
one_more_row (Some s) (Some t) None ps qs h k = whole_append ps qs h.0 ∙ k
one_more_row (Some s) (Some t) (Some us) ps qs h k = (whole_append ps qs h.0 ∙ k.0, ap (λ o. key_token s ∷ o) (two ps qs (tokens t) (pairs_tokens us) h.0 h.1 k.1))

mutual
  unfolding Spelled

  pub datum_spelled : (d : Datum) → MatchOption (tree_of_datum d) (keys_have_texts (parts d) ≡ false) (λ t. (keys_have_texts (parts d) ≡ true) × (given_tokens (before_gap (parts d)) ≡ tokens t))
  datum_spelled null_datum = (refl, refl)
  datum_spelled (boolean_datum b) = (refl, refl)
  datum_spelled (integer_datum n) = (refl, refl)
  datum_spelled (text_datum s) = (refl, refl)
  datum_spelled (literal_datum l) = (refl, refl)
  datum_spelled (list_datum ds) = in_list (trees_of ds) (data_parts ds) (data_spelled ds)
  datum_spelled (rows_datum rs) = in_object (pairs_of rs) (rows_parts rs) (rows_spelled rs)

  data_spelled : (ds : Data) → Spelled trees_tokens (trees_of ds) (data_parts ds)
  data_spelled no_data = (refl, refl)
  data_spelled (datum_and d ds) = one_more (tree_of_datum d) (trees_of ds) (parts d) (data_parts ds) (datum_spelled d) (data_spelled ds)

  rows_spelled : (rs : Rows) → Spelled pairs_tokens (pairs_of rs) (rows_parts rs)
  rows_spelled no_rows = (refl, refl)
  rows_spelled (row_and k d rs) = one_more_row (key_of k) (tree_of_datum d) (pairs_of rs) (parts d) (rows_parts rs) (datum_spelled d) (rows_spelled rs)

-- ---- what follows

-- the tree of a datum whose keys have texts
pub record WholeTree (d : Datum) : Type 0 where
  pub tree : Tree
  pub is : tree_of_datum d ≡ Some tree
  pub spelled : given_tokens (before_gap (parts d)) ≡ tokens tree

tree_in : (d : Datum) (o : Option Tree) → tree_of_datum d ≡ o → Spelled tokens o (parts d) → keys_have_texts (parts d) ≡ true → WholeTree d
unfolding Spelled
tree_in d None e h w = absurd (cc)
tree_in d (Some t) e h w = record { tree = t; is = e; spelled = h.1 }

pub whole_tree : (d : Datum) → keys_have_texts (parts d) ≡ true → WholeTree d
unfolding Spelled
whole_tree d w = tree_in d (tree_of_datum d) refl (datum_spelled d) w

no_tree_in : (o : Option Tree) (ps : List (Option TokenOrInteger)) → Spelled tokens o ps → keys_have_texts ps ≡ false → o ≡ None
unfolding Spelled
no_tree_in None ps h w = refl
no_tree_in (Some t) ps h w = let s = h.0 in absurd (cc)

pub gap_tree : (d : Datum) → keys_have_texts (parts d) ≡ false → tree_of_datum d ≡ None
unfolding Spelled
gap_tree d w = no_tree_in (tree_of_datum d) (parts d) (datum_spelled d) w

tokens_in : (o : Option Tree) (ps : List (Option TokenOrInteger)) (t : Tree) → Spelled tokens o ps → o ≡ Some t → given_tokens (before_gap ps) ≡ tokens t
unfolding Spelled
tokens_in None ps t h e = absurd (cc)
tokens_in (Some u) ps t h e = let same : u ≡ t = cc in h.1 ∙ ap tokens same

pub tree_spelled : (d : Datum) (t : Tree) → tree_of_datum d ≡ Some t → given_tokens (before_gap (parts d)) ≡ tokens t
unfolding Spelled
tree_spelled d t e = tokens_in (tree_of_datum d) (parts d) t (datum_spelled d) e
