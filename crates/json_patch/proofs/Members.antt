-- The values of the members of one key.
use Rattle.std.proofs.Common.{◌≡◌, ℕ, zero, suc, ◌+◌, ◌-◌, ◌<◌, ◌≤◌, List, [], ◌∷◌, Bool, true, false, not, ◌&&◌, Option, Some, None, refl, sym, ap, ap₂, ◌∙◌, bytes_eq, codes, map, drop, length, get_or, nat_eq, nat_lt, eq-eqb, ne_eqb, le-ltb, lt-ltb, length-drop, arith}
use Rattle.json_grammar.specs.Tree.{Tree, list_pairs}
use Rattle.json_patch.specs.Patch.{single_value, string_in, pointer_in, is_proper_prefix, tokens_eq, operation_named, operation_with_name, operation_of}
use Rattle.json_value.specs.Seen.{object_pairs}
use Rattle.json_value.proofs.SameViews.{object_seen}
use Rattle.json_patch.proofs.Lookups.{drop_item}

-- what there is, as a list
abbrev pub listed : Option Tree → List Tree
listed None = []
listed (Some t) = t ∷ []

-- ---- lists of tokens, from an index on

drop_all : {A : Type 0} (xs : List A) (i : ℕ) → length xs ≤ i → drop i xs ≡ []
drop_all [] zero h = refl
drop_all [] (suc i) h = refl
drop_all (x ∷ xs) zero h = absurd (omega arith)
drop_all (x ∷ xs) (suc i) h = drop_all xs i (omega arith)

module _ {A : Type 0} (f : A → List ℕ) (xs ys : List A) (i : ℕ) where
  pub prefix_end : i ≡ length xs → is_proper_prefix (map f (drop i xs)) (map f (drop i ys)) ≡ nat_lt (length xs) (length ys)
  prefix_end e = ap (λ zs. is_proper_prefix (map f zs) (map f (drop i ys))) (drop_all xs i (omega (arith, e))) ∙ by (drop i ys) (length-drop i ys)
    where
      by : (zs : List A) → length zs ≡ length ys - i → is_proper_prefix [] (map f zs) ≡ nat_lt (length xs) (length ys)
      by [] h = sym (le-ltb (length xs) (length ys) (omega (arith, h, e)))
      by (z ∷ zs) h = sym (lt-ltb (length xs) (length ys) (omega (arith, h, e)))

  pub tokens_end : i ≡ length xs → i ≤ length ys → tokens_eq (map f (drop i xs)) (map f (drop i ys)) ≡ nat_eq (length xs) (length ys)
  tokens_end e l = ap (λ zs. tokens_eq (map f zs) (map f (drop i ys))) (drop_all xs i (omega (arith, e))) ∙ by (drop i ys) (length-drop i ys)
    where
      by : (zs : List A) → length zs ≡ length ys - i → tokens_eq [] (map f zs) ≡ nat_eq (length xs) (length ys)
      by [] h = sym (eq-eqb (length xs) (length ys) (omega (arith, h, e, l)))
      by (z ∷ zs) h = sym (ne_eqb (length xs) (length ys) (λ g. omega (arith, h, e, g)))

  pub prefix_short : i < length xs → length ys ≤ i → is_proper_prefix (map f (drop i xs)) (map f (drop i ys)) ≡ false
  prefix_short low h = ap (λ zs. is_proper_prefix (map f (drop i xs)) (map f zs)) (drop_all ys i h) ∙ by (drop i xs) (length-drop i xs)
    where
      by : (zs : List A) → length zs ≡ length xs - i → is_proper_prefix (map f zs) [] ≡ false
      by [] g = refl
      by (z ∷ zs) g = refl

  pub tokens_short : i < length xs → length ys ≤ i → tokens_eq (map f (drop i xs)) (map f (drop i ys)) ≡ false
  tokens_short low h = ap (λ zs. tokens_eq (map f (drop i xs)) (map f zs)) (drop_all ys i h) ∙ by (drop i xs) (length-drop i xs)
    where
      by : (zs : List A) → length zs ≡ length xs - i → tokens_eq (map f zs) [] ≡ false
      by [] g = absurd (omega (arith, g, low))
      by (z ∷ zs) g = refl

  module _ (x : A) (low : i < length xs) (is : x ≡ get_or xs i x) where
    module _ (y : A) (within : i < length ys) (its : y ≡ get_or ys i y) (differs : bytes_eq (f x) (f y) ≡ false) where
      pub prefix_differs : is_proper_prefix (map f (drop i xs)) (map f (drop i ys)) ≡ false
      prefix_differs =
          ap₂ (λ zs ws. is_proper_prefix (map f zs) (map f ws)) (drop_item xs i x low is) (drop_item ys i y within its)
          ∙ ap (λ b. b && is_proper_prefix (map f (drop (i + 1) xs)) (map f (drop (i + 1) ys))) differs

      pub tokens_differ : tokens_eq (map f (drop i xs)) (map f (drop i ys)) ≡ false
      tokens_differ =
          ap₂ (λ zs ws. tokens_eq (map f zs) (map f ws)) (drop_item xs i x low is) (drop_item ys i y within its)
          ∙ ap (λ b. b && tokens_eq (map f (drop (i + 1) xs)) (map f (drop (i + 1) ys))) differs

pub not_true : (b : Bool) → not b ≡ true → b ≡ false
not_true true e = cc
not_true false e = refl

-- ---- operations

pub operation_is : (t : Tree) (xs : List (List ℕ × Tree)) (n : List ℕ) → Some xs ≡ object_pairs t → Some n ≡ string_in (single_value (codes "op") (list_pairs xs))
    → operation_of t ≡ operation_named n (pointer_in (single_value (codes "path") (list_pairs xs))) (pointer_in (single_value (codes "from") (list_pairs xs))) (single_value (codes "value") (list_pairs xs))
operation_is t xs n e h = ap operation_of (object_seen t xs e) ∙ ap (λ o. operation_with_name o (list_pairs xs)) (sym h)

pub operation_not : (t : Tree) (xs : List (List ℕ × Tree)) → Some xs ≡ object_pairs t → None ≡ string_in (single_value (codes "op") (list_pairs xs)) → operation_of t ≡ None
operation_not t xs e h = ap operation_of (object_seen t xs e) ∙ ap (λ o. operation_with_name o (list_pairs xs)) (sym h)
