-- The rows of an object with their numbers, in order and back.
use Rattle.std.proofs.Common.{◌≡◌, ℕ, zero, suc, ◌+◌, ◌-◌, ◌<◌, ◌≤◌, List, [], ◌∷◌, ◌++◌, length, take, map, get_or, ◌∙◌, sym, ap, ap₂, refl, subst, arith, inl, inr, Some, append_assoc, length-append}
use Rattle.std.specs.Prelude.{slice_get}
use Rattle.std.proofs.lemmas.List.{get_or_at, get_or-map, length-map, take_all, take_more}
use Rattle.json_print.specs.declared.order.Numbered.{Numbered}
use Rattle.json_print.specs.Orders.{NumberedKey, IsMember, Rise, inserted_pairs, numbered_pair}
use Rattle.json_print.specs.Printer.{MemberText, rows_sorted}
use Rattle.json_print.specs.Rows.{numbered_rows}
use Rattle.json_print.proofs.Orders.{all_in, in_from, row_at, rows_inserted}

-- ---- the numbers

pub length-numbered_rows : (n : ℕ) (rows : List MemberText) → length (numbered_rows n rows) ≡ length rows
length-numbered_rows n [] = refl
length-numbered_rows n (r ∷ rows) = ap suc (length-numbered_rows (suc n) rows)

from_there : (n : ℕ) (rows : List MemberText) (z : NumberedKey) → IsMember z (numbered_rows n rows) → n ≤ z.1
from_there n [] z h = absurd h
from_there n (r ∷ rows) z (inl e) = omega (arith, ap (λ (x : NumberedKey). x.1) e)
from_there n (r ∷ rows) z (inr h) = omega (arith, from_there (suc n) rows z h)

pub numbered_rise : (n : ℕ) (rows : List MemberText) → Rise (numbered_rows n rows)
numbered_rise n [] = tt
numbered_rise n (r ∷ rows) = (λ z h. omega (arith, from_there (suc n) rows z h), numbered_rise (suc n) rows)

-- the pair at a place
pub numbered_get : (n k : ℕ) (rows : List MemberText) (r : MemberText) (d : NumberedKey) → slice_get rows k ≡ Some r → get_or (numbered_rows n rows) k d ≡ (r.key, n + k)
numbered_get n k [] r d e = absurd (cc)
numbered_get n zero (x ∷ rows) r d e = let same : x ≡ r = cc in ap₂ (λ (a : List ℕ) (b : ℕ). let p : NumberedKey = (a, b) in p) (ap (λ (y : MemberText). y.key) same) (omega arith)
numbered_get n (suc k) (x ∷ rows) r d e = numbered_get (suc n) k rows r d e ∙ ap (λ (b : ℕ). let p : NumberedKey = (r.key, b) in p) (omega arith)

pub numbered_more : (rows : List MemberText) (k : ℕ) (r : MemberText) → k < length rows → slice_get rows k ≡ Some r → take (k + 1) (numbered_rows 0 rows) ≡ take k (numbered_rows 0 rows) ++ (r.key, k) ∷ []
numbered_more rows k r l e =
    take_more (numbered_rows 0 rows) k (r.key, k) (omega (arith, l, length-numbered_rows 0 rows)) ∙ ap (λ x. take k (numbered_rows 0 rows) ++ x ∷ []) (numbered_get 0 k rows r (r.key, k) e ∙ ap (λ (b : ℕ). let p : NumberedKey = (r.key, b) in p) (omega arith))

pub numbered_all : (rows : List MemberText) (n : ℕ) → length rows ≤ n → take n (numbered_rows 0 rows) ≡ numbered_rows 0 rows
numbered_all rows n l = take_all n (numbered_rows 0 rows) (omega (arith, l, length-numbered_rows 0 rows))

-- ---- the texts by their numbers

abbrev no_row : MemberText
no_row = record { key = []; text = [] }

abbrev text_at : List MemberText → ℕ → List ℕ
text_at rows k = (get_or rows k no_row).text

rows_back : (front rows : List MemberText) → map (row_at (text_at (front ++ rows))) (numbered_rows (length front) rows) ≡ rows
rows_back front [] = refl
rows_back front (r ∷ rows) =
    let first : row_at (text_at (front ++ r ∷ rows)) (r.key, length front) ≡ r = ap (λ (x : MemberText). let y : MemberText = record { key = r.key; text = x.text } in y) (get_or_at front r rows no_row (length front) refl) in
    let n : length (front ++ r ∷ []) ≡ suc (length front) = omega (arith, length-append front (r ∷ [])) in
    let rest : map (row_at (text_at (front ++ r ∷ rows))) (numbered_rows (suc (length front)) rows) ≡ rows =
    subst (λ all. map (row_at (text_at all)) (numbered_rows (suc (length front)) rows) ≡ rows) (append_assoc front (r ∷ []) rows) (subst (λ k. map (row_at (text_at ((front ++ r ∷ []) ++ rows))) (numbered_rows k rows) ≡ rows) n (rows_back (front ++ r ∷ []) rows)) in
    ap₂ (λ (x : MemberText) xs. x ∷ xs) first rest

in_order : (rows : List MemberText) → map (row_at (text_at rows)) (inserted_pairs (numbered_rows 0 rows)) ≡ rows_sorted rows
in_order rows = rows_inserted (text_at rows) (numbered_rows 0 rows) ∙ ap rows_sorted (rows_back [] rows)

row_there : (n : ℕ) (rows : List MemberText) (z : NumberedKey) → IsMember z (numbered_rows n rows) → slice_get rows (z.1 - n) ≡ Some (row_at (λ k. text_at rows (k - n)) z)
row_there n [] z h = absurd h
row_there n (r ∷ rows) z (inl e) =
    let k : zero ≡ z.1 - n = omega (arith, ap (λ (x : NumberedKey). x.1) e) in
    subst (λ j. slice_get (r ∷ rows) j ≡ Some (record { key = z.0; text = text_at (r ∷ rows) j })) k (ap (λ (x : List ℕ). let y : MemberText = record { key = x; text = r.text } in Some y) (sym (ap (λ (x : NumberedKey). x.0) e)))
row_there n (r ∷ rows) z (inr h) =
    let k : suc (z.1 - suc n) ≡ z.1 - n = omega (arith, from_there (suc n) rows z h) in
    subst (λ j. slice_get (r ∷ rows) j ≡ Some (record { key = z.0; text = text_at (r ∷ rows) j })) k (row_there (suc n) rows z h)

-- ---- the rows in order

module _ (rows : List MemberText) (order : List Numbered) (e : map numbered_pair order ≡ inserted_pairs (numbered_rows 0 rows)) where
  pub sorted_length : length order ≡ length (rows_sorted rows)
  sorted_length = sym (length-map order numbered_pair) ∙ ap length e ∙ sym (length-map (inserted_pairs (numbered_rows 0 rows)) (row_at (text_at rows))) ∙ ap length (in_order rows)

  in_there : (k : ℕ) (x : Numbered) → k < length order → x ≡ get_or order k x → IsMember (numbered_pair x) (numbered_rows 0 rows)
  in_there k x l g =
      let at : get_or (map numbered_pair order) k (numbered_pair x) ≡ numbered_pair x = get_or-map numbered_pair order k x (numbered_pair x) l ∙ ap numbered_pair (sym g) in
      all_in (numbered_pair x) (numbered_rows 0 rows) (subst (IsMember (numbered_pair x)) e (in_from (map numbered_pair order) (numbered_pair x) k (omega (arith, l, length-map order numbered_pair)) at))

  row_of_number : (k : ℕ) (x : Numbered) → k < length order → x ≡ get_or order k x → slice_get rows x.number ≡ Some (row_at (text_at rows) (numbered_pair x))
  row_of_number k x l g = let z : x.number - 0 ≡ x.number = omega arith in subst (λ j. slice_get rows j ≡ Some (record { key = x.key.now; text = text_at rows j })) z (row_there 0 rows (numbered_pair x) (in_there k x l g))

  -- the number leads to a row, and it is the next in order
  pub number_within : (k : ℕ) (x : Numbered) → k < length order → x ≡ get_or order k x → x.number < length rows
  number_within k x l g = some_within rows x.number (row_of_number k x l g)
    where
      some_within : (xs : List MemberText) (j : ℕ) {r : MemberText} → slice_get xs j ≡ Some r → j < length xs
      some_within [] j s = absurd (cc)
      some_within (y ∷ xs) zero s = omega arith
      some_within (y ∷ xs) (suc j) s = omega (arith, some_within xs j s)

  pub next_row : (k : ℕ) (x : Numbered) → k < length order → x ≡ get_or order k x → slice_get (rows_sorted rows) k ≡ slice_get rows x.number
  next_row k x l g = ap (λ xs. slice_get xs k) (sym (in_order rows) ∙ ap (map (row_at (text_at rows))) (sym e)) ∙ at order k l g ∙ sym (row_of_number k x l g)
    where
      at : (xs : List Numbered) (j : ℕ) → j < length xs → x ≡ get_or xs j x → slice_get (map (row_at (text_at rows)) (map numbered_pair xs)) j ≡ Some (row_at (text_at rows) (numbered_pair x))
      at [] j m s = absurd (omega arith)
      at (y ∷ xs) zero m s = ap (λ n. Some (row_at (text_at rows) (numbered_pair n))) (sym s)
      at (y ∷ xs) (suc j) m s = at xs j (omega arith) s
