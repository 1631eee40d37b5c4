-- What an index and a slice select goes with a function of the items.
use Rattle.std.proofs.Common.{◌≡◌, ◌≢◌, ℕ, zero, suc, ◌+◌, ◌<◌, arith, ℤ, pos, negsuc, List, [], ◌∷◌, ◌++◌, map, filter, reverse, length, Bool, true, false, cond, Option, Some, None, refl, sym, ap, ◌∙◌, option_to_list, option_map, slice_get, if◌then◌else◌}
use Rattle.std.specs.List.{enumerate_from}
use Rattle.std.specs.Prelude.{int_lt}
use Rattle.std.proofs.lemmas.List.{length-map, map-append, reverse-append}
use Rattle.std.proofs.lemmas.Option.{slice_get-map}
use Rattle.json_query.specs.Slices.{normalized, item_from_start, item_at, items_from, selects, slice_bounds, in_slice_order, slice_items}

module _ {X Y : Type 0} (f : X → Y) where
  listed : (o : Option X) → map f (option_to_list o) ≡ option_to_list (option_map f o)
  listed None = refl
  listed (Some x) = refl

  from_start : (i : ℤ) (xs : List X) → item_from_start i (map f xs) ≡ option_map f (item_from_start i xs)
  from_start (pos i) xs = slice_get-map f xs i
  from_start (negsuc i) xs = refl

  -- the item of an index
  pub item_at-map : (i : ℤ) (xs : List X) → item_at i (map f xs) ≡ option_map f (item_at i xs)
  item_at-map i xs = ap (λ n. item_from_start (normalized i n) (map f xs)) (length-map xs f) ∙ from_start (normalized i (length xs)) xs

  pub items_at-map : (i : ℤ) (xs : List X) → map f (option_to_list (item_at i xs)) ≡ option_to_list (item_at i (map f xs))
  items_at-map i xs = listed (item_at i xs) ∙ ap option_to_list (sym (item_at-map i xs))

  -- the items whose index passes a test
  pub items_from-map : (test : ℕ → Bool) (i : ℕ) (xs : List X) → map f (items_from test i xs) ≡ items_from test i (map f xs)
  items_from-map test i [] = refl
  items_from-map test i (x ∷ xs) = by (test i) (items_from-map test (i + 1) xs)
    where
      by : (b : Bool) → map f (items_from test (i + 1) xs) ≡ items_from test (i + 1) (map f xs)
          → map f (map (λ (q : ℕ × X). q.1) (cond b ((i, x) ∷ filter (λ (q : ℕ × X). test q.0) (enumerate_from (i + 1) xs)) (filter (λ (q : ℕ × X). test q.0) (enumerate_from (i + 1) xs))))
          ≡ map (λ (q : ℕ × Y). q.1) (cond b ((i, f x) ∷ filter (λ (q : ℕ × Y). test q.0) (enumerate_from (i + 1) (map f xs))) (filter (λ (q : ℕ × Y). test q.0) (enumerate_from (i + 1) (map f xs))))
      by true h = ap (λ ys. f x ∷ ys) h
      by false h = h

  pub map-reverse : (xs : List X) → map f (reverse xs) ≡ reverse (map f xs)
  map-reverse [] = refl
  map-reverse (x ∷ xs) =
      ap (map f) (reverse-append (x ∷ []) xs) ∙ map-append f (reverse xs) (x ∷ []) ∙ ap (λ ys. ys ++ f x ∷ []) (map-reverse xs) ∙ sym (reverse-append (f x ∷ []) (map f xs))

  ordered : (step : ℤ) (xs : List X) → map f (in_slice_order step xs) ≡ in_slice_order step (map f xs)
  ordered step xs = by (int_lt step (pos 0))
    where
      by : (b : Bool) → map f (if b then reverse xs else xs) ≡ (if b then reverse (map f xs) else map f xs)
      by true = map-reverse xs
      by false = refl

  -- the items of a slice
  pub slice_items-map : (start end : Option ℤ) (step : ℤ) (xs : List X) → map f (slice_items start end step xs) ≡ slice_items start end step (map f xs)
  slice_items-map start end step xs =
      ordered step (items_from (selects (slice_bounds start end step (length xs)) step) 0 xs)
      ∙ ap (in_slice_order step) (items_from-map (selects (slice_bounds start end step (length xs)) step) 0 xs)
      ∙ ap (λ n. in_slice_order step (items_from (selects (slice_bounds start end step n) step) 0 (map f xs))) (sym (length-map xs f))

-- a slice of no items
pub slice_items-none : {X : Type 0} (start end : Option ℤ) (step : ℤ) → slice_items {X = X} start end step [] ≡ []
slice_items-none {X} start end step = by (int_lt step (pos 0))
  where
    by : (b : Bool) → (if b then reverse {A = X} [] else []) ≡ []
    by true = refl
    by false = refl

-- an index of no items
pub item_at-none : {X : Type 0} (i : ℤ) → item_at {X = X} i [] ≡ None
item_at-none {X} i = by (normalized i 0)
  where
    by : (j : ℤ) → item_from_start {X = X} j [] ≡ None
    by (pos j) = refl
    by (negsuc j) = refl

-- the item of an index that counts from the start
pub item_at-is : {X : Type 0} (i : ℤ) (j : ℕ) (xs : List X) → normalized i (length xs) ≡ pos j → item_at i xs ≡ slice_get xs j
item_at-is i j xs e = ap (λ k. item_from_start k xs) e

-- no item has such an index
pub item_at-past : {X : Type 0} (i : ℤ) (xs : List X) → ((j : ℕ) → j < length xs → normalized i (length xs) ≢ pos j) → item_at i xs ≡ None
item_at-past {X} i xs h = by (normalized i (length xs)) h
  where
    past : (ys : List X) (j : ℕ) → (j < length ys → ⊥) → slice_get ys j ≡ None
    past [] j g = refl
    past (y ∷ ys) zero g = absurd (g (omega arith))
    past (y ∷ ys) (suc j) g = past ys j (λ l. g (omega arith))

    by : (k : ℤ) → ((j : ℕ) → j < length xs → k ≢ pos j) → item_from_start k xs ≡ None
    by (pos j) g = past xs j (λ l. g j l refl)
    by (negsuc j) g = refl
