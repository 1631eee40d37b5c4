-- The rows of an object put one after another.
use Rattle.std.proofs.Common.{◌≡◌, ℕ, zero, suc, ◌+◌, ◌≤◌, List, [], ◌∷◌, ◌++◌, length, take, drop, ◌∙◌, sym, ap, refl, subst, arith, Bool, true, false, Some, Ok, Err, append_assoc, append-nil, ◌==◌}
use Rattle.std.specs.Prelude.{slice_get}
use Rattle.std.proofs.lemmas.Bool.{ne_eqb}
use Rattle.std.proofs.lemmas.List.{take_all, take-append-drop}
use Rattle.json_io.specs.declared.error.Error.{Error}
use Rattle.json_io.specs.Outside.{SinkState}
use Rattle.json_io.specs.Transfer.{Puts}
use Rattle.json_io.proofs.Putting.{Puts-first, Puts-then}
use Rattle.json_print.specs.Layouts.{FormatterModel}
use Rattle.json_print.specs.Printer.{MemberText}
use Rattle.json_print.specs.Rows.{row_bytes, row_next, rows_bytes, rows_next}

take_get : (xs : List MemberText) (n : ℕ) (r : MemberText) → slice_get xs n ≡ Some r → take (n + 1) xs ≡ take n xs ++ r ∷ []
take_get [] n r e = absurd (cc)
take_get (x ∷ xs) zero r e = let same : x ≡ r = cc in ap (λ y. y ∷ []) same
take_get (x ∷ xs) (suc n) r e = let k : suc n + 1 ≡ suc (n + 1) = omega arith in ap (λ j. take j (x ∷ xs)) k ∙ ap (λ l. x ∷ l) (take_get xs n r e)

-- whether no row precedes
abbrev none_before : Bool → List MemberText → Bool
none_before first [] = first
none_before first (x ∷ xs) = false

at_first : (xs : List MemberText) (n : ℕ) (r : MemberText) → slice_get xs n ≡ Some r → none_before true (take n xs) ≡ (n == 0)
at_first [] n r e = absurd (cc)
at_first (x ∷ xs) zero r e = refl
at_first (x ∷ xs) (suc n) r e = sym (ne_eqb (suc n) 0 (λ h. omega arith))

module _ {F : Type 0} (m : FormatterModel F) where
  bytes_more : (xs : List MemberText) (f : F) (first : Bool) (r : MemberText) → rows_bytes m f first (xs ++ r ∷ []) ≡ rows_bytes m f first xs ++ row_bytes m (rows_next m f first xs) (none_before first xs) r
  bytes_more [] f first r = append-nil (row_bytes m f first r)
  bytes_more (x ∷ xs) f first r = ap (λ l. row_bytes m f first x ++ l) (bytes_more xs (row_next m f first x) false r ∙ ap (λ b. rows_bytes m (row_next m f first x) false xs ++ row_bytes m (rows_next m (row_next m f first x) false xs) b r) (never xs)) ∙ sym (append_assoc (row_bytes m f first x) _ _)
    where
      never : (ys : List MemberText) → none_before false ys ≡ false
      never [] = refl
      never (y ∷ ys) = refl

  next_more : (xs : List MemberText) (f : F) (first : Bool) (r : MemberText) → rows_next m f first (xs ++ r ∷ []) ≡ row_next m (rows_next m f first xs) (none_before first xs) r
  next_more [] f first r = refl
  next_more (x ∷ xs) f first r = next_more xs (row_next m f first x) false r ∙ ap (λ b. row_next m (rows_next m (row_next m f first x) false xs) b r) (never xs)
    where
      never : (ys : List MemberText) → none_before false ys ≡ false
      never [] = refl
      never (y ∷ ys) = refl

  -- the pieces after the first rows
  bytes_on : (xs ys : List MemberText) (f : F) (first : Bool) → (q : List ℕ) × (rows_bytes m f first (xs ++ ys) ≡ rows_bytes m f first xs ++ q)
  bytes_on [] ys f first = (rows_bytes m f first ys, refl)
  bytes_on (x ∷ xs) ys f first = let h = bytes_on xs ys (row_next m f first x) false in (h.0, ap (λ l. row_bytes m f first x ++ l) h.1 ∙ sym (append_assoc (row_bytes m f first x) _ h.0))

  -- the first rows were put
  pub record HasPutRows (f : F) (a b : SinkState) (g : F) (rows : List MemberText) (n : ℕ) : Type 0 where
    pub puts : Puts a b (rows_bytes m f true (take n rows)) (Ok tt)
    pub next : g ≡ rows_next m f true (take n rows)

  row_bytes_at : (f g : F) (a b : SinkState) (rows : List MemberText) (n : ℕ) (r : MemberText) → HasPutRows f a b g rows n → slice_get rows n ≡ Some r
      → rows_bytes m f true (take (n + 1) rows) ≡ rows_bytes m f true (take n rows) ++ row_bytes m g (n == 0) r
  row_bytes_at f g a b rows n r h e =
      ap (rows_bytes m f true) (take_get rows n r e) ∙ bytes_more (take n rows) f true r
      ∙ ap (λ x. rows_bytes m f true (take n rows) ++ row_bytes m x (none_before true (take n rows)) r) (sym h.next) ∙ ap (λ x. rows_bytes m f true (take n rows) ++ row_bytes m g x r) (at_first rows n r e)

  pub more_rows : (f g k : F) (a b c : SinkState) (rows : List MemberText) (n : ℕ) (r : MemberText) → HasPutRows f a b g rows n → slice_get rows n ≡ Some r → Puts b c (row_bytes m g (n == 0) r) (Ok tt) → k ≡ row_next m g (n == 0) r → HasPutRows f a c k rows (n + 1)
  more_rows f g k a b c rows n r h e p q =
      record {
        puts = subst (λ l. Puts a c l (Ok tt)) (sym (row_bytes_at f g a b rows n r h e)) (Puts-then a b c _ _ tt (Ok tt) h.puts p);
        next = q ∙ ap (λ x. row_next m g x r) (sym (at_first rows n r e)) ∙ ap (λ x. row_next m x (none_before true (take n rows)) r) h.next ∙ sym (ap (rows_next m f true) (take_get rows n r e) ∙ next_more (take n rows) f true r);
      }

  pub row_failed : (f g : F) (a b c : SinkState) (rows : List MemberText) (n : ℕ) (r : MemberText) (e' : Error) → HasPutRows f a b g rows n → slice_get rows n ≡ Some r → Puts b c (row_bytes m g (n == 0) r) (Err e') → Puts a c (rows_bytes m f true rows) (Err e')
  row_failed f g a b c rows n r e' h e p =
      let rest = bytes_on (take (n + 1) rows) (drop (n + 1) rows) f true in
      subst (λ l. Puts a c l (Err e')) (sym (sym (ap (rows_bytes m f true) (take-append-drop (n + 1) rows)) ∙ rest.1 ∙ ap (λ l. l ++ rest.0) (row_bytes_at f g a b rows n r h e)))
      (Puts-first a c _ rest.0 e' (Puts-then a b c _ _ tt (Err e') h.puts p))

  pub all_rows : (f g : F) (a b : SinkState) (rows : List MemberText) (n : ℕ) → length rows ≤ n → HasPutRows f a b g rows n → Puts a b (rows_bytes m f true rows) (Ok tt) × (g ≡ rows_next m f true rows)
  all_rows f g a b rows n l h =
      let e = take_all n rows l in
      (subst (λ x. Puts a b (rows_bytes m f true x) (Ok tt)) e h.puts, h.next ∙ ap (rows_next m f true) e)
