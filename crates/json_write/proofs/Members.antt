-- Lists and rows, one member more.
use Rattle.std.proofs.Common.{◌≡◌, ℕ, zero, suc, ◌+◌, ◌<◌, List, [], ◌∷◌, ◌++◌, length, take, drop, get_or, map, Option, Some, option_map, refl, sym, ap, ◌∙◌, append_assoc, append-nil, add-one, arith}
use Rattle.json_grammar.specs.declared.Kind.TheVariants.{Array as array, Object as object}
use Rattle.json_grammar.specs.Tree.{begin, end, key_token}
use Rattle.json_print.specs.Given.{TokenOrInteger, given}
use Rattle.json_model.specs.Datum.{Datum, list_datum, rows_datum, row_of, list_data, list_rows, key_of}
use Rattle.json_print.specs.Data.{parts, data_parts, rows_parts}

-- the parts of elements
abbrev pub items : {T : Type 0} → (T → Datum) → List T → List (Option TokenOrInteger)
items f xs = data_parts (list_data (map f xs))

pub items_append : {T : Type 0} (f : T → Datum) (xs ys : List T) → items f (xs ++ ys) ≡ items f xs ++ items f ys
items_append f [] ys = refl
items_append f (x ∷ xs) ys = ap (λ ps. parts (f x) ++ ps) (items_append f xs ys) ∙ sym (append_assoc (parts (f x)) (items f xs) (items f ys))

-- the parts of a list up to some element
abbrev pub list_front : {T : Type 0} → (T → Datum) → List T → List (Option TokenOrInteger)
list_front f xs = Some (given (begin array)) ∷ items f xs

pub list_front_more : {T : Type 0} (f : T → Datum) (xs : List T) (x : T) → list_front f xs ++ parts (f x) ≡ list_front f (xs ++ x ∷ [])
list_front_more f xs x = ap (λ ps. Some (given (begin array)) ∷ ps) (ap (λ ps. items f xs ++ ps) (sym (append-nil (parts (f x)))) ∙ sym (items_append f xs (x ∷ [])))

-- around an element
pub list_around : {T : Type 0} (f : T → Datum) (all xs ys : List T) (x : T) → all ≡ xs ++ x ∷ ys → (more : List (Option TokenOrInteger)) × (list_front f xs ++ (parts (f x) ++ more) ≡ parts (list_datum (list_data (map f all))))
list_around f all xs ys x e = (
  items f ys ++ Some (given (end array)) ∷ [],
  ap (λ ps. Some (given (begin array)) ∷ ps)
      (ap (λ ps. items f xs ++ ps) (sym (append_assoc (parts (f x)) (items f ys) (Some (given (end array)) ∷ []))) ∙ sym (append_assoc (items f xs) (items f (x ∷ ys)) (Some (given (end array)) ∷ []))
      ∙ ap (λ ps. ps ++ Some (given (end array)) ∷ []) (sym (items_append f xs (x ∷ ys)) ∙ ap (items f) (sym e))),
)

pub split_at : {T : Type 0} (xs : List T) (i : ℕ) (x : T) → i < length xs → x ≡ get_or xs i x → xs ≡ take i xs ++ x ∷ drop (suc i) xs
split_at [] i x l e = absurd (omega arith)
split_at (y ∷ ys) zero x l e = ap (λ z. z ∷ ys) (sym e)
split_at (y ∷ ys) (suc i) x l e = ap (λ zs. y ∷ zs) (split_at ys i x (omega arith) e)

take_next : {T : Type 0} (xs : List T) (i : ℕ) (x : T) → i < length xs → x ≡ get_or xs i x → take i xs ++ x ∷ [] ≡ take (suc i) xs
take_next [] i x l e = absurd (omega arith)
take_next (y ∷ ys) zero x l e = ap (λ z. z ∷ []) e
take_next (y ∷ ys) (suc i) x l e = ap (λ zs. y ∷ zs) (take_next ys i x (omega arith) e)

pub take_more : {T : Type 0} (xs : List T) (i : ℕ) (x : T) → i < length xs → x ≡ get_or xs i x → take i xs ++ x ∷ [] ≡ take (i + 1) xs
take_more xs i x l e = take_next xs i x l e ∙ ap (λ n. take n xs) (sym (add-one i))

-- ---- rows

abbrev pub entries : {K V : Type 0} → (K → Datum) → (V → Datum) → List (K × V) → List (Option TokenOrInteger)
entries f g xs = rows_parts (list_rows (map (row_of f g) xs))

abbrev pub entry : {K V : Type 0} → (K → Datum) → (V → Datum) → K × V → List (Option TokenOrInteger)
entry f g e = option_map (λ s. given (key_token s)) (key_of (f e.0)) ∷ parts (g e.1)

pub entries_append : {K V : Type 0} (f : K → Datum) (g : V → Datum) (xs ys : List (K × V)) → entries f g (xs ++ ys) ≡ entries f g xs ++ entries f g ys
entries_append f g [] ys = refl
entries_append f g (x ∷ xs) ys = ap (λ ps. entry f g x ++ ps) (entries_append f g xs ys) ∙ sym (append_assoc (entry f g x) (entries f g xs) (entries f g ys))

abbrev pub rows_front : {K V : Type 0} → (K → Datum) → (V → Datum) → List (K × V) → List (Option TokenOrInteger)
rows_front f g xs = Some (given (begin object)) ∷ entries f g xs

pub rows_front_more : {K V : Type 0} (f : K → Datum) (g : V → Datum) (xs : List (K × V)) (x : K × V) → rows_front f g xs ++ entry f g x ≡ rows_front f g (xs ++ x ∷ [])
rows_front_more f g xs x = ap (λ ps. Some (given (begin object)) ∷ ps) (ap (λ ps. entries f g xs ++ ps) (sym (append-nil (entry f g x))) ∙ sym (entries_append f g xs (x ∷ [])))

pub rows_around : {K V : Type 0} (f : K → Datum) (g : V → Datum) (all xs ys : List (K × V)) (x : K × V) → all ≡ xs ++ x ∷ ys
    → (more : List (Option TokenOrInteger)) × (rows_front f g xs ++ (entry f g x ++ more) ≡ parts (rows_datum (list_rows (map (row_of f g) all))))
rows_around f g all xs ys x e = (
  entries f g ys ++ Some (given (end object)) ∷ [],
  ap (λ ps. Some (given (begin object)) ∷ ps)
      (ap (λ ps. entries f g xs ++ ps) (sym (append_assoc (entry f g x) (entries f g ys) (Some (given (end object)) ∷ []))) ∙ sym (append_assoc (entries f g xs) (entries f g (x ∷ ys)) (Some (given (end object)) ∷ []))
      ∙ ap (λ ps. ps ++ Some (given (end object)) ∷ []) (sym (entries_append f g xs (x ∷ ys)) ∙ ap (entries f g) (sym e))),
)
