-- How the cells of a row are put one after another, and the names of a header.
use Rattle.std.proofs.Common.{◌≡◌, ℕ, suc, ◌+◌, ◌<◌, Bool, true, false, List, [], ◌∷◌, ◌++◌, length, map, take, drop, Some, Option, Ok, Err, Result, refl, sym, ap, ◌∙◌, subst, arith, append_assoc, append-nil}
use Rattle.std.specs.List.{flat_map}
use Rattle.std.specs.Prelude.{get_or}
use Rattle.std.proofs.Math.Seq.{split_at, take-suc}
use Rattle.std.proofs.lemmas.List.{map-append}
use Rattle.json_grammar.specs.Tree.{Tree}
use Rattle.json_io.specs.Outside.{SinkState}
use Rattle.json_io.specs.declared.error.Error.{Error}
use Rattle.json_layout.specs.TextWriting.{WritesText}
use Rattle.json_lines.specs.Cells.{Column, RowFormat, LinesCommand, cell, cell_where, separator, cells, row_end, table_row, row_where}
use Rattle.json_lines.specs.Csv.{joined}
use Rattle.json_model.specs.Edit.{Step}
use Rattle.json_value.specs.Steps.{tree_at}
use Rattle.std.specs.Prelude.{None}
use Rattle.json_lines.specs.Tables.{cell_separator}
use Rattle.json_lines.proofs.TextWriting.{WritesText-nil, WritesText-then, WritesText-first, WritesText-is}

abbrev pub is_none : {A : Type 0} → List A → Bool
is_none [] = true
is_none (x ∷ xs) = false

abbrev preceded : {A : Type 0} → ℕ → (A → List ℕ) → List A → List ℕ
preceded between text xs = flat_map (λ x. between ∷ text x) xs

preceded-append : {A : Type 0} (between : ℕ) (text : A → List ℕ) (xs ys : List A) → preceded between text (xs ++ ys) ≡ preceded between text xs ++ preceded between text ys
preceded-append between text [] ys = refl
preceded-append between text (x ∷ xs) ys =
    ap (λ l. between ∷ (text x ++ l)) (preceded-append between text xs ys) ∙ ap (λ l. between ∷ l) (sym (append_assoc (text x) (preceded between text xs) (preceded between text ys)))

-- the texts of some items, of one more, and of others
pub joined-split : {A : Type 0} (between : ℕ) (text : A → List ℕ) (xs : List A) (x : A) (later : List A) → joined between text (xs ++ x ∷ later) ≡ joined between text xs ++ ((cell_separator between (is_none xs) ++ text x) ++ preceded between text later)
joined-split between text [] x later = refl
joined-split between text (y ∷ xs) x later =
    ap (λ l. text y ++ l) (preceded-append between text xs (x ∷ later)) ∙ sym (append_assoc (text y) (preceded between text xs) (preceded between text (x ∷ later)))

-- the texts of these items were put, with a byte between them
pub record WritesJoined {A : Type 0} (between : ℕ) (text : A → List ℕ) (old new : SinkState) (first : Bool) (done : List A) : Type 0 where
  pub puts : WritesText old new (joined between text done) (Ok tt)
  pub first_so : first ≡ is_none done

pub WritesJoined-start : {A : Type 0} (between : ℕ) (text : A → List ℕ) (old : SinkState) → WritesJoined between text old old true []
WritesJoined-start between text old = record { puts = WritesText-nil old; first_so = refl }

not-none : {A : Type 0} (xs : List A) (x : A) → false ≡ is_none (xs ++ x ∷ [])
not-none [] x = refl
not-none (y ∷ xs) x = refl

pub WritesJoined-more : {A : Type 0} (between : ℕ) (text : A → List ℕ) (old mid new : SinkState) (first : Bool) (done : List A) (x : A) (u : Unit {0}) → WritesJoined between text old mid first done → WritesText mid new (cell_separator between first ++ text x) (Ok u)
    → WritesJoined between text old new false (done ++ x ∷ [])
WritesJoined-more between text old mid new first done x u h k =
    record {
      puts = subst (λ l. WritesText old new l (Ok tt)) (sym (joined-split between text done x [] ∙ ap (λ l. joined between text done ++ l) (append-nil (cell_separator between (is_none done) ++ text x))))
          (WritesText-then old mid new (joined between text done) (cell_separator between (is_none done) ++ text x) tt (Ok u) h.puts (subst (λ f. WritesText mid new (cell_separator between f ++ text x) (Ok u)) h.first_so k));
      first_so = not-none done x;
    }

pub WritesJoined-stopped : {A : Type 0} (between : ℕ) (text : A → List ℕ) (old mid new : SinkState) (first : Bool) (done : List A) (x : A) (later : List A) (e : Error) → WritesJoined between text old mid first done → WritesText mid new (cell_separator between first ++ text x) (Err e)
    → WritesText old new (joined between text (done ++ x ∷ later)) (Err e)
WritesJoined-stopped between text old mid new first done x later e h k =
    subst (λ l. WritesText old new l (Err e)) (sym (joined-split between text done x later))
    (WritesText-then old mid new (joined between text done) _ tt (Err e) h.puts (WritesText-first mid new (cell_separator between (is_none done) ++ text x) (preceded between text later) e (subst (λ f. WritesText mid new (cell_separator between f ++ text x) (Err e)) h.first_so k)))

-- ---- one item of a list

pub mapped-split : {A B : Type 0} (f : A → B) (xs : List A) (i : ℕ) (x : A) → i < length xs → x ≡ get_or xs i x → map f xs ≡ map f (take i xs) ++ f x ∷ map f (drop (suc i) xs)
mapped-split f xs i x l is = ap (map f) (split_at xs i x l ∙ ap (λ y. take i xs ++ y ∷ drop (suc i) xs) (sym is)) ∙ map-append f (take i xs) (x ∷ drop (suc i) xs)

pub mapped-more : {A B : Type 0} (f : A → B) (xs : List A) (i : ℕ) (x : A) → i < length xs → x ≡ get_or xs i x → map f (take (i + 1) xs) ≡ map f (take i xs) ++ f x ∷ []
mapped-more f xs i x l is = ap (λ n. map f (take n xs)) {x = i + 1} {y = suc i} (omega arith) ∙ ap (map f) (take-suc xs i x l ∙ ap (λ y. take i xs ++ y ∷ []) (sym is)) ∙ map-append f (take i xs) (x ∷ [])

-- ---- the row

pub row-there : (k : LinesCommand) (t u : Tree) → Some u ≡ tree_at k.has t → table_row k t ≡ cells k.format k.columns t ++ row_end k.format
row-there k t u e = ap (λ o. row_where o k.format k.columns t) (sym e)

pub row-none : (k : LinesCommand) (t : Tree) → None ≡ tree_at k.has t → table_row k t ≡ []
row-none k t e = ap (λ o. row_where o k.format k.columns t) (sym e)

pub WritesJoined-is : {A : Type 0} (between : ℕ) (text : A → List ℕ) (old new : SinkState) (first : Bool) (p q : List A) → p ≡ q → WritesJoined between text old new first p → WritesJoined between text old new first q
WritesJoined-is between text old new first p q e h = subst (λ l. WritesJoined between text old new first l) e h

-- the cell at the end of the steps
pub cell-found : (old new : SinkState) (format : RowFormat) (first : Bool) (c : Column) (o : Option Tree) (steps : List Step) (t : Tree) (r : Result (Unit {0}) Error) → o ≡ tree_at steps t → steps ≡ c.path
    → WritesText old new (cell_separator (separator format) first ++ cell_where format c.kind o) r → WritesText old new (cell_separator (separator format) first ++ cell format t c) r
cell-found old new format first c o steps t r e f h = WritesText-is old new _ _ r (ap (λ x. cell_separator (separator format) first ++ cell_where format c.kind x) (e ∙ ap (λ p. tree_at p t) f)) h
