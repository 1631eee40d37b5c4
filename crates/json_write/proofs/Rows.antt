-- Rows that are written in turn.
use Rattle.std.proofs.Common.{◌≡◌, ℕ, List, [], ◌∷◌, ◌++◌, map, Option, Some, None, Err, Result, option_map, sym, ap, ◌∙◌, append_assoc, append-nil}
use Rattle.json_grammar.specs.declared.Kind.TheVariants.{Object as object}
use Rattle.json_grammar.specs.Tree.{begin, end, key_token}
use Rattle.json_io.specs.declared.error.Error.{Error}
use Rattle.json_print.specs.Given.{TokenOrInteger, given}
use Rattle.json_model.specs.Datum.{Datum, rows_datum, row_of, list_rows, key_of}
use Rattle.json_print.specs.Data.{parts}
use Rattle.json_write.specs.Writing.{WritesDatumTokens}
use Rattle.json_io.specs.Errors.{key_has_no_text}
use Rattle.json_write.proofs.Parts.{Wrote, wrote_then, wrote_same, writes_then, writes_stop, writes_same, writes_gap}
use Rattle.json_write.proofs.Members.{rows_front, rows_front_more, rows_around}

-- those before the rest are written
pub record RowsUpTo {K V S : Type 0} (f : K → Datum) (g : V → Datum) (after : S → TokenOrInteger → S) (old new : S) (err failed : Option Error) (all rest : List (K × V)) : Type 0 where
  pub done : List (K × V)
  pub whole : all ≡ done ++ rest
  pub wrote : Wrote after old new err failed (rows_front f g done)

pub rows_start : {K V S : Type 0} {f : K → Datum} {g : V → Datum} {after : S → TokenOrInteger → S} {old new : S} {err failed : Option Error} {all rest : List (K × V)} → Wrote after old new err failed (Some (given (begin object)) ∷ []) → rest ≡ all → RowsUpTo f g after old new err failed all rest
rows_start w e = record { done = []; whole = sym e; wrote = w }

left_of : {X : Type 0} (all done rest left : List X) (x : X) → all ≡ done ++ rest → rest ≡ x ∷ left → all ≡ done ++ x ∷ left
left_of all done rest left x e s = e ∙ ap (λ ys. done ++ ys) s

-- a key with no text
pub rows_gap : {K V S : Type 0} {f : K → Datum} {g : V → Datum} {after : S → TokenOrInteger → S} {stopped : S → TokenOrInteger → S → Error → Type 0} {old new : S} {err failed : Option Error} {all rest left : List (K × V)} (x : K × V) {e : Error}
    → RowsUpTo f g after old new err failed all rest → rest ≡ x ∷ left → None ≡ key_of (f x.0) → e ≡ key_has_no_text → WritesDatumTokens after stopped old new err failed (parts (rows_datum (list_rows (map (row_of f g) all)))) (Err e)
rows_gap {f = f} {g = g} {all = all} {rest = rest} {left = left} x h s n is =
    let r = rows_around f g all h.done left x (left_of all h.done rest left x h.whole s) in
    rw is (writes_same (writes_then h.wrote (writes_gap {ps = parts (g x.1) ++ r.0} h.wrote.fresh)) (ap (λ k. rows_front f g h.done ++ (option_map (λ s. given (key_token s)) k ∷ (parts (g x.1) ++ r.0))) n ∙ r.1))

-- an error at the key
pub rows_key_stop : {K V S : Type 0} {f : K → Datum} {g : V → Datum} {after : S → TokenOrInteger → S} {stopped : S → TokenOrInteger → S → Error → Type 0} {old mid new : S} {err failed failed' : Option Error} {all rest left : List (K × V)} (x : K × V) {k : List ℕ} {e : Error}
    → RowsUpTo f g after old mid err failed all rest → rest ≡ x ∷ left → Some k ≡ key_of (f x.0) → WritesDatumTokens after stopped mid new failed failed' (Some (given (key_token k)) ∷ []) (Err e)
    → WritesDatumTokens after stopped old new err failed' (parts (rows_datum (list_rows (map (row_of f g) all)))) (Err e)
rows_key_stop {f = f} {g = g} {all = all} {rest = rest} {left = left} x h s n w =
    let r = rows_around f g all h.done left x (left_of all h.done rest left x h.whole s) in
    writes_same (writes_then h.wrote (writes_stop w (parts (g x.1) ++ r.0))) (ap (λ k. rows_front f g h.done ++ (option_map (λ s. given (key_token s)) k ∷ (parts (g x.1) ++ r.0))) n ∙ r.1)

-- the value is refused, or an error is met in it
pub rows_value_stop : {K V S : Type 0} {f : K → Datum} {g : V → Datum} {after : S → TokenOrInteger → S} {stopped : S → TokenOrInteger → S → Error → Type 0} {old mid at new : S} {err failed failed' failed'' : Option Error} {all rest left : List (K × V)} (x : K × V) {k : List ℕ} {e : Error}
    → RowsUpTo f g after old mid err failed all rest → rest ≡ x ∷ left → Some k ≡ key_of (f x.0) → Wrote after mid at failed failed' (Some (given (key_token k)) ∷ []) → WritesDatumTokens after stopped at new failed' failed'' (parts (g x.1)) (Err e)
    → WritesDatumTokens after stopped old new err failed'' (parts (rows_datum (list_rows (map (row_of f g) all)))) (Err e)
rows_value_stop {f = f} {g = g} {all = all} {rest = rest} {left = left} x {k = k} h s n v w =
    let r = rows_around f g all h.done left x (left_of all h.done rest left x h.whole s) in
    writes_same (writes_then (wrote_then h.wrote v) (writes_stop w r.0))
    (append_assoc (rows_front f g h.done) (Some (given (key_token k)) ∷ []) (parts (g x.1) ++ r.0) ∙ ap (λ k. rows_front f g h.done ++ (option_map (λ s. given (key_token s)) k ∷ (parts (g x.1) ++ r.0))) n ∙ r.1)

-- one row more
pub rows_next : {K V S : Type 0} {f : K → Datum} {g : V → Datum} {after : S → TokenOrInteger → S} {old mid at new : S} {err failed failed' failed'' : Option Error} {all rest left : List (K × V)} (x : K × V) {k : List ℕ}
    → RowsUpTo f g after old mid err failed all rest → rest ≡ x ∷ left → Some k ≡ key_of (f x.0) → Wrote after mid at failed failed' (Some (given (key_token k)) ∷ []) → Wrote after at new failed' failed'' (parts (g x.1))
    → RowsUpTo f g after old new err failed'' all left
rows_next {f = f} {g = g} {all = all} {rest = rest} {left = left} x {k = k} h s n v w = record {
  done = h.done ++ x ∷ [];
  whole = left_of all h.done rest left x h.whole s ∙ sym (append_assoc h.done (x ∷ []) left);
  wrote = wrote_same (wrote_then (wrote_then h.wrote v) w)
      (append_assoc (rows_front f g h.done) (Some (given (key_token k)) ∷ []) (parts (g x.1)) ∙ ap (λ k. rows_front f g h.done ++ (option_map (λ s. given (key_token s)) k ∷ parts (g x.1))) n ∙ rows_front_more f g h.done x);
}

-- the end
pub rows_all : {K V S : Type 0} {f : K → Datum} {g : V → Datum} {after : S → TokenOrInteger → S} {stopped : S → TokenOrInteger → S → Error → Type 0} {old mid new : S} {err failed failed' : Option Error} {all rest : List (K × V)} {r : Result (Unit {0}) Error}
    → RowsUpTo f g after old mid err failed all rest → rest ≡ [] → WritesDatumTokens after stopped mid new failed failed' (Some (given (end object)) ∷ []) r → WritesDatumTokens after stopped old new err failed' (parts (rows_datum (list_rows (map (row_of f g) all)))) r
rows_all {f = f} {g = g} {all = all} h n w =
    writes_same (writes_then h.wrote w) (ap (λ ys. rows_front f g ys ++ Some (given (end object)) ∷ []) (sym (h.whole ∙ ap (λ ys. h.done ++ ys) n ∙ append-nil h.done)))
