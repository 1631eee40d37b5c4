-- Bytes as an array of numbers, one after another.
use Rattle.std.proofs.Common.{◌≡◌, ℕ, suc, ◌+◌, ◌<◌, List, [], ◌∷◌, ◌++◌, length, drop, get_or, refl, sym, ap, ◌∙◌, subst, arith, append_assoc, append-nil, Bool, true, false, Ok, Err, Result, Option, ◌==◌, not}
use Rattle.std.proofs.lemmas.List.{drop_more}
use Rattle.std.proofs.lemmas.Bool.{ne_eqb}
use Rattle.std.specs.Fmt.{decimal}
use Rattle.json_model.specs.Print.{line}
use Rattle.json_io.specs.declared.sink.SinkError.{SinkError}
use Rattle.json_io.specs.Outside.{SinkState}
use Rattle.json_layout.specs.Adding.{Adds}
use Rattle.json_layout.proofs.Pieces.{Adds-first, Adds-then, Adds-nil}
use Rattle.json_layout.specs.Pieces.{byte_elements, comma, holds_any}

-- those before `at` were written
pub record HasAddedElements (a b : SinkState) (i : Option (List ℕ)) (d at : ℕ) (bytes : List ℕ) : Type 0 where
  pub front : List ℕ
  pub whole : byte_elements i d true bytes ≡ front ++ byte_elements i d (at == 0) (drop at bytes)
  pub puts : Adds a b front (Ok tt)

pub no_elements : (a : SinkState) (i : Option (List ℕ)) (d : ℕ) (bytes : List ℕ) → HasAddedElements a a i d 0 bytes
no_elements a i d bytes = record { front = []; whole = refl; puts = Adds-nil a }

element_whole : (i : Option (List ℕ)) (d at : ℕ) (bytes : List ℕ) → at < length bytes → byte_elements i d (at == 0) (drop at bytes) ≡ byte_elements i d (at == 0) (get_or bytes at 0 ∷ []) ++ byte_elements i d (at + 1 == 0) (drop (at + 1) bytes)
element_whole i d at bytes l =
    ap (byte_elements i d (at == 0)) (drop_more bytes at 0 l)
    ∙ regrouped (comma (at == 0)) (line i d) (decimal (get_or bytes at 0)) (byte_elements i d false (drop (at + 1) bytes))
    ∙ ap (λ b. byte_elements i d (at == 0) (get_or bytes at 0 ∷ []) ++ byte_elements i d b (drop (at + 1) bytes)) (sym (ne_eqb (at + 1) 0 (λ e. omega arith)))
  where
    regrouped : (x y z w : List ℕ) → x ++ (y ++ (z ++ w)) ≡ (x ++ (y ++ (z ++ []))) ++ w
    regrouped x y z w = simp (append_assoc, append-nil)

pub more_elements : (a b c : SinkState) (i : Option (List ℕ)) (d at : ℕ) (bytes : List ℕ) → at < length bytes → HasAddedElements a b i d at bytes → Adds b c (byte_elements i d (at == 0) (get_or bytes at 0 ∷ [])) (Ok tt)
    → HasAddedElements a c i d (at + 1) bytes
more_elements a b c i d at bytes l h p =
    record {
      front = h.front ++ byte_elements i d (at == 0) (get_or bytes at 0 ∷ []);
      whole = h.whole ∙ ap (λ x. h.front ++ x) (element_whole i d at bytes l) ∙ sym (append_assoc h.front _ _);
      puts = Adds-then a b c h.front _ tt (Ok tt) h.puts p;
    }

pub elements_failed : (a b c : SinkState) (i : Option (List ℕ)) (d at : ℕ) (bytes : List ℕ) (e : SinkError) → at < length bytes → HasAddedElements a b i d at bytes → Adds b c (byte_elements i d (at == 0) (get_or bytes at 0 ∷ [])) (Err e)
    → Adds a c (byte_elements i d true bytes) (Err e)
elements_failed a b c i d at bytes e l h p =
    subst (λ x. Adds a c x (Err e)) (sym (h.whole ∙ ap (λ x. h.front ++ x) (element_whole i d at bytes l))) (Adds-then a b c h.front _ tt (Err e) h.puts (Adds-first b c _ _ e p))

regroup : (x y z : List ℕ) → (x ++ y) ++ z ≡ x ++ (y ++ (z ++ []))
regroup x y z = append_assoc x y z ∙ ap (λ l. x ++ (y ++ l)) (sym (append-nil z))

pub element_put : (a b c : SinkState) (i : Option (List ℕ)) (d : ℕ) (first : Bool) (x : ℕ) (r : Result (Unit {0}) SinkError) → Adds a b (comma first ++ line i d) (Ok tt) → Adds b c (decimal x) r → Adds a c (byte_elements i d first (x ∷ [])) r
element_put a b c i d first x r p q = subst (λ l. Adds a c l r) (regroup (comma first) (line i d) (decimal x)) (Adds-then a b c _ _ tt r p q)

pub element_failed : (a b : SinkState) (i : Option (List ℕ)) (d : ℕ) (first : Bool) (x : ℕ) (e : SinkError) → Adds a b (comma first ++ line i d) (Err e) → Adds a b (byte_elements i d first (x ∷ [])) (Err e)
element_failed a b i d first x e p = subst (λ l. Adds a b l (Err e)) (regroup (comma first) (line i d) (decimal x)) (Adds-first a b _ (decimal x) e p)

pub holds_some : (bytes : List ℕ) (empty : Bool) → empty ≡ (length bytes == 0) → not empty ≡ holds_any bytes
holds_some [] empty e = ap not e
holds_some (x ∷ bytes) empty e = ap not (e ∙ ne_eqb (suc (length bytes)) 0 (λ h. omega arith))
