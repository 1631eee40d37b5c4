-- The innermost of the sorted objects that are open.
use Rattle.std.proofs.Common.{◌≡◌, ℕ, ◌+◌, ◌-◌, ◌<◌, List, [], ◌∷◌, ◌++◌, length, take, set, get_or, reverse, ◌∙◌, sym, ap, ap₂, arith}
use Rattle.std.proofs.lemmas.List.{take_more, take_all, reverse-append, length-set, get_or-set_same, take-set-le}
use Rattle.json_print.specs.Printer.{SerializerState, Layer, gained_put, layers_put}

-- the last of a list, and what precedes it
pub record Innermost (xs : List Layer) (n : ℕ) (l : Layer) : Type 0 where
  pub outer : List Layer
  pub there : reverse xs ≡ l ∷ outer
  pub changed : (k : Layer) → reverse (set xs n k) ≡ k ∷ outer

last_of : (xs : List Layer) (n : ℕ) (l : Layer) → n + 1 ≡ length xs → l ≡ get_or xs n l → reverse xs ≡ l ∷ reverse (take n xs)
last_of xs n l e g =
    ap reverse (sym (take_all (n + 1) xs (omega (arith, e))) ∙ take_more xs n l (omega (arith, e)) ∙ ap (λ x. take n xs ++ x ∷ []) (sym g)) ∙ reverse-append (take n xs) (l ∷ [])

pub innermost : (xs : List Layer) (len n : ℕ) (l : Layer) → len ≡ length xs → 0 < len → n ≡ len - 1 → l ≡ get_or xs n l → Innermost xs n l
innermost xs len n l e p k g =
    let m : n + 1 ≡ length xs = omega (arith, e, p, k) in
    record {
      outer = reverse (take n xs);
      there = last_of xs n l m g;
      changed = λ x. last_of (set xs n x) n x (m ∙ sym (length-set xs n x)) (sym (get_or-set_same xs n x x (omega (arith, m)))) ∙ ap (λ ys. x ∷ reverse ys) (take-set-le n xs n x (omega arith));
    }

-- a piece into the innermost
pub put_in : {F : Type 0} (old : SerializerState F) (g h : F) (p : List ℕ) (l k : Layer) (outer new : List Layer) → old.layers ≡ l ∷ outer → new ≡ k ∷ outer → k ≡ record l { text = l.text ++ p } → h ≡ g
    → ◌≡◌ {A = SerializerState F} (record old { formatter = h; layers = new }) (record old { formatter = g; gained = gained_put old.layers old.gained p; layers = layers_put old.layers p })
put_in {F = F} old g h p l k outer new e f j n =
    ap₂ (λ (x : F) (ls : List Layer). let r : SerializerState F = record old { formatter = x; layers = ls } in r) n (f ∙ ap (λ x. x ∷ outer) j)
    ∙ sym (ap (λ ls. let r : SerializerState F = record old { formatter = g; gained = gained_put ls old.gained p; layers = layers_put ls p } in r) e)

-- another change of it
pub changed_in : {F : Type 0} (old : SerializerState F) (f : List Layer → List Layer) (l k : Layer) (outer new : List Layer) → old.layers ≡ l ∷ outer → new ≡ k ∷ outer → k ∷ outer ≡ f (l ∷ outer) → ◌≡◌ {A = SerializerState F} (record old { layers = new }) (record old { layers = f old.layers })
changed_in {F = F} old f l k outer new e g h = ap (λ (ls : List Layer). let r : SerializerState F = record old { layers = ls } in r) (g ∙ h ∙ ap f (sym e))
