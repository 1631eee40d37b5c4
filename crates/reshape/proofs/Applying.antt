-- Edits in turn.
use Rattle.std.proofs.Common.{◌≡◌, ℕ, suc, ◌+◌, ◌<◌, List, [], ◌∷◌, ◌++◌, length, map, take, drop, Ok, Err, Result, sym, ap, ◌∙◌, arith, append_assoc}
use Rattle.std.specs.Prelude.{slice_index_or}
use Rattle.std.proofs.lemmas.List.{take_more, take-append-drop, map-append, length-take-le, length-map}
use Rattle.json_io.specs.declared.error.ErrorCode.{ErrorCode}
use Rattle.json_io.specs.declared.error.ErrorCode.TheVariants.{NoMemory, NotFound, TypeUnmatched}
use Rattle.json_io.specs.declared.error.Place.{Place}
use Rattle.json_io.specs.declared.error.Place.TheVariants.{None as nowhere}
use Rattle.json_grammar.specs.Tree.{Tree}
use Rattle.json_model.specs.Edit.{Edit, Changed, EditRefusal, edited_once, edited_from, edited, not_found, type_unmatched}
use Rattle.json_value.specs.Edits.{edit_of, RefusesChange}
use Rattle.json_value.specs.declared.path.Edit as value
use Rattle.reshape.specs.Reshape.{EditingRefuses, place_numbered}

-- what the edits from number n on make of a tree, given what the first of them makes of it
abbrev Behind : ℕ → List Edit → Changed Tree → Result Tree (ℕ × EditRefusal)
Behind n es c = elim c [ Ok u ↦ edited_from (suc n) es u | Err r ↦ Err (n, r) ]

abbrev Answer : Type 0
Answer = Result Tree (ℕ × EditRefusal)

ok_is : (x y : Tree) → ◌≡◌ {A = Answer} (Ok x) (Ok y) → x ≡ y
ok_is x y e = cc

err_ok : (x : Tree) (e : ℕ × EditRefusal) → ◌≡◌ {A = Answer} (Err e) (Ok x) → ⊥
err_ok x e h = cc

-- what holds after one edit holds after it and those that follow
first_then : (n : ℕ) (ds bs : List Edit) (u : Tree) → ((v : Tree) → edited_from (suc n) ds v ≡ Ok u → edited_from (suc n) (ds ++ bs) v ≡ edited_from (suc n + length ds) bs u)
    → (c : Changed Tree) → Behind n ds c ≡ Ok u → Behind n (ds ++ bs) c ≡ edited_from (suc n + length ds) bs u
first_then n ds bs u rest (Ok v) g = rest v g
first_then n ds bs u rest (Err r) g = absurd (err_ok u (n, r) g)

-- the edits after the first, where it applies
pub edited_then : (n : ℕ) (ds bs : List Edit) (t u : Tree) → edited_from n ds t ≡ Ok u → edited_from n (ds ++ bs) t ≡ edited_from (n + length ds) bs u
edited_then n [] bs t u h = ap (λ v. edited_from n bs v) (ok_is t u h) ∙ ap (λ m. edited_from m bs u) (none n)
  where
    none : (i : ℕ) → i ≡ i + 0
    none i = omega arith
edited_then n (a ∷ ds) bs t u h = first_then n ds bs u (λ v g. edited_then (suc n) ds bs v u g) (edited_once a t) h ∙ ap (λ m. edited_from m bs u) (more n (length ds))
  where
    more : (i k : ℕ) → suc i + k ≡ i + suc k
    more i k = omega arith

-- one edit more, which applies
pub edited_more : (es : List Edit) (e : Edit) (t u v : Tree) → edited es t ≡ Ok u → edited_once e u ≡ Ok v → edited (es ++ e ∷ []) t ≡ Ok v
edited_more es e t u v h g = edited_then 0 es (e ∷ []) t u h ∙ ap (Behind (0 + length es) []) g

-- one edit more, which does not
pub edited_stops : (es : List Edit) (e : Edit) (more : List Edit) (t u : Tree) (why : EditRefusal) (n : ℕ) → edited es t ≡ Ok u → edited_once e u ≡ Err why → n ≡ length es → edited (es ++ e ∷ more) t ≡ Err (n, why)
edited_stops es e more t u why n h g l = edited_then 0 es (e ∷ more) t u h ∙ ap (Behind (0 + length es) more) g ∙ ap (λ m. Err (m, why)) (from_zero (length es) ∙ sym l)
  where
    from_zero : (k : ℕ) → 0 + k ≡ k
    from_zero k = omega arith

-- ---- the edits of a list up to one of them

-- one edit more
up_to : (xs : List value.Edit) (i : ℕ) (x : value.Edit) → i < length xs → x ≡ slice_index_or xs i x → map edit_of (take (i + 1) xs) ≡ map edit_of (take i xs) ++ edit_of x ∷ []
up_to xs i x l e = ap (map edit_of) (take_more xs i x l ∙ ap (λ y. take i xs ++ y ∷ []) (sym e)) ∙ map-append edit_of (take i xs) (x ∷ [])

-- all of them, with those before and after it
around : (xs : List value.Edit) (i : ℕ) (x : value.Edit) → i < length xs → x ≡ slice_index_or xs i x → map edit_of xs ≡ map edit_of (take i xs) ++ edit_of x ∷ map edit_of (drop (i + 1) xs)
around xs i x l e =
    ap (map edit_of) (sym (take-append-drop (i + 1) xs)) ∙ map-append edit_of (take (i + 1) xs) (drop (i + 1) xs) ∙ ap (λ ys. ys ++ map edit_of (drop (i + 1) xs)) (up_to xs i x l e)
    ∙ append_assoc (map edit_of (take i xs)) (edit_of x ∷ []) (map edit_of (drop (i + 1) xs))

counted : (xs : List value.Edit) (i : ℕ) → i < length xs → i ≡ length (map edit_of (take i xs))
counted xs i l = sym (length-map (take i xs) edit_of ∙ length-take-le i xs (omega (arith, l)))

-- it applies to what those before it left
pub applied_next : (xs : List value.Edit) (i : ℕ) (x : value.Edit) (t u v : Tree) → i < length xs → x ≡ slice_index_or xs i x → edited (map edit_of (take i xs)) t ≡ Ok u → edited_once (edit_of x) u ≡ Ok v → edited (map edit_of (take (i + 1) xs)) t ≡ Ok v
applied_next xs i x t u v l e h g = ap (λ es. edited es t) (up_to xs i x l e) ∙ edited_more (map edit_of (take i xs)) (edit_of x) t u v h g

stopped_at : (xs : List value.Edit) (i n : ℕ) (x : value.Edit) (t u : Tree) (why : EditRefusal) → i < length xs → x ≡ slice_index_or xs i x → edited (map edit_of (take i xs)) t ≡ Ok u → n ≡ i → edited_once (edit_of x) u ≡ Err why → edited (map edit_of xs) t ≡ Err (n, why)
stopped_at xs i n x t u why l e h same g = ap (λ es. edited es t) (around xs i x l e) ∙ edited_stops (map edit_of (take i xs)) (edit_of x) (map edit_of (drop (i + 1) xs)) t u why n h g (same ∙ counted xs i l)

-- it does not apply, or memory ran out
pub refused_next : (xs : List value.Edit) (i n : ℕ) (x : value.Edit) (t u : Tree) (code : ErrorCode) (place : Place) → i < length xs → x ≡ slice_index_or xs i x → edited (map edit_of (take i xs)) t ≡ Ok u → n ≡ i
    → RefusesChange (edited_once (edit_of x) u) code place → EditingRefuses (map edit_of xs) t code (place_numbered code place n)
refused_next xs i n x t u NoMemory nowhere l e h same r = tt
refused_next xs i n x t u NotFound nowhere l e h same r = stopped_at xs i n x t u not_found l e h same r
refused_next xs i n x t u TypeUnmatched nowhere l e h same r = stopped_at xs i n x t u type_unmatched l e h same r
refused_next xs i n x t u code place l e h same r = absurd r
