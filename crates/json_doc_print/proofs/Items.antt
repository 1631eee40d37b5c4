-- Elements of a list that is seen through a function.
use Rattle.std.proofs.Common.{◌≡◌, ◌<◌, ◌≤◌, ℕ, zero, suc, List, [], ◌∷◌, Some, None, length, map, get_or, refl, sym, ap, ap₂, subst, arith}
use Rattle.std.specs.Prelude.{slice_get}
use Rattle.std.proofs.lemmas.List.{length-map}
use Rattle.json_grammar.specs.Tree.{Tree, list}

-- an element of a list, seen through a function
got_map : {X Y : Type 0} (f : X → Y) (xs : List X) (i : ℕ) (x : X) → i < length xs → x ≡ get_or xs i x → slice_get (map f xs) i ≡ Some (f x)
got_map f [] i x h e = absurd (omega arith)
got_map f (y ∷ ys) zero x h e = ap (λ z. Some (f z)) (sym e)
got_map f (y ∷ ys) (suc i) x h e = got_map f ys i x (omega arith) e

pub item_there : {X Y : Type 0} (f : X → Y) (xs ys : List X) (i : ℕ) (x : X) → xs ≡ ys → i < length xs → x ≡ get_or xs i x → slice_get (map f ys) i ≡ Some (f x)
item_there f xs ys i x s h e = subst (λ zs. slice_get (map f zs) i ≡ Some (f x)) s (got_map f xs i x h e)

pub items_end : {X Y : Type 0} (f : X → Y) (xs ys : List X) (i : ℕ) → xs ≡ ys → length xs ≤ i → length (map f ys) ≤ i
items_end f xs ys i s h = subst (λ zs. length (map f zs) ≤ i) s (omega (arith, h, length-map xs f))

pub map_there : {X Y : Type 0} (f : X → Y) (xs : List X) (i : ℕ) (x : X) → slice_get xs i ≡ Some x → slice_get (map f xs) i ≡ Some (f x)
map_there f [] i x e = absurd (cc)
map_there f (y ∷ ys) zero x e = let s : y ≡ x = cc in ap (λ z. Some (f z)) s
map_there f (y ∷ ys) (suc i) x e = map_there f ys i x e

-- a member is its key and its value
pub member_there : (ps : List (List ℕ × Tree)) (i : ℕ) (k : List ℕ) (u : Tree) → slice_get (map (λ (q : List ℕ × Tree). q.0) ps) i ≡ Some k → slice_get (map (λ (q : List ℕ × Tree). q.1) ps) i ≡ Some u → slice_get ps i ≡ Some (k, u)
member_there [] i k u d e = absurd (cc)
member_there (p ∷ ps) zero k u d e = let s : p.0 ≡ k = cc in let r : p.1 ≡ u = cc in ap₂ (λ a b. Some (a, b)) s r
member_there (p ∷ ps) (suc i) k u d e = member_there ps i k u d e

pub no_item : {X Y : Type 0} (f : X → Y) (xs : List X) (i : ℕ) → slice_get (map f xs) i ≡ None → slice_get xs i ≡ None
no_item f [] zero e = refl
no_item f [] (suc i) e = refl
no_item f (x ∷ xs) zero e = absurd (cc)
no_item f (x ∷ xs) (suc i) e = no_item f xs i e
