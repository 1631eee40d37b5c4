-- What an iterator has still to give of a list.
use Rattle.std.proofs.Common.{◌≡◌, ◌<◌, ℕ, zero, suc, ◌+◌, List, [], ◌∷◌, ◌++◌, Option, Some, None, length, drop, map, refl, sym, ap, ap₂, ◌∙◌, arith, append_assoc, append-nil}
use Rattle.std.proofs.lemmas.List.{map-append}
use Rattle.std.specs.Prelude.{slice_get, option_map, IfSome}
use Rattle.std.specs.Iterator.{YieldsFirstBy}
use Rattle.std.specs.List.{enumerate_from, zip}
use Rattle.json_grammar.specs.Tree.{Tree}
use Rattle.json_doc.specs.Seen.{child_place}
use Rattle.json_doc.specs.declared.doc.Doc.{Doc}
use Rattle.json_value.specs.ViewTargets.{ViewTarget, place_of}
use Rattle.json_value.specs.TargetParts.{child_target, elements_at, members_at}

past : {X : Type 0} (xs : List X) (i : ℕ) → drop i xs ≡ [] → slice_get xs i ≡ None
past [] i e = refl
past (x ∷ xs) zero e = absurd (cc)
past (x ∷ xs) (suc i) e = past xs i e

none_past : {X : Type 0} (xs : List X) (i : ℕ) → drop i xs ≡ [] → drop (suc i) xs ≡ []
none_past [] i e = refl
none_past (x ∷ xs) zero e = absurd (cc)
none_past (x ∷ xs) (suc i) e = none_past xs i e

here : {X : Type 0} (xs rest : List X) (i : ℕ) (x : X) → drop i xs ≡ x ∷ rest → slice_get xs i ≡ Some x
here [] rest zero x e = absurd (cc)
here [] rest (suc i) x e = absurd (cc)
here (y ∷ ys) rest zero x e = let s : y ≡ x = cc in ap Some s
here (y ∷ ys) rest (suc i) x e = here ys rest i x e

behind : {X : Type 0} (xs rest : List X) (i : ℕ) (x : X) → drop i xs ≡ x ∷ rest → drop (suc i) xs ≡ rest
behind [] rest zero x e = absurd (cc)
behind [] rest (suc i) x e = absurd (cc)
behind (y ∷ ys) rest zero x e = cc
behind (y ∷ ys) rest (suc i) x e = behind ys rest i x e

next : (i : ℕ) → i + 1 ≡ suc i
next i = omega arith

-- a call gave the item at an index, if there is one, and what is left follows it
pub next_got : {S A B : Type 0} (view : A → B) (rest : S → List B) (s t : S) (r : Option A) (ys : List B) (i : ℕ) → YieldsFirstBy view rest s r t → drop i ys ≡ rest s → (option_map view r ≡ slice_get ys i) × (drop (i + 1) ys ≡ rest t)
next_got view rest s t None ys i (e, f) h = (sym (past ys i (h ∙ e)), ap (λ n. drop n ys) (next i) ∙ none_past ys i (h ∙ e) ∙ sym f)
next_got view rest s t (Some x) ys i e h = (sym (here ys (rest t) i (view x) (h ∙ e)), ap (λ n. drop n ys) (next i) ∙ behind ys (rest t) i (view x) (h ∙ e))

-- what was made of the items so far, and what is left of them: one more
pub joined_more : {X Y : Type 0} (g : X → Y) (xs more : List X) (x : X) (y : Y) (left rest all : List Y) → more ≡ xs ++ x ∷ [] → map g xs ++ left ≡ all → left ≡ y ∷ rest → g x ≡ y → map g more ++ rest ≡ all
joined_more {Y = Y} g xs more x y left rest all m h l e =
    ap (λ zs. map g zs ++ rest) m ∙ ap (λ (zs : List Y). zs ++ rest) (map-append g xs (x ∷ [])) ∙ append_assoc (map g xs) (g x ∷ []) rest ∙ ap (λ (z : Y). map g xs ++ z ∷ rest) e ∙ ap (λ (zs : List Y). map g xs ++ zs) (sym l) ∙ h

-- and all of them
pub joined_all : {X Y : Type 0} (g : X → Y) (xs : List X) (left all : List Y) → map g xs ++ left ≡ all → left ≡ [] → map g xs ≡ all
joined_all {Y = Y} g xs left all h e = sym (append-nil (map g xs)) ∙ ap (λ (zs : List Y). map g xs ++ zs) (sym e) ∙ h

-- where there is no first, nothing is left
pub no_first : {X Y : Type 0} (f : X → Y) (xs : List X) → None ≡ option_map f (slice_get xs 0) → xs ≡ []
no_first f [] e = refl
no_first f (x ∷ xs) e = absurd (cc)

pub nothing_mapped : {X Y : Type 0} (f : X → Y) (xs : List X) → map f xs ≡ [] → xs ≡ []
nothing_mapped f [] e = refl
nothing_mapped f (x ∷ xs) e = absurd (cc)

-- ---- by their places

-- what is read at each of n places is said of each
pub each_read : {X S : Type 0} (g : X → S) (r : ℕ → S) (f : ℕ → ℕ) (xs : List X) (ks : List ℕ) → map g xs ≡ map r ks → ((i : ℕ) → i < length ks → slice_get ks i ≡ Some (f i)) → (i : ℕ) → IfSome (slice_get xs i) (λ x. g x ≡ r (f i))
each_read g r f [] ks e h i = tt
each_read g r f (x ∷ xs) [] e h i = absurd (cc)
each_read g r f (x ∷ xs) (k ∷ ks) e h zero = let there : Some k ≡ Some (f 0) = h 0 (omega arith) in let same : k ≡ f 0 = cc in let first : g x ≡ r k = cc in first ∙ ap r same
each_read g r f (x ∷ xs) (k ∷ ks) e h (suc i) = let more : map g xs ≡ map r ks = cc in each_read g r (λ j. f (suc j)) xs ks more (λ j l. h (suc j) (omega arith)) i

module _ (d : Doc) (held : Option Doc) (at : ℕ) where
  numbered : (n : ℕ) (ks : List ℕ) (ts : List Tree) → length ks ≡ length ts → ((i : ℕ) → i < length ks → slice_get ks i ≡ Some (child_place d at (n + i)))
      → map (place_of d held) ks ≡ map (λ (q : ℕ × Tree). child_target d held at q.0) (enumerate_from n ts)
  numbered n [] [] e h = refl
  numbered n [] (t ∷ ts) e h = absurd (omega arith)
  numbered n (k ∷ ks) [] e h = absurd (omega arith)
  numbered n (k ∷ ks) (t ∷ ts) e h =
      let there : Some k ≡ Some (child_place d at (n + 0)) = h 0 (omega arith) in
      let here_k : k ≡ child_place d at (n + 0) = cc in
      let zeroth : n + 0 ≡ n = omega arith in
      ap₂ (λ (s : ViewTarget) (ss : List ViewTarget). s ∷ ss) (ap (place_of d held) (here_k ∙ ap (child_place d at) zeroth))
      (numbered (n + 1) ks ts (omega arith) (λ i l. h (suc i) (omega arith) ∙ (let moved : n + suc i ≡ (n + 1) + i = omega arith in ap (λ j. Some (child_place d at j)) moved)))

  numbered_members : (n : ℕ) (ks : List ℕ) (ps : List (List ℕ × Tree)) → length ks ≡ length ps → ((i : ℕ) → i < length ks → slice_get ks i ≡ Some (child_place d at (n + i)))
      → zip (map (λ q. q.0) ps) (map (place_of d held) ks) ≡ map (λ (q : ℕ × (List ℕ × Tree)). (q.1.0, child_target d held at q.0)) (enumerate_from n ps)
  numbered_members n [] [] e h = refl
  numbered_members n [] (p ∷ ps) e h = absurd (omega arith)
  numbered_members n (k ∷ ks) [] e h = absurd (omega arith)
  numbered_members n (k ∷ ks) (p ∷ ps) e h =
      let there : Some k ≡ Some (child_place d at (n + 0)) = h 0 (omega arith) in
      let here_k : k ≡ child_place d at (n + 0) = cc in
      let zeroth : n + 0 ≡ n = omega arith in
      ap₂ (λ (s : ViewTarget) (ss : List (List ℕ × ViewTarget)). (p.0, s) ∷ ss) (ap (place_of d held) (here_k ∙ ap (child_place d at) zeroth))
      (numbered_members (n + 1) ks ps (omega arith) (λ i l. h (suc i) (omega arith) ∙ (let moved : n + suc i ≡ (n + 1) + i = omega arith in ap (λ j. Some (child_place d at j)) moved)))

  from_zero : (ks : List ℕ) → ((i : ℕ) → i < length ks → slice_get ks i ≡ Some (child_place d at i)) → (i : ℕ) → i < length ks → slice_get ks i ≡ Some (child_place d at (0 + i))
  from_zero ks h i l = h i l ∙ (let same : i ≡ 0 + i = omega arith in ap (λ j. Some (child_place d at j)) same)

  -- elements by their places, and members
  pub elements_by_place : (ks : List ℕ) (ts : List Tree) → length ks ≡ length ts → ((i : ℕ) → i < length ks → slice_get ks i ≡ Some (child_place d at i)) → map (place_of d held) ks ≡ elements_at d held at ts
  elements_by_place ks ts e h = numbered 0 ks ts e (from_zero ks h)

  pub members_by_place : (ks : List ℕ) (ps : List (List ℕ × Tree)) → length ks ≡ length ps → ((i : ℕ) → i < length ks → slice_get ks i ≡ Some (child_place d at i)) → zip (map (λ q. q.0) ps) (map (place_of d held) ks) ≡ members_at d held at ps
  members_by_place ks ps e h = numbered_members 0 ks ps e (from_zero ks h)
