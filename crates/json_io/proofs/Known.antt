-- Known bytes.
use Rattle.std.proofs.Common.{◌≡◌, ℕ, List, [], ◌++◌, ◌∙◌, sym, ap, refl, append_assoc, append-nil, Option, Some, None}
use Rattle.json_io.specs.Known.{append_known, prepend_known, Appends, Consumes, Keeps}

pub known-nil : (a : Option (List ℕ)) → append_known a [] ≡ a
known-nil None = refl
known-nil (Some x) = ap Some (append-nil x)

pub known-append : (a : Option (List ℕ)) (p q : List ℕ) → append_known (append_known a p) q ≡ append_known a (p ++ q)
known-append None p q = refl
known-append (Some x) p q = ap Some (append_assoc x p q)

pub Appends-nil : (a : Option (List ℕ)) → Appends a a []
Appends-nil a = sym (known-nil a)

pub Appends-trans : (a b c : Option (List ℕ)) (p q : List ℕ) → Appends a b p → Appends b c q → Appends a c (p ++ q)
Appends-trans a b c p q g h = h ∙ ap (λ x. append_known x q) g ∙ known-append a p q

pub Appends-kept : (a b c : Option (List ℕ)) (p : List ℕ) → Appends a b p → Keeps b c → Appends a c p
Appends-kept a b c p g h = h ∙ g

-- a prefix of what was held went over
pub append_known-moved : (a b : Option (List ℕ)) (front rest all : List ℕ) → Appends a b front → all ≡ front ++ rest → Keeps (append_known a all) (append_known b rest)
append_known-moved a b front rest all p e = ap (λ x. append_known x rest) p ∙ known-append a front rest ∙ ap (append_known a) (sym e)

pub known-prepend : (a : Option (List ℕ)) (p q : List ℕ) → prepend_known p (prepend_known q a) ≡ prepend_known (p ++ q) a
known-prepend None p q = refl
known-prepend (Some x) p q = ap Some (sym (append_assoc p q x))

pub Consumes-nil : (a : Option (List ℕ)) → Consumes a a []
Consumes-nil None = refl
Consumes-nil (Some x) = refl

pub Consumes-trans : (a b c : Option (List ℕ)) (p q : List ℕ) → Consumes a b p → Consumes b c q → Consumes a c (p ++ q)
Consumes-trans a b c p q g h = g ∙ ap (prepend_known p) h ∙ known-prepend c p q
