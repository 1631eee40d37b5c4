-- The request that a tree is, by its members.
use Rattle.std.proofs.Common.{◌≡◌, ◌∙◌, ℕ, List, Bool, true, false, cond, Option, Some, None, codes, refl, sym, ap₂}
use Rattle.json_grammar.specs.Tree.{Tree, null, boolean, num, text, list, pairs}
use Rattle.json_doc.specs.Readings.{string_of}
use Rattle.json_rpc.specs.Requests.{named_member, is_valid, request_with, request_of}

none_some : {A : Type 0} {x : A} → None ≡ Some x → ⊥
none_some e = cc

-- the request of a version and a method that are texts
texts : (j m : Tree) (v n : List ℕ) (params id : Option Tree) → Some v ≡ string_of j → Some n ≡ string_of m
    → request_with (Some j) (Some m) params id ≡ cond (is_valid v params id) (Some (record { method = n; params = params; id = id })) None
texts (text v') (text n') v n params id e f = let g : v' ≡ v = cc in let h : n' ≡ n = cc in ap₂ (λ v n. cond (is_valid v params id) (Some (record { method = n; params = params; id = id })) None) g h
texts (text v') null v n params id e f = absurd (none_some (sym f))
texts (text v') (boolean b) v n params id e f = absurd (none_some (sym f))
texts (text v') (num l) v n params id e f = absurd (none_some (sym f))
texts (text v') (list ts) v n params id e f = absurd (none_some (sym f))
texts (text v') (pairs ps) v n params id e f = absurd (none_some (sym f))
texts null m v n params id e f = absurd (none_some (sym e))
texts (boolean b) m v n params id e f = absurd (none_some (sym e))
texts (num l) m v n params id e f = absurd (none_some (sym e))
texts (list ts) m v n params id e f = absurd (none_some (sym e))
texts (pairs ps) m v n params id e f = absurd (none_some (sym e))

pub request_is : (t j m : Tree) (v n : List ℕ) (params id : Option Tree) → Some j ≡ named_member (codes "jsonrpc") t → Some v ≡ string_of j → Some m ≡ named_member (codes "method") t → Some n ≡ string_of m
    → params ≡ named_member (codes "params") t → id ≡ named_member (codes "id") t
    → request_of t ≡ cond (is_valid v params id) (Some (record { method = n; params = params; id = id })) None
request_is t j m v n params id a b c d e f =
    ap₂ (λ x y. request_with x y (named_member (codes "params") t) (named_member (codes "id") t)) (sym a) (sym c)
    ∙ ap₂ (λ p i. request_with (Some j) (Some m) p i) (sym e) (sym f)
    ∙ texts j m v n params id b d

pub chosen : {A : Type 0} (b : Bool) (x y z : A) → b ≡ true → z ≡ x → z ≡ cond b x y
chosen true x y z e f = f
chosen false x y z e f = cc

pub not_chosen : {A : Type 0} (b : Bool) (x y : A) → b ≡ false → y ≡ cond b x y
not_chosen true x y e = cc
not_chosen false x y e = refl
