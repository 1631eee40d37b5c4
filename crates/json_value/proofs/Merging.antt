-- Members put into an object in turn, one more at the end.
use Rattle.std.proofs.Common.{◌≡◌, ℕ, zero, suc, ◌<◌, List, [], ◌∷◌, ◌++◌, length, get_or, set, take, map, cond, bytes_eq, true, false, Some, Option, IfSome, refl, sym, ap, ◌∙◌, subst}
use Rattle.std.specs.Prelude.{slice_get}
use Rattle.std.proofs.lemmas.List.{map-id, length-map}
use Rattle.std.proofs.lemmas.Option.{none-some, same_Some, slice_get_read}
use Rattle.json_grammar.specs.Tree.{Tree, Pairs, list_pairs}
use Rattle.json_model.specs.Edit.{inserted, has_key}
use Rattle.json_value.specs.Denotes.{pair_of, text_bytes}
use Rattle.json_value.specs.FirstMember.{IsFirstOf}
use Rattle.json_model.specs.Merged.{inserted_all}
use Rattle.json_value.specs.Merged.{with_member, with_members}
use Rattle.json_value.specs.Written.{value_in, with_value}
use Rattle.json_value.specs.declared.pair.Keyed.{Keyed}
use Rattle.json_value.specs.declared.value.Value.{Value}
use Rattle.json_value.proofs.AppliedTrees.{pair_got}
use Rattle.json_value.proofs.TreeEdits.{same_key, split_front}

one_more : (qs : List (Keyed Value)) (q : Keyed Value) (ps : Pairs) → inserted_all (map pair_of (qs ++ q ∷ [])) ps ≡ inserted (pair_of q).0 (pair_of q).1 (inserted_all (map pair_of qs) ps)
one_more [] q ps = refl
one_more (p ∷ qs) q ps = one_more qs q (inserted (pair_of p).0 (pair_of p).1 ps)

pub put_one_more : (qs : List (Keyed Value)) (q : Keyed Value) (ps old new : Pairs) → inserted_all (map pair_of qs) ps ≡ old → inserted (pair_of q).0 (pair_of q).1 old ≡ new → inserted_all (map pair_of (qs ++ q ∷ [])) ps ≡ new
put_one_more qs q ps old new e h = one_more qs q ps ∙ ap (inserted (pair_of q).0 (pair_of q).1) e ∙ h

-- so of the members themselves
one_more_member : (qs : List (Keyed Value)) (q : Keyed Value) (ns : List (Keyed Value)) → with_members (qs ++ q ∷ []) ns ≡ with_member q (with_members qs ns)
one_more_member [] q ns = refl
one_more_member (p ∷ qs) q ns = one_more_member qs q (with_member p ns)

pub member_one_more : (qs : List (Keyed Value)) (q : Keyed Value) (ns old new : List (Keyed Value)) → with_members qs ns ≡ old → new ≡ with_member q old → with_members (qs ++ q ∷ []) ns ≡ new
member_one_more qs q ns old new e h = one_more_member qs q ns ∙ ap (with_member q) e ∙ sym h

-- what was given, as it is
pub as_given : {X : Type 0} (xs ys : List X) → map (λ (x : X). x) xs ≡ ys → xs ≡ ys
as_given xs ys e = sym (map-id xs) ∙ e

-- ---- one member put among others

put_over : (m : Keyed Value) (ps : List (Keyed Value)) (i : ℕ) (p : Keyed Value) → has_key (text_bytes m.key) (list_pairs (take i (map pair_of ps))) ≡ false → slice_get ps i ≡ Some p → text_bytes p.key ≡ text_bytes m.key
    → with_member m ps ≡ set ps i (with_value p (value_in m))
put_over m [] i p front is same = absurd (none-some p is)
put_over m (q ∷ ps) zero p front is same =
    let here : q ≡ p = same_Some q p is in
    let key : bytes_eq (text_bytes q.key) (text_bytes m.key) ≡ true = same_key (text_bytes q.key) (text_bytes m.key) (ap (λ (x : Keyed Value). text_bytes x.key) here ∙ same) in
    ap (λ b. cond b (with_value q (value_in m) ∷ ps) (q ∷ with_member m ps)) key ∙ ap (λ (x : Keyed Value). with_value x (value_in m) ∷ ps) here
put_over m (q ∷ ps) (suc i) p front is same =
    let parts = split_front (text_bytes m.key) (text_bytes q.key) (list_pairs (take i (map pair_of ps))) front in
    ap (λ b. cond b (with_value q (value_in m) ∷ ps) (q ∷ with_member m ps)) parts.0 ∙ ap (λ (qs : List (Keyed Value)). q ∷ qs) (put_over m ps i p parts.1 is same)

-- the value came to the first member of the key
pub member_over : (m : Keyed Value) (ps : List (Keyed Value)) (i : ℕ) (p : Keyed Value) → p ≡ get_or ps i p → IsFirstOf (text_bytes m.key) (map pair_of ps) i → set ps i (with_value p (value_in m)) ≡ with_member m ps
member_over m ps i p is first =
    let low : i < length ps = rw length-map at first.within in
    let its_key : text_bytes p.key ≡ text_bytes m.key = subst (λ (o : Option (List ℕ × Tree)). IfSome o (λ q. q.0 ≡ text_bytes m.key)) (pair_got ps i p low is) first.here in
    sym (put_over m ps i p first.before (slice_get_read ps (length ps) i p refl low is) its_key)

-- none had the key, and the member was added after the others
pub member_beside : (m : Keyed Value) (ps : List (Keyed Value)) → has_key (text_bytes m.key) (list_pairs (map pair_of ps)) ≡ false → ps ++ m ∷ [] ≡ with_member m ps
member_beside m [] none = refl
member_beside m (q ∷ ps) none =
    let parts = split_front (text_bytes m.key) (text_bytes q.key) (list_pairs (map pair_of ps)) none in
    ap (λ (qs : List (Keyed Value)). q ∷ qs) (member_beside m ps parts.1) ∙ sym (ap (λ b. cond b (with_value q (value_in m) ∷ ps) (q ∷ with_member m ps)) parts.0)
