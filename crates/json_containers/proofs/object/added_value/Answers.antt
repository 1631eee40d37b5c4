use Rattle.std.proofs.Common.{◌≡◌, false, true, inl, Some, length, map, refl, sym, ap, ◌∙◌, inr}
use Rattle.std.specs.Vec.{with_item}
use Rattle.std.proofs.lemmas.Option.{slice_get_read}
use Rattle.json_value.specs.Denotes.{tree_of, pair_of}
use Rattle.json_value.specs.Written.{with_value}
use Rattle.json_value.proofs.AppliedTrees.{first_moved, none_moved}
use Rattle.json_containers.specs.Members.{first_member_value}
use Rattle.json_containers.proofs.Keys.{value_read, none_found, first_within}
use Rattle.json_containers.proofs.Stays.{object_as_it_was, object_unpacked}
use Rattle.json_containers.proofs.object.added_value.Goals as goal

false_true : false ≡ true → ⊥
false_true e = cc

pub returns-in-Some : goal.returns-in-Some
returns-in-Some c =
    let k = c.args.key.now in
    let v = c.in-Ok.pairs.now in
    let i = c.in-Some.at in
    let m = c.index_mut.result.now in
    let first = first_moved k k c.as_slice.result.now v.items i refl c.as_slice.ensures.value c.in-Some.ensures.first in (
      (
        refl,
        λ w is. record {
          first = v.items;
          list = with_item v i (with_value m w);
          same = c.in-Ok.ensures.pairs;
          unpacked = c.in-Ok.ensures.children;
          is = refl;
          changed = record { at = i; before = m; after = w; is_first = first; there = slice_get_read v.items (length v.items) i m refl (first_within k v.items i first) c.index_mut.ensures.value; exchanged = refl; changed = refl };
        },
        tt,
      ),
      sym (ap (first_member_value k) c.in-Ok.ensures.pairs) ∙ sym (value_read k v.items i m c.index_mut.ensures.value first) ∙ ap (λ x. Some (tree_of x)) (sym c.value_mut.ensures.value),
    )

pub returns-in-None : goal.returns-in-None
returns-in-None c =
    let k = c.args.key.now in
    let ms = c.in-Ok.pairs.now.items in
    let none = none_moved k k c.as_slice.result.now ms refl c.as_slice.ensures.value c.in-None.ensures.none in
    ((refl, λ w is. absurd (cc), object_unpacked c.args.object.now c.in-Ok.pairs.now c.in-Ok.pairs.now c.in-Ok.ensures.pairs c.in-Ok.ensures.children refl), inr (refl, sym (ap (first_member_value k) c.in-Ok.ensures.pairs) ∙ none_found k (map pair_of ms) none))

pub returns-in-Err : goal.returns-in-Err
returns-in-Err c =
    ((refl, λ w is. absurd (false_true is), object_as_it_was c.args.object.now), inl (c.in-Err.ensures.only, λ h. false_true (c.in-Err.ensures.free h)))
