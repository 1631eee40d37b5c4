use Rattle.std.proofs.Common.{[], ◌∷◌, ◌++◌, length, map, set, inl, inr, refl, sym, ap, ◌∙◌}
use Rattle.std.specs.Prelude.{Some}
use Rattle.std.specs.Vec.{with_item}
use Rattle.std.proofs.lemmas.Option.{slice_get_read}
use Rattle.json_grammar.specs.Tree.{list_pairs}
use Rattle.json_model.specs.Edit.{inserted}
use Rattle.json_value.specs.Denotes.{tree_of, pair_of}
use Rattle.json_value.specs.Rows.{owned, keyed_so}
use Rattle.json_value.specs.Written.{with_value}
use Rattle.json_value.proofs.AppliedTrees.{anyway, first_moved, none_moved, insert_over, insert_beside}
use Rattle.json_containers.specs.Members.{first_member_value}
use Rattle.json_containers.proofs.Keys.{value_read, none_found, first_within}
use Rattle.json_containers.proofs.Put.{value_got, no_value}
use Rattle.json_containers.proofs.Stays.{object_as_it_was, object_unpacked}
use Rattle.json_containers.proofs.object.ObjectObjectCalls.insert.Goals as goal

pub returns-in-Some-clause-ok : goal.returns-in-Some-clause-ok
returns-in-Some-clause-ok c =
    let k = c.args.key.now in
    let ms = c.in_ok-pairs.pairs.now.items in
    let first = first_moved k k c.as_slice.result.now ms c.in-Some.at refl c.as_slice.ensures.value c.in-Some.ensures.first in
    ap (λ v. list_pairs (map pair_of (set ms c.in-Some.at (keyed_so c.index_mut.result.now.key v)))) c.replace.ensures.after ∙ sym (insert_over k ms c.in-Some.at c.index_mut.result.now c.index_mut.ensures.value first c.args.value) ∙ ap (λ ps. inserted k (tree_of c.args.value) (list_pairs ps)) c.in_ok-pairs.ensures.pairs

pub returns-in-Some-clause-before : goal.returns-in-Some-clause-before
returns-in-Some-clause-before c =
    let k = c.args.key.now in
    let ms = c.in_ok-pairs.pairs.now.items in
    let first = first_moved k k c.as_slice.result.now ms c.in-Some.at refl c.as_slice.ensures.value c.in-Some.ensures.first in
    ap (λ v. Some (tree_of v)) (c.replace.ensures.value ∙ c.value_mut.ensures.value) ∙ value_read k ms c.in-Some.at c.index_mut.result.now c.index_mut.ensures.value first ∙ ap (first_member_value k) c.in_ok-pairs.ensures.pairs

pub returns-in_ok-push-in-None-clause-ok : goal.returns-in_ok-push-in-None-clause-ok
returns-in_ok-push-in-None-clause-ok c =
    let k = c.args.key.now in
    let ms = c.in_ok-pairs.pairs.now.items in
    let none = none_moved k k c.as_slice.result.now ms refl c.as_slice.ensures.value c.in-None.ensures.none in
    ap (λ vs. list_pairs (map pair_of vs)) (c.in_ok-push-in-None.ensures.items ∙ ap (λ m. ms ++ m ∷ []) c.new.ensures.member)
    ∙ sym (insert_beside k ms c.in_ok-key-in-None.key c.args.value c.in_ok-key-in-None.ensures.text none) ∙ ap (λ ps. inserted k (tree_of c.args.value) (list_pairs ps)) c.in_ok-pairs.ensures.pairs

pub returns-in_ok-push-in-None-clause-before : goal.returns-in_ok-push-in-None-clause-before
returns-in_ok-push-in-None-clause-before c =
    let k = c.args.key.now in
    let ms = c.in_ok-pairs.pairs.now.items in
    let none = none_moved k k c.as_slice.result.now ms refl c.as_slice.ensures.value c.in-None.ensures.none in
    sym (none_found k (map pair_of ms) none) ∙ ap (first_member_value k) c.in_ok-pairs.ensures.pairs

pub returns-in-Some-clause-children : goal.returns-in-Some-clause-children
returns-in-Some-clause-children c =
    let k = c.args.key.now in
    let v = c.in_ok-pairs.pairs.now in
    let i = c.in-Some.at in
    let m = c.index_mut.result.now in
    let first = first_moved k k c.as_slice.result.now v.items i refl c.as_slice.ensures.value c.in-Some.ensures.first in
    record {
      first = v.items;
      list = with_item v i (with_value m c.args.value);
      same = c.in_ok-pairs.ensures.pairs;
      unpacked = c.in_ok-pairs.ensures.children;
      is = ap (λ w. owned (with_item v i (with_value m w))) c.replace.ensures.after;
      changed = (
        ap Some (c.replace.ensures.value ∙ c.value_mut.ensures.value) ∙ value_got k v.items i m c.index_mut.ensures.value first,
        inl (record { at = i; before = m; after = c.args.value; is_first = first; there = slice_get_read v.items (length v.items) i m refl (first_within k v.items i first) c.index_mut.ensures.value; exchanged = refl; changed = refl }),
      );
    }

pub returns-in_ok-push-in-None-clause-children : goal.returns-in_ok-push-in-None-clause-children
returns-in_ok-push-in-None-clause-children c =
    let k = c.args.key.now in
    let ms = c.in_ok-pairs.pairs.now.items in
    let none = none_moved k k c.as_slice.result.now ms refl c.as_slice.ensures.value c.in-None.ensures.none in
    record {
      first = ms;
      list = c.push.new.self;
      same = c.in_ok-pairs.ensures.pairs;
      unpacked = c.in_ok-pairs.ensures.children;
      is = refl;
      changed = (
        no_value k ms none,
        inr (record { member = keyed_so c.in_ok-key-in-None.key c.args.value; none = none; more = c.in_ok-push-in-None.ensures.items ∙ ap (λ m. ms ++ m ∷ []) c.new.ensures.member; is = (c.in_ok-key-in-None.ensures.position, refl) }),
      );
    }

pub returns-in_err-pairs-clause-kept : goal.returns-in_err-pairs-clause-kept
returns-in_err-pairs-clause-kept c = anyway c.from_residual.result (object_as_it_was c.args.self.now)

pub returns-in_err-key-in-None-clause-kept : goal.returns-in_err-key-in-None-clause-kept
returns-in_err-key-in-None-clause-kept c = anyway c.from_residual-in_err-key-in-None.result (object_unpacked c.args.self.now c.in_ok-pairs.pairs.now c.in_ok-pairs.pairs.now c.in_ok-pairs.ensures.pairs c.in_ok-pairs.ensures.children refl)

pub returns-in_err-push-in-None-clause-kept : goal.returns-in_err-push-in-None-clause-kept
returns-in_err-push-in-None-clause-kept c = anyway c.from_residual-in_err-push-in-None.result (object_unpacked c.args.self.now c.in_ok-pairs.pairs.now c.push.new.self c.in_ok-pairs.ensures.pairs c.in_ok-pairs.ensures.children c.in_err-push-in-None.ensures.items)
