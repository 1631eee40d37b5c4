use Rattle.std.proofs.Common.{◌≡◌, ℕ, ◌+◌, List, [], ◌∷◌, ◌++◌, Some, option_map, map, sym, ap, ◌∙◌}
use Rattle.std.specs.Prelude.{slice_get}
use Rattle.json_grammar.specs.Tree.{Tree, text}
use Rattle.json_doc.specs.Docs.{doc_tree}
use Rattle.json_doc.specs.Left.{pairs_doc, places_of_pairs, pairs_left, doc_pair}
use Rattle.json_doc.specs.Seen.{view_doc, view_place, view_tree}
use Rattle.json_value.specs.Denotes.{tree_of, pair_of, text_bytes}
use Rattle.json_doc_print.specs.Readings.{text_said}
use Rattle.json_value.specs.Positions.{position_in, doc_position, text_position, read_position, member_positions, read_member_positions}
use Rattle.json_value.specs.declared.pair.Keyed.{Keyed}
use Rattle.json_value.specs.declared.value.Value.{Value}
use Rattle.json_value.proofs.Iterations.{joined_more, joined_all, no_first, nothing_mapped}
use Rattle.json_value.proofs.PlacesRead.{member_read, member_leads}
use Rattle.json_value.proofs.object.unpack_members.Goals.{in-Some+in_default-next, in_default}
use Rattle.json_value.proofs.object.unpack_members.Goals as goal

pub loop-key-preserved : goal.loop-key-preserved
loop-key-preserved c =
    let h = c.loop-key.invariant in let d = c.args.doc.now.value in let list = c.loop-key.list.items in
    let old = c.loop-key.members in let new = c.next.new.self in
    let steps = c.in-Some-next.ensures.steps in
    let k = c.in-Some-next.field-0-0.now in let key = c.in-Some.key in let value = c.in-Some-next.value in
    let m : Keyed Value = record { key = c.in_ok-key.key; value = c.in_ok-value.value } in
    let is : Some (view_tree key) ≡ Some (text k) = c.in-Some.ensures.tree ∙ ap (λ (ps : List (List ℕ × Tree)). option_map (λ p. text p.0) (slice_get ps 0)) steps.0 in
    let key_doc : view_doc key ≡ d = c.in-Some.ensures.doc ∙ h.0 in
    let value_doc : view_doc value ≡ d = steps.3 ∙ h.0 in
    let key_read : text_bytes m.key ≡ text_said (doc_tree d (view_place key)) = c.in_ok-key.ensures.text ∙ ap (λ (n : ℕ). text_said (doc_tree d n)) c.place.ensures.at in
    let read : tree_of m.value ≡ doc_tree d (view_place value) = c.in_ok-value.ensures.tree ∙ ap (doc_tree d) c.place-in-Some.ensures.at in
    let key_spot : text_position m.key ≡ Some (position_in d (view_place key)) = c.in_ok-key.ensures.position ∙ ap (λ (n : ℕ). Some (position_in d n)) c.place.ensures.at in
    let position : doc_position m.value ≡ read_position d (view_place value) = c.in_ok-value.ensures.position ∙ ap (read_position d) c.place-in-Some.ensures.at in
    let made = member_read d key value m k key_doc value_doc is key_read read in
    let stands = member_leads d (view_place value) (view_place key) m (places_of_pairs new) (places_of_pairs old) steps.1 c.in-Some.ensures.place key_spot position in
    let more = c.in_ok-push.ensures.items in
    let r = read_member_positions d in (
      steps.2 ∙ h.0,
      joined_more pair_of list c.push.new.self.items m (k, view_tree value) (pairs_left old) (pairs_left new) (pairs_left c.args.members) more h.1 steps.0 made,
      joined_more member_positions list c.push.new.self.items m (r (view_place value)) (map r (places_of_pairs old)) (map r (places_of_pairs new)) (map r (places_of_pairs c.args.members)) more h.2 (ap (map r) steps.1) stands,
    )

pub returns-clause-pairs : goal.returns-clause-pairs
returns-clause-pairs c =
    let none : pairs_left c.loop-key.members ≡ [] = elim c.match-key.branch [ in-Some+in_default-next w ↦ w.in_default-next.ensures.steps.0.0 | in_default w ↦ no_first (λ (p : List ℕ × Tree). text p.0) _ w.in_default.ensures.tree ] in
    joined_all pair_of c.loop-key.list.items (pairs_left c.loop-key.members) _ c.loop-key.invariant.1 none

pub returns-clause-spots : goal.returns-clause-spots
returns-clause-spots c =
    let old = c.loop-key.members in let r = read_member_positions c.args.doc.now.value in
    let none : pairs_left old ≡ [] = elim c.match-key.branch [ in-Some+in_default-next w ↦ w.in_default-next.ensures.steps.0.0 | in_default w ↦ no_first (λ (p : List ℕ × Tree). text p.0) _ w.in_default.ensures.tree ] in
    joined_all member_positions c.loop-key.list.items (map r (places_of_pairs old)) _ c.loop-key.invariant.2 (ap (map r) (nothing_mapped (doc_pair (pairs_doc old)) (places_of_pairs old) none))
