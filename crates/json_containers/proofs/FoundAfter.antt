-- What is found by a key after an insertion and a removal.
use Rattle.std.proofs.Common.{◌≡◌, ℕ, Bool, true, false, cond, not, bytes_eq, List, [], ◌∷◌, filter, Option, Some, None, refl, sym, ap, ◌∙◌}
use Rattle.std.specs.Prelude.{option_map}
use Rattle.json_grammar.specs.Tree.{Tree, list_pairs, pairs_list}
use Rattle.json_model.specs.Edit.{has_key}
use Rattle.json_model.specs.Sort.{values_of}
use Rattle.json_model.proofs.Members.{values_of-inserted, other_values, has_key-without_key, pairs_list-without_key}
use Rattle.json_value.specs.Seen.{first_of}
use Rattle.json_doc_print.proofs.Trees.{pairs_again}
use Rattle.json_containers.specs.Laws.{InsertIsFound, RemoveLeavesNone}
use Rattle.json_containers.specs.Members.{first_member_value}

abbrev head_of : List Tree → Option Tree
head_of [] = None
head_of (t ∷ ts) = Some t

-- what is found of a key is the first of its values
found_first : (k : List ℕ) (ps : List (List ℕ × Tree)) → first_member_value k ps ≡ head_of (values_of k (list_pairs ps))
found_first k [] = refl
found_first k (p ∷ ps) = by (bytes_eq p.0 k) (found_first k ps)
  where
    by : (b : Bool) → first_member_value k ps ≡ head_of (values_of k (list_pairs ps)) → option_map (λ (q : List ℕ × Tree). q.1) (cond b (Some p) (first_of k ps)) ≡ head_of (cond b (p.1 ∷ values_of k (list_pairs ps)) (values_of k (list_pairs ps)))
    by true i = refl
    by false i = i

pub insert_is_found : InsertIsFound
insert_is_found k u old new is = (
  found_first k new ∙ ap (λ ps. head_of (values_of k ps)) is ∙ ap head_of (values_of-inserted k u (list_pairs old)),
  λ n other. found_first n new ∙ ap (λ ps. head_of (values_of n ps)) is ∙ ap head_of (other_values k u (list_pairs old) n other) ∙ sym (found_first n old),
)

pub remove_leaves_none : RemoveLeavesNone
remove_leaves_none k old new is = (
  ap (has_key k) is ∙ has_key-without_key k (list_pairs old),
  sym (pairs_again new) ∙ ap pairs_list is ∙ pairs_list-without_key k (list_pairs old) ∙ ap (filter (λ p. not (bytes_eq p.0 k))) (pairs_again old),
)
