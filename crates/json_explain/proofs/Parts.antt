-- Elements and members, one after another: where what follows is refused.
use Rattle.std.proofs.Common.{◌≡◌, ◌+◌, ℕ, suc, List, [], ◌∷◌, ◌++◌, Bool, Option, Some, None, option_map, length, refl, sym, ◌∙◌, ap, arith, length-append}
use Rattle.json_grammar.specs.declared.Kind.TheVariants.{Array as array, Object as object}
use Rattle.json_grammar.specs.Tree.{Tree, Trees, no_trees, tree_and, Pairs, no_pairs, pair_and, list, pairs, trees_list, list_trees, pairs_list, list_pairs, trees_tokens, pairs_tokens, begin, key_token}
use Rattle.json_data.proofs.Exits.{join-join}
use Rattle.json_data.proofs.Lists.{join}
use Rattle.json_data.proofs.Pairs.{join_pairs, join-join_pairs}
use Rattle.json_explain.specs.Explaining.{IsWithin}
use Rattle.json_explain.specs.Refused.{Refused, element_step, member_step, ObjectReading, lacks_member, refused_within, part_refused, refused_first, elements_refused, members_refused}

pub join-nil : (ts : Trees) → join ts no_trees ≡ ts
join-nil no_trees = refl
join-nil (tree_and t ts) = ap (λ (us : Trees). tree_and t us) (join-nil ts)

pub join_pairs-nil : (ps : Pairs) → join_pairs ps no_pairs ≡ ps
join_pairs-nil no_pairs = refl
join_pairs-nil (pair_and k t ps) = ap (λ (qs : Pairs). pair_and k t qs) (join_pairs-nil ps)

trees_list-join : (ts us : Trees) → trees_list (join ts us) ≡ trees_list ts ++ trees_list us
trees_list-join no_trees us = refl
trees_list-join (tree_and t ts) us = ap (λ (xs : List Tree). t ∷ xs) (trees_list-join ts us)

pairs_list-join : (ps qs : Pairs) → pairs_list (join_pairs ps qs) ≡ pairs_list ps ++ pairs_list qs
pairs_list-join no_pairs qs = refl
pairs_list-join (pair_and k t ps) qs = ap (λ (xs : List (List ℕ × Tree)). (k, t) ∷ xs) (pairs_list-join ps qs)

one_longer : {A : Type 0} (xs : List A) (x : A) (i : ℕ) → length xs ≡ i → length (xs ++ x ∷ []) ≡ suc i
one_longer xs x i e = let n : length (xs ++ x ∷ []) ≡ length xs + 1 = length-append xs (x ∷ []) in omega arith

-- a value within the element of this index, as seen from the array
pub element_within : (ts us : Trees) (u : Tree) (i : ℕ) (x : Refused) → length (trees_list ts) ≡ i → IsWithin u x → IsWithin (list (join ts (tree_and u us))) (refused_within (element_step i) x)
element_within ts us u i x n w = (
  w.0,
  begin array ∷ trees_tokens (list_trees (trees_list ts)) ++ w.1,
  (u, begin array ∷ trees_tokens (list_trees (trees_list ts)), w.1, (trees_list ts, trees_list us, trees_list-join ts (tree_and u us), n, refl), w.2, refl),
  w.3,
)

-- the same of a member
pub member_within : (ps qs : Pairs) (k : List ℕ) (u : Tree) (i : ℕ) (x : Refused) → length (pairs_list ps) ≡ i → IsWithin u x → IsWithin (pairs (join_pairs ps (pair_and k u qs))) (refused_within (member_step i k) x)
member_within ps qs k u i x n w = (
  w.0,
  begin object ∷ (pairs_tokens (list_pairs (pairs_list ps)) ++ key_token k ∷ []) ++ w.1,
  (u, begin object ∷ (pairs_tokens (list_pairs (pairs_list ps)) ++ key_token k ∷ []), w.1, (pairs_list ps, pairs_list qs, pairs_list-join ps (pair_and k u qs), n, refl), w.2, refl),
  w.3,
)

-- no element of ts is refused, and i follows them
pub record Passed (r : Tree → Option Refused) (ts : Trees) (i : ℕ) : Type 0 where
  pub rest : (us : Trees) → elements_refused r 0 (join ts us) ≡ elements_refused r i us
  pub count : length (trees_list ts) ≡ i

pub passed-none : (r : Tree → Option Refused) → Passed r no_trees 0
passed-none r = record { rest = λ us. refl; count = refl }

pub passed-more : (r : Tree → Option Refused) (ts : Trees) (i : ℕ) (t : Tree) → Passed r ts i → r t ≡ None → Passed r (join ts (tree_and t no_trees)) (suc i)
passed-more r ts i t h n = record {
  rest = λ us. ap (λ (vs : Trees). elements_refused r 0 vs) (join-join ts (tree_and t no_trees) us) ∙ h.rest (tree_and t us)
      ∙ ap (λ (o : Option Refused). refused_first (part_refused (element_step i) o) (elements_refused r (suc i) us)) n;
  count = ap length (trees_list-join ts (tree_and t no_trees)) ∙ one_longer (trees_list ts) t i h.count;
}

pub passed-stop : (r : Tree → Option Refused) (ts : Trees) (i : ℕ) (t : Tree) (us : Trees) (x : Refused) → Passed r ts i → r t ≡ Some x → elements_refused r 0 (join ts (tree_and t us)) ≡ Some (refused_within (element_step i) x)
passed-stop r ts i t us x h n = h.rest (tree_and t us) ∙ ap (λ (o : Option Refused). refused_first (part_refused (element_step i) o) (elements_refused r (suc i) us)) n

pub passed-end : (r : Tree → Option Refused) (ts : Trees) (i : ℕ) → Passed r ts i → elements_refused r 0 ts ≡ None
passed-end r ts i h = ap (λ (vs : Trees). elements_refused r 0 vs) (sym (join-nil ts)) ∙ h.rest no_trees

-- no member of ps is refused, i follows them, and these fields were seen
pub record PassedMembers (r : ObjectReading) (start : List Bool) (ps : Pairs) (i : ℕ) (seen : List Bool) : Type 0 where
  pub rest : (qs : Pairs) → members_refused r 0 start (join_pairs ps qs) ≡ members_refused r i seen qs
  pub count : length (pairs_list ps) ≡ i

pub members-none : (r : ObjectReading) (start : List Bool) → PassedMembers r start no_pairs 0 start
members-none r start = record { rest = λ qs. refl; count = refl }

pub members-more : (r : ObjectReading) (start : List Bool) (ps : Pairs) (i : ℕ) (seen new : List Bool) (k : List ℕ) (t : Tree)
    → PassedMembers r start ps i seen → r.member k t ≡ None → new ≡ r.seen seen k → PassedMembers r start (join_pairs ps (pair_and k t no_pairs)) (suc i) new
members-more r start ps i seen new k t h n e = record {
  rest = λ qs. ap (λ (rs : Pairs). members_refused r 0 start rs) (join-join_pairs ps (pair_and k t no_pairs) qs) ∙ h.rest (pair_and k t qs)
      ∙ ap (λ (o : Option Refused). refused_first (part_refused (member_step i k) o) (members_refused r (suc i) (r.seen seen k) qs)) n
      ∙ ap (λ (bs : List Bool). members_refused r (suc i) bs qs) (sym e);
  count = ap length (pairs_list-join ps (pair_and k t no_pairs)) ∙ one_longer (pairs_list ps) (k, t) i h.count;
}

pub members-stop : (r : ObjectReading) (start : List Bool) (ps : Pairs) (i : ℕ) (seen : List Bool) (k : List ℕ) (t : Tree) (qs : Pairs) (x : Refused)
    → PassedMembers r start ps i seen → r.member k t ≡ Some x → members_refused r 0 start (join_pairs ps (pair_and k t qs)) ≡ Some (refused_within (member_step i k) x)
members-stop r start ps i seen k t qs x h n = h.rest (pair_and k t qs) ∙ ap (λ (o : Option Refused). refused_first (part_refused (member_step i k) o) (members_refused r (suc i) (r.seen seen k) qs)) n

pub members-end : (r : ObjectReading) (start : List Bool) (ps : Pairs) (i : ℕ) (seen : List Bool) → PassedMembers r start ps i seen → members_refused r 0 start ps ≡ option_map lacks_member (r.missing seen)
members-end r start ps i seen h = ap (λ (rs : Pairs). members_refused r 0 start rs) (sym (join_pairs-nil ps)) ∙ h.rest no_pairs
