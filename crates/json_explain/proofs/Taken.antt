-- What was taken of a value, and where that is refused.
use Rattle.std.proofs.Common.{◌≡◌, ◌∙◌, ℕ, List, [], Bool, Option, Some, None, option_map, Result, Ok, Err, refl, sym, ap, subst, IfOk, IfSome, OnOk}
use Rattle.json_doc.specs.Readings.{type_of}
use Rattle.json_grammar.specs.declared.Kind.TheVariants.{Object as object}
use Rattle.json_grammar.specs.Tree.{Tree, Trees, no_trees, tree_and, Pairs, no_pairs, pair_and, list, pairs, Token as Tok, end}
use Rattle.json_tokens.specs.TokensStates.{TokensState, TakesTree, TakesOne, Leaves}
use Rattle.json_data.proofs.Exits.{join-join}
use Rattle.json_data.proofs.Lists.{InList, join, one_more, leaves}
use Rattle.json_data.proofs.Pairs.{InPairs, InMember, join_pairs, join-join_pairs, one_member, leaves_pairs, ended_pairs}
use Rattle.json_explain.specs.Refused.{Refused, element_step, member_step, ObjectReading, lacks_member, refused_within, list_refused, object_refused}
use Rattle.json_explain.specs.Explaining.{ExplainsTree, IsWithin, refused_in}
use Rattle.json_explain.specs.declared.refusal.Refusal.{Refusal}
use Rattle.json_explain.proofs.Parts.{Passed, passed-stop, passed-end, PassedMembers, members-stop, members-end, element_within, member_within}

-- ---- trees

lacks_within : (t : Tree) (j : type_of t ≡ (lacks_member []).found_type) (o : Option (List ℕ)) → IfSome (option_map lacks_member o) (IsWithin t)
lacks_within t e None = tt
lacks_within t e (Some k) = (t, [], (refl, refl), e)

pub lacks_same : {A : Type 0} (f : A → List ℕ) (o : Option A) (m : Option (List ℕ)) → option_map f o ≡ m → option_map (λ s. lacks_member (f s)) o ≡ option_map lacks_member m
lacks_same f None m e = ap (option_map lacks_member) e
lacks_same f (Some s) m e = ap (option_map lacks_member) e

module _ {S : Type 0} {taken : S → List Tok → Type 0} {state : S → TokensState} where
  -- ---- arrays

  -- an element was refused, and then the array was left
  pub array_stops : {f : Tree → Option Refused} {a b c d : S} {ts : Trees} {i : ℕ} {x : Refused}
      → InList taken state a b ts → Passed f ts i → ExplainsTree taken state f b c (Some x) → Leaves taken state c d
      → ExplainsTree taken state (list_refused f) a d (Some (refused_within (element_step i) x))
  array_stops {f = f} {a = a} {d = d} {ts = ts} {i = i} {x = x} w h e l =
      let p = leaves (one_more w e.takes) l in
      let q : join (join ts (tree_and e.tree no_trees)) p.0 ≡ join ts (tree_and e.tree p.0) = join-join ts (tree_and e.tree no_trees) p.0 in
      record {
        tree = list (join ts (tree_and e.tree p.0));
        takes = subst (λ (us : Trees). TakesTree taken state a d (list us)) q p.1;
        answer = passed-stop f ts i e.tree p.0 x h e.answer;
        within = element_within ts p.0 e.tree i x h.count e.within;
      }

  pub array_left : {f : Tree → Option Refused} {a b c : S} {ts : Trees} {i : ℕ} {x : Refused} {E : Type 0} (d : S) (r : Result (Option Refusal) E)
      → InList taken state a b ts → Passed f ts i → ExplainsTree taken state f b c (Some x) → OnOk r (Leaves taken state c d)
      → IfOk r (λ o. refused_in o ≡ Some (refused_within (element_step i) x)) → IfOk r (λ o. ExplainsTree taken state (list_refused f) a d (refused_in o))
  array_left {f = f} {a = a} d (Ok o) w h e l p = subst (λ (q : Option Refused). ExplainsTree taken state (list_refused f) a d q) (sym p) (array_stops w h e l)
  array_left d (Err e) w h x l p = tt

  -- no element was refused
  pub array_ends : {f : Tree → Option Refused} {a d : S} {ts : Trees} {i : ℕ}
      → Passed f ts i → TakesTree taken state a d (list ts) → ExplainsTree taken state (list_refused f) a d None
  array_ends {f = f} {ts = ts} {i = i} h t = record { tree = list ts; takes = t; answer = passed-end f ts i h; within = tt }

  -- ---- objects

  -- a member was refused, and then the object was left
  pub object_stops : {r : ObjectReading} {start seen : List Bool} {a b c d : S} {ps : Pairs} {i : ℕ} {k : List ℕ} {x : Refused}
      → InMember taken state a b ps k → PassedMembers r start ps i seen → ExplainsTree taken state (r.member k) b c (Some x) → Leaves taken state c d
      → ExplainsTree taken state (object_refused r start) a d (Some (refused_within (member_step i k) x))
  object_stops {r = r} {start = start} {seen = seen} {a = a} {d = d} {ps = ps} {i = i} {k = k} {x = x} w h e l =
      let p = leaves_pairs (one_member w e.takes) l in
      let q : join_pairs (join_pairs ps (pair_and k e.tree no_pairs)) p.0 ≡ join_pairs ps (pair_and k e.tree p.0) = join-join_pairs ps (pair_and k e.tree no_pairs) p.0 in
      record {
        tree = pairs (join_pairs ps (pair_and k e.tree p.0));
        takes = subst (λ (qs : Pairs). TakesTree taken state a d (pairs qs)) q p.1;
        answer = members-stop r start ps i seen k e.tree p.0 x h e.answer;
        within = member_within ps p.0 k e.tree i x h.count e.within;
      }

  pub object_left : {m : ObjectReading} {start seen : List Bool} {a b c : S} {ps : Pairs} {i : ℕ} {k : List ℕ} {x : Refused} {E : Type 0} (d : S) (r : Result (Option Refusal) E)
      → InMember taken state a b ps k → PassedMembers m start ps i seen → ExplainsTree taken state (m.member k) b c (Some x) → OnOk r (Leaves taken state c d)
      → IfOk r (λ o. refused_in o ≡ Some (refused_within (member_step i k) x)) → IfOk r (λ o. ExplainsTree taken state (object_refused m start) a d (refused_in o))
  object_left {m = m} {start = start} {a = a} d (Ok o) w h e l p = subst (λ (q : Option Refused). ExplainsTree taken state (object_refused m start) a d q) (sym p) (object_stops w h e l)
  object_left d (Err e) w h x l p = tt

  -- no member was refused
  pub object_ends : {m : ObjectReading} {start seen : List Bool} {a b d : S} {ps : Pairs} {i : ℕ} {E : Type 0} (r : Result (Option Refusal) E)
      → InPairs taken state a b ps → PassedMembers m start ps i seen → TakesOne taken state b d (end object)
      → IfOk r (λ o. refused_in o ≡ option_map lacks_member (m.missing seen)) → IfOk r (λ o. ExplainsTree taken state (object_refused m start) a d (refused_in o))
  object_ends {m = m} {start = start} {seen = seen} {ps = ps} {i = i} (Ok o) w h t e = record {
    tree = pairs ps;
    takes = ended_pairs w t;
    answer = members-end m start ps i seen h ∙ sym e;
    within = subst (λ (q : Option Refused). IfSome q (IsWithin (pairs ps))) (sym e) (lacks_within (pairs ps) refl (m.missing seen));
  }
  object_ends (Err e) w h t x = tt
