-- What calls that are refused, or lead nowhere, keep.
use Rattle.std.proofs.Common.{◌≡◌, ℕ, ◌<◌, List, [], ◌∷◌, map, length, drop, ◌⊎◌, inl, inr, Some, Ok, Err, sym, ap, ◌∙◌, subst, arith}
use Rattle.std.specs.Prelude.{false}
use Rattle.json_grammar.specs.Tree.{Tree, Pairs, list, pairs, list_trees, list_pairs}
use Rattle.json_model.specs.Edit.{Step, key_step, index_step, Changed, type_unmatched, on_pairs, has_key}
use Rattle.json_value.specs.Denotes.{tree_of, pair_of, text_bytes}
use Rattle.json_value.specs.Edits.{step_of, steps_of}
use Rattle.json_value.specs.Lending.{opened_with, first_node, PutsAtPath, PutsNothing, AddsNothing, UpsertsNothing}
use Rattle.json_value.specs.Rows.{IsOwnObject, owned}
use Rattle.json_value.specs.Steps.{child}
use Rattle.json_value.specs.Touched.{ArrayTouched, ObjectTouched, ReplacedBy, Exchanges, Same, ArrayKept, ObjectKept, ElementKept, MemberKept, KeptAlong, RemovalKeeps, ChangeKeeps, KeepsOnRefusal}
use Rattle.json_value.specs.declared.pair.Keyed.{Keyed}
use Rattle.json_value.specs.declared.path.PointerNode.{PointerNode}
use Rattle.json_value.specs.declared.path.PointerNode.TheVariants.{Key, Index}
use Rattle.json_value.specs.declared.path.Edit.{Edit}
use Rattle.json_value.specs.declared.path.Edit.TheVariants.{Set, Insert, Push, Remove}
use Rattle.json_value.specs.declared.text.Text.{Text}
use Rattle.json_value.specs.declared.value.Value.{Value, Null}
use Rattle.json_value.proofs.Lent.{has_itself}
use Rattle.json_value.proofs.LentPaths.{along_kept}
use Rattle.json_value.proofs.EditedValues.{array_as, object_as, element_as, member_as, became}
use Rattle.json_value.proofs.ValueLevels.{null_tree, object_tree}

-- ---- a value that is as it was

pub removal_as_was : (s : PointerNode) (old new : Value) → new ≡ old → RemovalKeeps s old new
removal_as_was (Key k) old new e = inl e
removal_as_was (Index i) old new e = inl e

pub change_as_was : (d : Edit) (old new : Value) → new ≡ old → ChangeKeeps d old new
change_as_was (Set p v) old new e = e
change_as_was (Insert p k v) old new e = inl e
change_as_was (Push p v) old new e = inl e
change_as_was (Remove p s) old new e = removal_as_was s old new e

along_as_was : (p : List Step) (Kept : Value → Value → Type 0) → ((x y : Value) → y ≡ x → Kept x y) → (old new : Value) → new ≡ old → KeptAlong p Kept old new
along_as_was [] Kept kept old new e = kept old new e
along_as_was (key_step k ∷ p) Kept kept old new e = inl e
along_as_was (index_step i ∷ p) Kept kept old new e = inl e

same_along : (p : List Step) (old new : Value) → new ≡ old → KeptAlong p Same old new
same_along p = along_as_was p Same (λ x y e. e)

pub nothing_put : (p : List Step) (old new : Value) → new ≡ old → PutsNothing p old new
nothing_put p old new e = (ap tree_of e, same_along p old new e)

pub nothing_added : (old new : Value) → new ≡ old → AddsNothing old new
nothing_added old new e = (ap tree_of e, inl e)

pub nothing_seated : (old new : Value) → new ≡ old → UpsertsNothing old new
nothing_seated old new e = (ap tree_of e, inl e)

-- ---- an edit, step by step

pub removal_keeps_key : (s : PointerNode) (k : Text) (old new : Value) → s ≡ Key k → ObjectKept Same old new → RemovalKeeps s old new
removal_keeps_key s k old new g = subst (λ (r : PointerNode). RemovalKeeps r old new) (sym g)

pub removal_keeps_index : (s : PointerNode) (i : ℕ) (old new : Value) → s ≡ Index i → ArrayKept Same old new → RemovalKeeps s old new
removal_keeps_index s i old new g = subst (λ (r : PointerNode). RemovalKeeps r old new) (sym g)

-- ---- a list that was lent, and then kept

module _ (vs ws : List Value) (same : ws ≡ vs) (old new : Value) (t : ArrayTouched (ReplacedBy vs ws) old new) where
  pub list_kept : ArrayKept Same old new
  list_kept = inr (array_as old new (λ items now b. b.1 ∙ same ∙ sym b.0) t)

  pub element_not_put : (i : ℕ) → tree_of old ≡ list (list_trees (map tree_of vs)) → tree_of new ≡ list (list_trees (map tree_of ws)) → PutsNothing (index_step i ∷ []) old new
  element_not_put i is e = (e ∙ ap (λ (us : List Value). list (list_trees (map tree_of us))) same ∙ sym is, inr (array_as old new (λ items now b. inl (b.1 ∙ same ∙ sym b.0)) t))

  pub element_not_added : tree_of old ≡ list (list_trees (map tree_of vs)) → tree_of new ≡ list (list_trees (map tree_of ws)) → AddsNothing old new
  element_not_added is e = (e ∙ ap (λ (us : List Value). list (list_trees (map tree_of us))) same ∙ sym is, list_kept)

module _ (ps qs : List (Keyed Value)) (same : qs ≡ ps) (old new : Value) (t : ObjectTouched (ReplacedBy ps qs) old new) where
  pub pairs_kept : ObjectKept Same old new
  pairs_kept = inr (object_as old new (λ items now b. b.1 ∙ same ∙ sym b.0) t)

  member_kept : (k : List ℕ) → KeptAlong (key_step k ∷ []) Same old new
  member_kept k = inr (object_as old new (λ items now b. inl (b.1 ∙ same ∙ sym b.0)) t)

  pub member_not_put : (k : List ℕ) → tree_of old ≡ pairs (list_pairs (map pair_of ps)) → tree_of new ≡ pairs (list_pairs (map pair_of qs)) → PutsNothing (key_step k ∷ []) old new
  member_not_put k is e = (e ∙ ap (λ (us : List (Keyed Value)). pairs (list_pairs (map pair_of us))) same ∙ sym is, member_kept k)

  pub member_not_seated : tree_of old ≡ pairs (list_pairs (map pair_of ps)) → tree_of new ≡ pairs (list_pairs (map pair_of qs)) → UpsertsNothing old new
  member_not_seated is e = (e ∙ ap (λ (us : List (Keyed Value)). pairs (list_pairs (map pair_of us))) same ∙ sym is, pairs_kept)

-- null was made an object that has the key, so what lacks it was no null
pub member_or_null_not_put : (k : List ℕ) (ps qs : List (Keyed Value)) (old new : Value) → qs ≡ ps → opened_with k (tree_of old) ≡ pairs (list_pairs (map pair_of ps)) → has_key k (list_pairs (map pair_of ps)) ≡ false
    → tree_of new ≡ tree_of old → (old ≡ Null) ⊎ ObjectTouched (ReplacedBy ps qs) old new → PutsNothing (key_step k ∷ []) old new
member_or_null_not_put k ps qs old new same is none e (inl null) = absurd (has_itself k (list_pairs (map pair_of ps)) (sym (ap (opened_with k) (ap tree_of null ∙ null_tree)) ∙ is) none)
member_or_null_not_put k ps qs old new same is none e (inr t) = (e, member_kept ps qs same old new t k)

-- what is no object was not made one
pub unopened_same : (old mid : Value) → (mid ≡ old) ⊎ ((old ≡ Null) × IsOwnObject mid) → ((f : Pairs → Changed Pairs) → on_pairs f (tree_of mid) ≡ Err type_unmatched) → mid ≡ old
unopened_same old mid (inl same) none = same
unopened_same old mid (inr made) none = absurd (no_tree _ (sym (ap (on_pairs (λ ps. Ok ps)) (ap tree_of made.1.1 ∙ object_tree (owned made.1.0))) ∙ none (λ ps. Ok ps)))
  where
    no_tree : (ps : Pairs) → ◌≡◌ {A = Changed Tree} (Ok (pairs ps)) (Err type_unmatched) → ⊥
    no_tree ps e = cc

-- ---- along a path

pub member_kept_as : {Kept Others : Value → Value → Type 0} (k : List ℕ) (items now : List (Keyed Value)) → ((before after : Value) → Kept before after → Others before after)
    → MemberKept k Kept items now → MemberKept k Others items now
member_kept_as k items now other (inl e) = inl e
member_kept_as k items now other (inr c) = inr (member_as k items now other c)

pub element_kept_as : {Kept Others : Value → Value → Type 0} (i : ℕ) (items now : List Value) → ((before after : Value) → Kept before after → Others before after)
    → ElementKept i Kept items now → ElementKept i Others items now
element_kept_as i items now other (inl e) = inl e
element_kept_as i items now other (inr c) = inr (element_as i items now other c)

-- what one step kept is kept along a path that begins with it
kept_further : (s : Step) (p : List Step) (old new : Value) → KeptAlong (s ∷ []) Same old new → KeptAlong (s ∷ p) Same old new
kept_further (key_step k) p old new (inl e) = inl e
kept_further (key_step k) p old new (inr t) = inr (object_as old new (λ items now. member_kept_as k items now (same_along p)) t)
kept_further (index_step i) p old new (inl e) = inl e
kept_further (index_step i) p old new (inr t) = inr (array_as old new (λ items now. element_kept_as i items now (same_along p)) t)

-- a child that was kept along the rest of a path, by way of the first step
kept_deeper : (s : Step) (p : List Step) (x z old new : Value) → Exchanges (s ∷ []) x z old new → KeptAlong p Same x z → KeptAlong (s ∷ p) Same old new
kept_deeper (key_step k) p x z old new t h = inr (object_as old new (λ items now c. inr (member_as k items now (λ before after. became (KeptAlong p Same) x z before after h) c)) t)
kept_deeper (index_step i) p x z old new t h = inr (array_as old new (λ items now c. inr (element_as i items now (λ before after. became (KeptAlong p Same) x z before after h) c)) t)

kept_whole : (path rest : List PointerNode) (x z old new : Value) → 0 < length path → rest ≡ drop 1 path
    → Exchanges (step_of (first_node path) ∷ []) x z old new → KeptAlong (steps_of rest) Same x z → KeptAlong (steps_of path) Same old new
kept_whole [] rest x z old new more shorter e h = absurd (omega arith)
kept_whole (s ∷ p) rest x z old new more shorter e h =
    kept_deeper (step_of s) (steps_of p) x z old new e (subst (λ (q : List PointerNode). KeptAlong (steps_of q) Same x z) shorter h)

pub nothing_along : (path rest : List PointerNode) (x z old new : Value) → 0 < length path → rest ≡ drop 1 path → child (step_of (first_node path)) (tree_of old) ≡ Some (tree_of x)
    → PutsAtPath (step_of (first_node path) ∷ []) x z old new → PutsNothing (steps_of rest) x z → PutsNothing (steps_of path) old new
nothing_along path rest x z old new more shorter here e h =
    (along_kept (step_of (first_node path)) (tree_of old) (tree_of x) here (tree_of new) (tree_of z) e.0 h.0, kept_whole path rest x z old new more shorter e.1 h.1)

-- the first step leads nowhere
pub nothing_first : (path : List PointerNode) (old new : Value) → 0 < length path → PutsNothing (step_of (first_node path) ∷ []) old new → PutsNothing (steps_of path) old new
nothing_first [] old new more h = absurd (omega arith)
nothing_first (s ∷ p) old new more h = (h.0, kept_further (step_of s) (steps_of p) old new h.1)
