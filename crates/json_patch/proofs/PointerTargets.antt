-- Where tokens lead to, of what is seen.
use Rattle.std.proofs.Common.{◌≡◌, ℕ, List, [], ◌∷◌, Bool, Option, Some, None, Ok, Err, refl, sym, ap, ◌∙◌}
use Rattle.std.specs.Prelude.{ok_or, option_map, option_and_then, slice_get}
use Rattle.std.specs.Result.{result_ok}
use Rattle.json_grammar.specs.Tree.{Tree, null, boolean, num, text, list, pairs}
use Rattle.json_model.specs.Edit.{Step, key_step, index_step, Changed, not_found, within, and_then}
use Rattle.json_value.specs.Seen.{list_of, object_pairs}
use Rattle.json_value.specs.TargetParts.{target_elements, target_members, target_after, target_along}
use Rattle.json_value.specs.ViewTargets.{ViewTarget}
use Rattle.json_patch.specs.ValuesAt.{value_at_step}
use Rattle.json_patch.specs.Lookups.{value_at_token}
use Rattle.json_patch.specs.Pointer.{ReferenceToken, index_of_token, step_of_token, path_of_tokens}
use Rattle.json_patch.specs.PointerTargets.{target_at_token, target_at_pointer, first_target}
use Rattle.json_patch.proofs.Lookups.{path_of_tokens-step}
use Rattle.json_patch.proofs.Results.{no_ok}

-- ---- one token

pub at_array_target : (k : ReferenceToken) (t : Tree) (xs : List Tree) (s : ViewTarget) (ss : List ViewTarget) (i : ℕ) (v : ViewTarget) → Some xs ≡ list_of t → Some ss ≡ target_elements s → index_of_token k ≡ Some i → slice_get ss i ≡ Some v → target_at_token k t s ≡ Some v
at_array_target k (list ts) xs s ss i v e f is got =
    ap (λ o. option_and_then (λ x. target_after x s) (result_ok (ok_or (option_map index_step o) not_found))) is ∙ ap (option_and_then (λ (us : List ViewTarget). slice_get us i)) (sym f) ∙ got
at_array_target k (pairs ps) xs s ss i v e f is got = cc
at_array_target k null xs s ss i v e f is got = cc
at_array_target k (boolean b) xs s ss i v e f is got = cc
at_array_target k (num l) xs s ss i v e f is got = cc
at_array_target k (text b) xs s ss i v e f is got = cc

pub at_object_target : (k : ReferenceToken) (t : Tree) (qs : List (List ℕ × Tree)) (s : ViewTarget) (ms : List (List ℕ × ViewTarget)) (v : ViewTarget) → Some qs ≡ object_pairs t → Some ms ≡ target_members s → first_target k ms ≡ Some v → target_at_token k t s ≡ Some v
at_object_target k (pairs ps) qs s ms v e f got = ap (option_and_then (first_target k)) (sym f) ∙ got
at_object_target k (list ts) qs s ms v e f got = cc
at_object_target k null qs s ms v e f got = cc
at_object_target k (boolean b) qs s ms v e f got = cc
at_object_target k (num l) qs s ms v e f got = cc
at_object_target k (text b) qs s ms v e f got = cc

-- ---- one token more

-- a path one step longer, from where its first step leads
along_next : (x : Step) (s v : ViewTarget) (r : Changed (List Step)) → target_after x s ≡ Some v → option_and_then (λ q. target_along q s) (result_ok (within (λ q. x ∷ q) r)) ≡ option_and_then (λ q. target_along q v) (result_ok r)
along_next x s v (Ok q) e = ap (λ (o : Option ViewTarget). elim o [ None ↦ None | Some u ↦ target_along q u ]) e
along_next x s v (Err d) e = refl

pub target_at_pointer-next : (k : ReferenceToken) (p : List ReferenceToken) (t u : Tree) (s v : ViewTarget) → value_at_token k t ≡ Ok u → target_at_token k t s ≡ Some v → target_at_pointer (k ∷ p) t s ≡ target_at_pointer p u v
target_at_pointer-next k p t u s v e f = by (step_of_token k t) refl
  where
    by : (r : Changed Step) → step_of_token k t ≡ r → target_at_pointer (k ∷ p) t s ≡ target_at_pointer p u v
    by (Ok x) g =
        let after : target_after x s ≡ Some v = sym (ap (λ r. option_and_then (λ y. target_after y s) (result_ok r)) g) ∙ f in
        ap (λ r. option_and_then (λ q. target_along q s) (result_ok r)) (path_of_tokens-step k p t u x g e) ∙ along_next x s v (path_of_tokens p u) after
    by (Err d) g = absurd (no_ok u d (sym (ap (λ r. and_then r (λ y. value_at_step y t)) g) ∙ e))

-- ---- the only member of a key

-- what was found, or else this
abbrev pub or_else : Option ViewTarget → Option ViewTarget → Option ViewTarget
or_else (Some s) o = Some s
or_else None o = o
