-- The values at several paths so far, and those that are left.
use Rattle.std.proofs.Common.{◌≡◌, ℕ, ◌+◌, ◌<◌, ◌≤◌, List, [], ◌∷◌, ◌++◌, length, drop, map, Option, Some, None, option_map, Result, Ok, Err, refl, sym, ap, ◌∙◌, append_assoc, append-nil}
use Rattle.std.specs.Prelude.{slice_index_or}
use Rattle.std.proofs.lemmas.List.{drop_all, drop_more, map-append}
use Rattle.json_grammar.specs.Tree.{Tree}
use Rattle.json_value.specs.Denotes.{tree_of}
use Rattle.json_value.specs.declared.value.Value.{Value}
use Rattle.mezdruk_files.specs.declared.change_error.ChangeError.{ChangeError}
use Rattle.mezdruk_files.specs.declared.value_path.ValuePath.{ValuePath}
use Rattle.mezdruk_files.specs.ValuePaths.{tree_at_value_path, tree_or_not_there, after_trees, and_trees, trees_at}

after_none : (r : Result (List Tree) ChangeError) → after_trees [] r ≡ r
after_none (Ok trees) = refl
after_none (Err error) = refl

after_one : (first : List Tree) (tree : Tree) (r : Result (List Tree) ChangeError) → after_trees first (after_trees (tree ∷ []) r) ≡ after_trees (first ++ tree ∷ []) r
after_one first tree (Ok trees) = ap Ok (sym (append_assoc first (tree ∷ []) trees))
after_one first tree (Err error) = refl

-- the trees so far, and those at the paths from i on
abbrev pub IsSoFar : List ValuePath → Tree → List Value → ℕ → Type 0
IsSoFar paths tree values i = trees_at 0 paths tree ≡ after_trees (map tree_of values) (trees_at i (drop i paths) tree)

module _ (paths : List ValuePath) (tree : Tree) where
  pub none_yet : IsSoFar paths tree [] 0
  none_yet = sym (after_none (trees_at 0 paths tree))

  next_path : (i : ℕ) (p : ValuePath) → i < length paths → p ≡ slice_index_or paths i p → trees_at i (drop i paths) tree ≡ and_trees (tree_or_not_there i (tree_at_value_path p tree)) (trees_at (i + 1) (drop (i + 1) paths) tree)
  next_path i p l is = ap (λ ps. trees_at i ps tree) (drop_more paths i p l ∙ ap (λ x. x ∷ drop (i + 1) paths) (sym is))

  pub one_more : (values : List Value) (i : ℕ) (p : ValuePath) (v : Value) → i < length paths → p ≡ slice_index_or paths i p → tree_or_not_there i (tree_at_value_path p tree) ≡ Ok (tree_of v) → IsSoFar paths tree values i → IsSoFar paths tree (values ++ v ∷ []) (i + 1)
  one_more values i p v l is found so_far =
      let later = trees_at (i + 1) (drop (i + 1) paths) tree in
      so_far ∙ ap (after_trees (map tree_of values)) (next_path i p l is ∙ ap (λ r. and_trees r later) found)
      ∙ after_one (map tree_of values) (tree_of v) later ∙ ap (λ ts. after_trees ts later) (sym (map-append tree_of values (v ∷ [])))

  pub fails_at : (values : List Value) (i : ℕ) (p : ValuePath) (e : ChangeError) → i < length paths → p ≡ slice_index_or paths i p → tree_or_not_there i (tree_at_value_path p tree) ≡ Err e → IsSoFar paths tree values i → trees_at 0 paths tree ≡ Err e
  fails_at values i p e l is found so_far =
      so_far ∙ ap (after_trees (map tree_of values)) (next_path i p l is ∙ ap (λ r. and_trees r (trees_at (i + 1) (drop (i + 1) paths) tree)) found)

  pub all_found : (values : List Value) (i : ℕ) → length paths ≤ i → IsSoFar paths tree values i → trees_at 0 paths tree ≡ Ok (map tree_of values)
  all_found values i l so_far =
      so_far ∙ ap (λ ps. after_trees (map tree_of values) (trees_at i ps tree)) (drop_all i paths l) ∙ ap Ok (append-nil (map tree_of values))
