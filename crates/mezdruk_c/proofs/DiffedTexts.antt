-- What the patch between two texts comes to.
use Rattle.std.proofs.Common.{◌≡◌, ℕ, List, Option, Some, None, Ok, true, sym, subst, ap, ◌∙◌}
use Rattle.std.specs.Prelude.{◌↔◌}
use Rattle.json_grammar.specs.Rules.{Rules}
use Rattle.json_grammar.specs.Tree.{Tree, list, no_trees}
use Rattle.json_command.specs.Input.{IsInput}
use Rattle.json_diff.specs.DiffDocument.{patch_between}
use Rattle.json_diff.specs.MergeDiff.{merge_patch_between}
use Rattle.json_layout.specs.Styles.{printed}
use Rattle.json_layout.specs.declared.style.Style.{Style}
use Rattle.json_io.specs.Errors.{no_memory}
use Rattle.json_model.specs.Same.{same}
use Rattle.json_patch.specs.Merge.{merge_patched}
use Rattle.json_patch.specs.Patch.{patched}
use Rattle.mezdruk_c.specs.declared.failure.Failure.{Failure}
use Rattle.mezdruk_c.specs.declared.failure.Failure.TheVariants.{Options as bad_options, Argument, Text, Patch, NoMergePatch}
use Rattle.mezdruk_c.specs.declared.options.Options.{Options}
use Rattle.mezdruk_c.specs.Asked.{rules_of_options, text_by_options}
use Rattle.mezdruk_c.specs.Checking.{IsArgumentFailure, IsTextFailure}
use Rattle.mezdruk_c.specs.Diffing.{ReadsTwo, ReadingTwoFails, DiffsTexts, DiffFails, MergeDiffsTexts, LacksMergePatch, MergeDiffFails}

-- ---- texts that are not read

module _ (rules : Rules) (b t : List ℕ) where
  pub text_not_read_of_two : (f : Failure) → IsTextFailure rules b f → ReadingTwoFails rules b t f
  text_not_read_of_two (Text e) h = h
  text_not_read_of_two bad_options h = absurd h
  text_not_read_of_two (Argument e) h = absurd h
  text_not_read_of_two (Patch e) h = absurd h
  text_not_read_of_two NoMergePatch h = absurd h

  pub target_not_read : (f : Failure) → IsArgumentFailure rules t f → ReadingTwoFails rules b t f
  target_not_read (Argument e) h = h
  target_not_read bad_options h = absurd h
  target_not_read (Text e) h = absurd h
  target_not_read (Patch e) h = absurd h
  target_not_read NoMergePatch h = absurd h

module _ (o : Options) (b t : List ℕ) where
  pub not_diffed : (rules : Rules) (f : Failure) → rules ≡ rules_of_options o → ReadingTwoFails rules b t f → DiffFails o b t f
  not_diffed rules (Text e) is h = subst (λ r. ReadingTwoFails r b t (Text e)) is h
  not_diffed rules (Argument e) is h = subst (λ r. ReadingTwoFails r b t (Argument e)) is h
  not_diffed rules bad_options is h = absurd h
  not_diffed rules (Patch e) is h = absurd h
  not_diffed rules NoMergePatch is h = absurd h

  pub not_merge_diffed : (rules : Rules) (f : Failure) → rules ≡ rules_of_options o → ReadingTwoFails rules b t f → MergeDiffFails o b t f
  not_merge_diffed rules (Text e) is h = subst (λ r. ReadingTwoFails r b t (Text e)) is h
  not_merge_diffed rules (Argument e) is h = subst (λ r. ReadingTwoFails r b t (Argument e)) is h
  not_merge_diffed rules bad_options is h = absurd h
  not_merge_diffed rules (Patch e) is h = absurd h
  not_merge_diffed rules NoMergePatch is h = absurd h

  -- memory that runs out for the patch or its text
  pub diff_no_memory : (f : Failure) → f ≡ Text no_memory → DiffFails o b t f
  diff_no_memory f e = subst (λ f. DiffFails o b t f) (sym e) tt

  pub merge_diff_no_memory : (f : Failure) → f ≡ Text no_memory → MergeDiffFails o b t f
  merge_diff_no_memory f e = subst (λ f. MergeDiffFails o b t f) (sym e) tt

  -- ---- the text of the patch

  -- what is printed in a style that the options ask for
  shown : (style : Style) (out : List ℕ) (tree : Tree) → ((t : Tree) → text_by_options o t ≡ Some (printed style t)) → out ≡ printed style tree → text_by_options o tree ≡ Some out
  shown style out tree asked is = asked tree ∙ ap Some (sym is)

  by_options : (rules : Rules) (from to : Tree) → rules ≡ rules_of_options o → ReadsTwo rules b t from to → ReadsTwo (rules_of_options o) b t from to
  by_options rules from to is h = subst (λ r. ReadsTwo r b t from to) is h

  pub diffs_texts : (rules : Rules) (style : Style) (from to patch : Tree) (out : List ℕ) → rules ≡ rules_of_options o → ((t : Tree) → text_by_options o t ≡ Some (printed style t)) → ReadsTwo rules b t from to
      → patch ≡ patch_between from to → (w : Tree) × (patched from patch ≡ Ok w) × (same w to ≡ true) → (patch ≡ list no_trees) ↔ (same from to ≡ true) → out ≡ printed style patch → DiffsTexts o b t out
  diffs_texts rules style from to patch out is_rules asked reads is (w, applied, leads) empty prints =
      record {
        from = from;
        to = to;
        reads = by_options rules from to is_rules reads;
        is = shown style out (patch_between from to) asked (prints ∙ ap (printed style) is);
        changed = w;
        applied = ap (patched from) (sym is) ∙ applied;
        leads = leads;
        empty = subst (λ (p : Tree). (p ≡ list no_trees) ↔ (same from to ≡ true)) is empty;
      }

  pub merge_diffs_texts : (rules : Rules) (style : Style) (from to patch : Tree) (out : List ℕ) → rules ≡ rules_of_options o → ((t : Tree) → text_by_options o t ≡ Some (printed style t)) → ReadsTwo rules b t from to
      → merge_patch_between from to ≡ Some patch → same (merge_patched from patch) to ≡ true → out ≡ printed style patch → MergeDiffsTexts o b t out
  merge_diffs_texts rules style from to patch out is_rules asked reads found leads prints =
      record { from = from; to = to; reads = by_options rules from to is_rules reads; patch = patch; found = found; is = shown style out patch asked prints; leads = leads }

  pub lacks_merge_patch : (rules : Rules) (from to : Tree) → rules ≡ rules_of_options o → ReadsTwo rules b t from to → merge_patch_between from to ≡ None → MergeDiffFails o b t NoMergePatch
  lacks_merge_patch rules from to is_rules reads none = record { from = from; to = to; reads = by_options rules from to is_rules reads; none = none }
