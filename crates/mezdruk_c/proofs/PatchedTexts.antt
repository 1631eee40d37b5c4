-- What patching a text comes to, and what a pointer references in it.
use Rattle.std.proofs.Common.{◌≡◌, ℕ, ◌+◌, ◌^◌, ◌<◌, ◌≤◌, false, List, length, Option, Some, None, Ok, refl, sym, subst, ap, ◌∙◌, arith}
use Rattle.std.specs.Result.{result_ok}
use Rattle.json_grammar.specs.Rules.{Rules}
use Rattle.json_grammar.specs.Sizes.{nodes, trees_nodes}
use Rattle.json_grammar.specs.Tree.{Tree, null, boolean, num, text, list, pairs, Trees, no_trees, tree_and, trees_list}
use Rattle.json_grammar.proofs.Sizes.{text_fits, nodes_some}
use Rattle.json_command.specs.Input.{IsInput}
use Rattle.json_doc.specs.Readings.{elements}
use Rattle.json_patch.specs.Errors.{PatchFails as FailsToPatch, PointerFails, no_memory_in_patch}
use Rattle.json_patch.specs.Merge.{merge_patched}
use Rattle.json_patch.specs.Patch.{patched}
use Rattle.json_patch.specs.Pointer.{ReferenceToken, pointer_of, value_at_pointer}
use Rattle.json_patch.specs.declared.error.PatchCode.{PatchCode}
use Rattle.json_patch.specs.declared.error.PatchCode.TheVariants.{NoMemory, BadPointer}
use Rattle.json_patch.specs.declared.error.PatchError.{PatchError}
use Rattle.json_layout.specs.Styles.{printed}
use Rattle.json_layout.specs.declared.style.Style.{Style}
use Rattle.json_io.specs.Errors.{no_memory as no_memory_for_text}
use Rattle.json_text.specs.Ruled.{usual_rules}
use Rattle.mezdruk_c.specs.declared.failure.Failure.{Failure}
use Rattle.mezdruk_c.specs.declared.failure.Failure.TheVariants.{Options as bad_options, Argument, Text, Patch, NoMergePatch}
use Rattle.mezdruk_c.specs.declared.options.Options.{Options}
use Rattle.mezdruk_c.specs.Asked.{rules_of_options, text_by_options}
use Rattle.mezdruk_c.specs.Checking.{IsArgumentFailure, IsTextFailure}
use Rattle.mezdruk_c.specs.Patching.{ReadsBoth, PatchesText, MergesText, FailsOnTree, PatchCallFails, MergeFails}
use Rattle.mezdruk_c.specs.Pointing.{IsPointed, PointsNowhere, PatchCodeFails, PointingFails, GetsText, GetFails}

-- ---- few operations

few_trees : (ts : Trees) → length (trees_list ts) ≤ trees_nodes ts
few_trees no_trees = omega arith
few_trees (tree_and t ts) = omega (arith, nodes_some t, few_trees ts)

few_elements : (t : Tree) → length (elements t) < nodes t
few_elements (list ts) = omega (arith, few_trees ts)
few_elements null = omega arith
few_elements (boolean b) = omega arith
few_elements (num l) = omega arith
few_elements (text s) = omega arith
few_elements (pairs ps) = omega arith

-- the tree of a text has fewer elements than the text has bytes
pub few_operations : (rules : Rules) (b : List ℕ) (t : Tree) → IsInput rules b t → length (elements t) < 2 ^ 32
few_operations rules b t input = omega (arith, few_elements t, (text_fits false t b input.text).0, input.short)

-- ---- texts that are not read

module _ (o : Options) (b p : List ℕ) where
  pub argument_not_patched : (f : Failure) → IsArgumentFailure usual_rules p f → PatchCallFails o b p f
  argument_not_patched (Argument e) h = h
  argument_not_patched bad_options h = absurd h
  argument_not_patched (Text e) h = absurd h
  argument_not_patched (Patch e) h = absurd h
  argument_not_patched NoMergePatch h = absurd h

  pub argument_not_merged : (f : Failure) → IsArgumentFailure usual_rules p f → MergeFails o b p f
  argument_not_merged (Argument e) h = h
  argument_not_merged bad_options h = absurd h
  argument_not_merged (Text e) h = absurd h
  argument_not_merged (Patch e) h = absurd h
  argument_not_merged NoMergePatch h = absurd h

  pub text_not_patched : (rules : Rules) (f : Failure) → rules ≡ rules_of_options o → IsTextFailure rules b f → PatchCallFails o b p f
  text_not_patched rules (Text e) same h = subst (λ r. IsTextFailure r b (Text e)) same h
  text_not_patched rules bad_options same h = absurd h
  text_not_patched rules (Argument e) same h = absurd h
  text_not_patched rules (Patch e) same h = absurd h
  text_not_patched rules NoMergePatch same h = absurd h

  pub text_not_merged : (rules : Rules) (f : Failure) → rules ≡ rules_of_options o → IsTextFailure rules b f → MergeFails o b p f
  text_not_merged rules (Text e) same h = subst (λ r. IsTextFailure r b (Text e)) same h
  text_not_merged rules bad_options same h = absurd h
  text_not_merged rules (Argument e) same h = absurd h
  text_not_merged rules (Patch e) same h = absurd h
  text_not_merged rules NoMergePatch same h = absurd h

  pub text_not_got : (rules : Rules) (f : Failure) → rules ≡ rules_of_options o → IsTextFailure rules b f → GetFails o b p f
  text_not_got rules (Text e) same h = subst (λ r. IsTextFailure r b (Text e)) same h
  text_not_got rules bad_options same h = absurd h
  text_not_got rules (Argument e) same h = absurd h
  text_not_got rules (Patch e) same h = absurd h
  text_not_got rules NoMergePatch same h = absurd h

  -- memory that runs out for the result
  pub patch_no_memory : (f : Failure) → f ≡ Text no_memory_for_text → PatchCallFails o b p f
  patch_no_memory f e = subst (λ f. PatchCallFails o b p f) (sym e) tt

  pub merge_no_memory : (f : Failure) → f ≡ Text no_memory_for_text → MergeFails o b p f
  merge_no_memory f e = subst (λ f. MergeFails o b p f) (sym e) tt

  pub get_no_memory : (f : Failure) → f ≡ Text no_memory_for_text → GetFails o b p f
  get_no_memory f e = subst (λ f. GetFails o b p f) (sym e) tt

  -- ---- the text of what a patch makes

  -- what is printed in a style that the options ask for
  shown : (style : Style) (out : List ℕ) (tree : Tree) → ((t : Tree) → text_by_options o t ≡ Some (printed style t)) → out ≡ printed style tree → text_by_options o tree ≡ Some out
  shown style out tree asked is = asked tree ∙ ap Some (sym is)

  both : (rules : Rules) (tree by : Tree) → rules ≡ rules_of_options o → IsInput rules b tree → IsInput usual_rules p by → ReadsBoth o b p tree by
  both rules tree by same input patch_input = record { input = subst (λ r. IsInput r b tree) same input; patch_input = patch_input }

  pub patches_text : (rules : Rules) (style : Style) (tree by seen changed : Tree) (out : List ℕ) → rules ≡ rules_of_options o → ((t : Tree) → text_by_options o t ≡ Some (printed style t)) → IsInput rules b tree → IsInput usual_rules p by
      → seen ≡ by → patched tree seen ≡ Ok changed → out ≡ printed style changed → PatchesText o b p out
  patches_text rules style tree by seen changed out same asked input patch_input is_by made is =
      record { tree = tree; by = by; reads = both rules tree by same input patch_input; changed = changed; applied = ap (patched tree) (sym is_by) ∙ made; is = shown style out changed asked is }

  pub merges_text : (rules : Rules) (style : Style) (tree by seen changed : Tree) (out : List ℕ) → rules ≡ rules_of_options o → ((t : Tree) → text_by_options o t ≡ Some (printed style t)) → IsInput rules b tree → IsInput usual_rules p by
      → seen ≡ by → changed ≡ merge_patched tree seen → out ≡ printed style changed → MergesText o b p out
  merges_text rules style tree by seen changed out same asked input patch_input is_by made is =
      record { tree = tree; by = by; reads = both rules tree by same input patch_input; is = shown style out (merge_patched tree by) asked (is ∙ ap (printed style) (made ∙ ap (merge_patched tree) is_by)) }

  pub not_patched : (rules : Rules) (tree by seen : Tree) (e : PatchError) → rules ≡ rules_of_options o → IsInput rules b tree → IsInput usual_rules p by → seen ≡ by → FailsToPatch (patched tree seen) e.code e.op → PatchCallFails o b p (Patch e)
  not_patched rules tree by seen e same input patch_input is_by why =
      record { tree = tree; by = by; reads = both rules tree by same input patch_input; why = subst (λ t. FailsToPatch (patched tree t) e.code e.op) is_by why }

  -- ---- the text of what a pointer references

  pub gets_text : (rules : Rules) (style : Style) (tree part : Tree) (out : List ℕ) → rules ≡ rules_of_options o → ((t : Tree) → text_by_options o t ≡ Some (printed style t)) → IsInput rules b tree → IsPointed tree p part → out ≡ printed style part → GetsText o b p out
  gets_text rules style tree part out same asked input pointed is =
      record { tree = tree; input = subst (λ r. IsInput r b tree) same input; part = part; pointed = pointed; is = shown style out part asked is }

  pub not_got : (rules : Rules) (tree : Tree) (f : Failure) → rules ≡ rules_of_options o → IsInput rules b tree → PointingFails tree p f → GetFails o b p f
  not_got rules tree (Text e) same input h = get_no_memory (Text e) (ap Text h)
  not_got rules tree (Patch e) same input h = record { tree = tree; input = subst (λ r. IsInput r b tree) same input; why = h }
  not_got rules tree bad_options same input h = absurd h
  not_got rules tree (Argument e) same input h = absurd h
  not_got rules tree NoMergePatch same input h = absurd h

-- ---- a pointer

-- why a pointer is not parsed
not_parsed : (tree : Tree) (b : List ℕ) (code : PatchCode) (op : Option ℕ) → PointerFails (pointer_of b) code op → PatchCodeFails tree b code op
not_parsed tree b NoMemory None h = tt
not_parsed tree b BadPointer None h = h
not_parsed tree b code op h = absurd h

pub pointer_not_parsed : (tree : Tree) (b : List ℕ) (e : PatchError) → PointerFails (pointer_of b) e.code e.op → PointingFails tree b (Patch e)
pointer_not_parsed tree b e h = not_parsed tree b e.code e.op h
