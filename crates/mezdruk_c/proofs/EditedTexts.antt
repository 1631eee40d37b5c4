-- What editing a text comes to.
use Rattle.std.proofs.Common.{◌≡◌, ◌⊎◌, inl, inr, ℕ, ◌+◌, ◌^◌, ◌<◌, ◌≤◌, suc, List, [], ◌∷◌, length, Option, Some, None, false, refl, sym, subst, ap, ◌∙◌, arith}
use Rattle.json_grammar.specs.Rules.{Rules}
use Rattle.json_grammar.specs.Sizes.{nodes, trees_nodes}
use Rattle.json_grammar.specs.Tree.{Tree, null, boolean, num, text, list, pairs, Trees, no_trees, tree_and, trees_list}
use Rattle.json_grammar.proofs.Sizes.{text_fits, nodes_some}
use Rattle.json_model.specs.Edit.{Edit, EditRefusal, not_found, type_unmatched}
use Rattle.json_io.specs.declared.error.ErrorCode.{ErrorCode}
use Rattle.json_io.specs.declared.error.ErrorCode.TheVariants.{NoMemory, Io, TooLarge, NotFound, TypeUnmatched}
use Rattle.json_io.specs.declared.error.Place.{Place}
use Rattle.json_io.specs.declared.error.Place.TheVariants.{None as nowhere, Reading, Writing, Edit as in_edit}
use Rattle.json_io.specs.Known.{append_known}
use Rattle.json_io.specs.Outside.{SourceState, SinkState, Rose}
use Rattle.json_command.specs.Input.{IsInput}
use Rattle.json_command.proofs.KnownBytes.{input_known, fault_known, large_known}
use Rattle.json_data.specs.Calls.{TypedReadingFails}
use Rattle.json_data.specs.Reading.{read_list}
use Rattle.json_data.specs.ReadingValues.{read_edit}
use Rattle.json_value.specs.EditTrees.{both, each_in, edit_in, edits_in}
use Rattle.reshape.specs.Reshape.{TextLayout, laid_out, Reshapes, ReadsUnfit, ReshapingRefuses}
use Rattle.reshape.specs.Words.{SpellsEdits}
use Rattle.reshape.proofs.Spelled.{none_spelled}
use Rattle.mezdruk_c.specs.Editing.{EditedText, UnfitText, EditingFails, EditsNotRead}

-- ---- edits that are spelled

-- what is not read spells no edits, or memory ran out
not_spelled : (b : List ℕ) (code : ErrorCode) (place : Place) → TypedReadingFails 254 (read_list read_edit) b code place → (code ≡ NoMemory) ⊎ ((es : List Edit) → ¬ (SpellsEdits b es))
not_spelled b NoMemory place h = inl refl
not_spelled b code place h = inr (none_spelled b code place (λ e. cc) h)

pub edits_not_read : (b : List ℕ) (code : ErrorCode) (place : Place) → TypedReadingFails 254 (read_list read_edit) b code place → EditsNotRead b code place
edits_not_read b code place h = record { why = h; none = not_spelled b code place h }

same_some : {A : Type 0} {x y : A} → Some x ≡ Some y → x ≡ y
same_some e = cc

none_some : {A : Type 0} {x : A} → None ≡ Some x → ⊥
none_some e = cc

few_trees : (ts : Trees) → length (trees_list ts) ≤ trees_nodes ts
few_trees no_trees = omega arith
few_trees (tree_and t ts) = omega (arith, nodes_some t, few_trees ts)

-- if both were there, the second is one shorter
both_longer : {A : Type 0} (a : Option A) (b : Option (List A)) (xs : List A) (n : ℕ) → both (λ x xs. x ∷ xs) a b ≡ Some xs → ((ys : List A) → b ≡ Some ys → length ys ≡ n) → length xs ≡ suc n
both_longer (Some x) (Some ys) xs n e h = ap length (sym (same_some e)) ∙ ap suc (h ys refl)
both_longer (Some x) None xs n e h = absurd (none_some e)
both_longer None b xs n e h = absurd (none_some e)

each_length : {A : Type 0} (f : Tree → Option A) (ts : List Tree) (xs : List A) → each_in f ts ≡ Some xs → length xs ≡ length ts
each_length f [] xs e = ap length (sym (same_some e))
each_length f (t ∷ ts) xs e = both_longer (f t) (each_in f ts) xs (length ts) e (λ ys h. each_length f ts ys h)

few_edits : (t : Tree) (es : List Edit) → edits_in t ≡ Some es → length es < nodes t
few_edits (list ts) es e = omega (arith, each_length edit_in (trees_list ts) es e, few_trees ts)
few_edits null es e = absurd (none_some e)
few_edits (boolean b) es e = absurd (none_some e)
few_edits (num l) es e = absurd (none_some e)
few_edits (text s) es e = absurd (none_some e)
few_edits (pairs ps) es e = absurd (none_some e)

-- a text spells fewer edits than it has bytes
pub few_spelled : (b : List ℕ) (es : List Edit) → SpellsEdits b es → length es < 2 ^ 32
few_spelled b es s = omega (arith, few_edits s.tree es s.edits, (text_fits false s.tree b s.input.text).0, s.input.short)

-- ---- the text of the edited tree

module _ (rules : Rules) (es : List Edit) where
  -- what an empty sink gained is the text of the edited tree
  pub edited_text : (l : TextLayout) (source source' : SourceState) (sink sink' : SinkState) (b out : List ℕ) → Reshapes rules es l source source' sink sink' → source.left ≡ Some b → sink.gained ≡ Some [] → sink'.gained ≡ Some out
      → EditedText rules es (laid_out l) b out
  edited_text l source source' sink sink' b out r known empty gained =
      let appended : sink'.gained ≡ Some (laid_out l r.changed) = r.gains ∙ ap (λ g. append_known g (laid_out l r.changed)) empty in
      record { tree = r.tree; input = input_known rules source source' b r.tree r.reads known; changed = r.changed; applied = r.applied; is = same_some (sym gained ∙ appended) }

  unfit_text : (source source' : SourceState) (b : List ℕ) (number : ℕ) (why : EditRefusal) → ReadsUnfit rules es source source' number why → source.left ≡ Some b → UnfitText rules es b number why
  unfit_text source source' b number why h known = record { tree = h.tree; input = input_known rules source source' b h.tree h.reads known; refused = h.refused }

  -- where neither the source nor the sink failed
  pub not_edited : (l : TextLayout) (source source' : SourceState) (sink sink' : SinkState) (b : List ℕ) (code : ErrorCode) (place : Place) → ReshapingRefuses rules es l source source' sink sink' code place → source.left ≡ Some b
      → ¬ (Rose source.faults source'.faults) → ¬ (Rose sink.faults sink'.faults) → EditingFails rules es b code place
  not_edited l source source' sink sink' b NoMemory nowhere h known reads writes = tt
  not_edited l source source' sink sink' b Io Reading h known reads writes = absurd (reads h.0)
  not_edited l source source' sink sink' b TooLarge nowhere h known reads writes = large_known rules source b h.1 known
  not_edited l source source' sink sink' b NotFound (in_edit number) h known reads writes = unfit_text source source' b number not_found h.0 known
  not_edited l source source' sink sink' b TypeUnmatched (in_edit number) h known reads writes = unfit_text source source' b number type_unmatched h.0 known
  not_edited l source source' sink sink' b Io Writing h known reads writes = absurd (writes h.0)
  not_edited l source source' sink sink' b code place h known reads writes = fault_known rules source source' b code place h.0 known
