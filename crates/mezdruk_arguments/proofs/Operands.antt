-- An example of each operand.
use Rattle.std.proofs.Common.{◌≡◌, ℕ, List, [], ◌∷◌, Bool, true, false, Option, Some, None, refl, sym, ap, ◌∙◌, lit≤}
use Rattle.json_grammar.specs.Tree.{Tree, text, list, no_trees}
use Rattle.json_text.specs.Ruled.{usual_rules}
use Rattle.json_command.specs.Input.{IsInput}
use Rattle.json_model.proofs.Printing.{shown_text}
use Rattle.mezdruk_arguments.specs.declared.verb.Verb.{Verb}
use Rattle.mezdruk_arguments.specs.declared.operand.OperandKind.{OperandKind}
use Rattle.mezdruk_arguments.specs.declared.operand.OperandKind.TheVariants as kind
use Rattle.mezdruk_arguments.specs.declared.line.ArgumentRole.TheVariants as role
use Rattle.json_grammar.proofs.Values.{one_tree}
use Rattle.mezdruk_arguments.specs.Operands.{IsOperand, IsQueryText, SpellsTree, has_form, taken_verbatim}
use Rattle.mezdruk_arguments.specs.CommandLine.{argument_role}

-- a string where a string is wanted, `$` for a query, and else an array
abbrev pub example : OperandKind → List ℕ
example kind.Key = 34 ∷ 34 ∷ []
example kind.Step = 34 ∷ 34 ∷ []
example kind.Query = 36 ∷ []
example _ = 91 ∷ 93 ∷ []

empty_list : IsInput usual_rules (91 ∷ 93 ∷ []) (list no_trees)
empty_list = record { short = lit≤ tt; text = shown_text false None (list no_trees) tt tt; fit = (lit≤ tt, λ u h. h) }

empty_text : IsInput usual_rules (34 ∷ 34 ∷ []) (text [])
empty_text = record { short = lit≤ tt; text = shown_text false None (text []) tt ([], (refl, refl)); fit = (lit≤ tt, λ u h. h) }

root_query : IsQueryText (36 ∷ [])
unfolding lib.Utf8.encode
root_query = ([], record { utf8 = (36 ∷ [], (refl, refl)); well_formed = (36 ∷ [], [], refl, refl, refl) })

pub example_formed : (k : OperandKind) → IsOperand k (example k)
example_formed kind.Key = (text [], record { text = empty_text; form = refl; query = tt })
example_formed kind.Step = (text [], record { text = empty_text; form = refl; query = tt })
example_formed kind.Query = (text (36 ∷ []), record { text = refl; form = refl; query = root_query })
example_formed kind.Edits = (list no_trees, record { text = empty_list; form = refl; query = tt })
example_formed kind.Path = (list no_trees, record { text = empty_list; form = refl; query = tt })
example_formed kind.Text = (text (91 ∷ 93 ∷ []), record { text = refl; form = refl; query = tt })
example_formed kind.File = (text (91 ∷ 93 ∷ []), record { text = refl; form = refl; query = tt })
example_formed kind.Value = (list no_trees, record { text = empty_list; form = refl; query = tt })
example_formed kind.Patch = (list no_trees, record { text = empty_list; form = refl; query = tt })

pub example_is_operand : (v : Verb) (ended : Bool) (k : OperandKind) (missing : Option OperandKind) → missing ≡ Some k → argument_role v ended missing (example k) ≡ role.Operand k
example_is_operand v ended kind.Key missing e = rw e refl
example_is_operand v ended kind.Step missing e = rw e refl
example_is_operand v ended kind.Query missing e = rw e refl
example_is_operand v ended kind.Edits missing e = rw e refl
example_is_operand v ended kind.Path missing e = rw e refl
example_is_operand v ended kind.Text missing e = rw e refl
example_is_operand v ended kind.Value missing e = rw e refl
example_is_operand v ended kind.File missing e = rw e refl
example_is_operand v ended kind.Patch missing e = rw e refl

-- ---- a word spells one tree

one_spelled : (k : OperandKind) (w : List ℕ) (t u : Tree) → SpellsTree k w t → SpellsTree k w u → t ≡ u
one_spelled k w t u h g = by (taken_verbatim k w) h g
  where
    by : (b : Bool) → elim b as (λ (x : Bool). Type 0) [ true ↦ t ≡ text w | false ↦ IsInput usual_rules w t ] → elim b as (λ (x : Bool). Type 0) [ true ↦ u ≡ text w | false ↦ IsInput usual_rules w u ] → t ≡ u
    by true h g = h ∙ sym g
    by false h g = one_tree false t u w h.text g.text

-- a word whose tree has another form is no such operand
pub not_operand : (k : OperandKind) (w : List ℕ) (t : Tree) → SpellsTree k w t → has_form k w t ≡ false → ¬ (IsOperand k w)
not_operand k w t h f (u, s) = differ (sym f ∙ ap (has_form k w) (one_spelled k w t u h s.text) ∙ s.form)
  where
    differ : false ≡ true → ⊥
    differ e = cc
