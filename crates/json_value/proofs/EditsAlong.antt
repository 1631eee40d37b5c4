-- An edit at the end of its path: what a change of the value that is lent there makes of the whole.
use Rattle.std.proofs.Common.{◌≡◌, List, [], ◌∷◌, Some, None, Option, Ok, Err, inl, inr, refl, sym, ap, ◌∙◌, subst}
use Rattle.std.proofs.lemmas.Option.{none-some, same_Some}
use Rattle.json_grammar.specs.Tree.{Tree}
use Rattle.json_io.specs.declared.error.ErrorCode.{ErrorCode}
use Rattle.json_io.specs.declared.error.Place.{Place}
use Rattle.json_model.specs.Edit.{Step, key_step, index_step, Changed, at_path, edited_once}
use Rattle.json_value.specs.Denotes.{tree_of}
use Rattle.json_value.specs.Edits.{edit_of, edit_path, change_of, RefusesChange}
use Rattle.json_value.specs.Lending.{PutsAtPath}
use Rattle.json_value.specs.Steps.{child, tree_at}
use Rattle.json_value.specs.Touched.{Along, ReplacedBy, KeptAlong, Same, Touches, KeepsOnRefusal, ChangeTouches, ChangeKeeps}
use Rattle.json_value.specs.declared.path.Edit.{Edit}
use Rattle.json_value.specs.declared.path.Edit.TheVariants.{Set, Insert, Push, Remove}
use Rattle.json_value.specs.declared.value.Value.{Value}
use Rattle.json_value.proofs.AppliedTrees.{refuses_so}
use Rattle.json_value.proofs.EditedValues.{object_as, array_as, member_as, element_as, became, along_as}
use Rattle.json_value.proofs.LentPaths.{there, back, split, same_Ok}
use Rattle.json_value.proofs.RefusedCalls.{change_as_was, member_kept_as, element_kept_as}
use Rattle.json_value.proofs.WhereStepsLead.{onward, change_refused_there}

-- ---- trees

edited_there : (d : Edit) (t : Tree) → edited_once (edit_of d) t ≡ at_path (edit_path d) (change_of d) t
edited_there (Set p v) t = refl
edited_there (Insert p k v) t = refl
edited_there (Push p v) t = refl
edited_there (Remove p s) t = refl

-- a change where steps lead is what it makes of the tree there
there_along : (p : List Step) (t u : Tree) (f : Tree → Changed Tree) (r : Changed Tree) → tree_at p t ≡ Some u → f u ≡ r → at_path p f t ≡ at_path p (λ _. r) t
there_along [] t u f r here e = ap f (same_Some t u here) ∙ e
there_along (s ∷ p) t u f r here e = by (child s t) refl here (λ c at. there_along p c u f r at e)
  where
    by : (o : Option Tree) → child s t ≡ o → onward p o ≡ Some u → ((c : Tree) → tree_at p c ≡ Some u → at_path p f c ≡ at_path p (λ _. r) c) → at_path (s ∷ p) f t ≡ at_path (s ∷ p) (λ _. r) t
    by None is at more = absurd (none-some u at)
    by (Some c) is at more =
        split s p f t ∙ there s t c (at_path p f) (at_path p (λ _. r) c) is (more c at)
        ∙ sym (there s t c (at_path p (λ _. r)) (at_path p (λ _. r) c) is refl) ∙ sym (split s p (λ _. r) t)

-- what is there, put back, changes nothing
back_along : (p : List Step) (t u : Tree) → tree_at p t ≡ Some u → at_path p (λ _. Ok u) t ≡ Ok t
back_along [] t u here = ap (λ (v : Tree). Ok v) (sym (same_Some t u here))
back_along (s ∷ p) t u here = by (child s t) refl here (λ c at. back_along p c u at)
  where
    by : (o : Option Tree) → child s t ≡ o → onward p o ≡ Some u → ((c : Tree) → tree_at p c ≡ Some u → at_path p (λ _. Ok u) c ≡ Ok c) → at_path (s ∷ p) (λ _. Ok u) t ≡ Ok t
    by None is at more = absurd (none-some u at)
    by (Some c) is at more = split s p (λ _. Ok u) t ∙ there s t c (at_path p (λ _. Ok u)) (Ok c) is (more c at) ∙ back s t c is

-- ---- values

-- what was changed so along a path was kept so along it
kept_of : (p : List Step) (Kept : Value → Value → Type 0) (old new : Value) → Along p Kept old new → KeptAlong p Kept old new
kept_of [] Kept old new t = t
kept_of (key_step k ∷ p) Kept old new t = inr (object_as old new (λ items now c. inr (member_as k items now (kept_of p Kept) c)) t)
kept_of (index_step i ∷ p) Kept old new t = inr (array_as old new (λ items now c. inr (element_as i items now (kept_of p Kept) c)) t)

kept_along_as : (p : List Step) (Kept Others : Value → Value → Type 0) → ((old new : Value) → Kept old new → Others old new) → (old new : Value) → KeptAlong p Kept old new → KeptAlong p Others old new
kept_along_as [] Kept Others other old new t = other old new t
kept_along_as (key_step k ∷ p) Kept Others other old new (inl e) = inl e
kept_along_as (key_step k ∷ p) Kept Others other old new (inr t) = inr (object_as old new (λ items now. member_kept_as k items now (kept_along_as p Kept Others other)) t)
kept_along_as (index_step i ∷ p) Kept Others other old new (inl e) = inl e
kept_along_as (index_step i ∷ p) Kept Others other old new (inr t) = inr (array_as old new (λ items now. element_kept_as i items now (kept_along_as p Kept Others other)) t)

-- ---- the value x at the end of the path of an edit was changed to y

module _ (d : Edit) (p : List Step) (is : p ≡ edit_path d) where
  way : (t : Tree) → edited_once (edit_of d) t ≡ at_path p (change_of d) t
  way t = edited_there d t ∙ ap (λ (q : List Step). at_path q (change_of d) t) (sym is)

  module _ (x y old new : Value) (here : tree_at p (tree_of old) ≡ Some (tree_of x)) (puts : PutsAtPath p x y old new) where
    pub edit_made : change_of d (tree_of x) ≡ Ok (tree_of y) → edited_once (edit_of d) (tree_of old) ≡ Ok (tree_of new)
    edit_made e = way (tree_of old) ∙ there_along p (tree_of old) (tree_of x) (change_of d) (Ok (tree_of y)) here e ∙ puts.0

    pub edit_unmade : tree_of y ≡ tree_of x → tree_of new ≡ tree_of old
    edit_unmade e =
        same_Ok (tree_of new) (tree_of old)
        (sym puts.0 ∙ ap (λ (u : Tree). at_path p (λ _. Ok u) (tree_of old)) e ∙ back_along p (tree_of old) (tree_of x) here)

    pub edit_refused : (code : ErrorCode) (place : Place) → RefusesChange (change_of d (tree_of x)) code place → RefusesChange (edited_once (edit_of d) (tree_of old)) code place
    edit_refused =
        refuses_so (change_of d (tree_of x)) (edited_once (edit_of d) (tree_of old))
        (λ r e. way (tree_of old) ∙ change_refused_there p (change_of d) (tree_of old) (tree_of x) r here e)

    pub edit_touches : ChangeTouches d x y → Touches (edit_path d) d old new
    edit_touches h =
        subst (λ (q : List Step). Touches q d old new) is
        (along_as p (ReplacedBy x y) (ChangeTouches d) (λ before after. became (ChangeTouches d) x y before after h) old new puts.1)

    pub edit_keeps : ChangeKeeps d x y → KeepsOnRefusal (edit_path d) d old new
    edit_keeps h =
        subst (λ (q : List Step). KeepsOnRefusal q d old new) is
        (kept_of p (ChangeKeeps d) old new (along_as p (ReplacedBy x y) (ChangeKeeps d) (λ before after. became (ChangeKeeps d) x y before after h) old new puts.1))

  pub unlent_keeps : (old new : Value) → KeptAlong p Same old new → KeepsOnRefusal (edit_path d) d old new
  unlent_keeps old new h = subst (λ (q : List Step). KeepsOnRefusal q d old new) is (kept_along_as p Same (ChangeKeeps d) (change_as_was d) old new h)
