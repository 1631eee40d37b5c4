-- What operations change, along the paths of tokens.
use Rattle.std.proofs.Common.{◌≡◌, List, [], ◌∷◌, ◌++◌, Ok, sym, ap, ◌∙◌, subst}
use Rattle.json_grammar.specs.Tree.{Tree}
use Rattle.json_model.specs.Edit.{Step, key_step, index_step}
use Rattle.json_value.specs.Denotes.{tree_of, text_bytes}
use Rattle.json_value.specs.Touched.{ObjectTouched, Along, RemovalTouches}
use Rattle.json_value.specs.declared.container.Container.{Container}
use Rattle.json_value.specs.declared.pair.Keyed.{Keyed}
use Rattle.json_value.specs.declared.path.PointerNode.{PointerNode}
use Rattle.json_value.specs.declared.path.PointerNode.TheVariants.{Key, Index}
use Rattle.json_value.specs.declared.value.Value.{Value, Object}
use Rattle.json_value.proofs.EditedValues.{along_as}
use Rattle.json_patch.specs.Pointer.{ReferenceToken, path_of_tokens}
use Rattle.json_patch.specs.Patch.{Operation}
use Rattle.json_patch.specs.Touched.{AddTouches, RemovesChild, TouchesAt, AddsValue, RemovesValue, OperationsTouch}
use Rattle.json_patch.proofs.PatchLaws.{split_last-append}

-- ---- the object or the array that a value is

pub object_was : (Changes : List (Keyed Value) → List (Keyed Value) → Type 0) (old new : Value) (o : Container (Keyed Value)) → old ≡ Object o → ObjectTouched Changes (Object o) new → ObjectTouched Changes old new
object_was Changes old new o is t = subst (λ (v : Value). ObjectTouched Changes v new) (sym is) t

-- ---- a path

pub touches_at : (p : List ReferenceToken) (Changes : Value → Value → Type 0) (old new : Value) (t : Tree) (q r : List Step) → t ≡ tree_of old → path_of_tokens p t ≡ Ok q → r ≡ q → Along r Changes old new → TouchesAt p Changes old new
touches_at p Changes old new t q r same is steps h = record { path = q; is = ap (path_of_tokens p) (sym same) ∙ is; changed = subst (λ (s : List Step). Along s Changes old new) steps h }

pub removes_child : (n : PointerNode) (old new : Value) → RemovalTouches n old new → RemovesChild old new
removes_child (Key k) old new h = (key_step (text_bytes k), h)
removes_child (Index i) old new h = (index_step i, h)

pub removes_along : (p : List Step) (n : PointerNode) (old new : Value) → Along p (RemovalTouches n) old new → Along p RemovesChild old new
removes_along p n old new = along_as p (RemovalTouches n) RemovesChild (removes_child n) old new

-- ---- the last token

added_below : (p : List ReferenceToken) (k : ReferenceToken) (v old new : Value) → TouchesAt p (AddTouches k v) old new → AddsValue (p ++ (k ∷ [])) v old new
added_below [] k v old new h = h
added_below (j ∷ p) k v old new h = subst (λ (l : List ReferenceToken × ReferenceToken). TouchesAt l.0 (AddTouches l.1 v) old new) (sym (split_last-append j p k)) h

removed_below : (p : List ReferenceToken) (k : ReferenceToken) (old new : Value) → TouchesAt p RemovesChild old new → RemovesValue (p ++ (k ∷ [])) old new
removed_below [] k old new h = h
removed_below (j ∷ p) k old new h = subst (λ (l : List ReferenceToken × ReferenceToken). TouchesAt l.0 RemovesChild old new) (sym (split_last-append j p k)) h

pub adds_below : (ts p : List ReferenceToken) (k : ReferenceToken) (v old new : Value) → ts ≡ p ++ (k ∷ []) → TouchesAt p (AddTouches k v) old new → AddsValue ts v old new
adds_below ts p k v old new e h = subst (λ (q : List ReferenceToken). AddsValue q v old new) (sym e) (added_below p k v old new h)

pub removes_below : (ts p : List ReferenceToken) (k : ReferenceToken) (old new : Value) → ts ≡ p ++ (k ∷ []) → TouchesAt p RemovesChild old new → RemovesValue ts old new
removes_below ts p k old new e h = subst (λ (q : List ReferenceToken). RemovesValue q old new) (sym e) (removed_below p k old new h)

-- ---- operations in turn

-- what the operations left change from here on makes what all change
abbrev pub GoesOn : List Operation → List Operation → Value → Value → Type 0
GoesOn all left first here = (x : Value) → OperationsTouch left here x → OperationsTouch all first x
