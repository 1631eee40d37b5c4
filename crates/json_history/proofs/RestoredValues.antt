-- What an undo leaves of a value, from what it leaves at the end of the path.
use Rattle.std.proofs.Common.{◌≡◌, ◌⊎◌, inl, inr, List, [], ◌∷◌, refl, sym, ap, subst, ◌∙◌}
use Rattle.json_model.specs.Edit.{Step, key_step, index_step, set_at}
use Rattle.json_value.specs.Denotes.{tree_of}
use Rattle.json_value.specs.Edits.{edit_of, edit_path, path_steps}
use Rattle.json_value.specs.Lending.{PutsAtPath}
use Rattle.json_value.specs.Places.{value_origin}
use Rattle.json_value.specs.Touched.{ArrayTouched, ObjectTouched, ArrayKept, ObjectKept, Same, Along, ReplacedBy, KeptAlong, KeepsOnRefusal, Touches, ChangeTouches, ChangeKeeps}
use Rattle.json_value.specs.declared.container.Container.{Container}
use Rattle.json_value.specs.declared.pair.Keyed.{Keyed}
use Rattle.json_value.specs.declared.path.Edit.{Edit}
use Rattle.json_value.specs.declared.path.Edit.TheVariants.{Set}
use Rattle.json_value.specs.declared.path.Path.{Path}
use Rattle.json_value.specs.declared.value.Value.{Value, Array, Object}
use Rattle.json_value.proofs.EditedValues.{object_as, array_as, member_as, element_as, became, along_as}
use Rattle.json_value.proofs.RefusedCalls.{change_as_was, member_kept_as, element_kept_as}
use Rattle.json_history.specs.ChangeTrees.{change_path}
use Rattle.json_history.specs.Restores.{RestoresAt, RestoreKeeps, ElementsTouched, MembersTouched}
use Rattle.json_history.specs.declared.change.Change.{Change}

-- ---- an array or an object, taken out of a value and put back

module _ (old : Value) (a b : Container Value) (was : old ≡ Array a) where
  pub array_touched : {Changes : List Value → List Value → Type 0} → ElementsTouched Changes a b → ArrayTouched Changes old (Array b)
  array_touched t = record { array = a; first = t.first; list = t.list; was = was; same = t.same; unpacked = t.unpacked; is = ap Array t.is; changed = t.changed }

  pub array_untouched : b ≡ a → Array b ≡ old
  array_untouched e = ap Array e ∙ sym was

  pub array_kept_same : (b ≡ a) ⊎ ElementsTouched Same a b → ArrayKept Same old (Array b)
  array_kept_same (inl e) = inl (array_untouched e)
  array_kept_same (inr t) = inr (array_touched t)

module _ (old : Value) (a b : Container (Keyed Value)) (was : old ≡ Object a) where
  pub object_touched : {Changes : List (Keyed Value) → List (Keyed Value) → Type 0} → MembersTouched Changes a b → ObjectTouched Changes old (Object b)
  object_touched t = record { object = a; first = t.first; list = t.list; was = was; same = t.same; unpacked = t.unpacked; is = ap Object t.is; changed = t.changed }

  pub object_untouched : b ≡ a → Object b ≡ old
  object_untouched e = ap Object e ∙ sym was

  pub object_kept_same : (b ≡ a) ⊎ MembersTouched Same a b → ObjectKept Same old (Object b)
  object_kept_same (inl e) = inl (object_untouched e)
  object_kept_same (inr t) = inr (object_touched t)

-- ---- the whole value

kept_of : (p : List Step) (Kept : Value → Value → Type 0) (old new : Value) → Along p Kept old new → KeptAlong p Kept old new
kept_of [] Kept old new t = t
kept_of (key_step k ∷ p) Kept old new t = inr (object_as old new (λ items now c. inr (member_as k items now (kept_of p Kept) c)) t)
kept_of (index_step i ∷ p) Kept old new t = inr (array_as old new (λ items now c. inr (element_as i items now (kept_of p Kept) c)) t)

kept_along_as : (p : List Step) (Kept Others : Value → Value → Type 0) → ((old new : Value) → Kept old new → Others old new) → (old new : Value) → KeptAlong p Kept old new → KeptAlong p Others old new
kept_along_as [] Kept Others other old new t = other old new t
kept_along_as (key_step k ∷ p) Kept Others other old new (inl e) = inl e
kept_along_as (key_step k ∷ p) Kept Others other old new (inr t) = inr (object_as old new (λ items now. member_kept_as k items now (kept_along_as p Kept Others other)) t)
kept_along_as (index_step i ∷ p) Kept Others other old new (inl e) = inl e
kept_along_as (index_step i ∷ p) Kept Others other old new (inr t) = inr (array_as old new (λ items now. element_kept_as i items now (kept_along_as p Kept Others other)) t)

same_along : (p : List Step) (Kept : Value → Value → Type 0) (v : Value) → Kept v v → KeptAlong p Kept v v
same_along [] Kept v h = h
same_along (key_step k ∷ p) Kept v h = inl refl
same_along (index_step i ∷ p) Kept v h = inl refl

-- an undo that failed before its first write keeps the value
pub undo_same : (p : List Step) (v w : Value) → w ≡ v → KeptAlong p RestoreKeeps v w
undo_same p v w e = subst (λ u. KeptAlong p RestoreKeeps v u) (sym e) (same_along p RestoreKeeps v (inl (inl refl)))

-- an edit that was not applied keeps the value
pub edit_same : (d : Edit) (v w : Value) → w ≡ v → KeepsOnRefusal (edit_path d) d v w
edit_same d v w e = subst (λ u. KeepsOnRefusal (edit_path d) d v u) (sym e) (same_along (edit_path d) _ v (change_as_was d v v refl))

-- ---- a value that was put at the end of a path, and an edit that sets it

module _ (d : Edit) (p : Path) (v : Value) (is : d ≡ Set p v) (q : List Step) (same : q ≡ path_steps p) where
  pub set_edit : edit_of d ≡ set_at q (tree_of v)
  set_edit = ap edit_of is ∙ ap (λ r. set_at r (tree_of v)) (sym same)

  pub set_touches : (old new : Value) → Along q (λ before after. after ≡ v) old new → Touches (edit_path d) d old new
  set_touches old new t =
      subst (λ e. Touches (edit_path e) e old new) (sym is)
      (subst (λ r. Along r (ChangeTouches (Set p v)) old new) same (along_as q (λ before after. after ≡ v) (ChangeTouches (Set p v)) (λ before after e. ap value_origin e) old new t))

  pub set_keeps : (old new : Value) → KeptAlong q Same old new → KeepsOnRefusal (edit_path d) d old new
  set_keeps old new t = subst (λ e. KeepsOnRefusal (edit_path e) e old new) (sym is) (subst (λ r. KeptAlong r (ChangeKeeps (Set p v)) old new) same t)

-- ---- through a lent place

module _ (c : Change) (p : List Step) (is : p ≡ change_path c) (old new : Value) where
  module _ (x y : Value) (puts : PutsAtPath p x y old new) where
    pub restored_along : RestoresAt c x y → Along (change_path c) (RestoresAt c) old new
    restored_along h = subst (λ q. Along q (RestoresAt c) old new) is (along_as p (ReplacedBy x y) (RestoresAt c) (λ before after. became (RestoresAt c) x y before after h) old new puts.1)

    pub restore_kept_along : RestoreKeeps x y → KeptAlong (change_path c) RestoreKeeps old new
    restore_kept_along h =
        subst (λ q. KeptAlong q RestoreKeeps old new) is
        (kept_of p RestoreKeeps old new (along_as p (ReplacedBy x y) RestoreKeeps (λ before after. became RestoreKeeps x y before after h) old new puts.1))

  pub unlent_kept_along : KeptAlong p Same old new → KeptAlong (change_path c) RestoreKeeps old new
  unlent_kept_along h = subst (λ q. KeptAlong q RestoreKeeps old new) is (kept_along_as p Same RestoreKeeps (λ before after e. inl (inl e)) old new h)
