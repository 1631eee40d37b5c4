-- What the readers of paths and edits return of a tree, and whether it has their form.
use Rattle.std.proofs.lemmas.List.{drop-map}
use Rattle.std.proofs.Common.{◌≡◌, ◌≢◌, ◌⊎◌, inl, inr, ◌∙◌, ℕ, drop, true, false, List, [], ◌∷◌, map, Option, Some, None, is_some, option_map, refl, sym, ap}
use Rattle.json_grammar.specs.Tree.{Tree, null, boolean, num, text, list, pairs}
use Rattle.json_io.specs.Errors.{no_memory}
use Rattle.json_io.specs.declared.error.Error.{Error}
use Rattle.json_io.specs.declared.error.ErrorCode.{ErrorCode}
use Rattle.json_io.specs.declared.error.ErrorCode.TheVariants.{NoMemory, TypeUnmatched, NumberOutOfRange, ExpectedNumericKey}
use Rattle.json_io.specs.declared.error.Place.{Place}
use Rattle.json_io.specs.declared.error.Place.TheVariants.{None as nowhere}
use Rattle.json_model.specs.Datum.{Datum, list_datum, list_data}
use Rattle.json_model.specs.Edit.{Edit}
use Rattle.json_value.specs.declared.path.Edit.{Edit as ValueEdit}
use Rattle.json_value.specs.Edits.{edit_of}
use Rattle.json_value.specs.EditTrees.{edits_in}
use Rattle.json_data.specs.Reading.{Reading, gives, refuses, read_list}
use Rattle.json_data.specs.ReadingValues.{edit_datum, read_edit}
use Rattle.json_tokens.specs.Refusals.{is_refusal}
use Rattle.json_data.specs.ValueCalls.{TreeReadingFails}
use Rattle.json_data.proofs.ValueData.{list_edits, list_none}
use Rattle.json_patch.specs.Errors.{PointerFails}
use Rattle.json_patch.specs.declared.error.PatchCode.{PatchCode}
use Rattle.json_patch.specs.declared.error.PatchCode.TheVariants.{NoMemory as NoPatchMemory, BadPointer}
use Rattle.json_value.specs.declared.value.Value.{Value}
use Rattle.json_value.specs.Denotes.{tree_of}
use Rattle.json_query.specs.Errors.{ParsingFails}
use Rattle.json_query.specs.declared.error.QueryCode.{QueryCode}
use Rattle.json_query.specs.declared.error.QueryCode.TheVariants.{NoMemory as NoQueryMemory}
use Rattle.mezdruk_arguments.specs.Operands.{edits_formed, IsQueryText}

-- an error that is a refusal is one of the tree
pub refused : (f : Tree → Reading) (t : Tree) (c : ErrorCode) (p : Place) → is_refusal c ≡ true → TreeReadingFails f t c p → (d : ErrorCode) × (f t ≡ refuses d)
refused f t NoMemory p i h = absurd (cc)
refused f t TypeUnmatched nowhere i h = (TypeUnmatched, h)
refused f t NumberOutOfRange nowhere i h = (NumberOutOfRange, h)
refused f t ExpectedNumericKey nowhere i h = (ExpectedNumericKey, h)
refused f t c p i h = absurd h

-- ---- edits

edits_read : (t : Tree) (es : List Edit) → read_list read_edit t ≡ gives (list_datum (list_data (map edit_datum es))) → edits_in t ≡ Some es
edits_read (list ts) es e = list_edits ts es e
edits_read null es e = absurd (cc)
edits_read (boolean b) es e = absurd (cc)
edits_read (num l) es e = absurd (cc)
edits_read (text s) es e = absurd (cc)
edits_read (pairs ps) es e = absurd (cc)

pub edits_none : (t : Tree) (c : ErrorCode) → read_list read_edit t ≡ refuses c → edits_in t ≡ None
edits_none (list ts) c e = list_none ts c e
edits_none null c e = refl
edits_none (boolean b) c e = refl
edits_none (num l) c e = refl
edits_none (text s) c e = refl
edits_none (pairs ps) c e = refl

mapped : (es : List ValueEdit) → map (λ e. edit_datum (edit_of e)) es ≡ map edit_datum (map edit_of es)
mapped [] = refl
mapped (e ∷ es) = ap (λ (ds : List Datum). edit_datum (edit_of e) ∷ ds) (mapped es)

-- the edits that are read are those that the tree spells
pub edits_given : (t : Tree) (es : List ValueEdit) → read_list read_edit t ≡ gives (list_datum (list_data (map (λ e. edit_datum (edit_of e)) es))) → edits_in t ≡ Some (map edit_of es)
edits_given t es e = edits_read t (map edit_of es) (e ∙ ap (λ (ds : List Datum). gives (list_datum (list_data ds))) (mapped es))

pub edits_are_formed : (t : Tree) (es : List ValueEdit) → read_list read_edit t ≡ gives (list_datum (list_data (map (λ e. edit_datum (edit_of e)) es))) → true ≡ edits_formed t
edits_are_formed t es e = sym (ap is_some (edits_given t es e))

pub edits_refused : (t : Tree) (c : ErrorCode) → read_list read_edit t ≡ refuses c → false ≡ edits_formed t
edits_refused t c e = sym (ap is_some (edits_none t c e))

-- why no edits are read
pub edits_fail : (t : Tree) (c : ErrorCode) (p : Place) → TreeReadingFails (read_list read_edit) t c p → (◌≡◌ {A = Error} (record { code = c; place = p }) no_memory) ⊎ (edits_in t ≡ None)
edits_fail t NoMemory nowhere h = inl refl
edits_fail t TypeUnmatched nowhere h = inr (edits_none t TypeUnmatched h)
edits_fail t NumberOutOfRange nowhere h = inr (edits_none t NumberOutOfRange h)
edits_fail t ExpectedNumericKey nowhere h = inr (edits_none t ExpectedNumericKey h)
edits_fail t c p h = absurd h

-- ---- pointers

-- why no pointer is read: memory ran out, or the text is none
pub no_pointer : (o : Option (List (List ℕ))) (c : PatchCode) (n : Option ℕ) → PointerFails o c n → c ≢ NoPatchMemory → None ≡ o
no_pointer o BadPointer None h k = sym h
no_pointer o NoPatchMemory n h k = absurd (k refl)
no_pointer o BadPointer (Some n) h k = absurd h
no_pointer o c n h k = absurd h

-- why no query is read: memory ran out, or the text is none
pub no_query : (w : List ℕ) (c : QueryCode) (k : ℕ) → ParsingFails w c k → c ≢ NoQueryMemory → ¬ (IsQueryText w)
no_query w NoQueryMemory k h n = absurd (n refl)
no_query w c k h n = λ q. h.no_query q.0 q.1

pub is_some_map : {A B : Type 0} (f : A → B) (o : Option A) → is_some (option_map f o) ≡ is_some o
is_some_map f None = refl
is_some_map f (Some x) = refl

pub later_trees : (vs : List Value) → drop 1 (map tree_of vs) ≡ map tree_of (drop 1 vs)
later_trees vs = drop-map tree_of 1 vs
