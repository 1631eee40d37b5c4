-- Edits and writes through lent places touch only what they are to touch.
use Rattle.std.proofs.Common.{◌≡◌, ℕ, ◌<◌, [], ◌∷◌, ◌++◌, ◌⊎◌, List, length, get_or, set, drop, map, Vec, Global, Some, inl, inr, refl, sym, ap, ◌∙◌, subst, arith}
use Rattle.std.specs.Prelude.{remove}
use Rattle.std.proofs.lemmas.List.{length-map}
use Rattle.std.proofs.lemmas.Option.{slice_get_read}
use Rattle.json_value.specs.Denotes.{tree_of, list_in, pairs_in, pair_of, text_bytes}
use Rattle.json_model.specs.Edit.{Step, key_step, index_step}
use Rattle.json_value.specs.Edits.{steps_of, step_of}
use Rattle.json_value.specs.FirstMember.{IsFirstOf}
use Rattle.json_value.specs.Lending.{first_node, PutsAtPath}
use Rattle.json_value.specs.Rows.{owned, keyed_so, IsOwnObject}
use Rattle.json_value.specs.Positions.{text_position}
use Rattle.json_value.specs.Steps.{child}
use Rattle.json_value.specs.Touched.{ArrayTouched, ObjectTouched, AtElement, AtMember, Appended, Touches, RemovalTouches, unkeyed, Along, ReplacedBy, Exchanges, AppendsItem, OfValue, UpsertedAt, Upserts, ExchangesOrUpserts}
use Rattle.json_value.specs.Written.{FirstElements, FirstMembers, value_in}
use Rattle.json_value.specs.declared.container.Container.{Container}
use Rattle.json_value.specs.declared.pair.Keyed.{Keyed}
use Rattle.json_value.specs.declared.path.PointerNode.{PointerNode}
use Rattle.json_value.specs.declared.path.PointerNode.TheVariants.{Key, Index}
use Rattle.json_value.specs.declared.path.Edit.{Edit}
use Rattle.json_value.specs.declared.text.Text.{Text}
use Rattle.json_value.specs.declared.value.Value.{Value, Null, Array, Object}
use Rattle.json_value.proofs.Lent.{last_set, last_read}
use Rattle.json_value.proofs.LentPaths.{along}

-- ---- a container whose list was lent

pub array_touched : (Changes : List Value → List Value → Type 0) (self : Value) (a : Container Value) (v w : Vec Value Global) → self ≡ Array a → map tree_of v.items ≡ list_in a → FirstElements a v.items
    → Changes v.items w.items → ArrayTouched Changes self (Array (owned w))
array_touched Changes self a v w was same unpacked h = record { array = a; first = v.items; list = w; was = was; same = same; unpacked = unpacked; is = refl; changed = h }

pub object_touched : (Changes : List (Keyed Value) → List (Keyed Value) → Type 0) (self : Value) (o : Container (Keyed Value)) (v w : Vec (Keyed Value) Global) → self ≡ Object o → map pair_of v.items ≡ pairs_in o
    → FirstMembers o v.items → Changes v.items w.items → ObjectTouched Changes self (Object (owned w))
object_touched Changes self o v w was same unpacked h = record { object = o; first = v.items; list = w; was = was; same = same; unpacked = unpacked; is = refl; changed = h }

-- ---- one of its children

pub at_element : (Changes : Value → Value → Type 0) (vs : List Value) (i : ℕ) (v u : Value) → i < length vs → v ≡ get_or vs i v → Changes v u → AtElement i Changes vs (set vs i u)
at_element Changes vs i v u low is h = record { before = v; after = u; there = slice_get_read vs (length vs) i v refl low is; exchanged = refl; changed = h }

pub at_member : (Changes : Value → Value → Type 0) (k : List ℕ) (ps : List (Keyed Value)) (i : ℕ) (p : Keyed Value) (u : Value) → p ≡ get_or ps i p → IsFirstOf k (map pair_of ps) i → Changes p.value u
    → AtMember k Changes ps (set ps i (keyed_so p.key u))
at_member Changes k ps i p u is first h =
    let low : i < length ps = rw length-map at first.within in
    record { at = i; before = p; after = u; is_first = first; there = slice_get_read ps (length ps) i p refl low is; exchanged = refl; changed = h }

-- ---- a path, step by step

pub removal_touches_key : (s : PointerNode) (k : Text) (m : List ℕ) (old new : Value) → s ≡ Key k → m ≡ text_bytes k → ObjectTouched (λ items now. now ≡ unkeyed m items) old new → RemovalTouches s old new
removal_touches_key s k m old new g b h =
    subst (λ (r : PointerNode). RemovalTouches r old new) (sym g) (subst (λ (n : List ℕ). ObjectTouched (λ items now. now ≡ unkeyed n items) old new) b h)

pub removal_touches_index : (s : PointerNode) (i : ℕ) (old new : Value) → s ≡ Index i → ArrayTouched (λ items now. now ≡ remove items i) old new → RemovalTouches s old new
removal_touches_index s i old new g = subst (λ (r : PointerNode). RemovalTouches r old new) (sym g)

-- ---- a change that is said otherwise

pub array_as : {Changes Others : List Value → List Value → Type 0} (old new : Value) → ((items now : List Value) → Changes items now → Others items now) → ArrayTouched Changes old new → ArrayTouched Others old new
array_as old new other t = record { array = t.array; first = t.first; list = t.list; was = t.was; same = t.same; unpacked = t.unpacked; is = t.is; changed = other t.first t.list.items t.changed }

pub object_as : {Changes Others : List (Keyed Value) → List (Keyed Value) → Type 0} (old new : Value) → ((items now : List (Keyed Value)) → Changes items now → Others items now)
    → ObjectTouched Changes old new → ObjectTouched Others old new
object_as old new other t = record { object = t.object; first = t.first; list = t.list; was = t.was; same = t.same; unpacked = t.unpacked; is = t.is; changed = other t.first t.list.items t.changed }

pub element_as : {Changes Others : Value → Value → Type 0} (i : ℕ) (items now : List Value) → ((before after : Value) → Changes before after → Others before after) → AtElement i Changes items now → AtElement i Others items now
element_as i items now other e = record { before = e.before; after = e.after; there = e.there; exchanged = e.exchanged; changed = other e.before e.after e.changed }

pub member_as : {Changes Others : Value → Value → Type 0} (k : List ℕ) (items now : List (Keyed Value)) → ((before after : Value) → Changes before after → Others before after)
    → AtMember k Changes items now → AtMember k Others items now
member_as k items now other e = record { at = e.at; before = e.before; after = e.after; is_first = e.is_first; there = e.there; exchanged = e.exchanged; changed = other (value_in e.before) e.after e.changed }

-- what is so of x and w is so where x became w
pub became : {T : Type 0} (Changes : T → T → Type 0) (x w before after : T) → Changes x w → ReplacedBy x w before after → Changes before after
became {T} Changes x w before after h e = subst (λ (y : T). Changes y after) (sym e.0) (subst (Changes x) (sym e.1) h)

pub along_as : (p : List Step) (Changes Others : Value → Value → Type 0) → ((before after : Value) → Changes before after → Others before after) → (old new : Value) → Along p Changes old new → Along p Others old new
along_as [] Changes Others other old new t = other old new t
along_as (key_step k ∷ p) Changes Others other old new t = object_as old new (λ items now. member_as k items now (along_as p Changes Others other)) t
along_as (index_step i ∷ p) Changes Others other old new t = array_as old new (λ items now. element_as i items now (along_as p Changes Others other)) t

-- ---- a write through a lent place

-- a value that was no null, or null, before an object of one member was made of it
pub opened_touched : (Changes : List (Keyed Value) → List (Keyed Value) → Type 0) (old mid new : Value) → (mid ≡ old) ⊎ ((old ≡ Null) × IsOwnObject mid) → ObjectTouched Changes mid new → (old ≡ Null) ⊎ ObjectTouched Changes old new
opened_touched Changes old mid new (inl same) t = inr (subst (λ (v : Value). ObjectTouched Changes v new) same t)
opened_touched Changes old mid new (inr made) t = inl made.0

pub element_exchanged : (vs : List Value) (i : ℕ) (v w old new : Value) → i < length vs → v ≡ get_or vs i v → ArrayTouched (ReplacedBy vs (set vs i w)) old new → Exchanges (index_step i ∷ []) v w old new
element_exchanged vs i v w old new low is = array_as old new (λ items now. became (AtElement i (ReplacedBy v w)) vs (set vs i w) items now (at_element (ReplacedBy v w) vs i v w low is (refl, refl)))

-- x is the value of the member
pub member_exchanged : (k : List ℕ) (ps : List (Keyed Value)) (i : ℕ) (p : Keyed Value) (x w old new : Value) → p ≡ get_or ps i p → IsFirstOf k (map pair_of ps) i → x ≡ p.value
    → ObjectTouched (ReplacedBy ps (set ps i (keyed_so p.key w))) old new → Exchanges (key_step k ∷ []) x w old new
member_exchanged k ps i p x w old new is first same =
    object_as old new (λ items now. became (AtMember k (ReplacedBy x w)) ps (set ps i (keyed_so p.key w)) items now (at_member (ReplacedBy x w) k ps i p w is first (sym same, refl)))

pub element_added : (vs us : List Value) (v w old new : Value) (i : ℕ) → us ≡ vs ++ v ∷ [] → i ≡ length vs → ArrayTouched (ReplacedBy vs (set us i w)) old new → AppendsItem w old new
element_added vs us v w old new i made end = array_as old new (λ items now. became (λ items now. now ≡ items ++ w ∷ []) vs (set us i w) items now (last_set vs us v i made end w))

-- the member at the first member of a key, with another value
module _ (Changes : Value → Value → Type 0) (k : List ℕ) (ps qs : List (Keyed Value)) (i : ℕ) (p : Keyed Value) (w : Value) (is : p ≡ get_or qs i p) (first : IsFirstOf k (map pair_of qs) i) (h : Changes p.value w) where
  abbrev SeatsItems : (items now : List (Keyed Value)) → Type 0
  SeatsItems items now = AtMember k Changes items now ⊎ Appended k (OfValue w) items now

  seated_behind : i ≡ length ps → Appended k (OfValue Null) ps qs → Appended k (OfValue w) ps (set qs i (keyed_so p.key w))
  seated_behind end a =
      let same : p ≡ a.member = last_read ps qs a.member i a.more end p is in
      record { member = keyed_so p.key w; none = a.none; more = last_set ps qs a.member i a.more end (keyed_so p.key w); is = (ap (λ (m : Keyed Value). text_position m.key) same ∙ a.is.0, refl) }

  seated_items : UpsertedAt k i ps qs → SeatsItems ps (set qs i (keyed_so p.key w))
  seated_items (inl e) = inl (subst (λ (xs : List (Keyed Value)). AtMember k Changes xs (set qs i (keyed_so p.key w))) e (at_member Changes k qs i p w is first h))
  seated_items (inr a) = inr (seated_behind a.0 a.1)

  pub seated_written : (old new : Value) → UpsertedAt k i ps qs → ObjectTouched (ReplacedBy ps (set qs i (keyed_so p.key w))) old new → Upserts k Changes w old new
  seated_written old new s = object_as old new (λ items now. became SeatsItems ps (set qs i (keyed_so p.key w)) items now (seated_items s))

-- x is the value of the first member of the key
pub seated_or_null : (x : Value) (k : List ℕ) (ps qs : List (Keyed Value)) (i : ℕ) (p : Keyed Value) (w : Value) → p ≡ get_or qs i p → IsFirstOf k (map pair_of qs) i → p.value ≡ x → (old new : Value) → UpsertedAt k i ps qs
    → (old ≡ Null) ⊎ ObjectTouched (ReplacedBy ps (set qs i (keyed_so p.key w))) old new → ExchangesOrUpserts (key_step k) x w old new
seated_or_null x k ps qs i p w is first same old new s (inl null) = inl null
seated_or_null x k ps qs i p w is first same old new s (inr t) = inr (seated_written (ReplacedBy x w) k ps qs i p w is first (same, refl) old new s t)

-- ---- along a path

-- a change of a child by way of a deeper one
deeper : (s : Step) (p : List Step) (x y z w old new : Value) → Exchanges (s ∷ []) x y old new → Exchanges p z w x y → Exchanges (s ∷ p) z w old new
deeper (key_step k) p x y z w old new t h = object_as old new (λ items now. member_as k items now (λ before after. became (Exchanges p z w) x y before after h)) t
deeper (index_step i) p x y z w old new t h = array_as old new (λ items now. element_as i items now (λ before after. became (Exchanges p z w) x y before after h)) t

-- what was found after one step and then along the rest was found along the whole
pub exchanged_along : (path rest : List PointerNode) (x y z w old new : Value) → 0 < length path → rest ≡ drop 1 path
    → Exchanges (step_of (first_node path) ∷ []) x y old new → Exchanges (steps_of rest) z w x y → Exchanges (steps_of path) z w old new
exchanged_along [] rest x y z w old new more shorter e f = absurd (omega arith)
exchanged_along (s ∷ p) rest x y z w old new more shorter e f =
    deeper (step_of s) (steps_of p) x y z w old new e (subst (λ (q : List PointerNode). Exchanges (steps_of q) z w x y) shorter f)

pub exchanged_here : (path : List PointerNode) (x w : Value) → path ≡ [] → Exchanges (steps_of path) x w x w
exchanged_here path x w e = subst (λ (q : List PointerNode). Exchanges (steps_of q) x w x w) (sym e) (refl, refl)

pub puts_along : (path rest : List PointerNode) (x y z w old new : Value) → 0 < length path → rest ≡ drop 1 path → child (step_of (first_node path)) (tree_of old) ≡ Some (tree_of x)
    → PutsAtPath (step_of (first_node path) ∷ []) x y old new → PutsAtPath (steps_of rest) z w x y → PutsAtPath (steps_of path) z w old new
puts_along path rest x y z w old new more shorter here e f =
    (along path rest (tree_of old) (tree_of x) more shorter here (tree_of new) (tree_of y) (tree_of w) e.0 f.0, exchanged_along path rest x y z w old new more shorter e.1 f.1)
