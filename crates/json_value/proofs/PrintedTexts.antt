-- A text that is printed into memory.
use Rattle.std.proofs.Common.{◌≡◌, ℕ, List, [], ◌∷◌, Bool, false, ◌||◌, Option, Some, None, IsUtf8, Err, Ok, Result, refl, sym, ap, subst, ◌∙◌, arith, append-nil}
use Rattle.std.specs.Prelude.{IfOk, IfSome}
use Rattle.json_grammar.specs.Tree.{Tree, list, list_trees, pairs, list_pairs}
use Rattle.json_grammar.specs.Proper.{IsProper}
use Rattle.json_grammar.proofs.TextUtf8.{text_utf8}
use Rattle.json_model.specs.Print.{shown}
use Rattle.json_model.proofs.Printing.{shown_text}
use Rattle.json_io.specs.declared.error.Error.{Error}
use Rattle.json_io.specs.declared.error.ErrorCode.{ErrorCode}
use Rattle.json_io.specs.declared.error.ErrorCode.TheVariants.{NoMemory, Io}
use Rattle.json_io.specs.declared.error.Place.{Place}
use Rattle.json_io.specs.declared.error.Place.TheVariants.{None as nowhere, Writing}
use Rattle.json_io.specs.Errors.{no_memory}
use Rattle.json_io.specs.Known.{Appends, append_known}
use Rattle.json_io.specs.Outside.{SinkState}
use Rattle.json_io.specs.Transfer.{FlushesAll, WritingCause}
use Rattle.json_layout.specs.Buffered.{held_after}
use Rattle.json_layout.specs.Pieces.{holds_any}
use Rattle.json_layout.specs.TextWriting.{StopCause, WritesText}
use Rattle.json_value.specs.Denotes.{list_in, pairs_in}
use Rattle.json_value.specs.declared.container.Container.{Container}
use Rattle.json_value.specs.declared.pair.Keyed.{Keyed}
use Rattle.json_value.specs.declared.value.Value.{Value, Array, Object}
use Rattle.json_value.proofs.ProperValues.{value_proper}
use Rattle.json_value.proofs.ValueLevels.{array_tree, object_tree}

some_same : {A : Type 0} {x y : A} → Some x ≡ Some y → x ≡ y
some_same e = cc

-- ---- the text

pub printed_utf8 : (t : Tree) → IsProper t → IsUtf8 (shown None 0 t)
printed_utf8 t p = text_utf8 false t (shown None 0 t) (shown_text false None t tt p)

pub array_proper : (a : Container Value) → IsProper (list (list_trees (list_in a)))
array_proper a = subst IsProper (array_tree a) (value_proper (Array a))

pub object_proper : (o : Container (Keyed Value)) → IsProper (pairs (list_pairs (pairs_in o)))
object_proper o = subst IsProper (object_tree o) (value_proper (Object o))

-- what an empty writer gained
gained_is : (old new : SinkState) (text : List ℕ) → old.gained ≡ Some [] → Appends old.gained new.gained text → new.gained ≡ Some text
gained_is old new text n h = h ∙ ap (λ g. append_known g text) n

pub gained_utf8 : (old new : SinkState) (t : Tree) (u : Unit {0}) → WritesText old new (shown None 0 t) (Ok u) → old.gained ≡ Some [] → IsProper t → IfSome new.gained IsUtf8
gained_utf8 old new t u h n p = subst (λ g. IfSome g IsUtf8) (sym (gained_is old new (shown None 0 t) n h.ok)) (printed_utf8 t p)

text_gained : (old new : SinkState) (text bytes : List ℕ) → old.gained ≡ Some [] → Appends old.gained new.gained text → new.gained ≡ Some bytes → bytes ≡ text
text_gained old new text bytes n h e = some_same (sym e ∙ gained_is old new text n h)

pub returned_text : {A : Type 0} (bytes : A → List ℕ) (r : Result A Error) (old new : SinkState) (text : List ℕ) (u : Unit {0}) → WritesText old new text (Ok u) → old.gained ≡ Some [] → IfOk r (λ x. new.gained ≡ Some (bytes x)) → IfOk r (λ x. bytes x ≡ text)
returned_text bytes (Ok x) old new text u h n e = text_gained old new text (bytes x) n h.ok e
returned_text bytes (Err e) old new text u h n k = tt

-- ---- after a flush nothing is held

none_held : (held : List ℕ) (waits : Bool) → (holds_any held || waits) ≡ false → held ≡ []
none_held [] waits e = refl
none_held (x ∷ held) waits e = absurd (cc)

pub flushed_out : (gained : Option (List ℕ)) (new inner : SinkState) (held bytes : List ℕ) → new.gained ≡ gained → new.unflushed ≡ false → new ≡ held_after inner held → inner.gained ≡ Some bytes → gained ≡ Some bytes
flushed_out gained new inner held bytes k u e g =
    let none : held ≡ [] = none_held held inner.unflushed (sym (ap (λ (s : SinkState). s.unflushed) e) ∙ u) in
    sym k ∙ ap (λ (s : SinkState). s.gained) e ∙ ap (λ h. append_known inner.gained h) none ∙ ap (λ h. append_known h []) g ∙ ap Some (append-nil bytes)

-- ---- a sink without faults fails for want of memory alone

no_fault : (code : ErrorCode) (place : Place) → StopCause 0 0 code place → ◌≡◌ {A = Error} (record { code = code; place = place }) no_memory
no_fault NoMemory nowhere h = refl
no_fault Io Writing h = absurd (omega (arith, h))
no_fault code place h = absurd h

pub print_failed : (old new : SinkState) (text : List ℕ) (e : Error) → old.faults ≡ 0 → new.faults ≡ 0 → WritesText old new text (Err e) → e ≡ no_memory
print_failed old new text e a b h =
    no_fault e.code e.place (subst (λ n. StopCause 0 n e.code e.place) b (subst (λ n. StopCause n new.faults e.code e.place) a h.cause))

no_write_fault : (old new : SinkState) (code : ErrorCode) (place : Place) → old.faults ≡ 0 → new.faults ≡ 0 → WritingCause old new code place → ◌≡◌ {A = Error} (record { code = code; place = place }) no_memory
no_write_fault old new NoMemory nowhere a b h = refl
no_write_fault old new Io Writing a b h = absurd (omega (arith, a, b, h))
no_write_fault old new code place a b h = absurd h

pub flush_failed : (old new : SinkState) (e : Error) → old.faults ≡ 0 → new.faults ≡ 0 → FlushesAll old new (Err e) → e ≡ no_memory
flush_failed old new e a b h = no_write_fault old new e.code e.place a b h.cause
