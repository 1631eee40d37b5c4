-- The text of a datum.
use Rattle.std.proofs.Common.{◌≡◌, ℕ, ◌⊎◌, inl, inr, List, [], false, Option, Some, None, option_map, Ok, Err, refl, sym, ap, subst, ◌∙◌, arith, IsUtf8}
use Rattle.json_grammar.specs.Tree.{Tree}
use Rattle.json_model.specs.Datum.{Datum, tree_of_datum}
use Rattle.json_model.specs.Print.{shown, IsIndent}
use Rattle.json_io.specs.declared.error.Error.{Error}
use Rattle.json_io.specs.declared.error.ErrorCode.{ErrorCode}
use Rattle.json_io.specs.declared.error.ErrorCode.TheVariants.{NoMemory, Io}
use Rattle.json_io.specs.declared.error.Place.{Place}
use Rattle.json_io.specs.declared.error.Place.TheVariants.{None as nowhere, Writing}
use Rattle.json_io.specs.Errors.{no_memory, key_has_no_text}
use Rattle.json_io.specs.Known.{append_known}
use Rattle.json_io.specs.Outside.{SinkState}
use Rattle.json_print.specs.Data.{parts, before_gap}
use Rattle.json_print.specs.Layouts.{FormatterModel, LaidOut}
use Rattle.json_layout.specs.TextWriting.{StopCause}
use Rattle.json_print.specs.Printer.{SerializerState, StopsTaking, took, start}
use Rattle.json_print.specs.Taking.{after_all}
use Rattle.json_print.specs.Written.{Written}
use Rattle.json_print.proofs.Data.{whole_tree, gap_tree, tree_spelled}
use Rattle.json_print.proofs.TextWriting.{all_written}
use Rattle.json_write.specs.Writing.{WritesDatumTokens, AreTokensProper}
use Rattle.json_write.proofs.Parts.{wrote}
use Rattle.json_write.proofs.Proper.{shown_utf8}
use Rattle.json_write.proofs.Refused.{refused_or}

-- a sink without faults stops for want of memory alone
no_fault : (n : ℕ) (code : ErrorCode) (place : Place) → StopCause n 0 code place → ◌≡◌ {A = Error} (record { code = code; place = place }) no_memory
no_fault n NoMemory nowhere h = refl
no_fault n Io Writing h = absurd (omega (arith, h))
no_fault n code place h = absurd h

pub memory_or_refused : {F : Type 0} (m : FormatterModel F) (old new : SerializerState F) (err failed : Option Error) (d : Datum) (e : Error)
    → err ≡ None → WritesDatumTokens (took m) (StopsTaking m) old new err failed (parts d) (Err e) → new.faults ≡ 0 → (e ≡ no_memory) ⊎ ((e ≡ key_has_no_text) × (tree_of_datum d ≡ None))
memory_or_refused m old new err failed d e n h z =
    elim (refused_or n h) [
      | inl q ↦ inr (q.is, gap_tree d q.gap)
      | inr s ↦ inl (no_fault _ e.code e.place (subst (λ n. StopCause (after_all (took m) old s.front).faults n e.code e.place) z s.left.1.cause))
    ]

-- the text was gained
pub text_gained : {F : Type 0} (m : FormatterModel F) (old new : SerializerState F) (err failed : Option Error) (d : Datum) (u : Unit {0}) (w w' : SinkState) (i : Option (List ℕ)) → old ≡ start old.formatter false w → LaidOut m old.formatter i 0 false
    → WritesDatumTokens (took m) (StopsTaking m) old new err failed (parts d) (Ok u) → Written m new w' → (t : Tree) × (tree_of_datum d ≡ Some t) × (w'.gained ≡ append_known w.gained (shown i 0 t))
text_gained m old new err failed d u w w' i starts laid h written =
    let v = wrote h in let t = whole_tree d v.whole in
    (t.tree, t.is, (all_written {w = w} t.tree (before_gap (parts d)) u laid starts t.spelled v.state written).ok)

pub text_in_vec : (d : Datum) (i : Option (List ℕ)) (w w' : SinkState) (bytes : List ℕ) → w.gained ≡ Some [] → (t : Tree) × (tree_of_datum d ≡ Some t) × (w'.gained ≡ append_known w.gained (shown i 0 t)) → w'.gained ≡ Some bytes → option_map (shown i 0) (tree_of_datum d) ≡ Some bytes
text_in_vec d i w w' bytes n t e = ap (option_map (shown i 0)) t.1 ∙ ap (λ g. append_known g (shown i 0 t.0)) (sym n) ∙ sym t.2 ∙ e

-- the text in memory is UTF-8
pub text_is_utf8 : (d : Datum) (i : Option (List ℕ)) (w w' : SinkState) (bytes : List ℕ) → IsIndent i → w.gained ≡ Some [] → (t : Tree) × (tree_of_datum d ≡ Some t) × (w'.gained ≡ append_known w.gained (shown i 0 t)) → w'.gained ≡ Some bytes
    → AreTokensProper (before_gap (parts d)) → IsUtf8 bytes
text_is_utf8 d i w w' bytes is n t e p =
    let same : ◌≡◌ {A = Option (List ℕ)} (Some (shown i 0 t.0)) (Some bytes) = ap (λ g. append_known g (shown i 0 t.0)) (sym n) ∙ sym t.2 ∙ e in
    let bytes_are : shown i 0 t.0 ≡ bytes = cc in
    subst IsUtf8 bytes_are (shown_utf8 i t.0 (before_gap (parts d)) is (tree_spelled d t.0 t.1) p)
