-- A text that is written to a borrowed sink.
use Rattle.std.proofs.Common.{◌≡◌, ℕ, ◌⊎◌, inl, inr, List, Option, Some, None, Ok, Err, Result, refl, sym, ap, subst, ◌∙◌, arith, false}
use Rattle.std.specs.Borrow.{GName}
use Rattle.json_grammar.specs.Tree.{Tree}
use Rattle.json_io.specs.declared.error.Error.{Error}
use Rattle.json_io.specs.Errors.{no_memory, key_has_no_text}
use Rattle.json_io.specs.Known.{Grows}
use Rattle.json_io.specs.Lending.{lent_as, ComesBack}
use Rattle.json_io.specs.Outside.{SinkState}
use Rattle.json_model.specs.Datum.{Datum, tree_of_datum}
use Rattle.json_model.specs.Print.{shown}
use Rattle.json_print.specs.Data.{parts, before_gap}
use Rattle.json_print.specs.Layouts.{FormatterModel, LaidOut}
use Rattle.json_print.specs.Printer.{SerializerState, StopsTaking, took, start}
use Rattle.json_layout.specs.TextWriting.{WritesText}
use Rattle.json_print.specs.Written.{Written}
use Rattle.json_print.proofs.Data.{tree_spelled, gap_tree}
use Rattle.json_print.proofs.TextWriting.{all_written, stopped_written, front_gained, same_name, grown, sent_back}
use Rattle.json_write.specs.Sending.{WritesDatum}
use Rattle.json_write.specs.Writing.{WritesDatumTokens}
use Rattle.json_write.proofs.Parts.{wrote}
use Rattle.json_write.proofs.Refused.{refused_or}

pub text_written : {F : Type 0} (m : FormatterModel F) (f : F) (w new : SinkState) (first now : SerializerState F) (err failed : Option Error) (d : Datum) (t : Tree) (i : Option (List ℕ)) (r : Result (Unit {0}) Error)
    → tree_of_datum d ≡ Some t → LaidOut m f i 0 false → first ≡ start f false w → err ≡ None → WritesDatumTokens (took m) (StopsTaking m) first now err failed (parts d) r → Written m now new → WritesText w new (shown i 0 t) r
text_written m f w new first now err failed d t i (Ok u) is laid s n h k = all_written t (before_gap (parts d)) u laid s (tree_spelled d t is) (wrote h).state k
text_written m f w new first now err failed d t i (Err x) is laid s n h k =
    elim (refused_or n h) [
      | inl q ↦ let none = gap_tree d q.gap in absurd (cc)
      | inr met ↦ stopped_written t laid s (tree_spelled d t is) met k
    ]

pub sent_name : (old now sent began : SinkState) (name name' : GName) (text : List ℕ) (r : Result (Unit {0}) Error) → began ≡ lent_as old name old.gained → WritesText began sent text r → ComesBack sent now name' → name' ≡ name
sent_name old now sent began name name' text r b h back = same_name old now sent began name name' b h.same_loan back

returned : (old now : SinkState) (name : GName) (d : Datum) (t : Tree) (i : Option (List ℕ)) (r : Result (Unit {0}) Error) → tree_of_datum d ≡ Some t → Grows old.gained now.gained
    → WritesText (lent_as old name old.gained) (lent_as now name old.gained) (shown i 0 t) r → WritesDatum old now i d r
returned old now name d t i (Ok u) is g h = record { ok = (t, is, h.ok); err = tt; reported = h.reported }
returned old now name d t i (Err e) is g h =
    record { ok = tt; err = inr (inr (t, is, record { cause = h.cause; front = front_gained old.gained now.gained (shown i 0 t) h.prefix.back h.prefix.whole g })); reported = h.reported }

pub written_through : (old now sent began : SinkState) (name name' : GName) (d : Datum) (t : Tree) (i : Option (List ℕ)) (r : Result (Unit {0}) Error) → tree_of_datum d ≡ Some t → began ≡ lent_as old name old.gained
    → WritesText began sent (shown i 0 t) r → ComesBack sent now name' → WritesDatum old now i d r
written_through old now sent began name name' d t i r is b h back =
    returned old now name d t i r is (grown old now sent began name name' b h.same_loan back)
    (subst (λ (x : SinkState). WritesText (lent_as old name old.gained) x (shown i 0 t) r) (sent_back old now sent began name name' b h.same_loan back) (subst (λ (x : SinkState). WritesText x sent (shown i 0 t) r) b h))

-- the keys were refused
pub not_begun : (old : SinkState) (i : Option (List ℕ)) (d : Datum) (r : Result (Unit {0}) Error) (e : Error) → (y : Error) × (r ≡ Err y) × (y ≡ e) → (e ≡ no_memory) ⊎ ((e ≡ key_has_no_text) × (tree_of_datum d ≡ None)) → WritesDatum old old i d r
not_begun old i d r e q h =
    subst (λ x. WritesDatum old old i d x) (sym (q.1 ∙ ap Err q.2)) (record {
      ok = tt;
      err = elim h [ inl m ↦ inr (inl (m, refl)) | inr k ↦ inl (k.0, k.1, refl) ];
      reported = λ l. absurd (omega (arith, l));
    })
