-- A text printed through a buffered writer over a borrowed sink.
use Rattle.std.proofs.Common.{◌≡◌, ◌⊎◌, ℕ, ◌-◌, ◌^◌, ◌<◌, ◌≤◌, List, [], ◌∷◌, length, refl, sym, ap, subst, ◌∙◌, arith, Bool, false, ◌||◌, Option, Result, Ok, Err, IfErr, IsErrOf, inl, inr}
use Rattle.std.specs.Borrow.{GName}
use Rattle.json_grammar.specs.Tree.{Tree}
use Rattle.json_io.specs.declared.error.Error.{Error}
use Rattle.json_io.specs.declared.error.ErrorCode.{ErrorCode}
use Rattle.json_io.specs.declared.error.ErrorCode.TheVariants.{NoMemory, Io}
use Rattle.json_io.specs.declared.error.Place.{Place}
use Rattle.json_io.specs.declared.error.Place.TheVariants.{None as nowhere, Writing}
use Rattle.json_io.specs.Errors.{no_memory}
use Rattle.json_io.specs.Known.{Grows, append_known}
use Rattle.json_io.proofs.Known.{known-append, known-nil}
use Rattle.json_io.specs.Lending.{lent_as, ComesBack}
use Rattle.json_io.specs.Outside.{SinkState, Rose}
use Rattle.json_io.specs.Transfer.{AppendsFront, FlushesAll, WritingCause}
use Rattle.json_layout.specs.Buffered.{held_after}
use Rattle.json_layout.specs.Pieces.{holds_any}
use Rattle.json_layout.specs.TextWriting.{StopCause, WritesText}
use Rattle.json_layout.specs.Shown.{shown_as}
use Rattle.json_print.proofs.TextWriting.{front_gained, same_name, grown, sent_back}
use Rattle.json_command.specs.Printing.{HasRunOut, PrintingFails, Prints, RunsOutOnlyWith, WritesFlushed}

-- ---- the layout of a style

-- with the indent and the order that the style has
pub in_style : (old new : SinkState) (r : Result (Unit {0}) Error) (i j : Option (List ℕ)) (s z : Bool) (t : Tree) → i ≡ j → s ≡ z → WritesText old new (shown_as i s t) r → WritesText old new (shown_as j z t) r
in_style old new r i j s z t e f h = subst (λ x. WritesText old new (shown_as j x t) r) f (subst (λ x. WritesText old new (shown_as x s t) r) e h)

-- ... of an equal tree
pub of_tree : (old new : SinkState) (r : Result (Unit {0}) Error) (i : Option (List ℕ)) (s : Bool) (t u : Tree) → t ≡ u → WritesText old new (shown_as i s t) r → WritesText old new (shown_as i s u) r
of_tree old new r i s t u e h = subst (λ x. WritesText old new (shown_as i s x) r) e h

-- ---- why memory ran out

risen : (m n : ℕ) → Rose m n → 0 < n
risen m n h = omega (arith, h)

abbrev RunOut : ℕ → ℕ → Type 0
RunOut lacks size = (0 < lacks) ⊎ (2 ^ 64 - 1 ≤ size)

ran_out : (before lacks size : ℕ) → Rose before lacks ⊎ (2 ^ 64 - 1 ≤ size) → RunOut lacks size
ran_out before lacks size (inl h) = inl (risen before lacks h)
ran_out before lacks size (inr h) = inr h

-- ... of an equal tree
pub tree_ran_out : (before lacks : ℕ) (i : Option (List ℕ)) (t u : Tree) → t ≡ u → Rose before lacks ⊎ (2 ^ 64 - 1 ≤ length (shown_as i false t)) → RunOut lacks (length (shown_as i false u))
tree_ran_out before lacks i t u e h = subst (λ x. RunOut lacks (length (shown_as i false x))) e (ran_out before lacks _ h)

-- ... with the indent and the order that the style has
pub style_ran_out : (lacks : ℕ) (i j : Option (List ℕ)) (s z : Bool) (t : Tree) → i ≡ j → s ≡ z → RunOut lacks (length (shown_as i s t)) → RunOut lacks (length (shown_as j z t))
style_ran_out lacks i j s z t e f h = subst (λ x. RunOut lacks (length (shown_as j x t))) f (subst (λ x. RunOut lacks (length (shown_as x s t))) e h)

pub flush_ran_out : (old new : SinkState) (size : ℕ) (r : Result (Unit {0}) Error) → FlushesAll old new r → IsErrOf r no_memory → HasRunOut new size
flush_ran_out old new size r h e = inl (risen old.lacks new.lacks (subst (λ x. IfErr x (λ y. WritingCause old new y.code y.place)) e h.cause))

-- the returned sink is the one that ran out of memory
pub lent_ran_out : (old now sent lent : SinkState) (name : GName) (held : List ℕ) (size : ℕ) (r : Result (Unit {0}) Error) → sent ≡ held_after lent held → ComesBack lent now name → (IsErrOf r no_memory → HasRunOut sent size) → RunsOutOnlyWith old now size r
lent_ran_out old now sent lent name held size r s back h e =
    let lacks : sent.lacks ≡ now.lacks = ap (λ (x : SinkState). x.lacks) s ∙ ap (λ (x : SinkState). x.lacks) back.as_lent in
    inr (subst (λ n. RunOut n size) lacks (h e))

-- ---- a flush after it

stop_cause : (old mid new : SinkState) (code : ErrorCode) (place : Place) → mid.faults ≡ old.faults → WritingCause mid new code place → StopCause old.faults new.faults code place
stop_cause old mid new NoMemory nowhere e h = tt
stop_cause old mid new Io Writing e h = subst (λ n. Rose n new.faults) e h
stop_cause old mid new code place e h = absurd h

pub text_flushed : (old mid new : SinkState) (text : List ℕ) (u : Unit {0}) (r : Result (Unit {0}) Error) → WritesText old mid text (Ok u) → FlushesAll mid new r → WritesFlushed old new text r
text_flushed old mid new text u (Ok v) g h =
    record { ok = h.keeps ∙ g.ok; flushed = h.ok; prefix = tt; cause = tt; reported = λ l. h.reported (omega (arith, g.calm, l)); same_loan = h.later.same_loan ∙ g.same_loan }
text_flushed old mid new text u (Err e) g h =
    record {
      ok = tt;
      flushed = tt;
      prefix = record { back = []; whole = sym (known-nil new.gained ∙ h.keeps ∙ g.ok) };
      cause = stop_cause old mid new e.code e.place g.calm h.cause;
      reported = λ l. h.reported (omega (arith, g.calm, l));
      same_loan = h.later.same_loan ∙ g.same_loan;
    }

pub text_stopped : (old new : SinkState) (text : List ℕ) (e : Error) → WritesText old new text (Err e) → WritesFlushed old new text (Err e)
text_stopped old new text e g = record { ok = tt; flushed = tt; prefix = g.prefix; cause = g.cause; reported = g.reported; same_loan = g.same_loan }

-- ---- what the borrowed sink has gained

-- nothing waits where all was flushed
pub none_held : (held : List ℕ) (b : Bool) → holds_any held || b ≡ false → (held ≡ []) × (b ≡ false)
none_held [] b e = (refl, e)
none_held (x ∷ held) b e = absurd (cc)

printing_fails : (old new : SinkState) (text : List ℕ) (code : ErrorCode) (place : Place) → StopCause old.faults new.faults code place → AppendsFront old.gained new.gained text → PrintingFails old new text code place
printing_fails old new text NoMemory nowhere c f = inr f
printing_fails old new text Io Writing c f = (c, f)
printing_fails old new text code place c f = absurd c

-- the loan ends with what the writer sent
lent_back : (old new : SinkState) (name : GName) (held text : List ℕ) (r : Result (Unit {0}) Error) → Grows old.gained new.gained → WritesFlushed (lent_as old name old.gained) (held_after (lent_as new name old.gained) held) text r → Prints old new text r
lent_back old new name held text (Ok u) g h =
    let none = none_held held new.unflushed h.flushed in
    record { ok = sym (known-nil new.gained) ∙ ap (append_known new.gained) (sym none.0) ∙ h.ok; flushed = none.1; err = tt; reported = h.reported }
lent_back old new name held text (Err e) g h =
    let all = h.prefix.whole ∙ known-append new.gained held h.prefix.back in
    record { ok = tt; flushed = tt; err = printing_fails old new text e.code e.place h.cause (front_gained old.gained new.gained text _ all g); reported = h.reported }

loan_sent : (lent sent began : SinkState) (held text : List ℕ) (r : Result (Unit {0}) Error) → WritesFlushed began sent text r → sent ≡ held_after lent held → lent.loan ≡ began.loan
loan_sent lent sent began held text r h s = ap (λ (x : SinkState). x.loan) (sym s) ∙ h.same_loan

pub same_sink : (old now sent lent began : SinkState) (name name' : GName) (held text : List ℕ) (r : Result (Unit {0}) Error) → began ≡ lent_as old name old.gained → WritesFlushed began sent text r → sent ≡ held_after lent held → ComesBack lent now name' → name' ≡ name
same_sink old now sent lent began name name' held text r b h s back = same_name old now lent began name name' b (loan_sent lent sent began held text r h s) back

pub printed_through : (old now sent lent began : SinkState) (name name' : GName) (held text : List ℕ) (r : Result (Unit {0}) Error) → began ≡ lent_as old name old.gained → WritesFlushed began sent text r → sent ≡ held_after lent held → ComesBack lent now name' → Prints old now text r
printed_through old now sent lent began name name' held text r b h s back =
    let loan = loan_sent lent sent began held text r h s in
    let is : sent ≡ held_after (lent_as now name old.gained) held = s ∙ ap (λ x. held_after x held) (sent_back old now lent began name name' b loan back) in
    lent_back old now name held text r (grown old now lent began name name' b loan back)
    (subst (λ (x : SinkState). WritesFlushed (lent_as old name old.gained) x text r) is (subst (λ (x : SinkState). WritesFlushed x sent text r) b h))
