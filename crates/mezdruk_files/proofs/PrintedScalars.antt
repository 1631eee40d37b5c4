-- A text that is put into a sink and flushed, as the text of a scalar is.
use Rattle.std.proofs.Common.{◌≡◌, ℕ, List, [], Bool, true, false, Ok, Err, Result, inr, refl, sym, ap, ◌∙◌, subst, append-nil, arith}
use Rattle.json_grammar.specs.Tree.{Tree}
use Rattle.json_model.specs.Print.{shown}
use Rattle.json_model.specs.Sort.{sorted}
use Rattle.json_io.specs.Known.{Appends, Keeps}
use Rattle.json_io.specs.Outside.{SinkState, Rose}
use Rattle.json_io.specs.Transfer.{AppendsFront, FlushesAll, Puts, WritingCause}
use Rattle.json_io.specs.declared.error.Error.{Error}
use Rattle.json_io.specs.declared.error.ErrorCode.{ErrorCode}
use Rattle.json_io.specs.declared.error.ErrorCode.TheVariants.{NoMemory, Io}
use Rattle.json_io.specs.declared.error.Place.{Place}
use Rattle.json_io.specs.declared.error.Place.TheVariants.{None as nowhere, Writing}
use Rattle.json_command.specs.Printing.{PrintingFails, Prints}
use Rattle.json_layout.specs.Shown.{shown_as}
use Rattle.json_layout.specs.Styles.{indent_of, is_sorted, printed}
use Rattle.json_layout.specs.declared.style.Style.{Style}

-- ---- into the sink

kept_front : (a b c : SinkState) (text : List ℕ) → Appends a.gained b.gained text → Keeps b.gained c.gained → AppendsFront a.gained c.gained text
kept_front a b c text g k = record { front = text; back = []; whole = sym (append-nil text); gains = k ∙ g }

fails_so : (a b c : SinkState) (text : List ℕ) (code : ErrorCode) (place : Place) → b.faults ≡ a.faults → AppendsFront a.gained c.gained text → WritingCause b c code place → PrintingFails a c text code place
fails_so a b c text NoMemory nowhere calm front cause = inr front
fails_so a b c text Io Writing calm front cause = (subst (λ n. Rose n c.faults) calm cause, front)
fails_so a b c text code place calm front cause = absurd cause

-- the text was put, and then flushed or not
pub put_flushed : (a b c : SinkState) (text : List ℕ) (u : Unit {0}) (r : Result (Unit {0}) Error) → Puts a b text (Ok u) → FlushesAll b c r → Prints a c text r
put_flushed a b c text u (Ok v) p f = record { ok = f.keeps ∙ p.ok; flushed = f.ok; err = tt; reported = λ l. f.reported (omega (arith, p.faults_ok, l)) }
put_flushed a b c text u (Err e) p f =
    record {
      ok = tt;
      flushed = tt;
      err = fails_so a b c text e.code e.place p.faults_ok (kept_front a b c text p.ok f.keeps) f.cause;
      reported = λ l. f.reported (omega (arith, p.faults_ok, l));
    }

-- it was not put
pub put_stopped : (a b : SinkState) (text : List ℕ) (e : Error) → Puts a b text (Err e) → Prints a b text (Err e)
put_stopped a b text e p = record { ok = tt; flushed = tt; err = fails_so a a b text e.code e.place refl p.err p.cause; reported = p.reported }

-- ---- the text of a scalar

shown_unsorted : (s : Style) (b : Bool) (t : Tree) → sorted t ≡ t → shown_as (indent_of s) b t ≡ shown (indent_of s) 0 t
shown_unsorted s true t same = ap (shown (indent_of s) 0) same
shown_unsorted s false t same = refl

-- a tree that is the same sorted has one text, sorted or not
pub prints_scalar : (old new : SinkState) (s : Style) (x : List ℕ) (t u : Tree) (r : Result (Unit {0}) Error) → u ≡ t → sorted t ≡ t → x ≡ shown (indent_of s) 0 t → Prints old new x r → Prints old new (printed s u) r
prints_scalar old new s x t u r is same text h =
    subst (λ y. Prints old new y r) (text ∙ sym (ap (printed s) is ∙ shown_unsorted s (is_sorted s) t same)) h
