-- Parts of a text shown one after another.
use Rattle.std.proofs.Common.{◌≡◌, ℕ, ◌+◌, ◌≤◌, List, [], ◌++◌, length, ◌∙◌, sym, ap, refl, subst, inl, inr, arith, Ok, Err, Result, Option, length-append}
use Rattle.std.specs.Prelude.{IsErrOf}
use Rattle.json_io.specs.Known.{append_known}
use Rattle.json_io.specs.declared.error.Error.{Error}
use Rattle.json_io.specs.declared.error.ErrorCode.TheVariants as code
use Rattle.json_io.specs.Errors.{no_memory, writing_failed}
use Rattle.json_io.specs.Transfer.{AppendsFront}
use Rattle.json_io.proofs.Known.{Appends-trans, known-append}
use Rattle.json_io.specs.declared.sink.SinkError.{SinkError}
use Rattle.json_io.specs.declared.sink.SinkError.TheVariants as sink_error
use Rattle.json_io.specs.Outside.{Rose, SinkState}
use Rattle.json_io.proofs.Putting.{AppendsFront-first, AppendsFront-then}
use Rattle.json_layout.specs.Adding.{Adds}
use Rattle.json_layout.specs.TextWriting.{Begins, WritesText}
use Rattle.json_layout.specs.Showing.{RanOut, Shows}

-- a piece that was added is shown
pub added_shows : {n : ℕ} (a b : SinkState) (p : List ℕ) (r : Result (Unit {0}) SinkError) → Adds a b p r → Shows n a b p r
added_shows a b p r h =
    record {
      ok = h.ok;
      err = h.err;
      faults_ok = h.counts.faults_ok;
      failed = h.counts.failed;
      lacks_ok = h.counts.lacks_ok;
      lacking = h.counts.lacking_faults;
      ran_out = λ e. inl (h.counts.lacking e);
      later = h.counts.faults_later;
      same_loan = h.counts.same_loan;
    }

-- why it ran out, of a longer text
ran_out_more : (a b : SinkState) (m n : ℕ) → m ≤ n → RanOut a b m → RanOut a b n
ran_out_more a b m n h (inl rose) = inl rose
ran_out_more a b m n h (inr long) = inr (omega (arith, h, long))

-- after a call that found memory
ran_out_later : (a b c : SinkState) (m n : ℕ) → m ≤ n → b.lacks ≡ a.lacks → RanOut b c m → RanOut a c n
ran_out_later a b c m n h e (inl rose) = inl (subst (λ k. Rose k c.lacks) e rose)
ran_out_later a b c m n h e (inr long) = inr (omega (arith, h, long))

-- the first of two failed
pub Shows-first : {n : ℕ} (a b : SinkState) (p q : List ℕ) (e : SinkError) → Shows n a b p (Err e) → Shows n a b (p ++ q) (Err e)
Shows-first {n} a b p q e h =
    record {
      ok = tt;
      err = AppendsFront-first a.gained b.gained p q h.err;
      faults_ok = tt;
      failed = h.failed;
      lacks_ok = tt;
      lacking = h.lacking;
      ran_out = λ s. ran_out_more a b (n + length p) (n + length (p ++ q)) (omega (arith, length-append p q)) (h.ran_out s);
      later = h.later;
      same_loan = h.same_loan;
    }

-- both were shown, or the second failed, which is within no more levels than the first has bytes
pub Shows-within : (n m : ℕ) (a b c : SinkState) (p q : List ℕ) (u : Unit {0}) (r : Result (Unit {0}) SinkError) → m ≤ n + length p → Shows n a b p (Ok u) → Shows m b c q r → Shows n a c (p ++ q) r
Shows-within n m a b c p q u (Ok v) d g h =
    record {
      ok = Appends-trans a.gained b.gained c.gained p q g.ok h.ok;
      err = tt;
      faults_ok = h.faults_ok ∙ g.faults_ok;
      failed = λ s. absurd (cc);
      lacks_ok = h.lacks_ok ∙ g.lacks_ok;
      lacking = λ s. absurd (cc);
      ran_out = λ s. absurd (cc);
      later = omega (arith, g.later, h.later);
      same_loan = h.same_loan ∙ g.same_loan;
    }
Shows-within n m a b c p q u (Err e) d g h =
    record {
      ok = tt;
      err = AppendsFront-then a.gained b.gained c.gained p q g.ok h.err;
      faults_ok = tt;
      failed = λ s. rw (← g.faults_ok) (h.failed s);
      lacks_ok = tt;
      lacking = λ s. h.lacking s ∙ g.faults_ok;
      ran_out = λ s. ran_out_later a b c (m + length q) (n + length (p ++ q)) (omega (arith, d, length-append p q)) g.lacks_ok (h.ran_out s);
      later = omega (arith, g.later, h.later);
      same_loan = h.same_loan ∙ g.same_loan;
    }

-- so at the same level
pub Shows-then : {n : ℕ} (a b c : SinkState) (p q : List ℕ) (u : Unit {0}) (r : Result (Unit {0}) SinkError) → Shows n a b p (Ok u) → Shows n b c q r → Shows n a c (p ++ q) r
Shows-then {n} a b c p q u r g h = Shows-within n n a b c p q u r (omega arith) g h

-- an equal text
pub Shows-same : {n : ℕ} (a b : SinkState) (p q : List ℕ) (r : Result (Unit {0}) SinkError) → p ≡ q → Shows n a b p r → Shows n a b q r
Shows-same {n} a b p q r e h = subst (λ x. Shows n a b x r) e h

pub Adds-same : (a b : SinkState) (p q : List ℕ) (r : Result (Unit {0}) SinkError) → p ≡ q → Adds a b p r → Adds a b q r
Adds-same a b p q r e h = subst (λ x. Adds a b x r) e h

-- ---- returned to a caller

pub written_ok : {n : ℕ} (old new : SinkState) (text : List ℕ) (u v : Unit {0}) → Shows n old new text (Ok u) → WritesText old new text (Ok v)
written_ok old new text u v h = record { ok = h.ok; calm = h.faults_ok; prefix = tt; cause = tt; reported = λ l. absurd (omega (arith, l, h.faults_ok)); same_loan = h.same_loan }

front_begins : (a b : Option (List ℕ)) (text : List ℕ) → AppendsFront a b text → Begins b (append_known a text)
front_begins a b text h = record { back = h.back; whole = ap (append_known a) h.whole ∙ sym (known-append a h.front h.back) ∙ ap (λ k. append_known k h.back) (sym h.gains) }

pub written_err : {n : ℕ} (old new : SinkState) (text : List ℕ) (failure : SinkError) (e : Error) → (failure ≡ sink_error.Failed → e ≡ writing_failed) → (failure ≡ sink_error.NoMemory → e ≡ no_memory) → Shows n old new text (Err failure) → WritesText old new text (Err e)
written_err old new text sink_error.Failed e f n h =
    rw (f refl) (record { ok = tt; calm = tt; prefix = front_begins old.gained new.gained text h.err; cause = h.failed refl; reported = λ l. refl; same_loan = h.same_loan })
written_err old new text sink_error.NoMemory e f n h =
    rw (n refl) (record { ok = tt; calm = tt; prefix = front_begins old.gained new.gained text h.err; cause = tt; reported = λ l. absurd (omega (arith, l, h.lacking refl)); same_loan = h.same_loan })

-- what ran out was memory
pub reported_ran_out : (n : ℕ) (old new : SinkState) (text : List ℕ) (failure : SinkError) (e : Error) → (failure ≡ sink_error.Failed → e ≡ writing_failed) → Shows n old new text (Err failure) → IsErrOf {T = Unit {0}} (Err e) no_memory → RanOut old new (n + length text)
reported_ran_out n old new text sink_error.Failed e f h is =
    let told : e ≡ no_memory = cc in
    let other : code.Io ≡ code.NoMemory = ap (λ (x : Error). x.code) (sym (f refl) ∙ told) in absurd (cc)
reported_ran_out n old new text sink_error.NoMemory e f h is = h.ran_out refl
