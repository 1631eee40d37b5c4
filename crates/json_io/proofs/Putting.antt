-- One piece after another.
use Rattle.std.proofs.Common.{◌≡◌, ℕ, ◌<◌, ◌-◌, List, [], ◌++◌, ◌∙◌, sym, ap, arith, append_assoc, Ok, Err, Result, Option, refl, inl, inr, take, drop, length, subst}
use Rattle.std.proofs.lemmas.List.{length-drop, take_all, take-append-drop}
use Rattle.json_io.proofs.Known.{Appends-trans, Appends-nil}
use Rattle.std.proofs.lemmas.Bool.{cases_lt}
use Rattle.json_io.specs.Known.{Appends}
use Rattle.json_io.specs.declared.error.Error.{Error}
use Rattle.json_io.specs.declared.error.ErrorCode.{ErrorCode}
use Rattle.json_io.specs.declared.error.ErrorCode.TheVariants.{NoMemory, Io}
use Rattle.json_io.specs.declared.error.Place.{Place}
use Rattle.json_io.specs.declared.error.Place.TheVariants.{None as nowhere, Writing}
use Rattle.json_io.specs.Errors.{writing_failed, no_memory}
use Rattle.json_io.specs.declared.sink.SinkError.{SinkError}
use Rattle.json_io.specs.declared.sink.SinkError.TheVariants.{Failed}
use Rattle.json_io.specs.declared.sink.SinkError.TheVariants as sink_error
use Rattle.json_io.proofs.Progress.{HasPut, HasPut-front}
use Rattle.json_io.specs.Outside.{SinkState, Writes}
use Rattle.json_io.specs.Transfer.{AppendsFront, Puts, Later, WritingCause}

pub AppendsFront-first : (a b : Option (List ℕ)) (p q : List ℕ) → AppendsFront a b p → AppendsFront a b (p ++ q)
AppendsFront-first a b p q h = record { front = h.front; back = h.back ++ q; whole = ap (λ l. l ++ q) h.whole ∙ append_assoc h.front h.back q; gains = h.gains }

pub AppendsFront-then : (a b c : Option (List ℕ)) (p q : List ℕ) → Appends a b p → AppendsFront b c q → AppendsFront a c (p ++ q)
AppendsFront-then a b c p q g h =
    record {
      front = p ++ h.front;
      back = h.back;
      whole = ap (λ l. p ++ l) h.whole ∙ sym (append_assoc p h.front h.back);
      gains = Appends-trans a b c p h.front g h.gains;
    }

-- nothing was to be written
pub Puts-nil : (s : SinkState) → Puts s s [] (Ok tt)
Puts-nil s =
    record { ok = Appends-nil s.gained; err = tt; faults_ok = refl; lacks_ok = refl; cause = tt; reported = λ l. absurd (omega (arith, l)); later = record { faults = omega arith; lacks = omega arith; same_loan = refl } }

-- the first of two failed
pub Puts-first : (a b : SinkState) (p q : List ℕ) (e : Error) → Puts a b p (Err e) → Puts a b (p ++ q) (Err e)
Puts-first a b p q e h = record { ok = tt; err = AppendsFront-first a.gained b.gained p q h.err; faults_ok = tt; lacks_ok = tt; cause = h.cause; reported = h.reported; later = h.later }

cause_then : (a b c : SinkState) (code : ErrorCode) (place : Place) → Later a b → WritingCause b c code place → WritingCause a c code place
cause_then a b c NoMemory nowhere l h = omega (arith, l.lacks, h)
cause_then a b c Io Writing l h = omega (arith, l.faults, h)
cause_then a b c code place l h = absurd h

ok_no_error : (u : Unit {0}) (e : Error) → Ok u ≡ Err e → ⊥
ok_no_error u e h = cc

-- both were written, or the second failed
pub Puts-then : (a b c : SinkState) (p q : List ℕ) (u : Unit {0}) (r : Result (Unit {0}) Error) → Puts a b p (Ok u) → Puts b c q r → Puts a c (p ++ q) r
Puts-then a b c p q u (Ok v) g h =
    record {
      ok = Appends-trans a.gained b.gained c.gained p q g.ok h.ok;
      err = tt;
      faults_ok = h.faults_ok ∙ g.faults_ok;
      lacks_ok = h.lacks_ok ∙ g.lacks_ok;
      cause = tt;
      reported = λ l. absurd (two l);
      later = record { faults = omega (arith, g.later.faults, h.later.faults); lacks = omega (arith, g.later.lacks, h.later.lacks); same_loan = h.later.same_loan ∙ g.later.same_loan };
    }
  where
    two : a.faults < c.faults → ⊥
    two l = elim (cases_lt a.faults b.faults) [ inl m ↦ ok_no_error u _ (g.reported m) | inr m ↦ ok_no_error v _ (h.reported (omega arith)) ]
Puts-then a b c p q u (Err e) g h =
    record {
      ok = tt;
      err = AppendsFront-then a.gained b.gained c.gained p q g.ok h.err;
      faults_ok = tt;
      lacks_ok = tt;
      cause = cause_then a b c e.code e.place g.later h.cause;
      reported = λ l. elim (cases_lt a.faults b.faults) [ inl m ↦ absurd (ok_no_error u _ (g.reported m)) | inr m ↦ h.reported (omega arith) ];
      later = record { faults = omega (arith, g.later.faults, h.later.faults); lacks = omega (arith, g.later.lacks, h.later.lacks); same_loan = h.later.same_loan ∙ g.later.same_loan };
    }

-- a write that failed after others
pub Puts-refused : (old mid new : SinkState) (at : ℕ) (piece rest : List ℕ) (failure : SinkError) (e : Error) → HasPut old mid (take at piece) → Writes mid new rest (Err failure)
    → (failure ≡ Failed → e ≡ writing_failed) → (failure ≡ sink_error.NoMemory → e ≡ no_memory) → Puts old new piece (Err e)
Puts-refused old mid new at piece rest Failed e h w f n =
    rw (f refl) (record {
      ok = tt;
      err = HasPut-front old mid new at piece h w.appends;
      faults_ok = tt;
      lacks_ok = tt;
      cause = rw (← h.no_fault) (w.counts.failed refl);
      reported = λ l. refl;
      later = record { faults = omega (arith, h.no_fault, w.counts.faults_later); lacks = omega (arith, h.no_lack, w.counts.lacks_later); same_loan = w.counts.same_loan ∙ h.same_loan };
    })
Puts-refused old mid new at piece rest sink_error.NoMemory e h w f n =
    rw (n refl) (record {
      ok = tt;
      err = HasPut-front old mid new at piece h w.appends;
      faults_ok = tt;
      lacks_ok = tt;
      cause = rw (← h.no_lack) (w.counts.lacking refl);
      reported = λ l. absurd (omega (arith, l, h.no_fault, w.counts.lacking_faults refl));
      later = record { faults = omega (arith, h.no_fault, w.counts.faults_later); lacks = omega (arith, h.no_lack, w.counts.lacks_later); same_loan = w.counts.same_loan ∙ h.same_loan };
    })

-- one write puts the front that it took
pub Puts-written : (old new : SinkState) (piece : List ℕ) (n : ℕ) → Writes old new piece (Ok n) → Puts old new (take n piece) (Ok tt)
Puts-written old new piece n w =
    record {
      ok = w.appends;
      err = tt;
      faults_ok = w.counts.faults_ok;
      lacks_ok = w.counts.lacks_ok;
      cause = tt;
      reported = λ l. absurd (omega (arith, l, w.counts.faults_ok));
      later = record { faults = w.counts.faults_later; lacks = w.counts.lacks_later; same_loan = w.counts.same_loan };
    }

-- one write, and then the rest of the piece as `&piece[n..]` gives it
pub Puts-rest : (old mid new : SinkState) (piece : List ℕ) (n : ℕ) (r : Result (Unit {0}) Error) → Writes old mid piece (Ok n) → Puts mid new (take (length piece - n) (drop n piece)) r → Puts old new piece r
Puts-rest old mid new piece n r w p =
    let rest : take (length piece - n) (drop n piece) ≡ drop n piece = take_all _ _ (omega (arith, length-drop n piece)) in
    let q : Puts mid new (drop n piece) r = subst (λ l. Puts mid new l r) rest p in
    subst (λ l. Puts old new l r) (take-append-drop n piece) (Puts-then old mid new (take n piece) (drop n piece) tt r (Puts-written old mid piece n w) q)
