-- Pieces put into a sink one after another.
use Rattle.std.proofs.Common.{◌≡◌, ℕ, ◌-◌, List, [], ◌++◌, take, drop, ◌∙◌, sym, ap, refl, subst, arith, Ok, Err, Result, length-drop}
use Rattle.std.specs.Prelude.{IsErrOf}
use Rattle.std.proofs.lemmas.List.{take_all, take-append-drop}
use Rattle.json_io.specs.Known.{Appends}
use Rattle.json_io.proofs.Known.{Appends-nil, Appends-trans}
use Rattle.json_io.specs.declared.sink.SinkError.{SinkError}
use Rattle.json_io.specs.Outside.{SinkState, Counts}
use Rattle.json_io.proofs.Putting.{AppendsFront-first, AppendsFront-then}
use Rattle.json_layout.specs.Adding.{Adds, Sends}

-- ---- counts

-- the counts go on from those of a call that was answered Ok
pub counts_from : {T : Type 0} {r : Result T SinkError} (a b c : SinkState) → b.faults ≡ a.faults → b.lacks ≡ a.lacks → b.loan ≡ a.loan → Counts b c r → Counts a c r
counts_from {r = Ok v} a b c f l o h =
    record {
      faults_ok = h.faults_ok ∙ f;
      lacks_ok = h.lacks_ok ∙ l;
      failed = λ s. absurd (cc);
      failed_lacks = λ s. absurd (cc);
      lacking = λ s. absurd (cc);
      lacking_faults = λ s. absurd (cc);
      faults_later = omega (arith, f, h.faults_later);
      lacks_later = omega (arith, l, h.lacks_later);
      same_loan = h.same_loan ∙ o;
    }
counts_from {r = Err e} a b c f l o h =
    record {
      faults_ok = tt;
      lacks_ok = tt;
      failed = λ s. rw (← f) (h.failed s);
      failed_lacks = λ s. h.failed_lacks s ∙ l;
      lacking = λ s. rw (← l) (h.lacking s);
      lacking_faults = λ s. h.lacking_faults s ∙ f;
      faults_later = omega (arith, f, h.faults_later);
      lacks_later = omega (arith, l, h.lacks_later);
      same_loan = h.same_loan ∙ o;
    }

-- the same answer at another type
pub counts_err : {T U : Type 0} {e : SinkError} (a b : SinkState) → Counts {T = T} a b (Err e) → Counts {T = U} a b (Err e)
counts_err {T} {U} {e} a b h =
    let convert : (x : SinkError) → IsErrOf {T = U} (Err e) x → IsErrOf {T = T} (Err e) x = λ x s. ap Err (cc) in
    record {
      faults_ok = tt;
      lacks_ok = tt;
      failed = λ s. h.failed (convert _ s);
      failed_lacks = λ s. h.failed_lacks (convert _ s);
      lacking = λ s. h.lacking (convert _ s);
      lacking_faults = λ s. h.lacking_faults (convert _ s);
      faults_later = h.faults_later;
      lacks_later = h.lacks_later;
      same_loan = h.same_loan;
    }

pub counts_ok : {T : Type 0} {v : T} (a b : SinkState) → b.faults ≡ a.faults → b.lacks ≡ a.lacks → b.loan ≡ a.loan → Counts {T = T} a b (Ok v)
counts_ok a b f l o =
    record {
      faults_ok = f;
      lacks_ok = l;
      failed = λ s. absurd (cc);
      failed_lacks = λ s. absurd (cc);
      lacking = λ s. absurd (cc);
      lacking_faults = λ s. absurd (cc);
      faults_later = omega (arith, f);
      lacks_later = omega (arith, l);
      same_loan = o;
    }

-- ---- pieces

-- nothing was to be added
pub Adds-nil : (s : SinkState) → Adds s s [] (Ok tt)
Adds-nil s = record { ok = Appends-nil s.gained; err = tt; counts = counts_ok s s refl refl refl }

-- the first of two failed
pub Adds-first : (a b : SinkState) (p q : List ℕ) (e : SinkError) → Adds a b p (Err e) → Adds a b (p ++ q) (Err e)
Adds-first a b p q e h = record { ok = tt; err = AppendsFront-first a.gained b.gained p q h.err; counts = h.counts }

-- both were added, or the second failed
pub Adds-then : (a b c : SinkState) (p q : List ℕ) (u : Unit {0}) (r : Result (Unit {0}) SinkError) → Adds a b p (Ok u) → Adds b c q r → Adds a c (p ++ q) r
Adds-then a b c p q u (Ok v) g h =
    record { ok = Appends-trans a.gained b.gained c.gained p q g.ok h.ok; err = tt; counts = counts_from a b c g.counts.faults_ok g.counts.lacks_ok g.counts.same_loan h.counts }
Adds-then a b c p q u (Err e) g h =
    record { ok = tt; err = AppendsFront-then a.gained b.gained c.gained p q g.ok h.err; counts = counts_from a b c g.counts.faults_ok g.counts.lacks_ok g.counts.same_loan h.counts }

-- ---- one write, and the rest

-- what was sent from a place on
pub sent_adds : (a b : SinkState) (piece : List ℕ) (from to : ℕ) (r : Result (Unit {0}) SinkError) → Sends a b piece from to r → Adds a b (drop from piece) r
sent_adds a b piece from to (Ok u) h =
    record { ok = subst (Appends a.gained b.gained) (take_all (to - from) (drop from piece) (omega (arith, h.all, length-drop from piece))) h.gains; err = tt; counts = h.counts }
sent_adds a b piece from to (Err e) h =
    record {
      ok = tt;
      err = record { front = take (to - from) (drop from piece); back = drop (to - from) (drop from piece); whole = sym (take-append-drop (to - from) (drop from piece)); gains = h.gains };
      counts = h.counts;
    }
