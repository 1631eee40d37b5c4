-- What a sink that holds bytes back has sent.
use Rattle.std.proofs.Common.{◌≡◌, Option, ℕ, ◌+◌, ◌-◌, ◌≤◌, List, [], ◌++◌, length, take, drop, ◌∙◌, subst, sym, ap, refl, arith, Ok, Err, Result}
use Rattle.json_io.specs.Known.{Appends, Keeps, append_known}
use Rattle.json_io.proofs.Known.{Appends-trans, Appends-nil, Appends-kept, append_known-moved, known-nil}
use Rattle.std.proofs.Math.Seq.{take-add}
use Rattle.std.proofs.lemmas.List.{length-drop, take_all, take-append-drop, drop-drop, drop_all}
use Rattle.json_io.specs.declared.sink.SinkError.{SinkError}
use Rattle.json_io.specs.Outside.{SinkState, Counts, Writes, Flushes}
use Rattle.json_layout.specs.Adding.{Adds, Sends}
use Rattle.json_layout.specs.Buffered.{held_after}
use Rattle.json_layout.proofs.Pieces.{counts_from, counts_err}

-- so far these went to the inner sink, and no call failed
pub record HasSent (old new : SinkState) (buffer : List ℕ) (from to : ℕ) : Type 0 where
  pub later : from ≤ to
  pub within : to ≤ length buffer
  pub gains : Appends old.gained new.gained (take (to - from) (drop from buffer))
  pub no_fault : new.faults ≡ old.faults
  pub no_lack : new.lacks ≡ old.lacks
  pub same_loan : new.loan ≡ old.loan

pub HasSent-start : (s : SinkState) (buffer : List ℕ) (from : ℕ) → from ≤ length buffer → HasSent s s buffer from from
HasSent-start s buffer from h =
    let z : from - from ≡ 0 = omega arith in
    let e : take (from - from) (drop from buffer) ≡ [] = ap (λ n. take n (drop from buffer)) z in
    record { later = omega arith; within = h; gains = subst (Appends s.gained s.gained) (sym e) (Appends-nil s.gained); no_fault = refl; no_lack = refl; same_loan = refl }

drop_on : (buffer : List ℕ) (from to : ℕ) → from ≤ to → drop (to - from) (drop from buffer) ≡ drop to buffer
drop_on buffer from to l = let e : from + (to - from) ≡ to = omega arith in drop-drop (to - from) from buffer ∙ ap (λ n. drop n buffer) e

cut : (buffer : List ℕ) (from to n : ℕ) → from ≤ to → to ≤ length buffer → n ≤ length buffer - to
    → take (to - from) (drop from buffer) ++ take n (take (length buffer - to) (drop to buffer)) ≡ take (to + n - from) (drop from buffer)
cut buffer from to n l h k =
    let rest : take (length buffer - to) (drop to buffer) ≡ drop to buffer = take_all _ _ (omega (arith, length-drop to buffer)) in
    let same : drop (to - from) (drop from buffer) ≡ drop to buffer = drop_on buffer from to l in
    let e : to - from + n ≡ to + n - from = omega arith in
    ap (λ x. take (to - from) (drop from buffer) ++ take n x) (rest ∙ sym same) ∙ sym (take-add (to - from) n (drop from buffer)) ∙ ap (λ m. take m (drop from buffer)) e

pub HasSent-more : (old mid new : SinkState) (buffer : List ℕ) (from to n : ℕ) → HasSent old mid buffer from to → n ≤ length buffer - to → Appends mid.gained new.gained (take n (take (length buffer - to) (drop to buffer)))
    → new.faults ≡ mid.faults → new.lacks ≡ mid.lacks → new.loan ≡ mid.loan → HasSent old new buffer from (to + n)
HasSent-more old mid new buffer from to n h k more f l o =
    record {
      later = omega (arith, h.later);
      within = omega (arith, h.within);
      gains = subst (Appends old.gained new.gained) (cut buffer from to n h.later h.within k) (Appends-trans old.gained mid.gained new.gained _ _ h.gains more);
      no_fault = f ∙ h.no_fault;
      no_lack = l ∙ h.no_lack;
      same_loan = o ∙ h.same_loan;
    }

pub sent_failed : (old mid new : SinkState) (buffer rest : List ℕ) (from to : ℕ) (e : SinkError) → HasSent old mid buffer from to → Writes mid new rest (Err e) → Sends old new buffer from to (Err e)
sent_failed old mid new buffer rest from to e h w =
    record {
      later = h.later;
      within = h.within;
      gains = Appends-kept old.gained mid.gained new.gained _ h.gains w.appends;
      all = tt;
      counts = counts_from old mid new h.no_fault h.no_lack h.same_loan (counts_err mid new w.counts);
    }

-- ---- a sink with bytes after it

pub held_none : (s : SinkState) → held_after s [] ≡ s
held_none s = ap (λ (g : Option (List ℕ)). let r : SinkState = record s { gained = g } in r) (known-nil s.gained)

-- the bytes went from the one to the other
moved : {r : Result (Unit {0}) SinkError} (a b : SinkState) (buffer : List ℕ) (from to : ℕ) → Sends a b buffer from to r → Keeps (append_known a.gained (drop from buffer)) (append_known b.gained (drop to buffer))
moved a b buffer from to h =
    append_known-moved a.gained b.gained (take (to - from) (drop from buffer)) (drop to buffer) (drop from buffer) h.gains
    (sym (take-append-drop (to - from) (drop from buffer)) ∙ ap (λ x. take (to - from) (drop from buffer) ++ x) (drop_on buffer from to h.later))

-- the counts are those of the inner sink
counts_held : {T : Type 0} {r : Result T SinkError} (a b : SinkState) (p q : List ℕ) → Counts a b r → Counts (held_after a p) (held_after b q) r
counts_held a b p q h =
    record {
      faults_ok = h.faults_ok;
      lacks_ok = h.lacks_ok;
      failed = h.failed;
      failed_lacks = h.failed_lacks;
      lacking = h.lacking;
      lacking_faults = h.lacking_faults;
      faults_later = h.faults_later;
      lacks_later = h.lacks_later;
      same_loan = h.same_loan;
    }

pub send_failed : (a b : SinkState) (buffer piece : List ℕ) (from to : ℕ) (e : SinkError) → Sends a b buffer from to (Err e) → Writes (held_after a (drop from buffer)) (held_after b (drop to buffer)) piece (Err e)
send_failed a b buffer piece from to e h = record { progress = tt; appends = moved a b buffer from to h; counts = counts_held a b _ _ (counts_err a b h.counts) }

pub flush_failed : (a b : SinkState) (buffer : List ℕ) (from to : ℕ) (e : SinkError) → Sends a b buffer from to (Err e) → Flushes (held_after a (drop from buffer)) (held_after b (drop to buffer)) (Err e)
flush_failed a b buffer from to e h = record { keeps = moved a b buffer from to h; flushed = tt; counts = counts_held a b _ _ h.counts }

-- ---- what is put after what is held

-- the bytes went from the one to the other, and nothing was added
pub sent_on : (a b : SinkState) (buffer : List ℕ) (from to : ℕ) (r : Result (Unit {0}) SinkError) → Sends a b buffer from to r → Adds (held_after a (drop from buffer)) (held_after b (drop to buffer)) [] r
sent_on a b buffer from to (Ok u) h =
    record { ok = moved a b buffer from to h ∙ Appends-nil (append_known a.gained (drop from buffer)); err = tt; counts = counts_held a b _ _ h.counts }
sent_on a b buffer from to (Err e) h =
    record {
      ok = tt;
      err = record { front = []; back = []; whole = refl; gains = moved a b buffer from to h ∙ Appends-nil (append_known a.gained (drop from buffer)) };
      counts = counts_held a b _ _ h.counts;
    }

-- ... until all is sent
pub all_sent : (a b : SinkState) (buffer : List ℕ) (from to : ℕ) (u : Unit {0}) → Sends a b buffer from to (Ok u) → Adds (held_after a (drop from buffer)) (held_after b []) [] (Ok u)
all_sent a b buffer from to u h =
    subst (λ x. Adds (held_after a (drop from buffer)) (held_after b x) [] (Ok u)) (drop_all to buffer (omega (arith, h.all))) (sent_on a b buffer from to (Ok u) h)
