-- What is printed into a block in memory, which is then written to a sink.
use Rattle.std.proofs.Common.{◌≡◌, ℕ, List, [], ◌++◌, Option, Some, Ok, Err, refl, sym, ap, ◌∙◌, subst, append-nil, append_assoc, arith}
use Rattle.std.proofs.lemmas.List.Concat.{flat_map-append}
use Rattle.std.specs.Prelude.{Result, OnOk, IfErr, max}
use Rattle.json_io.specs.Known.{Appends, append_known}
use Rattle.json_io.specs.Outside.{SinkState, Rose}
use Rattle.json_io.specs.declared.error.Error.{Error}
use Rattle.json_io.specs.declared.error.ErrorCode.{ErrorCode}
use Rattle.json_io.specs.declared.error.ErrorCode.TheVariants.{NoMemory, Io}
use Rattle.json_io.specs.declared.error.Place.{Place}
use Rattle.json_io.specs.declared.error.Place.TheVariants.{None as nowhere, Writing}
use Rattle.json_command.specs.Printing.{Prints}
use Rattle.mezdruk_files.specs.declared.run.DocumentTally.{DocumentTally}
use Rattle.json_command.specs.Reporting.{ReportsUnlessMuted}
use Rattle.mezdruk_files.specs.Outcomes.{PartOutcome, outcome_line, outcome_report, output_of, reports_of, greatest_status}
use Rattle.mezdruk_files.specs.Running.{Handles, StopsRunning}
use Rattle.mezdruk_files.specs.Writing.{WritesOutput, WritingFails}
use Rattle.mezdruk_files.proofs.TextWriting.{WritesOutput-nil, WritesOutput-from, WritesOutput-then, fails_first, fails_then, muted_nil, ReportsUnlessMuted-then}
use Rattle.mezdruk_files.proofs.Totals.{max_assoc, greatest_status-append}

pub some_same : (x y : List ℕ) → Some x ≡ Some y → x ≡ y
some_same x y e = cc

-- a new block that gained a text has it
block_is : (a b : Option (List ℕ)) (block text : List ℕ) → a ≡ Some [] → b ≡ Some block → Appends a b text → block ≡ text
block_is a b block text new gained appends = some_same block text (sym gained ∙ appends ∙ ap (λ o. append_known o text) new)

-- a block in memory fails only where memory runs out: it has a prefix of the text then
block_front : (a b : SinkState) (block text : List ℕ) (code : ErrorCode) (place : Place) → a.gained ≡ Some [] → b.gained ≡ Some block → WritingFails a b text code place → (back : List ℕ) × (text ≡ block ++ back)
block_front a b block text NoMemory nowhere new gained h = (h.back, h.whole ∙ ap (λ f. f ++ h.back) (sym (block_is a.gained b.gained block h.front new gained h.gains)))
block_front a b block text Io Writing new gained h = let f = h.0 in (f.back, f.whole ∙ ap (λ x. x ++ f.back) (sym (block_is a.gained b.gained block f.front new gained f.gains)))
block_front a b block text code place new gained h = absurd h

-- the block was written whole, and has a prefix of the text
front_sent : (a b s u : SinkState) (block text : List ℕ) (code : ErrorCode) (place : Place) → a.gained ≡ Some [] → b.gained ≡ Some block → b.faults ≡ 0 → WritingFails a b text code place → Appends s.gained u.gained block → WritingFails s u text code place
front_sent a b s u block text NoMemory nowhere new gained calm h sent =
    record { front = block; back = h.back; whole = h.whole ∙ ap (λ f. f ++ h.back) (sym (block_is a.gained b.gained block h.front new gained h.gains)); gains = sent }
front_sent a b s u block text Io Writing new gained calm h sent = absurd (rises h.1.rose)
  where
    rises : Rose h.1.before.faults b.faults → ⊥
    rises r = omega (arith, r, calm)
front_sent a b s u block text code place new gained calm h sent = absurd h

module _ (P : List PartOutcome → Type 0) (t v : DocumentTally) (a b d e : SinkState) (block : List ℕ) (new : a.gained ≡ Some []) (gained : b.gained ≡ Some block) (calm : b.faults ≡ 0) (s u : SinkState) where
  -- printing stopped, and writing failed
  pub stopped_unsent : (stop error : Error) → StopsRunning P t v a b d e stop → Prints s u block (Err error) → StopsRunning P t v s u d e error
  stopped_unsent stop error h p =
      let f = block_front a b block (output_of h.outcomes) stop.code stop.place new gained h.output in
      record {
        outcomes = h.outcomes;
        have = h.have;
        output = subst (λ x. WritingFails s u x error.code error.place) (sym f.1) (fails_first s u block f.0 error.code error.place (WritesOutput-from s u block (Err error) p).err);
        reports = h.reports;
      }

module _ (P : List PartOutcome → Type 0) (t v : DocumentTally) (a b d e : SinkState) (block : List ℕ) (new : a.gained ≡ Some []) (gained : b.gained ≡ Some block) (calm : b.faults ≡ 0) (s u : SinkState) where
  -- all was printed and written
  pub sent : (w : Unit {0}) → Handles P t v a b d e → Prints s u block (Ok w) → Handles P t v s u d e
  sent w h p =
      record {
        outcomes = h.outcomes;
        have = h.have;
        output = subst (λ x. WritesOutput s u x (Ok tt)) (block_is a.gained b.gained block (output_of h.outcomes) new gained h.output.ok) (WritesOutput-from s u block (Ok tt) p);
        reports = h.reports;
        status = h.status;
      }

  -- printing stopped, and what was printed is written
  pub sent_stops : (w : Unit {0}) (error : Error) → StopsRunning P t v a b d e error → Prints s u block (Ok w) → StopsRunning P t v s u d e error
  sent_stops w error h p =
      record { outcomes = h.outcomes; have = h.have; output = front_sent a b s u block (output_of h.outcomes) error.code error.place new gained calm h.output p.ok; reports = h.reports }

  -- all was printed, and writing failed
  pub unsent : (Q : List PartOutcome → Type 0) (error : Error) → ((os : List PartOutcome) → P os → Q os) → Handles P t v a b d e → Prints s u block (Err error) → StopsRunning Q t v s u d e error
  unsent Q error f h p =
      record {
        outcomes = h.outcomes;
        have = f h.outcomes h.have;
        output = subst (λ x. WritingFails s u x error.code error.place) (block_is a.gained b.gained block (output_of h.outcomes) new gained h.output.ok) (WritesOutput-from s u block (Err error) p).err;
        reports = h.reports;
      }

  -- writing failed, whether all was printed or not
  pub unsent_either : (Q : List PartOutcome → Type 0) (r : Result ℕ Error) (error : Error) → ((os : List PartOutcome) → P os → Q os) → OnOk r (Handles P t v a b d e) → IfErr r (StopsRunning Q t v a b d e) → Prints s u block (Err error) → StopsRunning Q t v s u d e error
  unsent_either Q (Ok n) error f h k p = unsent Q error f h p
  unsent_either Q (Err stop) error f h k p = stopped_unsent Q t v a b d e block new gained calm s u stop error k p

-- ---- one block after another

-- the first outcomes were written, and this block has the output of the others
pub record HandlesHeld (P : List PartOutcome → Type 0) (t u : DocumentTally) (s s' : SinkState) (block : List ℕ) (e e' : SinkState) : Type 0 where
  pub outcomes : List PartOutcome
  pub have : P outcomes
  pub sent : List ℕ
  pub parted : output_of outcomes ≡ sent ++ block
  pub output : WritesOutput s s' sent (Ok tt)
  pub reports : ReportsUnlessMuted t.muted u.muted e e' (reports_of outcomes)
  pub status : u.status ≡ max t.status (greatest_status outcomes)

pub held_none : (P : List PartOutcome → Type 0) (t : DocumentTally) (s e : SinkState) → P [] → HandlesHeld P t t s s [] e e
held_none P t s e h = record { outcomes = []; have = h; sent = []; parted = refl; output = WritesOutput-nil s; reports = muted_nil t.muted e; status = omega arith }

module _ (P : List PartOutcome → Type 0) (t u : DocumentTally) (s s' e e' : SinkState) (block : List ℕ) (h : HandlesHeld P t u s s' block e e') where
  module _ (Q R : List PartOutcome → Type 0) (v : DocumentTally) (x y e'' : SinkState) (has : x.gained ≡ Some block) (join : (os ps : List PartOutcome) → P os → Q ps → R (os ++ ps)) where
    all_of : (ps : List PartOutcome) → output_of (h.outcomes ++ ps) ≡ h.sent ++ (block ++ output_of ps)
    all_of ps = flat_map-append outcome_line h.outcomes ps ∙ ap (λ l. l ++ output_of ps) h.parted ∙ append_assoc h.sent block (output_of ps)

    -- more was printed into the block
    pub held_then : (block' : List ℕ) → y.gained ≡ Some block' → Handles Q u v x y e' e'' → HandlesHeld R t v s s' block' e e''
    held_then block' has' k =
        let more : block ++ output_of k.outcomes ≡ block' = sym (some_same block' (block ++ output_of k.outcomes) (sym has' ∙ k.output.ok ∙ ap (λ o. append_known o (output_of k.outcomes)) has)) in
        record {
          outcomes = h.outcomes ++ k.outcomes;
          have = join h.outcomes k.outcomes h.have k.have;
          sent = h.sent;
          parted = all_of k.outcomes ∙ ap (λ l. h.sent ++ l) more;
          output = h.output;
          reports = subst (ReportsUnlessMuted t.muted v.muted e e'') (sym (flat_map-append outcome_report h.outcomes k.outcomes)) (ReportsUnlessMuted-then t.muted u.muted v.muted e e' e'' (reports_of h.outcomes) (reports_of k.outcomes) h.reports k.reports);
          status = k.status ∙ ap (λ n. max n (greatest_status k.outcomes)) h.status ∙ sym (max_assoc t.status (greatest_status h.outcomes) (greatest_status k.outcomes)) ∙ ap (max t.status) (sym (greatest_status-append h.outcomes k.outcomes));
        }

    -- memory ran out while more was printed into the block
    pub held_stops : (error : Error) → y.faults ≡ 0 → StopsRunning Q u v x y e' e'' error → StopsRunning R t v s s' e e'' error
    held_stops error calm k =
        record {
          outcomes = h.outcomes ++ k.outcomes;
          have = join h.outcomes k.outcomes h.have k.have;
          output = by error.code error.place k.output;
          reports = subst (ReportsUnlessMuted t.muted v.muted e e'') (sym (flat_map-append outcome_report h.outcomes k.outcomes)) (ReportsUnlessMuted-then t.muted u.muted v.muted e e' e'' (reports_of h.outcomes) (reports_of k.outcomes) h.reports k.reports);
        }
      where
        no_rise : (n : ℕ) → Rose n y.faults → ⊥
        no_rise n r = omega (arith, r, calm)

        by : (code : ErrorCode) (place : Place) → WritingFails x y (output_of k.outcomes) code place → WritingFails s s' (output_of (h.outcomes ++ k.outcomes)) code place
        by NoMemory nowhere f = record { front = h.sent; back = block ++ output_of k.outcomes; whole = all_of k.outcomes; gains = h.output.ok }
        by Io Writing f = absurd (no_rise f.1.before.faults f.1.rose)
        by code place f = absurd f

  -- the block was written
  pub held_sent : (s'' : SinkState) → Prints s' s'' block (Ok tt) → HandlesHeld P t u s s'' [] e e'
  held_sent s'' p =
      record {
        outcomes = h.outcomes;
        have = h.have;
        sent = h.sent ++ block;
        parted = h.parted ∙ sym (append-nil (h.sent ++ block));
        output = WritesOutput-then s s' s'' h.sent block tt (Ok tt) h.output (WritesOutput-from s' s'' block (Ok tt) p);
        reports = h.reports;
        status = h.status;
      }

  -- it was not
  pub held_unsent : (Q : List PartOutcome → Type 0) (s'' : SinkState) (error : Error) → ((os : List PartOutcome) → P os → Q os) → Prints s' s'' block (Err error) → StopsRunning Q t u s s'' e e' error
  held_unsent Q s'' error f p =
      record {
        outcomes = h.outcomes;
        have = f h.outcomes h.have;
        output = subst (λ l. WritingFails s s'' l error.code error.place) (sym h.parted) (fails_then s s' s'' h.sent block error.code error.place h.output.ok (WritesOutput-from s' s'' block (Err error) p).err);
        reports = h.reports;
      }

  -- the last block was written
  pub held_done : (Q : List PartOutcome → Type 0) (s'' : SinkState) (r : Result (Unit {0}) Error) → ((os : List PartOutcome) → P os → Q os) → Prints s' s'' block r → OnOk r (Handles Q t u s s'' e e')
  held_done Q s'' (Ok w) f p =
      record {
        outcomes = h.outcomes;
        have = f h.outcomes h.have;
        output = subst (λ l. WritesOutput s s'' l (Ok tt)) (sym h.parted) (WritesOutput-then s s' s'' h.sent block tt (Ok tt) h.output (WritesOutput-from s' s'' block (Ok w) p));
        reports = h.reports;
        status = h.status;
      }
  held_done Q s'' (Err error) f p = tt

  pub held_fails : (Q : List PartOutcome → Type 0) (s'' : SinkState) (r : Result (Unit {0}) Error) → ((os : List PartOutcome) → P os → Q os) → Prints s' s'' block r → IfErr r (StopsRunning Q t u s s'' e e')
  held_fails Q s'' (Ok w) f p = tt
  held_fails Q s'' (Err error) f p = held_unsent Q s'' error f p
