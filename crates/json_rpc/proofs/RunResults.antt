-- From the loop over the lines to the call that serves all of them.
use Rattle.std.proofs.Common.{◌≡◌, ◌∙◌, inl, inr, ℕ, ◌+◌, ◌<◌, ◌≤◌, List, [], ◌∷◌, length, Bool, false, ◌||◌, Option, Some, None, Result, Ok, Err, OnOk, IfErr, IfSome, refl, sym, subst, ap, arith}
use Rattle.std.specs.Borrow.{GName}
use Rattle.std.proofs.lemmas.Bool.{cases_lt}
use Rattle.json_grammar.specs.Tree.{null}
use Rattle.json_io.specs.declared.error.Error.{Error}
use Rattle.json_io.specs.declared.error.ErrorCode.{ErrorCode}
use Rattle.json_io.specs.declared.error.ErrorCode.TheVariants.{NoMemory, Io, TooLarge}
use Rattle.json_io.specs.declared.error.Place.{Place}
use Rattle.json_io.specs.declared.error.Place.TheVariants.{None as nowhere, Reading, Writing}
use Rattle.json_io.specs.Errors.{no_memory, writing_failed}
use Rattle.json_io.specs.Known.{Appends, Grows, append_known}
use Rattle.json_io.specs.Lending.{lent_as, ComesBack}
use Rattle.json_io.specs.Outside.{SinkState, SourceState, Rose}
use Rattle.json_io.specs.Transfer.{FlushesAll, WritingCause}
use Rattle.json_io.proofs.Known.{known-nil, known-append}
use Rattle.json_layout.specs.Buffered.{held_after}
use Rattle.json_layout.specs.Pieces.{holds_any}
use Rattle.json_layout.specs.TextWriting.{Begins as BeginsWith, StopCause}
use Rattle.json_print.proofs.TextWriting.{front_gained}
use Rattle.json_command.specs.Input.{max_bytes}
use Rattle.json_lines.specs.Lines.{lines}
use Rattle.json_lines.specs.Reading.{ReaderState, ReadsBytes, NextLineCause, fresh_reader}
use Rattle.json_lines.proofs.ReaderSteps.{gives_bytes, gives_nothing, few_bytes}
use Rattle.json_lines.proofs.SinkEnds.{same_faults, ok_no_error, err_same, came_back, sink_grew}
use Rattle.json_lines.proofs.Statuses.{cause-line, cause-flush}
use Rattle.json_history.specs.History.{new_history}
use Rattle.json_rpc.specs.Serving.{Message, max_line_bytes}
use Rattle.json_rpc.specs.Sessions.{AreMessages, replies}
use Rattle.json_rpc.specs.Steps.{ServingState, IsFreshServing, FinishesServing, StopsServing}
use Rattle.json_rpc.specs.RunResults.{ServiceStreams, service_streams, ServesAll, ServingErrorCause, StopsRun, StopsBuffered}

pub fresh_run : (s : ServingState) → s.reader ≡ fresh_reader max_line_bytes → IsFreshServing s
fresh_run s e = record { limit = ap (λ r. r.limit) e; held = ap (λ r. r.held) e; received = ap (λ r. r.received) e; going = ap (λ r. r.stopped) e }

-- ---- the last flush

serves_all : (a c : ServingState) (out : SinkState) (u : Unit {0}) → IsFreshServing a → a.history ≡ new_history null → FinishesServing a c → FlushesAll c.out out (Ok u) → ServesAll (service_streams a.source a.out) (service_streams c.source out)
serves_all a c out u fresh begins all flush =
    record {
      reads = record {
        bytes = all.bytes;
        gives = gives_bytes a.reader c.reader a.source c.source all.bytes all.reads;
        few = few_bytes a.reader.received c.reader.received (length all.bytes) fresh.received all.reads.received_so all.few;
        drained = all.drained;
        read = all.no_fault;
      };
      appends = record {
        messages = all.messages;
        are = all.are;
        gained = subst (λ t. Appends a.out.gained out.gained (replies t all.messages)) begins (flush.keeps ∙ all.writes.ok);
      };
      writes = record {
        written = same_faults c.out.faults out.faults flush.later.faults (λ l. ok_no_error u writing_failed (flush.reported l)) ∙ all.writes.calm;
        flushed = flush.ok;
      };
    }

both_some : (o : Option (List ℕ)) (bytes : List ℕ) (ms : List Message) → IfSome o (λ b. b ≡ bytes) → IfSome o (λ b. AreMessages (lines b) ms) → IfSome o (λ _. AreMessages (lines bytes) ms)
both_some None bytes ms e h = tt
both_some (Some b) bytes ms e h = subst (λ b. AreMessages (lines b) ms) e h

flush_stops : (a c : ServingState) (out : SinkState) (e : Error) → a.history ≡ new_history null → FinishesServing a c → FlushesAll c.out out (Err e) → StopsBuffered (service_streams a.source a.out) (service_streams c.source out) e
flush_stops a c out e begins all flush =
    record {
      bytes = all.bytes;
      gives = gives_bytes a.reader c.reader a.source c.source all.bytes all.reads;
      messages = all.messages;
      are = both_some a.source.left all.bytes all.messages all.all all.are;
      prefix = subst (λ t. BeginsWith out.gained (append_known a.out.gained (replies t all.messages))) begins
          (record { back = []; whole = sym (known-nil out.gained ∙ flush.keeps ∙ all.writes.ok) });
      same_loan = flush.later.same_loan ∙ all.writes.same_loan;
      cause = cause-flush all.bytes a.source c.source a.out out e.code e.place c.out all.writes.calm flush.cause;
      reading_reported = λ l. absurd (omega (arith, l, all.no_fault));
      writing_told = λ l. err_same e writing_failed (flush.reported (omega (arith, l, all.writes.calm)));
    }

pub flushed_ok : (a c : ServingState) (out : SinkState) (r : Result (Unit {0}) Error) → IsFreshServing a → a.history ≡ new_history null → FinishesServing a c → FlushesAll c.out out r → OnOk r (ServesAll (service_streams a.source a.out) (service_streams c.source out))
flushed_ok a c out (Ok u) fresh begins all flush = serves_all a c out u fresh begins all flush
flushed_ok a c out (Err e) fresh begins all flush = tt

pub flushed_err : (a c : ServingState) (out : SinkState) (r : Result (Unit {0}) Error) → a.history ≡ new_history null → FinishesServing a c → FlushesAll c.out out r → IfErr r (λ e. StopsBuffered (service_streams a.source a.out) (service_streams c.source out) e)
flushed_err a c out (Ok u) begins all flush = tt
flushed_err a c out (Err e) begins all flush = flush_stops a c out e begins all flush

-- ---- the loop failed

writing_cause : (bytes : List ℕ) (s s' : SourceState) (a c : SinkState) (code : ErrorCode) (place : Place) → StopCause a.faults c.faults code place → ServingErrorCause bytes (service_streams s a) (service_streams s' c) code place
writing_cause bytes s s' a c NoMemory nowhere h = tt
writing_cause bytes s s' a c Io Writing h = h
writing_cause bytes s s' a c code place h = absurd h

pub loop_stops : (a c : ServingState) (e : Error) → IsFreshServing a → a.history ≡ new_history null → StopsServing a c e → StopsBuffered (service_streams a.source a.out) (service_streams c.source c.out) e
loop_stops a c e fresh begins stop =
    let received : c.reader.received ≡ length stop.bytes = omega (arith, fresh.received, stop.reads.received_so) in
    record {
      bytes = stop.bytes;
      gives = gives_bytes a.reader c.reader a.source c.source stop.bytes stop.reads;
      messages = stop.messages;
      are = stop.are;
      prefix = subst (λ t. BeginsWith c.out.gained (append_known a.out.gained (replies t stop.messages))) begins stop.prefix;
      same_loan = stop.same_loan;
      cause = elim stop.cause [
        | inl h ↦ cause-line stop.bytes a.source c.source a.out c.out e.code e.place c.reader received h
        | inr h ↦ writing_cause stop.bytes a.source c.source a.out c.out e.code e.place h.0
      ];
      reading_reported = stop.reading_reported;
      writing_told = stop.writing_told;
    }

-- ---- a sink that was lent

abbrev Lent : SinkState → GName → SinkState
Lent old name = lent_as old name old.gained

abbrev Back : SinkState → SinkState → GName → List ℕ → SinkState
Back old new name held = held_after (lent_as new name old.gained) held

lent_stops : (s s' : SourceState) (old new : SinkState) (name : GName) (held : List ℕ) (e : Error) → Grows old.gained new.gained → StopsBuffered (service_streams s (Lent old name)) (service_streams s' (Back old new name held)) e → StopsRun (service_streams s old) (service_streams s' new) e
lent_stops s s' old new name held e g h =
    record {
      bytes = h.bytes;
      gives = h.gives;
      prefix = record {
        messages = h.messages;
        are = h.are;
        gained = front_gained old.gained new.gained (replies (new_history null) h.messages) _ (h.prefix.whole ∙ known-append new.gained held h.prefix.back) g;
      };
      cause = h.cause;
      reading_reported = h.reading_reported;
      writing_told = h.writing_told;
    }

module _ (old now sent lent began : SinkState) (name name' : GName) (held : List ℕ) (b : began ≡ lent_as old name old.gained) (loan_kept : sent.loan ≡ began.loan) (s : sent ≡ held_after lent held) (back : ComesBack lent now name') where
  is : sent ≡ Back old now name held
  is = came_back old now sent lent began name name' held b loan_kept s back

  pub stopped_through : (u u' : SourceState) (r : Result (Unit {0}) Error) → IfErr r (λ e. StopsBuffered (service_streams u began) (service_streams u' sent) e) → IfErr r (λ e. StopsRun (service_streams u old) (service_streams u' now) e)
  stopped_through u u' (Ok v) h = tt
  stopped_through u u' (Err e) h =
      lent_stops u u' old now name held e (sink_grew old now sent lent began name name' held b loan_kept s back)
      (subst (λ (x : SinkState). StopsBuffered (service_streams u (Lent old name)) (service_streams u' x) e) is (subst (λ (x : SinkState). StopsBuffered (service_streams u x) (service_streams u' sent) e) b h))

-- ---- memory ran out before anything was read

no_messages : (o : Option (List ℕ)) → IfSome o (λ _. AreMessages (lines []) [])
no_messages None = tt
no_messages (Some b) = tt

pub stops_at_once : (s : SourceState) (k : SinkState) (e : Error) → e ≡ no_memory → StopsRun (service_streams s k) (service_streams s k) e
stops_at_once s k e h =
    record {
      bytes = [];
      gives = gives_nothing s;
      prefix = record {
        messages = [];
        are = no_messages s.left;
        gained = record { front = []; back = []; whole = refl; gains = sym (known-nil k.gained) };
      };
      cause = subst (λ (x : Error). ServingErrorCause [] (service_streams s k) (service_streams s k) x.code x.place) (sym h) tt;
      reading_reported = λ l. absurd (omega (arith, l));
      writing_told = λ l. absurd (omega (arith, l));
    }
