-- What a sink gained that was lent to a writer.
use Rattle.std.proofs.Common.{◌≡◌, ℕ, List, [], ◌++◌, refl, sym, subst, ◌∙◌, Bool, false, Option, Some, None, Result, Ok, Err, IfErr, IfSome, arith}
use Rattle.std.specs.Borrow.{GName}
use Rattle.json_io.specs.Known.{Grows}
use Rattle.json_io.specs.Lending.{lent_as, ComesBack}
use Rattle.json_io.specs.Outside.{SinkState, SourceState}
use Rattle.json_io.specs.declared.error.Error.{Error}
use Rattle.json_io.specs.Errors.{no_memory}
use Rattle.json_io.proofs.Known.{known-append, known-nil}
use Rattle.json_io.proofs.Putting.{Puts-nil}
use Rattle.json_layout.specs.Buffered.{held_after}
use Rattle.json_print.proofs.TextWriting.{front_gained}
use Rattle.json_command.specs.Reporting.{ReportsUnlessMuted}
use Rattle.json_lines.specs.Rows.{Outcome, rows_of}
use Rattle.json_lines.specs.Running.{StopsEarly}
use Rattle.json_lines.specs.TopCall.{streams, WritesFewerRows, WritesPartOfTable, WritesPrefixes}
use Rattle.json_lines.specs.declared.run.LineTally.{LineTally}
use Rattle.json_lines.proofs.HandledLines.{IfSome-map}
use Rattle.json_lines.proofs.HandledOutcomes.{good_first}
use Rattle.json_lines.proofs.ReaderSteps.{gives_nothing}
use Rattle.json_lines.proofs.SinkEnds.{came_back, sink_grew}

module _ (has : List ℕ → Outcome → Type 0) (strict : Bool) (header : List ℕ) (s u : SourceState) (old now errs errs' : SinkState) (name : GName) (held : List ℕ) (t : LineTally) where
  lent_front : Grows old.gained now.gained → (muted : Bool) (bytes : List ℕ) → StopsEarly has strict header (lent_as old name old.gained) (held_after (lent_as now name old.gained) held) errs errs' muted bytes → WritesPrefixes has strict header old now errs errs' muted bytes
  lent_front g muted bytes h =
      record {
        done = h.done;
        begun = h.begun;
        later = h.later;
        parted = h.parted;
        outcomes = h.outcomes;
        have = h.have;
        next = h.next;
        next_have = h.next_have;
        first = h.first;
        first_next = h.first_next;
        rows = front_gained old.gained now.gained (header ++ (rows_of h.outcomes ++ rows_of h.next)) (held ++ h.rows.back) (h.rows.whole ∙ known-append now.gained held h.rows.back) g;
        reports = h.reports;
      }

  lent_short : Grows old.gained now.gained → (e : Error) → WritesFewerRows has strict header (streams s (lent_as old name old.gained) errs) (streams u (held_after (lent_as now name old.gained) held) errs') t e → WritesPartOfTable has strict header (streams s old errs) (streams u now errs') t e
  lent_short g e h =
      record {
        bytes = h.bytes;
        gives = h.gives;
        prefixes = IfSome-map s.left (λ _. StopsEarly has strict header (lent_as old name old.gained) (held_after (lent_as now name old.gained) held) errs errs' t.muted h.bytes) (λ _. WritesPrefixes has strict header old now errs errs' t.muted h.bytes)
            (λ _ b. lent_front g t.muted h.bytes b) h.stops;
        cause = h.cause;
        reading_reported = h.reading_reported;
        writing_told = h.writing_told;
      }

  module _ (began sent lent : SinkState) (name' : GName) (r : Result (Unit {0}) Error) (b : began ≡ lent_as old name old.gained) (loan : sent.loan ≡ began.loan) (is : sent ≡ held_after lent held) (back : ComesBack lent now name') where
    here : sent ≡ held_after (lent_as now name old.gained) held
    here = came_back old now sent lent began name name' held b loan is back

    pub written_err : IfErr r (λ e. WritesFewerRows has strict header (streams s began errs) (streams u sent errs') t e) → IfErr r (λ e. WritesPartOfTable has strict header (streams s old errs) (streams u now errs') t e)
    written_err h = by r h
      where
        by : (r : Result (Unit {0}) Error) → IfErr r (λ e. WritesFewerRows has strict header (streams s began errs) (streams u sent errs') t e) → IfErr r (λ e. WritesPartOfTable has strict header (streams s old errs) (streams u now errs') t e)
        by (Ok v) h = tt
        by (Err e) h =
            lent_short (sink_grew old now sent lent began name name' held b loan is back) e
            (subst (λ x. WritesFewerRows has strict header (streams s x errs) (streams u (held_after (lent_as now name old.gained) held) errs') t e) b (subst (λ x. WritesFewerRows has strict header (streams s began errs) (streams u x errs') t e) here h))

-- memory ran out for the buffer
pub short_none : (has : List ℕ → Outcome → Type 0) (strict : Bool) (header : List ℕ) (s : SourceState) (sink errs : SinkState) (t : LineTally) (e : Error) → e ≡ no_memory → t.muted ≡ false → WritesPartOfTable has strict header (streams s sink errs) (streams s sink errs) t e
short_none has strict header s sink errs t e is unmuted =
    subst (WritesPartOfTable has strict header (streams s sink errs) (streams s sink errs) t) (sym is)
    (record {
      bytes = [];
      gives = gives_nothing s;
      prefixes = some_prefix s.left;
      cause = tt;
      reading_reported = λ l. absurd (omega (arith, l));
      writing_told = λ l. absurd (omega (arith, l));
    })
  where
    nothing : WritesPrefixes has strict header sink sink errs errs t.muted []
    nothing = record {
      done = [];
      begun = [];
      later = [];
      parted = refl;
      outcomes = [];
      have = tt;
      next = [];
      next_have = tt;
      first = good_first strict [] (λ _. refl);
      first_next = good_first strict [] (λ _. refl);
      rows = record { front = []; back = header ++ []; whole = refl; gains = sym (known-nil sink.gained) };
      reports = subst (λ d. ReportsUnlessMuted false d errs errs []) (sym unmuted) (Puts-nil errs);
    }

    some_prefix : (o : Option (List ℕ)) → IfSome o (λ _. WritesPrefixes has strict header sink sink errs errs t.muted [])
    some_prefix None = tt
    some_prefix (Some x) = nothing
