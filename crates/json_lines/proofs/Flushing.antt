-- A flush writes no text more.
use Rattle.std.proofs.Common.{◌≡◌, List, [], Result, Ok, Err, sym, subst}
use Rattle.json_io.specs.Errors.{writing_failed}
use Rattle.json_io.specs.Known.{Appends}
use Rattle.json_io.specs.Outside.{SinkState}
use Rattle.json_io.specs.Transfer.{FlushesAll, WritingCause}
use Rattle.json_io.specs.declared.error.Error.{Error}
use Rattle.json_io.specs.declared.error.ErrorCode.{ErrorCode}
use Rattle.json_io.specs.declared.error.ErrorCode.TheVariants.{NoMemory, Io}
use Rattle.json_io.specs.declared.error.Place.{Place}
use Rattle.json_io.specs.declared.error.Place.TheVariants.{None as nowhere, Writing}
use Rattle.json_io.proofs.Known.{Appends-nil}
use Rattle.json_layout.specs.TextWriting.{StopCause, WritesText}
use Rattle.json_lines.proofs.SinkEnds.{same_faults, ok_no_error}
use Rattle.json_lines.proofs.TextWriting.{Begins-part}

flush_cause : (code : ErrorCode) (place : Place) (a c : SinkState) → WritingCause a c code place → StopCause a.faults c.faults code place
flush_cause NoMemory nowhere a c h = tt
flush_cause Io Writing a c h = h
flush_cause code place a c h = absurd h

pub WritesText-flush : (a c : SinkState) (r : Result (Unit {0}) Error) → FlushesAll a c r → WritesText a c [] r
WritesText-flush a c (Ok u) h =
    record {
      ok = subst (λ g. Appends a.gained g []) (sym h.keeps) (Appends-nil a.gained);
      calm = same_faults a.faults c.faults h.later.faults (λ l. ok_no_error u writing_failed (h.reported l));
      prefix = tt;
      cause = tt;
      reported = h.reported;
      same_loan = h.later.same_loan;
    }
WritesText-flush a c (Err e) h =
    record {
      ok = tt;
      calm = tt;
      prefix = Begins-part a.gained c.gained [] [] (subst (λ g. Appends a.gained g []) (sym h.keeps) (Appends-nil a.gained));
      cause = flush_cause e.code e.place a c h.cause;
      reported = h.reported;
      same_loan = h.later.same_loan;
    }
