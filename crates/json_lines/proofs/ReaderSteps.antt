-- How the steps of a reader follow on each other.
use Rattle.std.proofs.Common.{◌≡◌, ℕ, ◌+◌, ◌-◌, ◌≤◌, false, List, [], ◌++◌, length, take, drop, slice_range, sym, ap, ◌∙◌, subst, arith, append_assoc}
use Rattle.std.proofs.Math.Seq.{take-add}
use Rattle.std.proofs.lemmas.List.{length-append, length-take, drop-append-le}
use Rattle.std.proofs.lemmas.Slice.{between_is}
use Rattle.json_io.specs.Outside.{SourceState, counted, Rose}
use Rattle.json_io.specs.declared.error.Error.{Error}
use Rattle.json_io.specs.declared.error.ErrorCode.{ErrorCode}
use Rattle.json_io.specs.declared.error.ErrorCode.TheVariants.{Io, TooLarge}
use Rattle.json_io.specs.declared.error.Place.{Place}
use Rattle.json_io.specs.declared.error.Place.TheVariants.{None as nowhere, Reading}
use Rattle.json_io.proofs.Known.{Consumes-nil, Consumes-trans}
use Rattle.json_command.specs.Input.{max_bytes}
use Rattle.json_lines.specs.declared.line_reader.LineReader.{LineReader}
use Rattle.json_lines.specs.Lines.{has_newline}
use Rattle.json_lines.specs.Reading.{ReaderState, line_reader_state, held_bytes, ReadsBytes, GivesBytes, NextLineCause}
use Rattle.json_lines.specs.LineRanges.{new_bytes, ReadsMore, NextLineFails, ReadsUnended}
use Rattle.json_lines.proofs.Newlines.{unended}

counted-counted : (n m a : ℕ) → counted m (counted n a) ≡ counted (n + m) a
counted-counted n m a = omega arith

counted-none : (a : ℕ) → a ≡ counted 0 a
counted-none a = omega arith

pub ReadsBytes-trans : (a b c : ReaderState) (s t u : SourceState) (p q : List ℕ) → ReadsBytes a b s t p → ReadsBytes b c t u q → ReadsBytes a c s u (p ++ q)
ReadsBytes-trans a b c s t u p q g h =
    record {
      consumed = Consumes-trans s.left t.left u.left p q g.consumed h.consumed;
      received_so = omega (arith, g.received_so, h.received_so, length-append p q);
      given_so = h.given_so ∙ ap (counted (length q)) g.given_so ∙ counted-counted (length p) (length q) s.given ∙ ap (λ n. counted n s.given) (sym (length-append p q));
      same_limit = h.same_limit ∙ g.same_limit;
    }

-- nothing reads yet
pub ReadsBytes-none : (a b : ReaderState) (s : SourceState) → b.received ≡ a.received → b.limit ≡ a.limit → ReadsBytes a b s s []
ReadsBytes-none a b s received limit =
    record { consumed = Consumes-nil s.left; received_so = omega (arith, received); given_so = counted-none s.given; same_limit = limit }

-- the bytes that are held after a read
pub held-more : (old new : LineReader) (s u : SourceState) (n : ℕ) → ReadsMore old new s u n → held_bytes new ≡ held_bytes old ++ new_bytes old new
held-more old new s u n more =
    let end = old.end in
    let items = new.buffer.items in
    let some : slice_range items new.start new.end ≡ drop new.start (take new.end items) = between_is items new.start new.end in
    let front : take (end + n) items ≡ take end items ++ take n (drop end items) = take-add end n items in
    let parted : drop old.start (take end items ++ take n (drop end items)) ≡ drop old.start (take end items) ++ take n (drop end items) =
    drop-append-le old.start (take end items) _ (omega (arith, length-take end items, old.order, old.within, new.within, more.end_so)) in
    let tail : take n (drop end items) ≡ new_bytes old new = ap (λ k. take k (drop end items)) {y = new.end - end} (omega (arith, more.end_so)) in
    let head : drop old.start (take end items) ≡ held_bytes old = ap (drop old.start) more.kept ∙ sym (between_is old.buffer.items old.start end) in
    some ∙ ap (λ k. drop k (take new.end items)) more.same_start ∙ ap (λ k. drop old.start (take k items)) more.end_so ∙ ap (drop old.start) front ∙ parted
    ∙ ap (λ l. l ++ take n (drop end items)) head ∙ ap (λ l. held_bytes old ++ l) tail

-- one read more, in which no line ends
pub ReadsUnended-more : (a : ReaderState) (mid new : LineReader) (s t u : SourceState) (n : ℕ) → ReadsUnended a (line_reader_state mid) s t → ReadsMore mid new t u n → has_newline (new_bytes mid new) ≡ false
    → ReadsUnended a (line_reader_state new) s u
ReadsUnended-more a mid new s t u n waits more unbroken =
    let all = append_assoc a.held waits.bytes (new_bytes mid new) in
    record {
      bytes = waits.bytes ++ new_bytes mid new;
      reads = ReadsBytes-trans _ _ _ _ _ _ _ _ waits.reads more.reads;
      no_fault = more.no_fault ∙ waits.no_fault;
      held_so = held-more mid new t u n more ∙ ap (λ l. l ++ new_bytes mid new) waits.held_so ∙ all;
      no_newline = ap has_newline (sym all) ∙ (unended (a.held ++ waits.bytes) (new_bytes mid new) waits.no_newline).2 ∙ unbroken;
      goes_on = more.goes_on;
    }

pub cause-later : (code : ErrorCode) (place : Place) (new : ReaderState) (s t u : SourceState) → t.faults ≡ s.faults → NextLineCause new t u code place → NextLineCause new s u code place
cause-later Io Reading new s t u same h = (subst (λ n. Rose n u.faults) same h.0, h.1)
cause-later TooLarge nowhere new s t u same h = (h.0 ∙ same, h.1)
cause-later code place new s t u same h = absurd h

pub NextLineFails-later : (a b c : ReaderState) (s t u : SourceState) (e : Error) (p : List ℕ) → ReadsBytes a b s t p → t.faults ≡ s.faults → NextLineFails b c t u e → NextLineFails a c s u e
NextLineFails-later a b c s t u e p reads no_fault halts =
    record {
      bytes = p ++ halts.bytes;
      reads = ReadsBytes-trans a b c s t u p halts.bytes reads halts.reads;
      stops = halts.stops;
      cause = cause-later e.code e.place c s t u no_fault halts.cause;
    }

-- ---- what a source gave

pub gives_bytes : (a c : ReaderState) (s u : SourceState) (bytes : List ℕ) → ReadsBytes a c s u bytes → GivesBytes s u bytes
gives_bytes a c s u bytes h = record { consumed = h.consumed; given_so = h.given_so }

pub gives_nothing : (s : SourceState) → GivesBytes s s []
gives_nothing s = record { consumed = Consumes-nil s.left; given_so = counted-none s.given }

-- of a reader that had received nothing
pub few_bytes : (n m k : ℕ) → n ≡ 0 → m ≡ n + k → m ≤ max_bytes → k ≤ max_bytes
few_bytes n m k e f l = omega (arith, e, f, l)
