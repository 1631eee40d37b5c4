-- What a call of `next_line` returns.
use Rattle.std.proofs.Common.{◌≡◌, ℕ, ◌-◌, ◌<◌, ◌⊎◌, inl, inr, true, List, [], ◌++◌, length, drop, Option, None, Some, Ok, Err, IfSome, MatchOption, refl, sym, ap, ◌∙◌, subst, arith, append_assoc, append-nil, is_some}
use Rattle.std.proofs.lemmas.List.{length-append, length-take}
use Rattle.std.proofs.lemmas.Bool.{true≢false, false≢true}
use Rattle.std.specs.Option.{option_map}
use Rattle.json_io.specs.Known.{Consumes, prepend_known, if_known}
use Rattle.json_io.specs.Outside.{SourceState}
use Rattle.json_io.specs.declared.error.Error.{Error}
use Rattle.json_lines.specs.declared.line_reader.LineReader.{LineReader}
use Rattle.json_lines.specs.declared.line_reader.Line.{Line}
use Rattle.json_lines.specs.declared.line_reader.Line.TheVariants.{Whole, TooLong}
use Rattle.json_lines.specs.declared.line_reader.LineRange.{LineRange}
use Rattle.json_lines.specs.declared.line_reader.LineRange.TheVariants as range
use Rattle.json_lines.specs.Lines.{has_newline, after_line}
use Rattle.json_lines.specs.Reading.{line_reader_state, held_bytes, IsLine, RepeatsError, NextLineCall}
use Rattle.json_lines.specs.LineRanges.{NextLineFails, FindsLine, IsLineRange, IsLineAt}
use Rattle.json_lines.proofs.Newlines.{ended}

-- the bytes in the range are the line
pub IsLine-shown : (limit : ℕ) (bytes items : List ℕ) (place : LineRange) (o : Option Line) → IsLineRange limit bytes items place → IsLineAt items place o → IsLine limit bytes o
IsLine-shown limit bytes items range.End None is shows = is
IsLine-shown limit bytes items (range.Bytes from to) (Some (Whole line)) is shows =
    (is.0, shows ∙ is.1, omega (arith, ap length shows, length-take (to - from) (drop from items), is.2, is.4))
IsLine-shown limit bytes items range.TooLong (Some TooLong) is shows = is
IsLine-shown limit bytes items range.End (Some line) is shows = absurd shows
IsLine-shown limit bytes items (range.Bytes from to) None is shows = absurd shows
IsLine-shown limit bytes items (range.Bytes from to) (Some TooLong) is shows = absurd shows
IsLine-shown limit bytes items range.TooLong None is shows = absurd shows
IsLine-shown limit bytes items range.TooLong (Some (Whole line)) is shows = absurd shows

-- bytes after the end of the line change nothing
IsLine-longer : (limit : ℕ) (bytes more : List ℕ) (o : Option Line) → has_newline bytes ≡ true → IsLine limit bytes o → IsLine limit (bytes ++ more) o
IsLine-longer limit bytes more None ends is = absurd (false≢true (ap has_newline (sym is) ∙ ends))
IsLine-longer limit bytes more (Some (Whole line)) ends is =
    (omega (arith, length-append bytes more, is.0), is.1 ∙ sym (ended bytes more ends).0, is.2)
IsLine-longer limit bytes more (Some TooLong) ends is = subst (λ l. limit < length l) (sym (ended bytes more ends).0) is

-- what is said of the bytes that reads holds of all that is left
reported_line : (limit : ℕ) (held bytes : List ℕ) (old new : Option (List ℕ)) (o : Option Line) → Consumes old new bytes → (has_newline (held ++ bytes) ≡ true) ⊎ (new ≡ if_known old []) → IsLine limit (held ++ bytes) o
    → IfSome (prepend_known held old) (λ all. IsLine limit all o)
reported_line limit held bytes old None o consumed ends is = subst (λ k. IfSome (prepend_known held k) (λ all. IsLine limit all o)) (sym consumed) tt
reported_line limit held bytes old (Some left) o consumed (inl ends) is =
    subst (λ k. IfSome (prepend_known held k) (λ all. IsLine limit all o)) (sym consumed) (subst (λ all. IsLine limit all o) (append_assoc held bytes left) (IsLine-longer limit (held ++ bytes) left o ends is))
reported_line limit held bytes old (Some left) o consumed (inr ends) is =
    let none : Some left ≡ Some [] = ends ∙ ap (λ k. if_known k []) consumed in
    subst (λ k. IfSome (prepend_known held k) (λ all. IsLine limit all o)) (sym (consumed ∙ ap (prepend_known bytes) none)) (subst (λ l. IsLine limit (held ++ l) o) (sym (append-nil bytes)) is)

reported_rest : (held held' bytes : List ℕ) (old new : Option (List ℕ)) → Consumes old new bytes → (has_newline (held ++ bytes) ≡ true) ⊎ (new ≡ if_known old []) → held' ≡ after_line (held ++ bytes)
    → prepend_known held' new ≡ option_map after_line (prepend_known held old)
reported_rest held held' bytes old None consumed ends rest = ap (λ k. option_map after_line (prepend_known held k)) (sym consumed)
reported_rest held held' bytes old (Some left) consumed (inl ends) rest =
    ap Some (ap (λ l. l ++ left) rest ∙ sym (ended (held ++ bytes) left ends).1 ∙ ap after_line (append_assoc held bytes left)) ∙ ap (λ k. option_map after_line (prepend_known held k)) (sym consumed)
reported_rest held held' bytes old (Some left) consumed (inr ends) rest =
    let none : Some left ≡ Some [] = ends ∙ ap (λ k. if_known k []) consumed in
    let all : old ≡ Some (bytes ++ []) = consumed ∙ ap (prepend_known bytes) none in
    ap (prepend_known held') none ∙ ap Some (append-nil held' ∙ rest ∙ ap (λ l. after_line (held ++ l)) (sym (append-nil bytes))) ∙ ap (λ k. option_map after_line (prepend_known held k)) (sym all)

pub NextLineCall-ok : (a fin : LineReader) (s u : SourceState) (place : LineRange) (o : Option Line) → FindsLine a fin s u place → a.stopped ≡ None → IsLineAt fin.buffer.items place o
    → NextLineCall (line_reader_state a) (line_reader_state fin) s u (Ok o)
NextLineCall-ok a fin s u place o finds going shows =
    let p = finds.drops in
    let is = IsLine-shown a.limit (held_bytes a ++ finds.bytes) fin.buffer.items place o finds.found shows in
    record {
      first = λ _. record {
        bytes = finds.bytes;
        reads = p.reads;
        line = reported_line a.limit (held_bytes a) finds.bytes s.left u.left o p.reads.consumed p.ended is;
        rest = reported_rest (held_bytes a) (held_bytes fin) finds.bytes s.left u.left p.reads.consumed p.ended p.rest;
        line_read = is;
        rest_read = p.rest;
        ended = p.ended;
        cause = tt;
        few = fin.count p.goes_on;
        no_fault = p.no_fault;
        stops = p.goes_on;
      };
      later = subst (λ k. IfSome k (λ e. RepeatsError e (line_reader_state a) (line_reader_state fin) s u (Ok o))) (sym going) tt;
    }

NextLineCall-refused : (a fin : LineReader) (s u : SourceState) (e : Error) (stopped : Option Error) → a.stopped ≡ stopped
    → MatchOption stopped (NextLineFails (line_reader_state a) (line_reader_state fin) s u e) (λ known. (known ≡ e) × (fin ≡ a) × (u ≡ s))
    → NextLineCall (line_reader_state a) (line_reader_state fin) s u (Err e)
NextLineCall-refused a fin s u e None is halts =
    record {
      first = λ _. record {
        bytes = halts.bytes;
        reads = halts.reads;
        line = tt;
        rest = tt;
        line_read = tt;
        rest_read = tt;
        ended = tt;
        cause = halts.cause;
        few = tt;
        no_fault = tt;
        stops = halts.stops;
      };
      later = subst (λ k. IfSome k (λ known. RepeatsError known (line_reader_state a) (line_reader_state fin) s u (Err e))) (sym is) tt;
    }
NextLineCall-refused a fin s u e (Some known) is again =
    record {
      first = λ none. absurd (true≢false (ap is_some (sym is ∙ none)));
      later = subst (λ k. IfSome k (λ known. RepeatsError known (line_reader_state a) (line_reader_state fin) s u (Err e))) (sym is)
          (record { again = ap Err (sym again.0); same = ap line_reader_state again.1; unread = again.2 });
    }

pub NextLineCall-err : (a fin : LineReader) (s u : SourceState) (e : Error)
    → MatchOption a.stopped (NextLineFails (line_reader_state a) (line_reader_state fin) s u e) (λ known. (known ≡ e) × (fin ≡ a) × (u ≡ s))
    → NextLineCall (line_reader_state a) (line_reader_state fin) s u (Err e)
NextLineCall-err a fin s u e h = NextLineCall-refused a fin s u e a.stopped refl h
