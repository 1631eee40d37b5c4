use Rattle.std.proofs.Common.{Some, [], slice_range, subst, sym, refl, append-nil}
use Rattle.json_lines.specs.Lines.{IsFirstNewline}
use Rattle.json_lines.specs.Reading.{held_bytes}
use Rattle.json_lines.specs.LineRanges.{IsLineRange}
use Rattle.json_lines.proofs.FindingLines.{DropsLine-held, found-held}
use Rattle.json_lines.proofs.line_reader.LineReader.find_line.Goals as goal

pub returns-in-Some-clause-ok : goal.returns-in-Some-clause-ok
returns-in-Some-clause-ok g c =
    let r = c.args.self.now in
    let here = subst (λ l. IsFirstNewline (slice_range l r.start r.end) (Some c.in-Some.len)) c.deref.ensures.value c.in-Some.ensures in
    record {
      bytes = [];
      drops = DropsLine-held r _ c.in-Some.len _ refl refl c.requires.going here refl;
      found = subst (λ l. IsLineRange r.limit l r.buffer.items c.line_range.result) (sym (append-nil (held_bytes r))) (found-held r c.in-Some.len c.line_range.result c.line_range.ensures here);
    }
