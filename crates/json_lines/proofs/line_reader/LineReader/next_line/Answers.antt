use Rattle.std.proofs.Common.{refl, None, Some, slice_range, subst, ap}
use Rattle.json_lines.specs.declared.line_reader.Line.TheVariants.{TooLong}
use Rattle.json_lines.specs.declared.line_reader.LineRange.TheVariants as found
use Rattle.json_lines.specs.LineRanges.{FindsLine}
use Rattle.json_lines.proofs.NextLineCalls.{NextLineCall-ok, NextLineCall-err}
use Rattle.json_lines.proofs.line_reader.LineReader.next_line.Goals as goal

pub returns-in-Ok-End : goal.returns-in-Ok-End
returns-in-Ok-End g c =
    let e = c.in-Ok-End.ensures in
    let s = g.S.Source.state c.args.source.now in
    let u = g.S.Source.state c.locate_line.new.source in
    let call = NextLineCall-ok c.args.self.now c.locate_line.new.self s u found.End None (subst (FindsLine c.args.self.now c.locate_line.new.self s u) c.in-Ok-End.field-0-is e.ok) e.going tt in
    ((refl, λ _. tt, call), record { answer = (_, call); after = tt })

pub returns-in-Ok-Bytes : goal.returns-in-Ok-Bytes
returns-in-Ok-Bytes g c =
    let e = c.in-Ok-Bytes.ensures in
    let s = g.S.Source.state c.args.source.now in
    let u = g.S.Source.state c.locate_line.new.source in
    let from = c.in-Ok-Bytes.from in
    let to = c.in-Ok-Bytes.to in
    let call = NextLineCall-ok c.args.self.now c.locate_line.new.self s u (found.Bytes from to) _ (subst (FindsLine c.args.self.now c.locate_line.new.self s u) c.in-Ok-Bytes.field-0-is e.ok) e.going
    (ap (λ l. slice_range l from to) c.deref.ensures.value) in
    ((refl, λ _. tt, call), record { answer = (_, call); after = tt })

pub returns-in-Ok-TooLong : goal.returns-in-Ok-TooLong
returns-in-Ok-TooLong g c =
    let e = c.in-Ok-TooLong.ensures in
    let s = g.S.Source.state c.args.source.now in
    let u = g.S.Source.state c.locate_line.new.source in
    let call = NextLineCall-ok c.args.self.now c.locate_line.new.self s u found.TooLong (Some TooLong) (subst (FindsLine c.args.self.now c.locate_line.new.self s u) c.in-Ok-TooLong.field-0-is e.ok) e.going tt in
    ((refl, λ _. tt, call), record { answer = (_, call); after = tt })

pub returns-in-Err : goal.returns-in-Err
returns-in-Err g c =
    let e = c.in-Err.ensures in
    let call = NextLineCall-err c.args.self.now c.locate_line.new.self (g.S.Source.state c.args.source.now) (g.S.Source.state c.locate_line.new.source) c.in-Err.error e.err in
    ((refl, λ _. tt, call), record { answer = (_, call); after = tt })
