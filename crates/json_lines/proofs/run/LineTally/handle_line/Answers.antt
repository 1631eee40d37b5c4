use Rattle.std.proofs.Common.{rules, subst, sym, refl}
use Rattle.json_lines.specs.Rows.{line_too_long}
use Rattle.json_lines.specs.LineHandling.{LineHas}
use Rattle.json_lines.proofs.TextWriting.{WritesText-nil}
use Rattle.json_lines.proofs.run.LineTally.handle_line.Goals as goal

pub returns-in-TooLong-clause-ok : goal.returns-in-TooLong-clause-ok
returns-in-TooLong-clause-ok g c =
    record {
      outcome = line_too_long;
      has_it = subst (λ l. LineHas (g.R.RowWriter.has_outcome c.args.room.now.rows.now) l line_too_long) (sym c.in-TooLong.is) refl;
      row = WritesText-nil _;
      report = rw c.report_bad.ensures.number (rw c.text.ensures at c.report_bad.ensures.reports);
      number = search rules;
      bad = search rules;
    }
