use Rattle.json_lines.proofs.CsvFields.{WritesDoubled-start, WritesDoubled-more, WritesDoubled-stopped, WritesDoubled-end}
use Rattle.json_lines.proofs.csv.write_doubled.Goals as goal

pub quote-init : goal.quote-init
quote-init g c = WritesDoubled-start c.args.text.now _

pub returns-in-Err : goal.returns-in-Err
returns-in-Err g c = WritesDoubled-stopped c.args.text.now c.quote.rest.now _ _ _ c.in-Some.at c.in-Err.error c.quote.invariant c.in-Some.ensures.first.1 c.in-Err.ensures

pub quote-preserved : goal.quote-preserved
quote-preserved g c = WritesDoubled-more c.args.text.now c.quote.rest.now _ _ _ c.in-Some.at c.in-Ok.field-0 c.quote.invariant c.in-Some.ensures.first.1 c.in-Ok.ensures

pub returns : goal.returns
returns g c = WritesDoubled-end c.args.text.now c.quote.rest.now _ _ _ c.write_bytes.result c.quote.invariant c.in_default.ensures.first c.write_bytes.ensures
