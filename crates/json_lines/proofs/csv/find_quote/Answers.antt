use Rattle.json_lines.proofs.CsvFields.{IsFirstQuote-found}
use Rattle.json_lines.proofs.csv.find_quote.Goals as goal

pub returns-clause-first : goal.returns-clause-first
returns-clause-first c = IsFirstQuote-found c.args.text.now c.memchr.result c.memchr.ensures
