use Rattle.json_lines.proofs.GatheredWords.{has_taken, strict_taken, csv_taken, columns_taken, has_refused, strict_refused, csv_refused, columns_refused}
use Rattle.json_lines.proofs.gathered.GatheredWords.take_word.Goals as goal
use Rattle.json_lines.proofs.gathered.GatheredWords.take_word.Goals.{in_default-via-in-Has+else-is_none, in_default-via-in-Strict+else-not-self, in_default-via-in-CsvRows+else-not-self-2, in_default-via-in-ColumnsWord+else-is_none-2}

pub returns-in-Has-clause-taken : goal.returns-in-Has-clause-taken
returns-in-Has-clause-taken c = λ ws h. let s = c.args.self in has_taken ws c.args.word.now _ s.columns s.has s.strict s.csv c.word_role.ensures c.in-Has.text c.in-Has.is c.if-is_none.ensures h

pub returns-in-Strict-clause-taken : goal.returns-in-Strict-clause-taken
returns-in-Strict-clause-taken c = λ ws h. let s = c.args.self in strict_taken ws c.args.word.now _ s.columns s.has s.strict s.csv c.word_role.ensures c.in-Strict.is c.if-not-self.true h

pub returns-in-CsvRows-clause-taken : goal.returns-in-CsvRows-clause-taken
returns-in-CsvRows-clause-taken c = λ ws h. let s = c.args.self in csv_taken ws c.args.word.now _ s.columns s.has s.strict s.csv c.word_role.ensures c.in-CsvRows.is c.if-not-self-2.true h

pub returns-in-ColumnsWord-clause-taken : goal.returns-in-ColumnsWord-clause-taken
returns-in-ColumnsWord-clause-taken c = λ ws h. let s = c.args.self in columns_taken ws c.args.word.now _ s.columns s.has s.strict s.csv c.word_role.ensures c.in-ColumnsWord.columns c.in-ColumnsWord.is c.if-is_none-2.ensures h

pub returns-in_default-clause-refused : goal.returns-in_default-clause-refused
returns-in_default-clause-refused c =
    λ ws more h.
    let s = c.args.self in
    let role = c.word_role.ensures in
    elim c.in_default.branch [
      | in_default-via-in-Has+else-is_none w ↦ has_refused ws c.args.word.now _ s.columns s.has s.strict s.csv role more w.in-Has.text w.in-Has.is w.if-is_none.ensures h
      | in_default-via-in-Strict+else-not-self w ↦ strict_refused ws c.args.word.now _ s.columns s.has s.strict s.csv role more w.in-Strict.is w.if-not-self.false h
      | in_default-via-in-CsvRows+else-not-self-2 w ↦ csv_refused ws c.args.word.now _ s.columns s.has s.strict s.csv role more w.in-CsvRows.is w.if-not-self-2.false h
      | in_default-via-in-ColumnsWord+else-is_none-2 w ↦ columns_refused ws c.args.word.now _ s.columns s.has s.strict s.csv role more w.in-ColumnsWord.columns w.in-ColumnsWord.is w.if-is_none-2.ensures h
    ]
