use Rattle.json_query.specs.Models.{query_of}
use Rattle.json_query.proofs.TextParsed.{parsing_cause, parsing_fails, query_parsed}
use Rattle.json_query.proofs.query.Query.parse.Goals as goal

pub returns-in-Ok-clause-ok : goal.returns-in-Ok-clause-ok
returns-in-Ok-clause-ok c = query_parsed (query_of c.in-Ok.query) c.args.text.now c.utf8.text c.in-Ok.ensures

pub returns-in-Err-clause-refused : goal.returns-in-Err-clause-refused
returns-in-Err-clause-refused c = rw (c.in_text.ensures.code, c.in_text.ensures.offset) (parsing_fails c.args.text.now c.in-Err.fault c.utf8.text c.in-Err.ensures)

pub returns-in-Err-clause-cause : goal.returns-in-Err-clause-cause
returns-in-Err-clause-cause c = rw (c.in_text.ensures.code, c.in_text.ensures.offset) (parsing_cause c.args.text.now c.in-Err.fault c.in-Err.ensures)
