use Rattle.json_query.proofs.TextSegments.{query_read}
use Rattle.json_query.proofs.laws.text_is_read.Goals as goal

pub returns : goal.returns
returns c = query_read
