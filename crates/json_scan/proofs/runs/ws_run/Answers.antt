use Rattle.json_grammar.specs.Grammar.{IsWhitespace, ws}
use Rattle.json_grammar.proofs.Moves.{ws_more}
use Rattle.json_scan.proofs.RunEnds.{run_ends}
use Rattle.json_scan.proofs.runs.ws_run.Goals as goal

pub returns : goal.returns
returns c = record { ends = run_ends ws IsWhitespace c.args.bytes.now c.args.from c.ws_end_by_blocks.result tt (ws_more c.args.bytes.now c.args.from) c.ws_end_by_blocks.ensures }
