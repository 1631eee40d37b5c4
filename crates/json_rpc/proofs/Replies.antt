-- Lines that were served, and their replies written.
use Rattle.std.proofs.Common.{◌≡◌, inr, List, [], ◌∷◌, ◌++◌, None, Some, Option, Ok, Err, Result, sym, append-nil}
use Rattle.std.specs.Prelude.{OnOk, IfErr}
use Rattle.json_grammar.specs.Tree.{Tree}
use Rattle.json_model.specs.Print.{shown}
use Rattle.json_io.specs.Outside.{SinkState}
use Rattle.json_io.specs.declared.error.Error.{Error}
use Rattle.json_layout.specs.TextWriting.{WritesText}
use Rattle.json_lines.specs.declared.line_reader.Line.{Line}
use Rattle.json_lines.proofs.TextWriting.{WritesText-is}
use Rattle.json_history.specs.History.{TreeHistory}
use Rattle.json_rpc.specs.Serving.{Serves}
use Rattle.json_rpc.specs.Sessions.{ServesLine, ServingFails}

pub reply_written : (h g : TreeHistory) (reply : Tree) (line : Line) (old new : SinkState) (r : Result (Unit {0}) Error) → Serves h line g (Some reply) → WritesText old new (shown None 0 reply ++ 10 ∷ []) r → OnOk r (ServesLine h line g old new)
reply_written h g reply line old new (Ok v) s w = record { reply = Some reply; serves = s; writes = WritesText-is old new _ _ (Ok v) (sym (append-nil (shown None 0 reply ++ 10 ∷ []))) w }
reply_written h g reply line old new (Err e) s w = tt

pub reply_unwritten : (h g : TreeHistory) (reply : Tree) (line : Line) (old new : SinkState) (r : Result (Unit {0}) Error) → Serves h line g (Some reply) → WritesText old new (shown None 0 reply ++ 10 ∷ []) r → IfErr r (ServingFails h line g old new)
reply_unwritten h g reply line old new (Ok v) s w = tt
reply_unwritten h g reply line old new (Err e) s w = inr (record { reply = Some reply; serves = s; writes = WritesText-is old new _ _ (Err e) (sym (append-nil (shown None 0 reply ++ 10 ∷ []))) w })
