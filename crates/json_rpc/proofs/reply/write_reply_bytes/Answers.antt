use Rattle.json_layout.proofs.ShownParts.{added_shows}
use Rattle.json_rpc.proofs.reply.write_reply_bytes.Goals as goal

pub returns : goal.returns
returns g c = c.answered.ensures.text 0 _ _ _ (added_shows _ _ _ _ c.show_piece.ensures)
