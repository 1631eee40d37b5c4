use Rattle.std.proofs.Common.{◌≡◌, ◌-◌, length, take, drop, arith, length-drop}
use Rattle.std.proofs.lemmas.List.{take_all}
use Rattle.json_layout.proofs.QuotedParts.{quoted_whole, lead_failed, blocks_failed}
use Rattle.json_layout.proofs.buffered.BufferedWriter.put_quoted.Goals as goal

pub returns-in-Err : goal.returns-in-Err
returns-in-Err g c = lead_failed _ _ c.args.first c.args.text.now _ c.in-Err.ensures

pub returns-in-Err-put_blocks : goal.returns-in-Err-put_blocks
returns-in-Err-put_blocks g c = blocks_failed _ _ _ c.args.first c.args.text.now _ _ c.in-Ok.ensures c.in-Err-put_blocks.ensures.failed

pub returns-in-Ok-put_blocks : goal.returns-in-Ok-put_blocks
returns-in-Ok-put_blocks g c =
    let t = c.args.text.now in let at = c.in-Ok-put_blocks.at in
    let rest : take (length t - at) (drop at t) ≡ drop at t = take_all (length t - at) (drop at t) (omega (arith, length-drop at t)) in
    quoted_whole _ _ _ _ c.args.first t _ at _ _ _ rest c.in-Ok.ensures c.in-Ok-put_blocks.ensures.put c.put_last.ensures
