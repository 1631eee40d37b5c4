use Rattle.reshape.proofs.Spelled.{word_spells}
use Rattle.mezdruk_c.proofs.EditedTexts.{edits_not_read}
use Rattle.mezdruk_c.proofs.edit.read_edits.Goals as goal

pub returns-in-Ok-clause-ok : goal.returns-in-Ok-clause-ok
returns-in-Ok-clause-ok c = word_spells c.args.edits.now c.in-Ok.list.items (λ l. cc (c.in-Ok.ensures.large l)) c.in-Ok.ensures.ok

pub returns-in-Err-clause-failed : goal.returns-in-Err-clause-failed
returns-in-Err-clause-failed c = edits_not_read c.args.edits.now c.in-Err.error.code c.in-Err.error.place c.in-Err.ensures.err
