use Rattle.std.proofs.Common.{refl}
use Rattle.mezdruk_files.proofs.FirstLines.{blank_known}
use Rattle.mezdruk_files.proofs.part.is_blank.Goals as goal

pub returns : goal.returns
returns c = blank_known c.args.line.now c.ws_run.result _ refl c.ws_run.ensures.ends.within c.ws_run.ensures.ends.run c.ws_run.ensures.ends.stop
