use Rattle.std.proofs.Common.{sym, ap, ◌∙◌, take, drop}
use Rattle.mezdruk_files.proofs.FoundLayouts.{run_is}
use Rattle.mezdruk_files.proofs.found_layout.split_whitespace.Goals as goal

pub returns-clause-gap : goal.returns-clause-gap
returns-clause-gap c =
    let b = c.args.bytes.now in
    let ends = c.ws_run.ensures.ends in
    c.split_at.ensures.front ∙ ap (λ n. take n b) (sym (run_is b c.ws_run.result ends.within ends.run ends.stop))

pub returns-clause-rest : goal.returns-clause-rest
returns-clause-rest c =
    let b = c.args.bytes.now in
    let ends = c.ws_run.ensures.ends in
    c.split_at.ensures.back ∙ ap (λ n. drop n b) (sym (run_is b c.ws_run.result ends.within ends.run ends.stop))
