use Rattle.std.proofs.Common.{sym, ap, ◌∙◌, ◌+◌, Some}
use Rattle.std.proofs.lemmas.List.{take_rest}
use Rattle.mezdruk_files.proofs.FoundLayouts.{after_newline-at, after_newline-none}
use Rattle.mezdruk_files.proofs.found_layout.after_newline.Goals as goal

pub returns-in-Some : goal.returns-in-Some
returns-in-Some c =
    let b = c.args.bytes.now in
    let last = c.in-Some.ensures in
    ap Some (take_rest b (c.in-Some.newline + 1)) ∙ sym (after_newline-at b c.in-Some.newline last.0.high last.1 last.0.after)

pub returns-in-None : goal.returns-in-None
returns-in-None c = sym (after_newline-none c.args.bytes.now c.in-None.ensures)
