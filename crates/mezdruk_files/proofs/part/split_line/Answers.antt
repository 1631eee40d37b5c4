use Rattle.std.proofs.Common.{length, drop, ◌+◌, ◌-◌, ◌∷◌, take, ap, sym, ◌∙◌, arith}
use Rattle.std.proofs.lemmas.List.{take_rest, drop_all}
use Rattle.mezdruk_files.specs.Parts.{lines_of}
use Rattle.mezdruk_files.proofs.FirstLines.{lines_of-at, lines_of-alone}
use Rattle.mezdruk_files.proofs.part.split_line.Goals as goal

pub returns-in-Some-clause-line : goal.returns-in-Some-clause-line
returns-in-Some-clause-line c =
    let h = c.in-Some.ensures in
    lines_of-at c.args.bytes.now c.in-Some.end h.0.high h.0.before h.1 ∙ ap (λ l. take c.in-Some.end c.args.bytes.now ∷ lines_of l) (sym (take_rest c.args.bytes.now (c.in-Some.end + 1)))

pub returns-in-None-clause-line : goal.returns-in-None-clause-line
returns-in-None-clause-line c =
    lines_of-alone c.args.bytes.now c.requires c.in-None.ensures ∙ ap (λ l. c.args.bytes.now ∷ lines_of l) (sym (take_rest c.args.bytes.now (length c.args.bytes.now) ∙ drop_all (length c.args.bytes.now) c.args.bytes.now (omega arith)))
