use Rattle.std.proofs.Common.{inl, refl, ap, sym, subst, ◌∙◌, drop}
use Rattle.std.proofs.lemmas.List.{take_rest}
use Rattle.memchr.specs.Find.{IsLastByte, is_byte}
use Rattle.mezdruk_files.proofs.WholeLines.{after_last, none_from, up_to_last}
use Rattle.mezdruk_files.proofs.line_input.end_of_lines.Goals as goal

pub returns-in-Some-clause-whole : goal.returns-in-Some-clause-whole
returns-in-Some-clause-whole c =
    let last = rw take_rest at c.in-Some.ensures in
    up_to_last c.args.held.now c.args.from c.in-Some.last last.0.high last.1

pub returns-in-Some-clause-unended : goal.returns-in-Some-clause-unended
returns-in-Some-clause-unended c =
    let last = rw take_rest at c.in-Some.ensures in
    λ h. after_last c.args.held.now c.args.from c.in-Some.last last.0.after

pub returns-in-None-clause-whole : goal.returns-in-None-clause-whole
returns-in-None-clause-whole c = inl refl

pub returns-in-None-clause-unended : goal.returns-in-None-clause-unended
returns-in-None-clause-unended c =
    let none = rw take_rest at c.in-None.ensures in
    λ h. none_from c.args.held.now c.args.from h none
