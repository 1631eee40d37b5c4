use Rattle.std.proofs.Common.{take, arith, rules}
use Rattle.std.proofs.lemmas.Grind.{common_steps}
use Rattle.mezdruk_files.proofs.HandledInputs.{reads_more}
use Rattle.mezdruk_files.proofs.line_input.read_more.Goals as goal

pub returns-in-Ok-extend_from_slice-clause-ok : goal.returns-in-Ok-extend_from_slice-clause-ok
returns-in-Ok-extend_from_slice-clause-ok g c =
    reads_more _ _ _ _ _ _ c.in-Ok.ensures.reads (omega (arith, c.in-Ok.ensures.bound)) (first_of (omega (arith, c.requires.some), grind (arith, common_steps), search rules)) c.in-Ok-extend_from_slice.ensures.items

pub returns-in-Err-extend_from_slice-clause-err : goal.returns-in-Err-extend_from_slice-clause-err
returns-in-Err-extend_from_slice-clause-err g c = (take c.in-Ok.count _, c.in-Ok.ensures.reads.gives)

pub returns-in-Err-clause-err : goal.returns-in-Err-clause-err
returns-in-Err-clause-err g c = (c.in-Err.ensures.reads.left_err, c.in-Err.ensures.reads.faults_err)
