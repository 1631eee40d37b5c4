use Rattle.std.proofs.Common.{arith}
use Rattle.std.proofs.lemmas.Str.Pattern.{strip_prefix_char}
use Rattle.json_patch.proofs.PointerParsing.{no_slash}
use Rattle.json_patch.proofs.pointer.Pointer.parse.Goals as goal

pub returns-in-None-clause-refused : goal.returns-in-None-clause-refused
returns-in-None-clause-refused c =
    let none = rw c.in-None.is at (strip_prefix_char 47 c.args.text.now c.strip_prefix.result c.strip_prefix.ensures.cases (omega arith)) in
    rw c.bad_pointer.ensures (no_slash c.args.text.now (λ e. let h = rw e at c.if-is_empty.ensures in cc) none)
