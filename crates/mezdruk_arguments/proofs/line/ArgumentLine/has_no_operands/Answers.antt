use Rattle.std.proofs.Common.{◌≡◌, ◌==◌, rules, length}
use Rattle.mezdruk_arguments.proofs.Lines.{words_length, files_length, both_empty}
use Rattle.mezdruk_arguments.proofs.line.ArgumentLine.has_no_operands.Goals as goal

pub returns-then-is_empty : goal.returns-then-is_empty
returns-then-is_empty c =
    λ s h.
    let line = c.args.self.now in
    let operands : c.is_empty.result ≡ (length line.operands.items == 0) = search rules in
    let files : c.is_empty-then-is_empty.result ≡ (length line.files.items == 0) = search rules in
    both_empty _ _ _ _ _ _ operands c.if-is_empty.true files (words_length s.operands _ h.operands) (files_length _ s.files h.files)
