use Rattle.std.proofs.Common.{sym, ap, ◌∙◌, Some}
use Rattle.mezdruk_files.specs.FoundLayouts.{after_newline, gap_after_bracket}
use Rattle.mezdruk_files.proofs.FoundLayouts.{ws_indent}
use Rattle.mezdruk_files.proofs.found_layout.find_indent.Goals as goal

pub whitespace_text-requires : goal.whitespace_text-requires
whitespace_text-requires c =
    ws_indent c.args.bytes.now c.in-Some.space.now (sym (c.in-Some.ensures ∙ ap after_newline c.gap_after_bracket.ensures ∙ ap (λ b. after_newline (gap_after_bracket b)) c.split_whitespace.ensures.rest))
