use Rattle.mezdruk_files.proofs.FoundLayouts.{utf8_whitespace}
use Rattle.mezdruk_files.proofs.found_layout.whitespace_text.Goals as goal

pub unreachable-requires : goal.unreachable-requires
unreachable-requires c = c.in-Err.ensures.cases.0 (utf8_whitespace c.args.space.now c.requires)
