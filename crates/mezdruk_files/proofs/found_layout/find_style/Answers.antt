use Rattle.std.proofs.Common.{sym, subst}
use Rattle.json_model.specs.Print.{IsIndent}
use Rattle.mezdruk_files.proofs.FoundLayouts.{indent_is_whitespace}
use Rattle.mezdruk_files.proofs.found_layout.find_style.Goals as goal

pub unreachable-requires : goal.unreachable-requires
unreachable-requires c = c.in-None.ensures (subst IsIndent (sym c.find_indent.ensures) (indent_is_whitespace c.args.bytes.now))
