use Rattle.std.proofs.Common.{sym, subst}
use Rattle.json_model.specs.Print.{IsIndent}
use Rattle.mezdruk_arguments.proofs.Indents.{indent_is_whitespace}
use Rattle.mezdruk_arguments.proofs.setting.Settings.style_for.Goals as goal

pub unreachable-requires : goal.unreachable-requires
unreachable-requires c = c.in-None.ensures (subst IsIndent (sym c.indent.ensures.text) (indent_is_whitespace c.layout_for.result))
