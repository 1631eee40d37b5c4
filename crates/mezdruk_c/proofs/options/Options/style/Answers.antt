use Rattle.std.proofs.Common.{option_map, sym}
use Rattle.mezdruk_c.proofs.Indents.{indent_is}
use Rattle.mezdruk_c.proofs.options.Options.style.Goals as goal

pub style_of-requires : goal.style_of-requires
style_of-requires c = indent_is c.args.self.now.indent (option_map (λ s. s.now) c.in-Some.indent) (sym c.in-Some.ensures)
