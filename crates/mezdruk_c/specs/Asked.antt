-- What options ask for.
use Rattle.std.specs.Prelude.{ℕ, List, ◌≤◌, ◌==◌, not, Bool, Option, option_map, IsSome}
use Rattle.json_grammar.specs.Rules.{Rules}
use Rattle.json_grammar.specs.Tree.{Tree}
use Rattle.json_layout.specs.Shown.{shown_as}
use Rattle.mezdruk_c.specs.declared.options.Options.{Options}
use Rattle.mezdruk_c.specs.Layouts.{indent_asked}

-- they ask for no more levels than can be read
abbrev pub HasRules : Options → Type 0
HasRules o = o.depth ≤ 1024

-- the rules by which a text is read
abbrev pub rules_of_options : Options → Rules
rules_of_options o = record { limit = o.depth; unique = not (o.unique_keys == 0) }

-- whether members are sorted
abbrev pub sorts_asked : Options → Bool
sorts_asked o = not (o.sort_keys == 0)

-- the text of a tree in the layout, if there is such an indent
abbrev pub text_by_options : Options → Tree → Option (List ℕ)
text_by_options o tree = option_map (λ indent. shown_as indent (sorts_asked o) tree) (indent_asked o.indent)

-- they are valid
abbrev pub AreOptions : Options → Type 0
AreOptions o = HasRules o × IsSome (indent_asked o.indent)
