-- What a style asks for.
use Rattle.std.specs.Prelude.{ℕ, List, Bool, Option, option_map}
use Rattle.json_grammar.specs.Tree.{Tree}
use Rattle.json_layout.specs.Shown.{shown_as}
use Rattle.json_layout.specs.declared.style.Style.{Style}

-- the bytes of the indent, or none for no whitespace
abbrev pub indent_of : Style → Option (List ℕ)
indent_of s = option_map (λ t. t.now) s.indent

-- whether the members of each object are in the order of their keys
abbrev pub is_sorted : Style → Bool
is_sorted s = s.sorted

-- the text of a tree in a style
abbrev pub printed : Style → Tree → List ℕ
printed s t = shown_as (indent_of s) (is_sorted s) t
