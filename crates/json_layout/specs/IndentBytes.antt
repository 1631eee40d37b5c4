-- What an indent consists of.
use Rattle.std.specs.Prelude.{ℕ, List}
use Rattle.json_layout.specs.declared.indent.Indent.{Indent}

-- its bytes
abbrev pub indent_bytes : Indent → List ℕ
indent_bytes i = i.bytes.now
