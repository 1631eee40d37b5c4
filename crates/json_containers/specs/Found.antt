-- What a search for a key tells.
use Rattle.std.specs.Prelude.{◌≡◌, ◌⊎◌, Option, Some, None, Result, Ok, Err}
use Rattle.std.specs.Borrow.{MutBor}
use Rattle.json_grammar.specs.Tree.{Tree}
use Rattle.json_io.specs.Errors.{no_memory, not_found}
use Rattle.json_io.specs.declared.error.Error.{Error}
use Rattle.json_value.specs.Denotes.{tree_of}
use Rattle.json_value.specs.declared.value.Value.{Value}

-- the value that is there, or that there is none; want of memory only under P
abbrev pub Finds : Type 0 → Option Tree → Result (MutBor Value) Error → Type 0
Finds P o (Ok x) = o ≡ Some (tree_of x.now)
Finds P o (Err e) = ((e ≡ no_memory) × P) ⊎ ((e ≡ not_found) × (o ≡ None))
