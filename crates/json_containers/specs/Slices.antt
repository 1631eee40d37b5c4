-- The elements of an array that are lent, all at once.
use Rattle.std.specs.Prelude.{◌≡◌, List, ◌++◌, length, map, take, drop, Result, Ok, Err, Vec}
use Rattle.std.specs.Borrow.{MutBor}
use Rattle.std.specs.declared.alloc.Global.{Global}
use Rattle.json_io.specs.Errors.{no_memory}
use Rattle.json_io.specs.declared.error.Error.{Error}
use Rattle.json_value.specs.Denotes.{tree_of, list_in}
use Rattle.json_value.specs.Positions.{IsPlace}
use Rattle.json_value.specs.Written.{FirstElements}
use Rattle.json_value.specs.declared.container.Container.{Container}
use Rattle.json_value.specs.declared.value.Value.{Value}

-- the elements with these written over as many of them: over all, if there are as many
abbrev pub written_over : List Value → List Value → List Value
written_over items ws = take (length items) (ws ++ drop (length ws) items)

-- the elements of the array are lent, as its first write leaves them; memory runs out for a place alone
abbrev pub LendsElements : Container Value → Result (MutBor (Vec Value Global)) Error → Type 0
LendsElements a (Ok list) = (map tree_of list.now.items ≡ list_in a) × FirstElements a list.now.items
LendsElements a (Err e) = (e ≡ no_memory) × ((IsPlace a → ⊥) → ⊥)
