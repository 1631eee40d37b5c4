-- What is left of an array of which the beginning was written.
use Rattle.std.specs.Prelude.{◌≡◌, List, [], ◌∷◌, ◌++◌, Option, Some, None}
use Rattle.json_grammar.specs.declared.Kind.{Kind}
use Rattle.json_grammar.specs.declared.Kind.TheVariants.{Array as array}
use Rattle.json_grammar.specs.Tree.{end}
use Rattle.json_grammar.specs.TokenStates.{TokenState, state_in}
use Rattle.json_io.specs.declared.error.Error.{Error}
use Rattle.json_model.specs.Datum.{Datum, list_data}
use Rattle.json_print.specs.Data.{data_parts}
use Rattle.json_print.specs.Given.{TokenOrInteger, given}

-- an element of an array or its end may come, unless an error is kept
abbrev pub AcceptsElement : Option Error → TokenState → Type 0
AcceptsElement failed s = failed ≡ None → (outer : List Kind) × (s ≡ state_in (array ∷ outer))

-- elements, and the end of their array
abbrev pub elements_and_end : List Datum → List (Option TokenOrInteger)
elements_and_end ds = data_parts (list_data ds) ++ Some (given (end array)) ∷ []
