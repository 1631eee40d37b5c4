-- What printing a node returns.
use Rattle.std.specs.Prelude.{◌≡◌, ◌⊎◌, ℕ, List, Option, Some, None}
use Rattle.json_grammar.specs.Tree.{Tree}
use Rattle.json_layout.specs.Styles.{printed}
use Rattle.json_layout.specs.declared.style.Style.{Style}
use Rattle.json_io.specs.Errors.{no_memory, not_found}
use Rattle.mezdruk_c.specs.declared.failure.Failure.{Failure}
use Rattle.mezdruk_c.specs.declared.failure.Failure.TheVariants.{Options as bad_options, Text}
use Rattle.mezdruk_c.specs.declared.options.Options.{Options}
use Rattle.mezdruk_c.specs.Asked.{AreOptions, text_by_options}

-- there is a tree, and the output is its text in the style
abbrev pub IsPrintedTree : Style → Option Tree → List ℕ → Type 0
IsPrintedTree style (Some tree) output = output ≡ printed style tree
IsPrintedTree style None output = ⊥

-- memory ran out, or there is no tree
abbrev pub FailsToPrint : Option Tree → Failure → Type 0
FailsToPrint tree (Text e) = (e ≡ no_memory) ⊎ ((e ≡ not_found) × (tree ≡ None))
FailsToPrint tree failure = ⊥

-- there is a tree, and the output is its text in the layout of the options
abbrev pub PrintsNode : Options → Option Tree → List ℕ → Type 0
PrintsNode o (Some tree) output = text_by_options o tree ≡ Some output
PrintsNode o None output = ⊥

-- the options are not valid, or there is no tree, or memory ran out
abbrev pub PrintFails : Options → Option Tree → Failure → Type 0
PrintFails o tree bad_options = ¬ (AreOptions o)
PrintFails o tree failure = FailsToPrint tree failure
