-- The help that arguments ask for.
use Rattle.std.specs.Prelude.{ℕ, List, [], ◌∷◌, Option, None, cond, ◌||◌, bytes_eq, codes}
use Rattle.mezdruk_arguments.specs.declared.verb.Verb.{Verb}
use Rattle.mezdruk_arguments.specs.Arguments.{verb_in}

-- the name of a command and `--help` or `-h`, alone, ask for the help of the command
abbrev pub help_asked : List (List ℕ) → Option Verb
help_asked (command ∷ help ∷ []) = cond (bytes_eq help (codes "--help") || bytes_eq help (codes "-h")) (verb_in command) None
help_asked _ = None
