-- The order of the arguments where options come before the command.
use Rattle.std.specs.Prelude.{ℕ, suc, ◌+◌, Bool, false, not, cond, ◌&&◌, ◌||◌, List, [], ◌∷◌, ◌++◌, take, drop, bytes_eq, codes}
use Rattle.mezdruk_arguments.specs.Arguments.{is_option_argument}

-- an option that a command may follow: each but the end of the options
abbrev pub is_leading_option : List ℕ → Bool
is_leading_option w = is_option_argument w && not (bytes_eq w (codes "--"))

-- an option whose value is the next argument
abbrev pub awaits_value : List ℕ → Bool
awaits_value w = bytes_eq w (codes "--indent") || bytes_eq w (codes "--document")

-- how many arguments come before the command: options, each with its value; the first may be the value of one before it
abbrev pub leading_options : Bool → List (List ℕ) → ℕ
leading_options is_value [] = 0
leading_options is_value (w ∷ ws) = cond (is_value || is_leading_option w) (suc (leading_options (not is_value && awaits_value w) ws)) 0

-- the argument of this index before the others, if there is one
abbrev pub moved_first : ℕ → List (List ℕ) → List (List ℕ)
moved_first i ws = take 1 (drop i ws) ++ take i ws ++ drop (i + 1) ws

-- the arguments with the command before the options that came first
abbrev pub command_first : List (List ℕ) → List (List ℕ)
command_first ws = moved_first (leading_options false ws) ws
