-- What the arguments of the command line ask for, or the first that makes them invalid.
use Rattle.std.specs.Prelude.{◌≡◌, ℕ, ◌+◌, ◌<◌, ⊤, true, List, length, take, map, Some, option_map}
use Rattle.mezdruk_arguments.specs.declared.arguments.Arguments.{Arguments}
use Rattle.mezdruk_arguments.specs.declared.problem.ArgumentsError.{ArgumentsError}
use Rattle.mezdruk_arguments.specs.declared.problem.ArgumentsError.TheVariants.{OutOfMemory, Invalid, Incomplete}
use Rattle.mezdruk_arguments.specs.CommandLine.{ParsedArguments, nothing_asked, is_complete, with_arguments, IsCommandLine, BeginsCommandLine}
use Rattle.json_value.specs.Denotes.{tree_of}
use Rattle.mezdruk_arguments.specs.Line.{SpellAll}

-- they are what is asked for, and nothing is missing
pub record Finishes (a : Arguments) (s : ParsedArguments) : Type 0 where
  pub complete : is_complete s ≡ true
  pub verb : Some a.verb ≡ s.verb
  pub settings : a.settings ≡ s.settings
  pub source : option_map (λ f. f.now) a.source ≡ s.source
  pub operands : SpellAll s.operands (map tree_of a.operands.items)
  pub files : map (λ f. f.now) a.files.items ≡ s.files

-- the arguments are those of a command, and ask for this
pub record ParsesTo (ws : List (List ℕ)) (a : Arguments) : Type 0 where
  pub valid : IsCommandLine ws
  pub asked : Finishes a (with_arguments nothing_asked ws)

-- the argument of this index is the first that makes the arguments invalid: those before it begin the arguments of a
-- command, and with it they begin none
pub record IsFirstInvalid (ws : List (List ℕ)) (index : ℕ) : Type 0 where
  pub within : index < length ws
  pub before : BeginsCommandLine (take index ws)
  pub none : ¬ (BeginsCommandLine (take (index + 1) ws))

-- the arguments begin those of a command, and more are missing
pub record IsUnfinishedCommandLine (ws : List (List ℕ)) : Type 0 where
  pub begins : BeginsCommandLine ws
  pub unfinished : ¬ (IsCommandLine ws)

-- why arguments are refused
abbrev pub RefusesCommandLine : List (List ℕ) → ArgumentsError → Type 0
RefusesCommandLine ws OutOfMemory = ⊤
RefusesCommandLine ws (Invalid index problem) = IsFirstInvalid ws index
RefusesCommandLine ws (Incomplete missing) = IsUnfinishedCommandLine ws
