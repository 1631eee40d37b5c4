-- The rules of the command line: what an argument is after those before it, whether it may follow,
-- and what it adds.
use Rattle.std.specs.Prelude.{◌≡◌, ℕ, ⊤, Bool, true, false, not, cond, ◌&&◌, ◌==◌, List, [], ◌∷◌, ◌++◌, length, slice_get, Option, Some, None, is_some, unwrap_or, option_map, option_and_then, bytes_eq, codes}
use Rattle.std.specs.List.{list_any}
use Rattle.mezdruk_arguments.specs.declared.verb.Verb.{Verb}
use Rattle.mezdruk_arguments.specs.declared.operand.OperandKind.{OperandKind}
use Rattle.mezdruk_arguments.specs.declared.operand.OperandKind.TheVariants as kind
use Rattle.mezdruk_arguments.specs.declared.setting.Setting.{Setting}
use Rattle.mezdruk_arguments.specs.declared.setting.Setting.TheVariants.{InPlace, StringValue}
use Rattle.mezdruk_arguments.specs.declared.setting.Setting.TheVariants as setting
use Rattle.mezdruk_arguments.specs.declared.setting.RequestedLayout.TheVariants.{Compact, Spaces}
use Rattle.mezdruk_arguments.specs.declared.setting.Settings.{Settings}
use Rattle.mezdruk_arguments.specs.declared.line.ArgumentRole.{ArgumentRole}
use Rattle.mezdruk_arguments.specs.declared.line.ArgumentRole.TheVariants as role
use Rattle.mezdruk_arguments.specs.Arguments.{verb_in, setting_in, takes, source_in, path_in_option, option_value, operands_of, kind_read, is_option_argument, is_standard_input, no_settings, with_setting, rules_of_stream}
use Rattle.mezdruk_arguments.specs.Operands.{IsOperand}
use Rattle.json_command.specs.Options.{width_in}

-- what the arguments so far ask for
pub record ParsedArguments : Type 0 where
  pub verb : Option Verb
  pub settings : Settings
  pub ended : Bool
  -- `--indent` is the last argument, and its number has to follow
  pub awaits_width : Bool
  pub source : Option (List ℕ)
  -- each with the kind by which it is read
  pub operands : List (OperandKind × List ℕ)
  pub files : List (List ℕ)

abbrev pub nothing_asked : ParsedArguments
nothing_asked = record { verb = None; settings = no_settings; ended = false; awaits_width = false; source = None; operands = []; files = [] }

-- the operands of the command
abbrev pub operands_asked : ParsedArguments → List OperandKind
operands_asked s = elim s.verb [ Some v ↦ operands_of v | None ↦ [] ]

-- the next operand: no option names a file for it, and there are fewer operands than the command
-- has
abbrev pub next_operand : ParsedArguments → Option OperandKind
next_operand s = cond (is_some s.source) None (slice_get (operands_asked s) (length s.operands))

-- the kind by which it is read
abbrev pub missing_operand : ParsedArguments → Option OperandKind
missing_operand s = option_map (kind_read s.settings) (next_operand s)

-- the file that an argument names for the operand
abbrev pub source_named : ParsedArguments → List ℕ → Option (List ℕ)
source_named s w = option_and_then (λ v. source_in v w) s.verb

-- ---- what an argument is

-- where a command is expected
abbrev pub command_role : List ℕ → ArgumentRole
command_role w = elim (verb_in w) [ Some v ↦ role.Command v | None ↦ role.Unknown ]

-- `--indent` alone, of a command that has layouts: the next argument is the number
abbrev pub is_width_name : Verb → List ℕ → Bool
is_width_name v w = bytes_eq w (codes "--indent") && takes v (setting.Layout Compact)

-- an option of a command
abbrev pub option_role : Verb → List ℕ → ArgumentRole
option_role v w = cond (is_some (source_in v w)) role.Source (cond (is_some (path_in_option v w)) role.Path (cond (is_width_name v w) role.WidthName (elim (setting_in w) [ Some x ↦ cond (takes v x) (role.Setting x) role.Unknown | None ↦ role.Unknown ])))

-- an operand as long as one is missing, and then a file
abbrev pub operand_role : Option OperandKind → ArgumentRole
operand_role (Some kind) = role.Operand kind
operand_role None = role.File

-- an argument after the command
abbrev pub argument_role : Verb → Bool → Option OperandKind → List ℕ → ArgumentRole
argument_role v ended missing w =
    cond (bytes_eq w (codes "--") && not ended) role.EndOfOptions
    (cond (is_option_argument w && not ended) (option_role v w) (operand_role missing))

abbrev pub role_in : ParsedArguments → List ℕ → ArgumentRole
role_in s w = elim s.verb [ Some v ↦ cond s.awaits_width role.Width (argument_role v s.ended (missing_operand s) w) | None ↦ command_role w ]

-- ---- whether it may follow

-- standard input cannot be changed in place
abbrev pub in_place_and_input : Setting → List (List ℕ) → Bool
in_place_and_input InPlace files = list_any is_standard_input files
in_place_and_input _ files = false

-- no operand and no file was given
abbrev pub has_no_operands : ParsedArguments → Bool
has_no_operands s = length s.operands == 0 && length s.files == 0

-- an option that says how a value is read precedes it
abbrev pub comes_late : Option OperandKind → Setting → Bool
comes_late missing StringValue = not (is_some missing)
comes_late missing _ = false

-- each option is asked for once, and none for rules of a stream; a file for the operand precedes
-- operands and files
abbrev pub allows : ParsedArguments → List ℕ → ArgumentRole → Bool
allows s w (role.Setting x) = is_some (with_setting s.settings x) && (not (in_place_and_input x s.files) && (not (rules_of_stream s.settings x) && not (comes_late (missing_operand s) x)))
allows s w role.WidthName = not (is_some s.settings.layout)
allows s w role.Width = is_some (width_in w)
allows s w role.Source = is_some (source_named s w) && (not (is_some s.source) && has_no_operands s)
allows s w role.File = not (is_standard_input w && s.settings.in_place)
allows s w role.Unknown = false
allows s w _ = true

-- an operand has its form
abbrev pub FormsOperand : List ℕ → ArgumentRole → Type 0
FormsOperand w (role.Operand kind) = IsOperand kind w
FormsOperand w role.Path = IsOperand kind.Path (option_value w)
FormsOperand w _ = ⊤

pub record MayTake (s : ParsedArguments) (w : List ℕ) (r : ArgumentRole) : Type 0 where
  pub allowed : allows s w r ≡ true
  pub operand : FormsOperand w r

abbrev pub MayFollow : ParsedArguments → List ℕ → Type 0
MayFollow s w = MayTake s w (role_in s w)

-- ---- what it adds

abbrev pub add_argument : ParsedArguments → List ℕ → ArgumentRole → ParsedArguments
add_argument s w (role.Command v) = record s { verb = Some v }
add_argument s w role.EndOfOptions = record s { ended = true }
add_argument s w (role.Setting x) = record s { settings = unwrap_or (with_setting s.settings x) s.settings }
add_argument s w role.WidthName = record s { awaits_width = true }
add_argument s w role.Width = record s { awaits_width = false; settings = record s.settings { layout = option_map Spaces (width_in w) } }
add_argument s w role.Source = record s { source = source_named s w }
add_argument s w (role.Operand kind) = record s { operands = s.operands ++ (kind, w) ∷ [] }
add_argument s w role.Path = record s { operands = s.operands ++ (kind.Path, option_value w) ∷ [] }
add_argument s w role.File = record s { files = s.files ++ w ∷ [] }
add_argument s w role.Unknown = s

abbrev pub with_argument : ParsedArguments → List ℕ → ParsedArguments
with_argument s w = add_argument s w (role_in s w)

-- ---- all arguments

-- there is a command, no operand and no number is missing, and there is a file if files are changed in place
abbrev pub is_complete : ParsedArguments → Bool
is_complete s = is_some s.verb && not (is_some (missing_operand s)) && not s.awaits_width && not (length s.files == 0 && s.settings.in_place)

-- each may follow those before it
abbrev pub MayFollowAll : ParsedArguments → List (List ℕ) → Type 0
MayFollowAll s [] = ⊤
MayFollowAll s (w ∷ ws) = MayFollow s w × MayFollowAll (with_argument s w) ws

-- what they ask for
abbrev pub with_arguments : ParsedArguments → List (List ℕ) → ParsedArguments
with_arguments s [] = s
with_arguments s (w ∷ ws) = with_arguments (with_argument s w) ws

-- the arguments are those of a command
pub record IsCommandLine (ws : List (List ℕ)) : Type 0 where
  pub follow : MayFollowAll nothing_asked ws
  pub complete : is_complete (with_arguments nothing_asked ws) ≡ true

-- the arguments begin those of a command
abbrev pub BeginsCommandLine : List (List ℕ) → Type 0
BeginsCommandLine ws = (more : List (List ℕ)) × IsCommandLine (ws ++ more)
