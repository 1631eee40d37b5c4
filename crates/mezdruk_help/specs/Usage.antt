-- Which arguments a program takes, by the table of its options, and the first one that does not fit those before it.
use Rattle.std.specs.Prelude.{◌≡◌, ◌⊎◌, ℕ, ◌<◌, ◌+◌, Bool, true, false, cond, ◌||◌, ◌==◌, nat_le, List, [], ◌∷◌, ◌++◌, length, take, Option, Some, None, is_some, option_map, slice_get, bytes_eq, codes, decimal}
use Rattle.std.specs.List.{before_first, after_first}
use Rattle.json_text.specs.Ruled.{usual_rules}
use Rattle.json_io.specs.Outside.{SinkState}
use Rattle.json_command.specs.Input.{IsValid}
use Rattle.json_command.specs.Options.{number_after}
use Rattle.json_command.specs.Reporting.{Reports}
use Rattle.mezdruk_help.specs.declared.usage.OptionForm.{OptionForm}
use Rattle.mezdruk_help.specs.declared.usage.OptionValue.{OptionValue}
use Rattle.mezdruk_help.specs.declared.usage.OptionValue.TheVariants.{Nothing, Number, Text}
use Rattle.mezdruk_help.specs.declared.usage.Usage.{Usage}

-- ---- one argument

-- an argument that begins with a hyphen is an option
abbrev pub is_option : List ℕ → Bool
is_option w = bytes_eq (take 1 w) (codes "-")

-- the bytes before the first equals sign, and those after it
abbrev pub name_before_equals : List ℕ → List ℕ
name_before_equals w = before_first (λ x. x == 61) w

abbrev pub value_after_equals : List ℕ → List ℕ
value_after_equals w = after_first (λ x. x == 61) w

-- the first option of the table that has this name
abbrev pub option_named : List OptionForm → List ℕ → Option OptionForm
option_named [] name = None
option_named (o ∷ os) name = cond (bytes_eq o.name.now name) (Some o) (option_named os name)

-- what follows the name is what the option takes
abbrev pub FitsOption : OptionForm → OptionValue → List ℕ → Type 0
FitsOption o Nothing w = w ≡ o.name.now
FitsOption o (Number max) w = is_some (number_after o.name.now max w) ≡ true
FitsOption o (Text value) w = IsValid usual_rules (value_after_equals w)

-- the group of an argument, where the program takes such a one
abbrev pub group_of : Usage → List ℕ → Option ℕ
group_of usage w = cond (is_option w) (option_map (λ o. o.group) (option_named usage.options.now (name_before_equals w))) (option_map (λ o. 0) usage.operand)

-- an operand is a JSON text (RFC 8259), and an option has the value that it takes
abbrev pub FitsAlone : Usage → List ℕ → Type 0
FitsAlone usage w = elim (is_option w) [ true ↦ elim (option_named usage.options.now (name_before_equals w)) [ Some o ↦ FitsOption o o.value w | None ↦ ⊥ ] | false ↦ IsValid usual_rules w ]

-- ---- an argument after those before it

-- at most one argument of a group is given, and one of the group 255 without any other
abbrev pub groups_exclude : ℕ → ℕ → Bool
groups_exclude a b = (a == b) || ((a == 255) || (b == 255))

-- whether an argument excludes one of the group
abbrev pub excludes : Usage → ℕ → List ℕ → Bool
excludes usage group w = elim (group_of usage w) [ Some g ↦ groups_exclude g group | None ↦ false ]

-- no argument before this index excludes one of the group
abbrev pub IsFree : Usage → List (List ℕ) → ℕ → ℕ → Type 0
IsFree usage ws i group = (j : ℕ) → j < i → (v : List ℕ) → slice_get ws j ≡ Some v → excludes usage group v ≡ false

-- the program takes the argument of this index, its value has its form, and none before it excludes it
pub record FitsAt (usage : Usage) (ws : List (List ℕ)) (i : ℕ) : Type 0 where
  pub word : List ℕ
  pub is : slice_get ws i ≡ Some word
  pub group : ℕ
  pub belongs : group_of usage word ≡ Some group
  pub free : IsFree usage ws i group
  pub value : FitsAlone usage word

-- it is the first that does not fit
pub record FirstInvalid (usage : Usage) (ws : List (List ℕ)) (i : ℕ) : Type 0 where
  pub within : i < length ws
  pub before : (j : ℕ) → j < i → FitsAt usage ws j
  pub invalid : ¬ (FitsAt usage ws i)

-- all fit
abbrev pub AllFit : Usage → List (List ℕ) → Type 0
AllFit usage ws = (j : ℕ) → j < length ws → FitsAt usage ws j

-- ---- what is reported of it

-- an argument between backquotes, or its number, from 1 on, where it is longer than 80 bytes
abbrev pub argument_name : ℕ → List ℕ → List ℕ
argument_name i w = cond (nat_le (length w) 80) (codes "`" ++ w ++ codes "`") (codes "argument " ++ decimal (i + 1))

-- the name of the program, and what is said around the name of an argument
abbrev pub report_line : List ℕ → List ℕ → List ℕ → List ℕ → List ℕ
report_line program before argument after = program ++ codes ": " ++ before ++ argument ++ after ++ codes "\n"

-- the report names the argument of this index
pub record Names (program : List ℕ) (ws : List (List ℕ)) (i : ℕ) (text : List ℕ) : Type 0 where
  pub word : List ℕ
  pub is : slice_get ws i ≡ Some word
  pub before : List ℕ
  pub after : List ℕ
  pub line : text ≡ report_line program before (argument_name i word) after

-- and a text follows it
abbrev pub NamesBefore : List ℕ → List (List ℕ) → ℕ → List ℕ → List ℕ → Type 0
NamesBefore program ws i hint text = (line : List ℕ) × Names program ws i line × (text ≡ line ++ hint)

-- where to look for help was reported, after the line of the first invalid argument unless memory ran out
pub record ExplainsUsage (usage : Usage) (ws : List (List ℕ)) (errs errs' : SinkState) : Type 0 where
  pub text : List ℕ
  pub first : ((i : ℕ) → FirstInvalid usage ws i → NamesBefore usage.program.now ws i usage.about.hint.now text) ⊎ (text ≡ usage.about.hint.now)
  pub reports : Reports text errs errs'
