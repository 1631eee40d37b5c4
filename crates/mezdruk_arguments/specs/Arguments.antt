-- The arguments of `mezdruk`, from the first on: which may follow, and what each adds to what is
-- asked for.
use Rattle.std.specs.Prelude.{ℕ, Bool, true, false, not, cond, ◌&&◌, ◌||◌, ◌==◌, nat_le, List, [], ◌∷◌, length, take, drop, Option, Some, None, is_some, option_map, bytes_eq, codes}
use Rattle.std.specs.List.{before_first, after_first}
use Rattle.mezdruk_arguments.specs.declared.verb.Verb.{Verb}
use Rattle.mezdruk_arguments.specs.declared.verb.Verb.TheVariants as verb
use Rattle.mezdruk_arguments.specs.declared.operand.OperandKind.{OperandKind}
use Rattle.mezdruk_arguments.specs.declared.operand.OperandKind.TheVariants as kind
use Rattle.mezdruk_arguments.specs.declared.setting.RequestedLayout.{RequestedLayout}
use Rattle.mezdruk_arguments.specs.declared.setting.RequestedLayout.TheVariants.{Compact, Spaces, Tab}
use Rattle.mezdruk_arguments.specs.declared.setting.RequestedInput.TheVariants.{Lines, Stream}
use Rattle.mezdruk_arguments.specs.declared.setting.ColorChoice.{ColorChoice}
use Rattle.mezdruk_arguments.specs.declared.setting.ColorChoice.TheVariants.{Auto, Always, Never}
use Rattle.mezdruk_arguments.specs.declared.setting.Setting.{Setting}
use Rattle.mezdruk_arguments.specs.declared.setting.Setting.TheVariants as setting
use Rattle.mezdruk_arguments.specs.declared.setting.Settings.{Settings}
use Rattle.json_command.specs.Options.{depth_in, width_in}

-- ---- the words of the command line

-- the command of a name
abbrev pub verb_in : List ℕ → Option Verb
verb_in w =
    cond (bytes_eq w (codes "fmt")) (Some verb.Fmt)
    (cond (bytes_eq w (codes "check")) (Some verb.Check)
    (cond (bytes_eq w (codes "get")) (Some verb.Get)
    (cond (bytes_eq w (codes "keys")) (Some verb.Keys)
    (cond (bytes_eq w (codes "length")) (Some verb.Length)
    (cond (bytes_eq w (codes "query")) (Some verb.Query)
    (cond (bytes_eq w (codes "edit")) (Some verb.Edit)
    (cond (bytes_eq w (codes "set")) (Some verb.Set)
    (cond (bytes_eq w (codes "insert")) (Some verb.Insert)
    (cond (bytes_eq w (codes "push")) (Some verb.Push)
    (cond (bytes_eq w (codes "remove")) (Some verb.Remove)
    (cond (bytes_eq w (codes "patch")) (Some verb.Patch)
    (cond (bytes_eq w (codes "merge")) (Some verb.Merge)
    (cond (bytes_eq w (codes "diff")) (Some verb.Diff)
    (cond (bytes_eq w (codes "overlay")) (Some verb.Overlay) None))))))))))))))

-- the operands of a command, which precede its files
abbrev pub operands_of : Verb → List OperandKind
operands_of verb.Get = kind.Path ∷ []
operands_of verb.Keys = kind.Path ∷ []
operands_of verb.Length = kind.Path ∷ []
operands_of verb.Query = kind.Query ∷ []
operands_of verb.Edit = kind.Edits ∷ []
operands_of verb.Set = kind.Path ∷ kind.Value ∷ []
operands_of verb.Push = kind.Path ∷ kind.Value ∷ []
operands_of verb.Insert = kind.Path ∷ kind.Key ∷ kind.Value ∷ []
operands_of verb.Remove = kind.Path ∷ kind.Step ∷ []
operands_of verb.Patch = kind.Patch ∷ []
operands_of verb.Merge = kind.Patch ∷ []
operands_of verb.Diff = kind.File ∷ []
operands_of _ = []

-- the layout that a word asks for
abbrev pub layout_in : List ℕ → Option RequestedLayout
layout_in w =
    cond (bytes_eq w (codes "--compact") || bytes_eq w (codes "-c")) (Some Compact)
    (cond (bytes_eq w (codes "--pretty")) (Some (Spaces 2))
    (cond (bytes_eq w (codes "--tabs")) (Some Tab)
    (cond (bytes_eq (take 9 w) (codes "--indent=")) (option_map Spaces (width_in (drop 9 w))) None)))

-- when a word asks for colors
abbrev pub color_in : List ℕ → Option ColorChoice
color_in w =
    cond (bytes_eq w (codes "--color") || bytes_eq w (codes "-C") || bytes_eq w (codes "--color=always")) (Some Always)
    (cond (bytes_eq w (codes "--color=never") || bytes_eq w (codes "-M")) (Some Never)
    (cond (bytes_eq w (codes "--color=auto")) (Some Auto) None))

-- the levels that a word asks for, or its colors
abbrev pub color_or_depth : List ℕ → Option Setting
color_or_depth w = elim (color_in w) [ Some c ↦ Some (setting.Color c) | None ↦ option_map setting.Depth (depth_in w) ]

abbrev pub setting_with_value : List ℕ → Option Setting
setting_with_value w = elim (layout_in w) [ Some l ↦ Some (setting.Layout l) | None ↦ color_or_depth w ]

-- what a word asks for as an option
abbrev pub setting_in : List ℕ → Option Setting
setting_in w =
    cond (bytes_eq w (codes "--sort-keys") || bytes_eq w (codes "-S")) (Some setting.SortKeys)
    (cond (bytes_eq w (codes "--unique-keys")) (Some setting.UniqueKeys)
    (cond (bytes_eq w (codes "--raw") || bytes_eq w (codes "-r")) (Some setting.Raw)
    (cond (bytes_eq w (codes "--string")) (Some setting.StringValue)
    (cond (bytes_eq w (codes "--merge")) (Some setting.MergePatch)
    (cond (bytes_eq w (codes "--verbose") || bytes_eq w (codes "-v")) (Some setting.Verbose)
    (cond (bytes_eq w (codes "-i") || bytes_eq w (codes "--in-place")) (Some setting.InPlace)
    (cond (bytes_eq w (codes "--bom")) (Some setting.Bom)
    (cond (bytes_eq w (codes "--lines")) (Some (setting.Input Lines))
    (cond (bytes_eq w (codes "--stream")) (Some (setting.Input Stream))
    (cond (bytes_eq w (codes "--count")) (Some setting.Count)
    (cond (bytes_eq w (codes "--exit-status") || bytes_eq w (codes "-e")) (Some setting.MustFind) (setting_with_value w))))))))))))

-- the options that each command has
abbrev pub takes : Verb → Setting → Bool
takes verb.Check (setting.Layout l) = false
takes verb.Check setting.SortKeys = false
takes verb.Check (setting.Color c) = false
takes verb.Check setting.InPlace = false
takes verb.Get setting.InPlace = false
takes verb.Keys setting.InPlace = false
takes verb.Length setting.InPlace = false
takes verb.Query setting.InPlace = false
takes verb.Diff setting.InPlace = false
takes verb.Check setting.Verbose = false
takes verb.Get setting.Verbose = false
takes verb.Keys setting.Verbose = false
takes verb.Length setting.Verbose = false
takes verb.Query setting.Verbose = false
takes verb.Diff setting.Verbose = false
takes verb.Diff (setting.Input f) = false
takes verb.Overlay (setting.Input f) = false
takes verb.Diff setting.MergePatch = true
takes _ setting.MergePatch = false
takes verb.Get setting.Raw = true
takes verb.Keys setting.Raw = true
takes verb.Query setting.Raw = true
takes _ setting.Raw = false
takes verb.Set setting.StringValue = true
takes verb.Insert setting.StringValue = true
takes verb.Push setting.StringValue = true
takes _ setting.StringValue = false
takes verb.Query setting.Count = true
takes _ setting.Count = false
takes verb.Query setting.MustFind = true
takes _ setting.MustFind = false
takes _ _ = true

-- the text after the first equals sign
abbrev pub option_value : List ℕ → List ℕ
option_value w = after_first (λ x. x == 61) w

-- the same after this name, if it is not empty
abbrev pub file_in : List ℕ → List ℕ → Option (List ℕ)
file_in name w = cond (bytes_eq (before_first (λ x. x == 61) w) name && not (length (option_value w) == 0)) (Some (option_value w)) None

-- the file that an option names for the operand of a command
abbrev pub source_in : Verb → List ℕ → Option (List ℕ)
source_in verb.Edit w = file_in (codes "--edits") w
source_in verb.Patch w = file_in (codes "--patch") w
source_in verb.Merge w = file_in (codes "--merge") w
source_in _ w = None

-- one more path, which an option of `get` names
abbrev pub path_in_option : Verb → List ℕ → Option (List ℕ)
path_in_option verb.Get w = file_in (codes "--path") w
path_in_option _ w = None

-- a word is an option: it begins with a hyphen, and no digit follows, as in a number
abbrev pub is_option_argument : List ℕ → Bool
is_option_argument (h ∷ c ∷ w) = h == 45 && not (nat_le 48 c && nat_le c 57)
is_option_argument _ = false

-- the file that is standard input
abbrev pub is_standard_input : List ℕ → Bool
is_standard_input w = bytes_eq w (codes "-")

-- no option
abbrev pub no_settings : Settings
no_settings = record { layout = None; sorted = false; unique = false; depth = None; raw = false; string_value = false; merge_patch = false; verbose = false; in_place = false; bom = false; input = None; color = None; count = false; must_find = false }

-- the settings with one more, unless there is one of its kind
abbrev pub with_setting : Settings → Setting → Option Settings
with_setting s (setting.Layout l) = cond (is_some s.layout) None (Some (record s { layout = Some l }))
with_setting s setting.SortKeys = cond s.sorted None (Some (record s { sorted = true }))
with_setting s setting.UniqueKeys = cond s.unique None (Some (record s { unique = true }))
with_setting s (setting.Depth n) = cond (is_some s.depth) None (Some (record s { depth = Some n }))
with_setting s setting.Raw = cond s.raw None (Some (record s { raw = true }))
with_setting s setting.StringValue = cond s.string_value None (Some (record s { string_value = true }))
with_setting s setting.MergePatch = cond s.merge_patch None (Some (record s { merge_patch = true }))
with_setting s setting.Verbose = cond s.verbose None (Some (record s { verbose = true }))
with_setting s setting.InPlace = cond s.in_place None (Some (record s { in_place = true }))
with_setting s setting.Bom = cond s.bom None (Some (record s { bom = true }))
with_setting s (setting.Input f) = cond (is_some s.input) None (Some (record s { input = Some f }))
with_setting s (setting.Color c) = cond (is_some s.color) None (Some (record s { color = Some c }))
with_setting s setting.Count = cond s.count None (Some (record s { count = true }))
with_setting s setting.MustFind = cond s.must_find None (Some (record s { must_find = true }))

-- an operand is read as its kind, and a value as a string where that is asked for
abbrev pub kind_read : Settings → OperandKind → OperandKind
kind_read s kind.Value = cond s.string_value kind.Text kind.Value
kind_read s k = k

-- the documents of an input follow one another
abbrev pub reads_stream : Settings → Bool
reads_stream s = elim s.input [ Some f ↦ elim f [ Stream ↦ true | Lines ↦ false ] | None ↦ false ]

-- a stream is read by the usual rules, and options ask for others
abbrev pub rules_of_stream : Settings → Setting → Bool
rules_of_stream s setting.UniqueKeys = reads_stream s
rules_of_stream s (setting.Depth n) = reads_stream s
rules_of_stream s (setting.Input Stream) = s.unique || is_some s.depth
rules_of_stream s _ = false
