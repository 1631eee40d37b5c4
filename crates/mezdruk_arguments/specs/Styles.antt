-- The layout of texts and the rules of input that the options ask for.
use Rattle.std.specs.Prelude.{ℕ, Bool, false, not, ◌&&◌, min, List, [], ◌∷◌, replicate, Option, Some, None, is_some, unwrap_or}
use Rattle.json_grammar.specs.Rules.{Rules}
use Rattle.json_text.specs.Ruled.{usual_rules}
use Rattle.mezdruk_arguments.specs.declared.verb.Verb.{Verb}
use Rattle.mezdruk_arguments.specs.declared.verb.Verb.TheVariants.{Fmt}
use Rattle.mezdruk_arguments.specs.declared.setting.RequestedLayout.{RequestedLayout}
use Rattle.mezdruk_arguments.specs.declared.setting.RequestedLayout.TheVariants.{Compact, Spaces, Tab}
use Rattle.mezdruk_arguments.specs.declared.setting.Settings.{Settings}

-- n spaces, at most 8
abbrev pub spaces_up_to_8 : ℕ → List ℕ
spaces_up_to_8 n = replicate (min n 8) 32

-- the indent of a layout
abbrev pub indent_text : RequestedLayout → Option (List ℕ)
indent_text Compact = None
indent_text (Spaces n) = Some (spaces_up_to_8 n)
indent_text Tab = Some (9 ∷ [])

-- the layout if no option asks for one: two spaces for fmt, and compact for the other commands
abbrev pub usual_layout : Verb → RequestedLayout
usual_layout Fmt = Spaces 2
usual_layout _ = Compact

abbrev pub command_layout : Settings → Verb → RequestedLayout
command_layout s v = unwrap_or s.layout (usual_layout v)

-- an edit in place keeps the layout of the file, if no option asks for a layout
abbrev pub keeps_layout : Settings → Verb → Bool
keeps_layout s Fmt = false
keeps_layout s _ = s.in_place && not (is_some s.layout)

-- the rules: the levels that are asked for, 1,024 at most, or the usual number
abbrev pub command_rules : Settings → Rules
command_rules s = record { limit = min (unwrap_or s.depth usual_rules.limit) 1024; unique = s.unique }
