-- What all words of the command line ask for: the options, in any order, and the edits word among them.
use Rattle.std.specs.Prelude.{◌≡◌, ◌⊎◌, ℕ, Bool, true, not, cond, ◌||◌, List, [], ◌∷◌, length, take, drop, replicate, filter, filter_map, Option, Some, None, is_some, unwrap_or, option_map, option_to_list, bytes_eq, codes}
use Rattle.std.specs.List.{list_all}
use Rattle.json_grammar.specs.Rules.{Rules}
use Rattle.json_command.specs.Options.{number_after, depth_in, width_in}
use Rattle.json_text.specs.Ruled.{usual_rules}
use Rattle.json_model.specs.Edit.{Edit}
use Rattle.reshape.specs.Words.{AsksEdits}
use Rattle.reshape.specs.Reshape.{TextLayout}

-- a word whose first two bytes are hyphens is an option
abbrev pub begins_with_two_hyphens : List ℕ → Bool
begins_with_two_hyphens w = bytes_eq (take 2 w) (codes "--")

-- any other word is an edits word
abbrev pub is_edits_word : List ℕ → Bool
is_edits_word w = not (begins_with_two_hyphens w)

-- n spaces
abbrev pub spaces : ℕ → List ℕ
spaces n = replicate n 32

-- the indent that a word asks for: --pretty two spaces, --tabs one tab, --indent=N N spaces
abbrev pub indent_in : List ℕ → Option (List ℕ)
indent_in w =
    cond (bytes_eq w (codes "--pretty")) (Some (spaces 2))
    (cond (bytes_eq w (codes "--tabs")) (Some (9 ∷ []))
    (cond (bytes_eq (take 9 w) (codes "--indent=")) (option_map spaces (width_in (drop 9 w))) None))

-- the word that asks for sorted members
abbrev pub is_sorting : List ℕ → Bool
is_sorting w = bytes_eq w (codes "--sort-keys")

-- the word that asks for names that differ
abbrev pub is_unique : List ℕ → Bool
is_unique w = bytes_eq w (codes "--unique-keys")

-- the records of made input that a word asks for: --make=N N of them, at most 100,000
abbrev pub made_in : List ℕ → Option ℕ
made_in w = number_after (codes "--make") 100000 w

-- an edits word, or one of the options above
abbrev pub is_known : List ℕ → Bool
is_known w = is_edits_word w || (is_some (indent_in w) || (is_sorting w || (is_unique w || is_some (depth_in w))))

-- the levels that are asked for, or the usual ones
abbrev pub depth_or_usual : Option ℕ → ℕ
depth_or_usual o = unwrap_or o usual_rules.limit

-- what is asked for: the edits, the layout of the text, and the rules that the input is read by
pub record Command : Type 0 where
  pub es : List Edit
  pub layout : TextLayout
  pub rules : Rules

-- the words ask for this command: each is known, at most one asks for an indent, one for sorted members, one for names that differ and one for a number of levels, and the words that are no options ask for the edits
pub record Asks (words : List (List ℕ)) (c : Command) : Type 0 where
  pub known : list_all is_known words ≡ true
  pub indent : filter_map indent_in words ≡ option_to_list c.layout.indent
  pub sorting : length (filter is_sorting words) ≡ cond c.layout.sorts 1 0
  pub unique : length (filter is_unique words) ≡ cond c.rules.unique 1 0
  pub depth : Option ℕ
  pub depth_is : filter_map depth_in words ≡ option_to_list depth
  pub limit : c.rules.limit ≡ depth_or_usual depth
  pub edits : AsksEdits (filter is_edits_word words) c.es

-- the words ask for some command
abbrev pub IsReshaping : List (List ℕ) → Type 0
IsReshaping words = (c : Command) × Asks words c

-- the words ask for made input of n records: one word asks for them, and is the only one
abbrev pub AsksMade : List (List ℕ) → ℕ → Type 0
AsksMade (w ∷ []) n = made_in w ≡ Some n
AsksMade _ n = ⊥

-- the words ask for made input
abbrev pub IsMaking : List (List ℕ) → Type 0
IsMaking words = (n : ℕ) × AsksMade words n

-- the words ask for something
abbrev pub IsAsked : List (List ℕ) → Type 0
IsAsked words = IsReshaping words ⊎ IsMaking words
