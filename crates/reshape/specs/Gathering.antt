-- What is gathered from the words of the command line before the edits word is read.
use Rattle.std.specs.Prelude.{◌≡◌, ℕ, Bool, true, false, cond, List, length, filter, filter_map, Option, Some, None, option_map, option_to_list}
use Rattle.std.specs.List.{list_all}
use Rattle.reshape.specs.Options.{begins_with_two_hyphens, is_edits_word, indent_in, is_sorting, is_unique, is_known}
use Rattle.reshape.specs.declared.options.Role.{Role}
use Rattle.reshape.specs.declared.options.Role.TheVariants.{Indent, SortKeys, UniqueKeys, Depth, EditsWord}
use Rattle.reshape.specs.declared.options.ParsedOptions.{ParsedOptions}
use Rattle.json_command.specs.Options.{depth_in}

-- what one word asks for
pub record IsRole (w : List ℕ) (opt : Bool) (indent : Option (List ℕ)) (sorts unique : Bool) (depth : Option ℕ) : Type 0 where
  pub option : begins_with_two_hyphens w ≡ opt
  pub indent_is : indent_in w ≡ indent
  pub sorting : is_sorting w ≡ sorts
  pub differing : is_unique w ≡ unique
  pub depth_is : depth_in w ≡ depth

-- the word has this role
abbrev pub HasRole : List ℕ → Role → Type 0
HasRole w (Indent s) = IsRole w true (Some s.now) false false None
HasRole w SortKeys = IsRole w true None true false None
HasRole w UniqueKeys = IsRole w true None false true None
HasRole w (Depth n) = IsRole w true None false false (Some n)
HasRole w (EditsWord s) = IsRole w false None false false None × (s.now ≡ w)

-- the words are recognized, and ask for this indent, this order, these rules and this edits word
-- alone
pub record HoldsWords (words : List (List ℕ)) (indent : Option (List ℕ)) (sorts unique : Bool) (depth : Option ℕ) (word : Option (List ℕ)) : Type 0 where
  pub known : list_all is_known words ≡ true
  pub indent_is : filter_map indent_in words ≡ option_to_list indent
  pub sorting : length (filter is_sorting words) ≡ cond sorts 1 0
  pub differing : length (filter is_unique words) ≡ cond unique 1 0
  pub depth_is : filter_map depth_in words ≡ option_to_list depth
  pub edits : filter is_edits_word words ≡ option_to_list word

abbrev pub Gathered : List (List ℕ) → ParsedOptions → Type 0
Gathered words o = HoldsWords words (option_map (λ s. s.now) o.indent) o.sorted o.unique o.depth (option_map (λ s. s.now) o.edits)
