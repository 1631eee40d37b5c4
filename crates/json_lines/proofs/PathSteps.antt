-- A step by a key, and the value of the first member of it.
use Rattle.std.proofs.Common.{◌≡◌, ℕ, List, Option, option_map, sym, ap, ◌∙◌}
use Rattle.json_grammar.specs.Tree.{Tree}
use Rattle.json_model.specs.Edit.{Step, key_step}
use Rattle.json_doc_print.specs.Readings.{members}
use Rattle.json_value.specs.Seen.{first_of}
use Rattle.json_value.specs.Steps.{child}

-- the value of a member that was found
abbrev pub member_value : Option (List ℕ × Tree) → Option Tree
member_value found = option_map (λ p. p.1) found

pub key_child : (s : Step) (k n : List ℕ) (ps : List (List ℕ × Tree)) (t : Tree) → s ≡ key_step k → n ≡ k → ps ≡ members t → member_value (first_of n ps) ≡ child s t
key_child s k n ps t e f g = ap (λ x. member_value (first_of x ps)) f ∙ ap (λ x. member_value (first_of k x)) g ∙ ap (λ x. child x t) (sym e)
