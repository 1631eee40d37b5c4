use Rattle.std.proofs.Common.{◌≡◌, ◌++◌, map}
use Rattle.json_grammar.specs.Tree.{text}
use Rattle.json_value.specs.Denotes.{tree_of}
use Rattle.json_value.specs.Left.{members_left}
use Rattle.json_value.specs.Seen.{members_seen}
use Rattle.mezdruk_files.proofs.measure.collect_keys.Given as goal

-- the keys so far, and those of the members left
abbrev pub invariant-members : goal.invariant-members
invariant-members l = map (λ m. text m.0) (members_seen l.fn.object) ≡ map tree_of l.keys.items ++ map (λ m. text m.0) (members_left l.key-iterator)
