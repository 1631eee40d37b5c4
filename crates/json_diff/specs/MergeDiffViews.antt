-- The members that a merge patch is made between, as views show them.
use Rattle.std.specs.Prelude.{Option, None, Some}
use Rattle.json_grammar.specs.Tree.{Pairs, no_pairs, list_pairs}
use Rattle.json_value.specs.Seen.{members_seen}
use Rattle.json_value.specs.declared.object_view.ObjectView.{ObjectView}

-- the members of an object that is there; none of one that is not
abbrev pub members_in : Option ObjectView → Pairs
members_in None = no_pairs
members_in (Some o) = list_pairs (members_seen o)
