-- What an iterator over an array or an object that is seen has still to give.
use Rattle.std.specs.Prelude.{ℕ, List, Option, map}
use Rattle.std.specs.List.{zip}
use Rattle.std.specs.Borrow.{Bor}
use Rattle.std.specs.Iterator.{YieldsFirstBy}
use Rattle.json_grammar.specs.Tree.{Tree}
use Rattle.json_doc.specs.Left.{children_places, children_left, places_of_pairs, pairs_left}
use Rattle.json_doc.specs.Seen.{view_doc}
use Rattle.json_value.specs.Denotes.{tree_of, pair_of}
use Rattle.json_value.specs.Seen.{seen, member_seen}
use Rattle.json_value.specs.ViewTargets.{ViewTarget, whole_value, place_of, doc_held, view_target}
use Rattle.json_value.specs.TargetParts.{pair_target, member_target}
use Rattle.json_value.specs.declared.array_view.ArrayIter.{ArrayIter}
use Rattle.json_value.specs.declared.array_view.ElementsLeft.{ElementsLeft}
use Rattle.json_value.specs.declared.array_view.ElementsLeft.TheVariants as elements
use Rattle.json_value.specs.declared.array_view.PackedElements.{PackedElements}
use Rattle.json_value.specs.declared.object_view.Iter.{Iter}
use Rattle.json_value.specs.declared.object_view.MembersLeft.{MembersLeft}
use Rattle.json_value.specs.declared.object_view.MembersLeft.TheVariants as members
use Rattle.json_value.specs.declared.object_view.PackedMembers.{PackedMembers}
use Rattle.json_value.specs.declared.view.View.{View}

-- the trees of the elements
abbrev pub trees_to_come : ElementsLeft → List Tree
trees_to_come (elements.Packed p) = children_left p.elements
trees_to_come (elements.Whole vs) = map tree_of vs.now

abbrev pub elements_left : ArrayIter → List Tree
elements_left s = trees_to_come s.left

-- the keys of the members, each with the tree of its value
abbrev pub pairs_to_come : MembersLeft → List (List ℕ × Tree)
pairs_to_come (members.Packed p) = pairs_left p.members
pairs_to_come (members.Whole ps) = map pair_of ps.now

abbrev pub members_left : Iter → List (List ℕ × Tree)
members_left s = pairs_to_come s.left

-- the places of the elements, of the document that a value holds, if one does
abbrev pub packed_targets : PackedElements → List ViewTarget
packed_targets p = map (place_of (view_doc p.packed.view) (doc_held p.packed.holder)) (children_places p.elements)

-- what the views of the elements are of
abbrev pub remaining_targets : ElementsLeft → List ViewTarget
remaining_targets (elements.Packed p) = packed_targets p
remaining_targets (elements.Whole vs) = map whole_value vs.now

abbrev pub elements_targets_left : ArrayIter → List ViewTarget
elements_targets_left s = remaining_targets s.left

-- the same of the members, each with its key
abbrev pub packed_member_targets : PackedMembers → List (List ℕ × ViewTarget)
packed_member_targets p = zip (map (λ q. q.0) (pairs_left p.members)) (map (place_of (view_doc p.packed.view) (doc_held p.packed.holder)) (places_of_pairs p.members))

abbrev pub remaining_member_targets : MembersLeft → List (List ℕ × ViewTarget)
remaining_member_targets (members.Packed p) = packed_member_targets p
remaining_member_targets (members.Whole ps) = map pair_target ps.now

-- what the views of the values are of, each with its key
abbrev pub members_targets_left : Iter → List (List ℕ × ViewTarget)
members_targets_left s = remaining_member_targets s.left

-- a call gave the first element of what was left: its tree, and what its view is of
abbrev pub GivesElement : ArrayIter → Option View → ArrayIter → Type 0
GivesElement s r t = YieldsFirstBy seen elements_left s r t × YieldsFirstBy view_target elements_targets_left s r t

-- so the first member
abbrev pub GivesMember : Iter → Option (Bor (List ℕ) × View) → Iter → Type 0
GivesMember s r t = YieldsFirstBy member_seen members_left s r t × YieldsFirstBy member_target members_targets_left s r t
