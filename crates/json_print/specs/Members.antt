-- The places of the keys and the texts of an object's finished members.
use Rattle.std.specs.Prelude.{ℕ, ◌≤◌, List, [], ◌∷◌, length, map, drop}
use Rattle.std.specs.Str.{IsCharBoundary}
use Rattle.json_grammar.specs.Given.{piece}
use Rattle.json_print.specs.declared.sorted.Member.{Member}
use Rattle.json_print.specs.Printer.{MemberText, Layer}

-- the row of a member
abbrev pub member_text_of : List ℕ → List ℕ → Member → MemberText
member_text_of keys texts m = record { key = piece keys m.key_from m.key_to; text = piece texts m.text_from m.text_to }

-- the finished members, and the open one after them
abbrev pub layer_of : List ℕ → List ℕ → List Member → ℕ → ℕ → Layer
layer_of keys texts members key_from text_from = record { rows = map (member_text_of keys texts) members; key = drop key_from keys; text = drop text_from texts }

-- its key is among the keys, and its text among the texts
pub record IsMemberWithin (keys texts : List ℕ) (m : Member) : Type 0 where
  pub key_begins : IsCharBoundary keys m.key_from
  pub key_ends : IsCharBoundary keys m.key_to
  pub key_order : m.key_from ≤ m.key_to
  pub text_order : m.text_from ≤ m.text_to
  pub text_within : m.text_to ≤ length texts

abbrev pub AreWithin : List ℕ → List ℕ → List Member → Type 0
AreWithin keys texts [] = Unit {0}
AreWithin keys texts (m ∷ ms) = IsMemberWithin keys texts m × AreWithin keys texts ms

-- so do all members, and the open one begins where a character may
pub record HoldMembers (keys texts : List ℕ) (members : List Member) (key_from text_from : ℕ) : Type 0 where
  pub finished : AreWithin keys texts members
  pub key_begins : IsCharBoundary keys key_from
  pub text_begins : text_from ≤ length texts
