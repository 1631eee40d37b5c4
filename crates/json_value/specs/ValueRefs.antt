-- What a value is, with its contents by reference.
use Rattle.std.specs.Prelude.{◌≡◌, ℕ, List, Option, None, Some}
use Rattle.json_grammar.specs.Tree.{Tree, null, boolean, num, text, list, pairs, list_trees, list_pairs}
use Rattle.json_number.specs.Numbers.{text_of_number}
use Rattle.json_value.specs.Denotes.{list_in, pairs_in, literal_bytes, text_bytes}
use Rattle.json_value.specs.declared.literal.Literal.{Literal}
use Rattle.json_value.specs.declared.text.Text.{Text as TextType}
use Rattle.json_value.specs.declared.value.Value.{Value, Null, Bool, Number, Raw, Text, Array, Object}
use Rattle.json_value.specs.declared.value.ValueRef.{ValueRef}
use Rattle.json_value.specs.declared.value.ValueRef.TheVariants as part

-- the tree of what a value is
abbrev pub ref_tree : ValueRef → Tree
ref_tree part.Null = null
ref_tree (part.Bool b) = boolean b
ref_tree (part.Number n) = num (text_of_number n)
ref_tree (part.RawNumber l) = num l.now
ref_tree (part.String s) = text s.now
ref_tree (part.Array a) = list (list_trees (list_in a.now))
ref_tree (part.Object o) = pairs (list_pairs (pairs_in o.now))

-- it is that value: of the same variant, with the value's own boolean, number, literal, text, array or object
abbrev pub IsOf : ValueRef → Value → Type 0
IsOf part.Null v = v ≡ Null
IsOf (part.Bool b) v = v ≡ Bool b
IsOf (part.Number n) v = v ≡ Number n
IsOf (part.RawNumber s) v = (l : Literal) × (v ≡ Raw l) × (s.now ≡ literal_bytes l)
IsOf (part.String s) v = (t : TextType) × (v ≡ Text t) × (s.now ≡ text_bytes t)
IsOf (part.Array a) v = v ≡ Array a.now
IsOf (part.Object o) v = v ≡ Object o.now

-- the literal, where it is no integer by value
abbrev pub raw_in : ValueRef → Option (List ℕ)
raw_in (part.RawNumber s) = Some s.now
raw_in _ = None
