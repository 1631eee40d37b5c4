-- What can be read of a tree at once.
use Rattle.std.specs.Prelude.{ℕ, ℤ, List, [], map, Bool, Option, Some, None}
use Rattle.json_grammar.specs.Tree.{Tree, null, boolean, num, text, list, pairs, trees_list, pairs_list}
use Rattle.json_number.specs.Integers.{integer_in}
use Rattle.json_doc.specs.declared.json_type.JsonType.{JsonType}
use Rattle.json_doc.specs.declared.json_type.JsonType.TheVariants as kind

-- its kind (RFC 8259, section 3)
abbrev pub type_of : Tree → JsonType
type_of null = kind.Null
type_of (boolean b) = kind.Boolean
type_of (num l) = kind.Number
type_of (text s) = kind.String
type_of (list ts) = kind.Array
type_of (pairs ps) = kind.Object

-- the boolean
abbrev pub bool_of : Tree → Option Bool
bool_of (boolean b) = Some b
bool_of _ = None

-- the integer by value of the number
abbrev pub integer_in_tree : Tree → Option ℤ
integer_in_tree (num l) = integer_in l
integer_in_tree _ = None

-- the literal, where there is no integer by value
abbrev pub literal_unless : Option ℤ → List ℕ → Option (List ℕ)
literal_unless (Some n) l = None
literal_unless None l = Some l

-- the literal of the number that is no integer by value
abbrev pub literal_of : Tree → Option (List ℕ)
literal_of (num l) = literal_unless (integer_in l) l
literal_of _ = None

-- the text of the string
abbrev pub string_of : Tree → Option (List ℕ)
string_of (text s) = Some s
string_of _ = None

-- the elements of the array
abbrev pub elements : Tree → List Tree
elements (list ts) = trees_list ts
elements _ = []

-- the keys of the object's pairs
abbrev pub object_keys : Tree → List (List ℕ)
object_keys (pairs ps) = map (λ p. p.0) (pairs_list ps)
object_keys _ = []

-- the values of the object's pairs
abbrev pub values : Tree → List Tree
values (pairs ps) = map (λ p. p.1) (pairs_list ps)
values _ = []

-- the elements, or the values
abbrev pub children : Tree → List Tree
children (list ts) = trees_list ts
children (pairs ps) = map (λ p. p.1) (pairs_list ps)
children _ = []
