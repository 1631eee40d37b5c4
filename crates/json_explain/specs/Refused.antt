-- Where the reading of a tree refuses it: the path to the innermost value that is refused.
use Rattle.std.specs.Prelude.{ℕ, suc, List, [], ◌∷◌, Bool, true, false, bytes_eq, if◌then◌else◌, Option, Some, None, option_map}
use Rattle.json_grammar.specs.Tree.{Tree, null, list, pairs, Trees, no_trees, tree_and, Pairs, no_pairs, pair_and}
use Rattle.json_io.specs.declared.error.ErrorCode.{ErrorCode}
use Rattle.json_io.specs.declared.error.ErrorCode.TheVariants.{TypeUnmatched}
use Rattle.json_doc.specs.declared.json_type.JsonType.{JsonType}
use Rattle.json_doc.specs.declared.json_type.JsonType.TheVariants as kind
use Rattle.json_doc.specs.Readings.{type_of}
use Rattle.json_data.specs.Reading.{Reading, gives, refuses}
use Rattle.json_explain.specs.declared.refusal.Wanted.{Wanted}
use Rattle.json_explain.specs.declared.refusal.Wanted.TheVariants as wanted

-- a step from a container to one of its values: to the element with this index, or to the member with this index, which has this name.
-- A name may repeat (RFC 8259, section 4), so the name alone does not say which member it is
pub data RefusedStep : Type 0 where
  element_step : ℕ → RefusedStep
  member_step : ℕ → List ℕ → RefusedStep

-- the path from the whole value to the innermost one that is refused, why, the name of the member that is missing there, if one is,
-- what is wanted in its place, if any value is, and what it is
pub record Refused : Type 0 where
  pub path : List RefusedStep
  pub code : ErrorCode
  pub member : Option (List ℕ)
  pub wanted : Option Wanted
  pub found_type : JsonType

-- the value itself is refused, and not one within it
abbrev pub refused_here : ErrorCode → Option (List ℕ) → Option Wanted → JsonType → Refused
refused_here c m w j = record { path = []; code = c; member = m; wanted = w; found_type = j }

abbrev pub here : ErrorCode → Wanted → Tree → Refused
here c w t = refused_here c None (Some w) (type_of t)

-- it is refused because of the name of its member
abbrev pub refused_by_key : ErrorCode → Tree → Refused
refused_by_key c t = refused_here c None None (type_of t)

-- an object is refused because it has no member of that name
abbrev pub lacks_member : List ℕ → Refused
lacks_member k = refused_here TypeUnmatched (Some k) None kind.Object

-- as seen from the container around it
abbrev pub refused_within : RefusedStep → Refused → Refused
refused_within s r = record r { path = s ∷ r.path }

abbrev pub part_refused : RefusedStep → Option Refused → Option Refused
part_refused s o = option_map (refused_within s) o

abbrev pub refused_first : Option Refused → Option Refused → Option Refused
refused_first (Some r) o = Some r
refused_first None o = o

-- ---- values without parts

abbrev pub reading_refused : Reading → Wanted → Tree → Option Refused
reading_refused (gives d) w t = None
reading_refused (refuses c) w t = Some (here c w t)

abbrev pub whole_refused : (Tree → Reading) → Wanted → Tree → Option Refused
whole_refused f w t = reading_refused (f t) w t

abbrev pub option_refused : (Tree → Option Refused) → Tree → Option Refused
option_refused r null = None
option_refused r t = r t

-- ---- arrays

-- the first element that is refused, where the first of them has the index i
abbrev pub elements_refused : (Tree → Option Refused) → ℕ → Trees → Option Refused
elements_refused r i no_trees = None
elements_refused r i (tree_and t ts) = refused_first (part_refused (element_step i) (r t)) (elements_refused r (suc i) ts)

abbrev pub list_refused : (Tree → Option Refused) → Tree → Option Refused
list_refused r (list ts) = elements_refused r 0 ts
list_refused r t = Some (here TypeUnmatched wanted.Array t)

-- an array that has another number of elements than is wanted
abbrev pub other_length : Wanted → Option Refused
other_length w = Some (refused_here TypeUnmatched None (Some w) kind.Array)

-- of an array with an element for each of these, of which the first has the index i: the first element that is refused, and then the array, if it
-- has another length
abbrev pub elements_refused_by : Wanted → List (Tree → Option Refused) → ℕ → Trees → Option Refused
elements_refused_by w [] i no_trees = None
elements_refused_by w [] i (tree_and t ts) = other_length w
elements_refused_by w (r ∷ rs) i no_trees = other_length w
elements_refused_by w (r ∷ rs) i (tree_and t ts) = refused_first (part_refused (element_step i) (r t)) (elements_refused_by w rs (suc i) ts)

abbrev pub tuple_refused : Wanted → List (Tree → Option Refused) → Tree → Option Refused
tuple_refused w rs (list ts) = elements_refused_by w rs 0 ts
tuple_refused w rs t = Some (here TypeUnmatched w t)

-- ---- objects

-- how the members of an object are read: where each is refused, by its name and value; which fields were seen, after each name;
-- and the name of the member that is missing in the end, if one is
pub record ObjectReading : Type 0 where
  pub member : List ℕ → Tree → Option Refused
  pub seen : List Bool → List ℕ → List Bool
  pub missing : List Bool → Option (List ℕ)

-- the first member that is refused, where the first of them has the index i, or else the object, where a member is missing
abbrev pub members_refused : ObjectReading → ℕ → List Bool → Pairs → Option Refused
members_refused r i seen no_pairs = option_map lacks_member (r.missing seen)
members_refused r i seen (pair_and k t ps) = refused_first (part_refused (member_step i k) (r.member k t)) (members_refused r (suc i) (r.seen seen k) ps)

abbrev pub object_refused : ObjectReading → List Bool → Tree → Option Refused
object_refused r seen (pairs ps) = members_refused r 0 seen ps
object_refused r seen t = Some (here TypeUnmatched wanted.Object t)

-- ---- maps: a key is refused before its value, and none is missing

abbrev pub refused_by_name : Reading → Tree → Option Refused
refused_by_name (gives d) t = None
refused_by_name (refuses c) t = Some (refused_by_key c t)

abbrev pub map_reading : (List ℕ → Reading) → (Tree → Option Refused) → ObjectReading
map_reading f r = record { member = λ k t. refused_first (refused_by_name (f k) t) (r t); seen = λ bs k. bs; missing = λ bs. None }

-- ---- structs

-- a field: the name of its member, where the member's value is refused, and whether the member must be there
pub record FieldReading : Type 0 where
  pub name : List ℕ
  pub refused : Tree → Option Refused
  pub needed : Bool

abbrev pub field_reading : List ℕ → (Tree → Option Refused) → Bool → FieldReading
field_reading k r b = record { name = k; refused = r; needed = b }

abbrev pub unknown_refused : Bool → Tree → Option Refused
unknown_refused true t = Some (refused_by_key TypeUnmatched t)
unknown_refused false t = None

-- a member of another name is refused under strict
abbrev pub field_refused : Bool → List FieldReading → List ℕ → Tree → Option Refused
field_refused strict [] k t = unknown_refused strict t
field_refused strict (f ∷ fs) k t = if bytes_eq k f.name then f.refused t else field_refused strict fs k t

abbrev pub fields_seen : List FieldReading → List Bool → List ℕ → List Bool
fields_seen (f ∷ fs) (b ∷ bs) k = if bytes_eq k f.name then true ∷ bs else b ∷ fields_seen fs bs k
fields_seen fs bs k = []

-- the name of the first field whose member must be there and was not seen
abbrev pub field_missing : List FieldReading → List Bool → Option (List ℕ)
field_missing (f ∷ fs) (b ∷ bs) = if b then field_missing fs bs else (if f.needed then Some f.name else field_missing fs bs)
field_missing fs bs = None

abbrev pub struct_reading : Bool → List FieldReading → ObjectReading
struct_reading strict fs = record { member = field_refused strict fs; seen = fields_seen fs; missing = field_missing fs }
