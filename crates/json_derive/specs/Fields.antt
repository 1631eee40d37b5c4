-- What a struct is read from: an object with a member for each field.
use Rattle.std.specs.Prelude.{◌≡◌, ℕ, List, [], ◌∷◌, Bool, true, false, bytes_eq, if◌then◌else◌, Option, Some, None}
use Rattle.json_grammar.specs.Tree.{Tree}
use Rattle.json_model.specs.Datum.{Datum, null_datum, text_datum, list_datum, rows_datum, Data, no_data, datum_and, list_data, Rows, no_rows, row_and}
use Rattle.json_io.specs.Errors.{no_memory}
use Rattle.json_io.specs.declared.error.Error.{Error}
use Rattle.json_io.specs.declared.error.ErrorCode.TheVariants.{TypeUnmatched}
use Rattle.json_data.specs.Members.{read_object, reading_then}
use Rattle.json_data.specs.Reading.{Reading, gives, refuses, Series, gives_all, stops, prepend_reading, as_list}
use Rattle.json_tokens.specs.Refusals.{is_refusal, error_without_place}

-- a field: the name of its member, what is read of the member's value, and what the field is where the member is missing
pub record StructField : Type 0 where
  pub name : List ℕ
  pub reads : Tree → Reading
  pub missing : Reading

-- a field whose member must be there
abbrev pub required : List ℕ → (Tree → Reading) → StructField
required k f = record { name = k; reads = f; missing = refuses TypeUnmatched }

-- a field that is d where its member is missing
abbrev pub or_default : List ℕ → (Tree → Reading) → Datum → StructField
or_default k f d = record { name = k; reads = f; missing = gives d }

-- the fields of a struct, and whether a member of another name is refused
pub record Struct : Type 0 where
  pub fields : List StructField
  pub strict : Bool

-- ---- what a struct means

abbrev pub field_rows : List StructField → List Datum → Rows
field_rows (f ∷ fs) (d ∷ ds) = row_and (text_datum f.name) d (field_rows fs ds)
field_rows fs ds = no_rows

-- rows of the fields' names and values, in the order of the fields
abbrev pub struct_datum : Struct → List Datum → Datum
struct_datum s ds = rows_datum (field_rows s.fields ds)

-- ---- how it is read

-- what was read of a field so far: nothing, or a value
abbrev pub present : Datum → Datum
present d = list_datum (datum_and d no_data)

abbrev pub field_datum : {T : Type 0} → (T → Datum) → Option T → Datum
field_datum f None = null_datum
field_datum f (Some x) = present (f x)

abbrev pub present_reading : Reading → Reading
present_reading r = reading_then r (λ d. gives (present d))

abbrev pub data_list : Data → List Datum
data_list no_data = []
data_list (datum_and d ds) = d ∷ data_list ds

-- a member of another name is refused, or skipped
abbrev pub unknown_member : Bool → Series
unknown_member true = stops TypeUnmatched
unknown_member false = gives_all []

-- a member goes to its field, where it takes the place of an earlier one
abbrev pub with_field_member : Bool → List StructField → List Datum → List ℕ → Tree → Series
with_field_member strict (f ∷ fs) (d ∷ ds) k t = if bytes_eq k f.name then prepend_reading (present_reading (f.reads t)) (gives_all ds) else prepend_reading (gives d) (with_field_member strict fs ds k t)
with_field_member strict fs ds k t = unknown_member strict

abbrev pub struct_step : Struct → Datum → List ℕ → Tree → Reading
struct_step s (list_datum ds) k t = as_list (with_field_member s.strict s.fields (data_list ds) k t)
struct_step s d k t = refuses TypeUnmatched

-- no member was read
abbrev pub no_members : List StructField → Data
no_members [] = no_data
no_members (f ∷ fs) = datum_and null_datum (no_members fs)

-- what a field is in the end
abbrev pub field_value : StructField → Datum → Reading
field_value f (list_datum (datum_and d no_data)) = gives d
field_value f d = f.missing

abbrev pub field_values : List StructField → List Datum → Series
field_values (f ∷ fs) (d ∷ ds) = prepend_reading (field_value f d) (field_values fs ds)
field_values fs ds = gives_all []

abbrev pub as_struct : Struct → Series → Reading
as_struct s (gives_all ds) = gives (struct_datum s ds)
as_struct s (stops c) = refuses c

-- the struct of what was read of its members
abbrev pub made_struct : Struct → Datum → Reading
made_struct s (list_datum ds) = as_struct s (field_values s.fields (data_list ds))
made_struct s d = refuses TypeUnmatched

-- an object whose members are those of the fields, in any order
abbrev pub read_struct : Struct → Tree → Reading
read_struct s = read_object (struct_step s) (list_datum (no_members s.fields)) (made_struct s)

-- why no struct is made: memory ran out, or a member that must be there is missing
pub record BuildFails (made : Reading) (e : Error) : Type 0 where
  pub refused : is_refusal e.code ≡ true → (e ≡ error_without_place e.code) × (made ≡ refuses e.code)
  pub gave_up : is_refusal e.code ≡ false → e ≡ no_memory
