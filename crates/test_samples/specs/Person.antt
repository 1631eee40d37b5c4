-- What a person is read from.
use Rattle.std.specs.Prelude.{ℕ, ◌^◌, List, codes, bytes_eq, if◌then◌else◌}
use Rattle.json_grammar.specs.Tree.{Tree}
use Rattle.json_model.specs.Datum.{Datum, text_datum, integer_datum, list_datum, no_data, datum_and, rows_datum, row_and, no_rows}
use Rattle.json_io.specs.declared.error.ErrorCode.TheVariants.{TypeUnmatched}
use Rattle.json_data.specs.Members.{reading_then}
use Rattle.json_data.specs.Reading.{Reading, gives, refuses, read_text, read_integer, read_list, is_between}

-- a name, an age and phones, as far as they were read
abbrev pub person_parts : Datum → Datum → Datum → Datum
person_parts n a p = list_datum (datum_and n (datum_and a (datum_and p no_data)))

-- the last member of a name counts, and an unknown one is skipped
abbrev pub read_person_member : Datum → Datum → Datum → List ℕ → Tree → Reading
read_person_member n a p k t = if bytes_eq k (codes "name") then reading_then (read_text t) (λ d. gives (person_parts d a p)) else (if bytes_eq k (codes "age") then reading_then (read_integer (is_between 0 (2 ^ 8)) t) (λ d. gives (person_parts n d p)) else (if bytes_eq k (codes "phones") then reading_then (read_list read_text t) (λ d. gives (person_parts n a d)) else gives (person_parts n a p)))

abbrev pub person_step : Datum → List ℕ → Tree → Reading
person_step (list_datum (datum_and n (datum_and a (datum_and p no_data)))) k t = read_person_member n a p k t
person_step d k t = refuses TypeUnmatched

abbrev pub person_datum : List ℕ → Datum → Datum → Datum
person_datum n a p = rows_datum (row_and (text_datum (codes "name")) (text_datum n) (row_and (text_datum (codes "age")) a (row_and (text_datum (codes "phones")) p no_rows)))

-- the name and the age have to be there
abbrev pub person_of : Datum → Datum → Datum → Reading
person_of (text_datum n) (integer_datum a) p = gives (person_datum n (integer_datum a) p)
person_of n a p = refuses TypeUnmatched

abbrev pub person_made : Datum → Reading
person_made (list_datum (datum_and n (datum_and a (datum_and p no_data)))) = person_of n a p
person_made d = refuses TypeUnmatched
