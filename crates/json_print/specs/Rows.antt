-- What a formatter writes of the rows of a sorted object.
use Rattle.std.specs.Prelude.{◌≡◌, ℕ, suc, List, [], ◌∷◌, ◌++◌, map, Bool, true, false}
use Rattle.json_print.specs.Calls.{string_call, begin_key, end_key, begin_member, end_member}
use Rattle.json_print.specs.Layouts.{FormatterModel}
use Rattle.json_print.specs.declared.order.Numbered.{Numbered}
use Rattle.json_print.specs.Orders.{NumberedKey, numbered_pair, inserted_pairs}
use Rattle.json_print.specs.Printer.{SerializerState, MemberText, Layer, gained_put, layers_put, rows_sorted}

-- the rows with their numbers, from one on
abbrev pub numbered_rows : ℕ → List MemberText → List NumberedKey
numbered_rows n [] = []
numbered_rows n (r ∷ rows) = (r.key, n) ∷ numbered_rows (suc n) rows

-- they are the keys of the rows in their order, each with the number of its row
abbrev pub IsOrderOf : List Numbered → List MemberText → Type 0
IsOrderOf order rows = map numbered_pair order ≡ inserted_pairs (numbered_rows 0 rows)

-- the pieces of a key, and the formatter after them
abbrev pub key_bytes : {F : Type 0} → FormatterModel F → F → Bool → List ℕ → List ℕ
key_bytes m f first k = let g = m.next f (begin_key first) in m.piece f (begin_key first) ++ (m.piece g (string_call true k) ++ m.piece (m.next g (string_call true k)) end_key)

abbrev pub key_next : {F : Type 0} → FormatterModel F → F → Bool → List ℕ → F
key_next m f first k = m.next (m.next (m.next f (begin_key first)) (string_call true k)) end_key

-- the pieces of a value whose text is there, and the formatter after them
abbrev pub value_bytes : {F : Type 0} → FormatterModel F → F → List ℕ → List ℕ
value_bytes m f text = m.piece f begin_member ++ (text ++ m.piece (m.next f begin_member) end_member)

abbrev pub value_next : {F : Type 0} → FormatterModel F → F → F
value_next m f = m.next (m.next f begin_member) end_member

-- the pieces of a row, and the formatter after them
abbrev pub row_bytes : {F : Type 0} → FormatterModel F → F → Bool → MemberText → List ℕ
row_bytes m f first r = key_bytes m f first r.key ++ value_bytes m (key_next m f first r.key) r.text

abbrev pub row_next : {F : Type 0} → FormatterModel F → F → Bool → MemberText → F
row_next m f first r = value_next m (key_next m f first r.key)

-- the pieces of the rows, and the formatter after them
abbrev pub rows_bytes : {F : Type 0} → FormatterModel F → F → Bool → List MemberText → List ℕ
rows_bytes m f first [] = []
rows_bytes m f first (r ∷ rows) = row_bytes m f first r ++ rows_bytes m (row_next m f first r) false rows

abbrev pub rows_next : {F : Type 0} → FormatterModel F → F → Bool → List MemberText → F
rows_next m f first [] = f
rows_next m f first (r ∷ rows) = rows_next m (row_next m f first r) false rows

-- all rows were written
abbrev pub rows_written : {F : Type 0} → FormatterModel F → SerializerState F → List MemberText → SerializerState F
rows_written m s rows =
    let p = rows_bytes m s.formatter true rows in record s { formatter = rows_next m s.formatter true rows; gained = gained_put s.layers s.gained p; layers = layers_put s.layers p }

-- the pieces of a sorted object's pairs in the order of their keys, and the formatter after them
abbrev pub members_bytes : {F : Type 0} → FormatterModel F → F → Layer → List ℕ
members_bytes m f l = rows_bytes m f true (rows_sorted l.rows)

abbrev pub members_next : {F : Type 0} → FormatterModel F → F → Layer → F
members_next m f l = rows_next m f true (rows_sorted l.rows)

-- they were written
abbrev pub members_written : {F : Type 0} → FormatterModel F → Layer → SerializerState F → SerializerState F
members_written m l s = rows_written m s (rows_sorted l.rows)
