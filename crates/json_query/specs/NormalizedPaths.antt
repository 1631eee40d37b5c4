-- Normalized paths (RFC 9535, section 2.7): the one text of a location.
use Rattle.std.specs.Prelude.{ℕ, pos, ◌+◌, ◌-◌, List, [], ◌∷◌, ◌++◌, cond, ◌==◌, nat_lt, nat_le, decimal, map, flat_map, codes}
use Rattle.json_query.specs.Nodes.{Location, LocationStep, element_at, member_at}
use Rattle.json_query.specs.Query.{Query, Segment, child_segment, name_selector, index_selector}

-- a hexadecimal digit in lower case
abbrev pub lower_hex : ℕ → ℕ
lower_hex n = cond (nat_lt n 10) (48 + n) (87 + n)

-- the escape of a control character: of two characters if there is one, and else `\u00` and two
-- digits
abbrev pub control_escape : ℕ → List ℕ
control_escape x =
    cond (x == 8) (codes "\\b")
    (cond (x == 9) (codes "\\t") (cond (x == 10) (codes "\\n") (cond (x == 12) (codes "\\f") (cond (x == 13) (codes "\\r") (codes "\\u00" ++ cond (nat_le 16 x) 49 48 ∷ lower_hex (cond (nat_le 16 x) (x - 16) x) ∷ [])))))

-- a byte of a name: `'` and `\` are escaped, and control characters; every other byte is itself
abbrev pub normal_byte : ℕ → List ℕ
normal_byte x = cond (nat_lt x 32) (control_escape x) (cond (x == 39) (codes "\\'") (cond (x == 92) (codes "\\\\") (x ∷ [])))

-- `['name']`, or `[index]`
abbrev pub step_text : LocationStep → List ℕ
step_text (element_at i) = codes "[" ++ decimal i ++ codes "]"
step_text (member_at i k) = codes "['" ++ flat_map normal_byte k ++ codes "']"

-- `$`, and each step
abbrev pub normalized_path : Location → List ℕ
normalized_path l = codes "$" ++ flat_map step_text l

-- the query that it is: for each step a segment with a name or an index
abbrev pub step_segment : LocationStep → Segment
step_segment (element_at i) = child_segment (index_selector (pos i) ∷ [])
step_segment (member_at i k) = child_segment (name_selector k ∷ [])

abbrev pub path_query : Location → Query
path_query l = map step_segment l
