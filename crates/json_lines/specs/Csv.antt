-- Fields and records of CSV (RFC 4180, section 2). Bytes are written as numbers: 10 is LF, 13 CR,
-- 34 the double quote and 44 the comma.
use Rattle.std.specs.Prelude.{◌≡◌, ℕ, ◌+◌, ◌<◌, ◌==◌, ◌||◌, Bool, true, false, List, [], ◌∷◌, ◌++◌, length, take, drop, Option, None, Some, cond}
use Rattle.std.specs.List.{list_any, flat_map}

-- a byte that a field has only between double quotes (rule 6)
abbrev pub is_special : ℕ → Bool
is_special b = (b == 34) || ((b == 44) || ((b == 10) || (b == 13)))

-- whether a text is a field between double quotes: it has such a byte, or it is empty, so that it
-- differs from no text
abbrev pub is_quoted : List ℕ → Bool
is_quoted [] = true
is_quoted (b ∷ later) = list_any is_special (b ∷ later)

-- the text with each double quote preceded by another one (rule 7)
abbrev pub quotes_doubled : List ℕ → List ℕ
quotes_doubled [] = []
quotes_doubled (b ∷ later) = cond (b == 34) (34 ∷ 34 ∷ quotes_doubled later) (b ∷ quotes_doubled later)

-- the offset of the first double quote, if any: what precedes it is as it was
abbrev pub IsFirstQuote : List ℕ → Option ℕ → Type 0
IsFirstQuote text None = quotes_doubled text ≡ text
IsFirstQuote text (Some k) = (k < length text) × (quotes_doubled text ≡ (take (k + 1) text ++ 34 ∷ []) ++ quotes_doubled (drop (k + 1) text))

-- the field of a text (rule 5)
abbrev pub csv_field : List ℕ → List ℕ
csv_field text = cond (is_quoted text) (34 ∷ (quotes_doubled text ++ 34 ∷ [])) text

-- the field of a text that may be missing: nothing between the commas
abbrev pub optional_field : Option (List ℕ) → List ℕ
optional_field None = []
optional_field (Some text) = csv_field text

-- the texts of some items, with this byte between them (rule 4)
abbrev pub joined : {A : Type 0} → ℕ → (A → List ℕ) → List A → List ℕ
joined between text [] = []
joined between text (item ∷ later) = text item ++ flat_map (λ x. between ∷ text x) later

-- ---- how a reader of RFC 4180 takes a field

-- the text of a field, and the bytes after the field
pub record ReadField : Type 0 where
  pub text : List ℕ
  pub rest : List ℕ

abbrev pub with_byte : ℕ → ReadField → ReadField
with_byte b field = record { text = b ∷ field.text; rest = field.rest }

-- whether a byte ends a field without double quotes: a comma (rule 4), or the CR of a line break
-- (rule 1)
abbrev pub ends_field : ℕ → Bool
ends_field b = (b == 44) || (b == 13)

-- between double quotes, or where `after` is true after a double quote there: another one means
-- one, and any other byte is after the field (rule 7)
abbrev pub read_quoted : Bool → List ℕ → ReadField
read_quoted after [] = record { text = []; rest = [] }
read_quoted false (b ∷ later) = cond (b == 34) (read_quoted true later) (with_byte b (read_quoted false later))
read_quoted true (b ∷ later) = cond (b == 34) (with_byte 34 (read_quoted false later)) (record { text = []; rest = b ∷ later })

abbrev pub read_plain : List ℕ → ReadField
read_plain [] = record { text = []; rest = [] }
read_plain (b ∷ later) = cond (ends_field b) (record { text = []; rest = b ∷ later }) (with_byte b (read_plain later))

-- a field (rule 5)
abbrev pub read_field : List ℕ → ReadField
read_field [] = record { text = []; rest = [] }
read_field (b ∷ later) = cond (b == 34) (read_quoted false later) (read_plain (b ∷ later))

-- a reader has the text of each field, and what is after it
abbrev pub ReadsBack : Type 0
ReadsBack = (text rest : List ℕ) (end : ℕ) → ends_field end ≡ true → read_field (csv_field text ++ end ∷ rest) ≡ record { text = text; rest = end ∷ rest }
