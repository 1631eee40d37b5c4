-- The outcomes of lines: a row of each good one, and an error of each bad one.
use Rattle.std.specs.Prelude.{◌≡◌, ℕ, ◌+◌, ◌<◌, ◌≤◌, ◌⊎◌, Bool, true, false, ◌||◌, if◌then◌else◌, List, [], ◌∷◌, ◌++◌, length, codes, decimal, ⊤}
use Rattle.std.specs.List.{flat_map}
use Rattle.json_lines.specs.LineErrors.{line_error_text}
use Rattle.json_lines.specs.declared.line_error.LineError.TheVariants.{LineTooLong}

-- the outcome of one line: the bytes of its row, or the text of its error
pub data Outcome : Type 0 where
  Row : List ℕ → Outcome
  Bad : List ℕ → Outcome

abbrev pub outcome_row : Outcome → List ℕ
outcome_row (Row bytes) = bytes
outcome_row (Bad text) = []

abbrev pub is_bad : Outcome → Bool
is_bad (Row bytes) = false
is_bad (Bad text) = true

-- the number of the line, a colon, a space and the text of its error
abbrev pub error_line : ℕ → List ℕ → List ℕ
error_line number text = decimal number ++ (codes ": " ++ text)

abbrev pub error_bytes : ℕ → Outcome → List ℕ
error_bytes number (Row bytes) = []
error_bytes number (Bad text) = error_line number text

abbrev pub line_too_long : Outcome
line_too_long = Bad (line_error_text LineTooLong)

-- ---- of many lines

-- the rows, one after another
abbrev pub rows_of : List Outcome → List ℕ
rows_of outcomes = flat_map outcome_row outcomes

-- the errors, where the first outcome is that of the line of this number
abbrev pub errors_from : ℕ → List Outcome → List ℕ
errors_from number [] = []
errors_from number (outcome ∷ later) = error_bytes number outcome ++ errors_from (number + 1) later

abbrev pub some_bad : List Outcome → Bool
some_bad [] = false
some_bad (outcome ∷ later) = is_bad outcome || some_bad later

-- the outcomes up to the first bad one, and with it
abbrev pub up_to_bad : List Outcome → List Outcome
up_to_bad [] = []
up_to_bad (Row bytes ∷ later) = Row bytes ∷ up_to_bad later
up_to_bad (Bad text ∷ later) = Bad text ∷ []

-- the outcomes of the lines that are handled: where the run is strict, of none after the first bad
-- one
abbrev pub handled_by : Bool → List Outcome → List Outcome
handled_by strict outcomes = if strict then up_to_bad outcomes else outcomes

-- whatever follows these outcomes, they are handled, and first
abbrev pub AreHandledFirst : Bool → List Outcome → Type 0
AreHandledFirst strict outcomes = (later : List Outcome) → (more : List Outcome) × (handled_by strict (outcomes ++ later) ≡ outcomes ++ more)

-- whatever n outcomes follow these, only these are handled
abbrev pub AreHandledAlone : Bool → List Outcome → ℕ → Type 0
AreHandledAlone strict outcomes n = (later : List Outcome) → length later ≡ n → handled_by strict (outcomes ++ later) ≡ outcomes

-- each line has its outcome
abbrev pub AllHave : (List ℕ → Outcome → Type 0) → List (List ℕ) → List Outcome → Type 0
AllHave has [] [] = ⊤
AllHave has (line ∷ lines) (outcome ∷ outcomes) = has line outcome × AllHave has lines outcomes
AllHave has _ _ = ⊥

-- a line over the limit is bad, whatever it contains
abbrev pub HasWithin : ℕ → (List ℕ → Outcome → Type 0) → List ℕ → Outcome → Type 0
HasWithin limit has line outcome = ((limit < length line) × (outcome ≡ line_too_long)) ⊎ ((length line ≤ limit) × has line outcome)
