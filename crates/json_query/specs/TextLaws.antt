-- Laws of reading the text of a query.
use Rattle.std.specs.Prelude.{◌≡◌, ℕ, ◌-◌, List, length, IsUtf8}
use Rattle.json_query.specs.Query.{Query}
use Rattle.json_query.specs.Text.{spells_query}
use Rattle.json_query.specs.declared.error.QueryCode.{QueryCode}
use Rattle.json_query.specs.Errors.{BreaksAt}
use Rattle.json_query.specs.TextStates.{is_query, is_refused, query_outcome}

-- what the grammar has is read
abbrev pub TextIsRead : Type 0
TextIsRead = (q : Query) (b : List ℕ) → spells_query q b → query_outcome b ≡ is_query q

-- what is read is in the grammar
abbrev pub ReadIsText : Type 0
ReadIsText = (q : Query) (b : List ℕ) → query_outcome b ≡ is_query q → spells_query q b

-- what is refused is no query, and breaks where the reader stops
abbrev pub RefusedBreaks : Type 0
RefusedBreaks = (b : List ℕ) (c : QueryCode) (left : ℕ) → IsUtf8 b → query_outcome b ≡ is_refused c left → BreaksAt b (length b - left)
