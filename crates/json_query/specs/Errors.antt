-- Errors of reading a query.
use Rattle.std.specs.Prelude.{◌≡◌, ℕ, suc, ◌-◌, ◌<◌, ◌≤◌, List, take, length, codes}
use Rattle.json_query.specs.Query.{Query}
use Rattle.json_query.specs.Text.{IsQuery, BeginsQuery}
use Rattle.json_query.specs.TextStates.{query_outcome, is_refused}
use Rattle.json_query.specs.declared.error.Fault.{Fault}
use Rattle.json_query.specs.declared.error.QueryCode.{QueryCode}
use Rattle.json_query.specs.declared.error.QueryCode.TheVariants.{NoMemory, ExpectedRoot, ExpectedSegment, ExpectedName, ExpectedSelector, ExpectedCommaOrBracket, ExpectedDigit, IntegerOutOfRange, UnclosedString, ControlCharacter, InvalidEscape, InvalidSurrogate, Filter}

abbrev pub query_code_name : QueryCode → List ℕ
query_code_name NoMemory = codes "NoMemory"
query_code_name ExpectedRoot = codes "ExpectedRoot"
query_code_name ExpectedSegment = codes "ExpectedSegment"
query_code_name ExpectedName = codes "ExpectedName"
query_code_name ExpectedSelector = codes "ExpectedSelector"
query_code_name ExpectedCommaOrBracket = codes "ExpectedCommaOrBracket"
query_code_name ExpectedDigit = codes "ExpectedDigit"
query_code_name IntegerOutOfRange = codes "IntegerOutOfRange"
query_code_name UnclosedString = codes "UnclosedString"
query_code_name ControlCharacter = codes "ControlCharacter"
query_code_name InvalidEscape = codes "InvalidEscape"
query_code_name InvalidSurrogate = codes "InvalidSurrogate"
query_code_name Filter = codes "Filter"

-- memory runs out
abbrev pub no_memory_in_fault : Fault
no_memory_in_fault = record { code = NoMemory; left = 0 }

-- how many bytes of so many are before the fault, which is 0 if memory runs out
abbrev pub offset_after : QueryCode → ℕ → ℕ → ℕ
offset_after NoMemory left size = 0
offset_after _ left size = size - left

abbrev pub offset_of : Fault → ℕ → ℕ
offset_of f size = offset_after f.code f.left size

-- the bytes are no query: some query begins with the first k of them, and none with one byte more
pub record BreaksAt (b : List ℕ) (k : ℕ) : Type 0 where
  pub within : k ≤ length b
  pub begins : BeginsQuery (take k b)
  pub no_longer : k < length b → ¬ (BeginsQuery (take (suc k) b))
  pub no_query : (q : Query) → ¬ (IsQuery q b)

-- where and why parsing failed
abbrev pub ParsingFails : List ℕ → QueryCode → ℕ → Type 0
ParsingFails b NoMemory k = k ≡ 0
ParsingFails b code k = BreaksAt b k

-- the code is that with which a reader of the text stops (`TextStates`), unless memory ran out
abbrev pub HasCause : List ℕ → QueryCode → ℕ → Type 0
HasCause b NoMemory k = Unit {0}
HasCause b code k = (left : ℕ) × (query_outcome b ≡ is_refused code left) × (k ≡ length b - left)
