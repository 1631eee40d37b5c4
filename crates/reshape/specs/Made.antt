-- A large input that is made from a number, and what is reported of it and of its text.
use Rattle.std.specs.Prelude.{◌≡◌, ◌⊎◌, ℕ, zero, suc, List, [], ◌∷◌, ◌++◌, length, sum, decimal, codes, None, true, false}
use Rattle.std.specs.List.{join_by, range_with_len}
use Rattle.json_grammar.specs.Tree.{Tree}
use Rattle.json_grammar.specs.Grammar.{is_text}
use Rattle.json_io.specs.Errors.{no_memory}
use Rattle.json_io.specs.Known.{Appends}
use Rattle.json_io.specs.Outside.{SinkState, Rose}
use Rattle.json_io.specs.declared.error.Error.{Error}
use Rattle.json_io.specs.declared.error.ErrorCode.{ErrorCode}
use Rattle.json_io.specs.declared.error.Place.{Place}
use Rattle.reshape.specs.Reshape.{TextLayout, laid_out}
use Rattle.json_command.specs.Printing.{PrintingFails}

-- the record of a number I: {"n": I, "k": [-0, 1.50], "a": "\u0041"}
abbrev pub made_record : ℕ → List ℕ
made_record i = codes "{\"n\": " ++ (decimal i ++ codes ", \"k\": [-0, 1.50], \"a\": \"\\u0041\"}")

-- the records of these numbers, with a comma and a space between any two
abbrev pub made_records : List ℕ → List ℕ
made_records is = join_by made_record (codes ", ") is

-- made input: an array of n records, which are numbered from 0 on
abbrev pub made : ℕ → List ℕ
made n = codes "[" ++ (made_records (range_with_len 0 n) ++ codes "]")

-- what precedes a record: nothing before the first, and a comma and a space before each other
abbrev pub separator : ℕ → List ℕ
separator zero = []
separator (suc i) = codes ", "

-- a name, how many bytes there are, a space, their sum, and one byte 0A
abbrev pub totals : List ℕ → List ℕ → List ℕ
totals name b = name ++ (decimal (length b) ++ (codes " " ++ (decimal (sum b) ++ 10 ∷ [])))

-- the totals of an input, and of what was printed of it
abbrev pub summary : List ℕ → List ℕ → List ℕ
summary input output = totals (codes "in ") input ++ totals (codes "out ") output

-- no whitespace between the tokens, and members in the order of their keys
abbrev pub sorted_compact : TextLayout
sorted_compact = record { indent = None; sorts = true }

-- the input is a text of a tree, and this is the sorted compact text of that tree
pub record IsPrinted (input output : List ℕ) : Type 0 where
  pub tree : Tree
  pub is_text_of_it : is_text false tree input
  pub prints : output ≡ laid_out sorted_compact tree

-- this is the summary of made input of n records, and of what is printed of it
pub record IsSummary (n : ℕ) (text : List ℕ) : Type 0 where
  pub output : List ℕ
  pub printed : IsPrinted (made n) output
  pub sums : text ≡ summary (made n) output

-- the sink gained exactly the summary, and was flushed
pub record GainsSummary (n : ℕ) (sink sink' : SinkState) : Type 0 where
  pub text : List ℕ
  pub summary_is : IsSummary n text
  pub gains : Appends sink.gained sink'.gained text
  pub flushed : sink'.unflushed ≡ false

-- why the summary was not written, and that no more than a front of it was gained. Memory runs out before anything is written, or in the sink
pub record SummaryFails (n : ℕ) (sink sink' : SinkState) (code : ErrorCode) (place : Place) : Type 0 where
  pub text : List ℕ
  pub summary_is : IsSummary n text
  pub fails : PrintingFails sink sink' text code place
  pub ran_out : ◌≡◌ {A = Error} (record { code = code; place = place }) no_memory → (sink' ≡ sink) ⊎ Rose sink.lacks sink'.lacks
