-- What becomes of a source and a sink: a text goes in, and the text of the edited tree goes out.
use Rattle.std.specs.Prelude.{Bool, Option, cond, ◌≡◌, ◌⊎◌, ℕ, ◌+◌, ◌<◌, List, length, ⊤, IfSome, false, Ok, Err}
use Rattle.json_grammar.specs.Tree.{Tree}
use Rattle.json_grammar.specs.Grammar.{is_text}
use Rattle.json_grammar.specs.Rules.{Rules}
use Rattle.json_model.specs.Sort.{sorted}
use Rattle.json_model.specs.Edit.{Edit, edited, EditRefusal, not_found, type_unmatched}
use Rattle.json_io.specs.Known.{Appends}
use Rattle.json_layout.specs.Shown.{shown_as}
use Rattle.json_layout.specs.Styles.{indent_of, is_sorted}
use Rattle.json_layout.specs.declared.style.Style.{Style}
use Rattle.json_io.specs.Outside.{SourceState, SinkState, Rose, RoseBy}
use Rattle.json_io.specs.Transfer.{AppendsFront}
use Rattle.json_io.specs.declared.error.ErrorCode.{ErrorCode}
use Rattle.json_io.specs.declared.error.ErrorCode.TheVariants.{NoMemory, Io, TooLarge, NotFound, TypeUnmatched}
use Rattle.json_io.specs.declared.error.Place.{Place}
use Rattle.json_io.specs.declared.error.Place.TheVariants.{None as nowhere, Reading, Writing, Edit as in_edit}
use Rattle.json_command.specs.Input.{max_bytes}
use Rattle.json_command.specs.Printing.{HasRunOut}
use Rattle.json_command.specs.Reading.{ReadsInput, ReadsFault}

-- how a text is laid out: the indent, or none for no whitespace between the tokens, and whether the members of each object are sorted by their keys
pub record TextLayout : Type 0 where
  pub indent : Option (List ℕ)
  pub sorts : Bool

-- the layout that a style asks for
abbrev pub layout_of : Style → TextLayout
layout_of s = record { indent = indent_of s; sorts = is_sorted s }

-- the text of a tree in a layout
abbrev pub laid_out : TextLayout → Tree → List ℕ
laid_out l tree = shown_as l.indent l.sorts tree

-- the tree whose text it is: sorted at every object where that is asked
abbrev pub ordered : TextLayout → Tree → Tree
ordered l tree = cond l.sorts (sorted tree) tree

-- a text of exactly one tree was read, every edit applied in turn, and the sink gained exactly the text of the edited tree in the layout, which is a text of it, sorted where asked, and was flushed
pub record Reshapes (rules : Rules) (es : List Edit) (l : TextLayout) (source source' : SourceState) (sink sink' : SinkState) : Type 0 where
  pub tree : Tree
  pub reads : ReadsInput rules source source' tree
  pub only : (other : Tree) → is_text false other reads.bytes → other ≡ tree
  pub changed : Tree
  pub applied : edited es tree ≡ Ok changed
  pub gains : Appends sink.gained sink'.gained (laid_out l changed)
  pub is_text_of_it : is_text false (ordered l changed) (laid_out l changed)
  pub flushed : sink'.unflushed ≡ false

-- all was read, and the edit of this number is the first that does not apply to its tree
pub record ReadsUnfit (rules : Rules) (es : List Edit) (source source' : SourceState) (number : ℕ) (why : EditRefusal) : Type 0 where
  pub tree : Tree
  pub reads : ReadsInput rules source source' tree
  pub refused : edited es tree ≡ Err (number, why)

-- all was read, every edit applied, and a front of the text of the edited tree in the layout was gained
pub record GainsFront (rules : Rules) (es : List Edit) (l : TextLayout) (source source' : SourceState) (sink sink' : SinkState) : Type 0 where
  pub tree : Tree
  pub reads : ReadsInput rules source source' tree
  pub changed : Tree
  pub applied : edited es tree ≡ Ok changed
  pub gains : AppendsFront sink.gained sink'.gained (laid_out l changed)

-- ... before memory ran out: to sort the members, in the sink, or for a text of as many bytes as a usize counts
pub record RunsOut (rules : Rules) (es : List Edit) (l : TextLayout) (source source' : SourceState) (sink sink' : SinkState) : Type 0 where
  pub front : GainsFront rules es l source source' sink sink'
  pub cause : l.sorts ≡ false → HasRunOut sink' (length (laid_out l front.changed))

-- the place of the refusal of an edit with this number: want of memory has none
abbrev pub place_numbered : ErrorCode → Place → ℕ → Place
place_numbered NoMemory place number = place
place_numbered code place number = in_edit number

-- why not every edit was applied to the tree
abbrev pub EditingRefuses : List Edit → Tree → ErrorCode → Place → Type 0
EditingRefuses es tree NoMemory nowhere = ⊤
EditingRefuses es tree NotFound (in_edit number) = edited es tree ≡ Err (number, not_found)
EditingRefuses es tree TypeUnmatched (in_edit number) = edited es tree ≡ Err (number, type_unmatched)
EditingRefuses es tree code place = ⊥

-- why it was refused, and what that left in the sink: one row for each answer
abbrev pub ReshapingRefuses : Rules → List Edit → TextLayout → SourceState → SourceState → SinkState → SinkState → ErrorCode → Place → Type 0
ReshapingRefuses rules es l source source' sink sink' NoMemory nowhere = (sink' ≡ sink) ⊎ RunsOut rules es l source source' sink sink'
ReshapingRefuses rules es l source source' sink sink' Io Reading = Rose source.faults source'.faults × (sink' ≡ sink)
ReshapingRefuses rules es l source source' sink sink' TooLarge nowhere = RoseBy (max_bytes + 1) source.given source'.given × IfSome source.left (λ b. max_bytes < length b) × (sink' ≡ sink)
ReshapingRefuses rules es l source source' sink sink' NotFound (in_edit number) = ReadsUnfit rules es source source' number not_found × (sink' ≡ sink)
ReshapingRefuses rules es l source source' sink sink' TypeUnmatched (in_edit number) = ReadsUnfit rules es source source' number type_unmatched × (sink' ≡ sink)
ReshapingRefuses rules es l source source' sink sink' Io Writing = Rose sink.faults sink'.faults × GainsFront rules es l source source' sink sink'
ReshapingRefuses rules es l source source' sink sink' code place = ReadsFault rules source source' code place × (sink' ≡ sink)
