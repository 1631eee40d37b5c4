-- What follows after what a parser took, and how a sequence or a map that its caller reads ends
-- there.
use Rattle.std.specs.Prelude.{◌≡◌, Bool, ℕ, ◌+◌, ◌<◌, ◌≤◌, List, [], length, get_or, cond, ◌==◌, Option, Some, None, slice_get}
use Rattle.json_grammar.specs.declared.Kind.{Kind}
use Rattle.json_grammar.specs.declared.Kind.TheVariants.{Array as array, Object as object}
use Rattle.json_grammar.specs.Grammar.{IsWhitespace, ws}
use Rattle.json_grammar.specs.Given.{piece}
use Rattle.json_grammar.specs.Place.{closing}
use Rattle.json_io.specs.declared.error.Error.{Error}
use Rattle.json_io.specs.declared.error.ErrorCode.{ErrorCode}
use Rattle.json_io.specs.declared.error.ErrorCode.TheVariants as code
use Rattle.json_text.specs.Parsing.{ParserState, HasGiven}
use Rattle.json_io.specs.Positions.{place_at}
use Rattle.json_scan.specs.Runs.{ByteAt}

-- the next byte that is no whitespace is at k, or the text ends there
pub record ComesNext (s : ParserState) (k : ℕ) : Type 0 where
  pub order : s.index ≤ k
  pub within : k ≤ length s.text
  pub space : ws (piece s.text s.index k)
  pub stop : k < length s.text → ¬ (IsWhitespace (get_or s.text k 0))

-- only whitespace is left
abbrev pub NothingLeft : ParserState → Type 0
NothingLeft s = ComesNext s (length s.text)

-- another byte follows, which is an error at its place
pub record TrailsAt (s : ParserState) (e : Error) : Type 0 where
  pub at : ℕ
  pub next : ComesNext s at
  pub some : at < length s.text
  pub reported : e ≡ record { code = code.TrailingCharacters; place = place_at s.text at }

-- it reads a text from i on, and has taken nothing yet
pub record IsNewAt (text : List ℕ) (lossy : Bool) (limit i : ℕ) (s : ParserState) : Type 0 where
  pub text_is : s.text ≡ text
  pub start : s.start ≡ i
  pub index : s.index ≡ i
  pub lossy_is : s.lossy ≡ lossy
  pub limit_is : s.limit ≡ limit
  pub fresh : HasGiven s []
  pub unfailed : s.failure ≡ None

-- the closing bracket is next, and the new parser begins right after it
pub record ReadsEnd (old : ParserState) (k : Kind) (new : ParserState) : Type 0 where
  pub at : ℕ
  pub next : ComesNext old at
  pub closes : ByteAt old.text at (closing k)
  pub after : IsNewAt old.text old.lossy old.limit (at + 1) new

-- why a sequence or a map does not end with what follows
abbrev pub no_end : Kind → Option ℕ → ErrorCode
no_end k None = code.EofWhileParsing
no_end array (Some x) = code.ExpectedArrayCommaOrEnd
no_end object (Some x) = cond (x == 44) code.TrailingComma code.ExpectedObjectCommaOrEnd

-- another byte than the closing bracket is next, or none, and is refused at its place
pub record LacksEnd (s : ParserState) (k : Kind) (e : Error) : Type 0 where
  pub at : ℕ
  pub next : ComesNext s at
  pub other : ¬ (ByteAt s.text at (closing k))
  pub reported : e ≡ record { code = no_end k (slice_get s.text at); place = place_at s.text at }
