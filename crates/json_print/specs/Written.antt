-- What a serializer has written.
use Rattle.std.specs.Prelude.{◌≡◌, ℕ, ◌<◌, List, ◌∷◌, ◌++◌, Bool, false, Option}
use Rattle.json_grammar.specs.Tree.{Tree, Token, tokens}
use Rattle.json_io.specs.declared.error.Error.{Error}
use Rattle.json_io.specs.Errors.{writing_failed}
use Rattle.json_io.specs.Known.{append_known}
use Rattle.json_io.specs.Outside.{SinkState}
use Rattle.json_print.specs.Layouts.{FormatterModel, LaidOut}
use Rattle.json_layout.specs.TextWriting.{Begins, StopCause}
use Rattle.json_print.specs.Printer.{SerializerState, StopsAtToken, after, start}
use Rattle.json_layout.specs.Shown.{shown_as}
use Rattle.json_print.specs.Taking.{after_all}

-- what the writer had, and then the text of the tree
abbrev pub text_written_after : SinkState → Option (List ℕ) → Bool → Tree → Option (List ℕ)
text_written_after w i sorts t = append_known w.gained (shown_as i sorts t)

-- an error was met by a serializer whose writer was in the first state: why, and that its loan stays
pub record StopsWriter (old new : SinkState) (e : Error) : Type 0 where
  pub cause : StopCause old.faults new.faults e.code e.place
  pub reported : old.faults < new.faults → e ≡ writing_failed
  pub same_loan : new.loan ≡ old.loan

-- where a state is that after the tokens of a tree, the writer has its text; where after some first
-- tokens of it, a prefix of its text, also after an error that was met at the token after these.
-- With no error no call of the writer failed
pub record Written {F : Type 0} (m : FormatterModel F) (s : SerializerState F) (new : SinkState) : Type 0 where
  pub whole : (f : F) (sorts : Bool) (w : SinkState) (i : Option (List ℕ)) (t : Tree) → LaidOut m f i 0 false
      → s ≡ after_all (after m) (start f sorts w) (tokens t) → new.gained ≡ text_written_after w i sorts t
  pub prefix : (f : F) (sorts : Bool) (w : SinkState) (i : Option (List ℕ)) (t : Tree) (ts more : List Token) → LaidOut m f i 0 false
      → tokens t ≡ ts ++ more → s ≡ after_all (after m) (start f sorts w) ts → Begins new.gained (text_written_after w i sorts t)
  pub stopped : (f : F) (sorts : Bool) (w : SinkState) (i : Option (List ℕ)) (t : Tree) (ts more : List Token) (x : Token) (e : Error) → LaidOut m f i 0 false
      → tokens t ≡ ts ++ x ∷ more → StopsAtToken m (after_all (after m) (start f sorts w) ts) x s e → Begins new.gained (text_written_after w i sorts t)
  pub calm : (f : F) (sorts : Bool) (w : SinkState) (ts : List Token) → s ≡ after_all (after m) (start f sorts w) ts → (new.faults ≡ w.faults) × (new.loan ≡ w.loan)
  pub caused : (f : F) (sorts : Bool) (w : SinkState) (ts : List Token) (x : Token) (e : Error) → StopsAtToken m (after_all (after m) (start f sorts w) ts) x s e → StopsWriter w new e
