-- What reading all and putting all do.
use Rattle.std.specs.Prelude.{◌≡◌, ℕ, ◌+◌, ◌<◌, ◌≤◌, List, ◌++◌, length, false, ⊤, Result, IfErr, IfSome, OnOk, OnErr, IsErrOf}
use Rattle.std.specs.declared.option.Option.{Option}
use Rattle.json_io.specs.Known.{Appends, Keeps, Consumes, Drains}
use Rattle.json_io.specs.declared.error.Error.{Error}
use Rattle.json_io.specs.declared.error.ErrorCode.{ErrorCode}
use Rattle.json_io.specs.declared.error.ErrorCode.TheVariants.{NoMemory, Io, TooLarge}
use Rattle.json_io.specs.declared.error.Place.{Place}
use Rattle.json_io.specs.declared.error.Place.TheVariants.{None as nowhere, Reading, Writing}
use Rattle.json_io.specs.Errors.{writing_failed}
use Rattle.json_io.specs.Outside.{SourceState, SinkState, Rose, RoseBy, counted}

-- ---- reading

-- the source gave these bytes, and no call failed
pub record Gives (old new : SourceState) (bytes : List ℕ) : Type 0 where
  pub consumed : Consumes old.left new.left bytes
  pub given_so : new.given ≡ counted (length bytes) old.given
  pub no_fault : new.faults ≡ old.faults

-- all bytes came, and they are no more than the limit
pub record ReadsWithin (limit : ℕ) (old new : SourceState) (bytes : List ℕ) : Type 0 where
  pub all : Drains old.left new.left bytes
  pub within : length bytes ≤ limit
  pub given_so : new.given ≡ counted (length bytes) old.given
  pub no_fault : new.faults ≡ old.faults

-- why not all was read
abbrev pub ReadingCause : ℕ → SourceState → SourceState → ErrorCode → Place → Type 0
ReadingCause limit old new NoMemory nowhere = ⊤
ReadingCause limit old new Io Reading = Rose old.faults new.faults
ReadingCause limit old new TooLarge nowhere = RoseBy (limit + 1) old.given new.given × IfSome old.left (λ xs. limit < length xs)
ReadingCause limit old new code place = ⊥

-- why one read gave nothing
abbrev pub PieceCause : SourceState → SourceState → ErrorCode → Place → Type 0
PieceCause old new NoMemory nowhere = new ≡ old
PieceCause old new Io Reading = Keeps old.left new.left × (new.given ≡ old.given) × Rose old.faults new.faults
PieceCause old new code place = ⊥

-- at most n bytes were taken
pub record TakesAtMost (n : ℕ) (old new : SourceState) : Type 0 where
  pub taken : List ℕ
  pub few : length taken ≤ n
  pub consumed : Consumes old.left new.left taken
  pub given_so : new.given ≡ counted (length taken) old.given
  pub faults_later : old.faults ≤ new.faults

-- ---- writing

-- a front of these bytes was gained
pub record AppendsFront (gained gained' : Option (List ℕ)) (bytes : List ℕ) : Type 0 where
  pub front : List ℕ
  pub back : List ℕ
  pub whole : bytes ≡ front ++ back
  pub gains : Appends gained gained' front

-- why not all was written
abbrev pub WritingCause : SinkState → SinkState → ErrorCode → Place → Type 0
WritingCause old new NoMemory nowhere = Rose old.lacks new.lacks
WritingCause old new Io Writing = Rose old.faults new.faults
WritingCause old new code place = ⊥

-- no count fell, and the loan stays
pub record Later (old new : SinkState) : Type 0 where
  pub faults : old.faults ≤ new.faults
  pub lacks : old.lacks ≤ new.lacks
  pub same_loan : new.loan ≡ old.loan

-- this piece was written, or a front of it
pub record Puts (old new : SinkState) (piece : List ℕ) (result : Result (Unit {0}) Error) : Type 0 where
  pub ok : OnOk result (Appends old.gained new.gained piece)
  pub err : OnErr result (AppendsFront old.gained new.gained piece)
  pub faults_ok : OnOk result (new.faults ≡ old.faults)
  pub lacks_ok : OnOk result (new.lacks ≡ old.lacks)
  pub cause : IfErr result (λ e. WritingCause old new e.code e.place)
  pub reported : old.faults < new.faults → IsErrOf result writing_failed
  pub later : Later old new

-- what waited was sent
pub record FlushesAll (old new : SinkState) (result : Result (Unit {0}) Error) : Type 0 where
  pub keeps : Keeps old.gained new.gained
  pub ok : OnOk result (new.unflushed ≡ false)
  pub cause : IfErr result (λ e. WritingCause old new e.code e.place)
  pub reported : old.faults < new.faults → IsErrOf result writing_failed
  pub later : Later old new

-- at most one byte more than the limit was taken
abbrev pub TakesOneBeyond : ℕ → (old new : SourceState) → Type 0
TakesOneBeyond limit old new = TakesAtMost (limit + 1) old new
