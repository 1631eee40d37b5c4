-- What a source and a sink are, and what a call does to them.
use Rattle.std.specs.Prelude.{◌≡◌, ℕ, ◌+◌, ◌-◌, ◌^◌, ◌<◌, ◌≤◌, min, max, Bool, false, List, [], length, take, OnOk, OnErr, IfOk, IsErrOf, Result}
use Rattle.std.specs.declared.option.Option.{Option}
use Rattle.std.specs.Borrow.{GName}
use Rattle.json_io.specs.Known.{Keeps, Consumes, WriteAppends, if_known}
use Rattle.json_io.specs.declared.source.Failed.{Failed}
use Rattle.json_io.specs.declared.sink.SinkError.{SinkError}
use Rattle.json_io.specs.declared.sink.SinkError.TheVariants as sink_error

-- ---- counts

-- the count n later: at the last value of u64 it stays
abbrev pub counted : ℕ → ℕ → ℕ
counted n before = max before (min (before + n) (2 ^ 64 - 1))

-- the count rose by at least n, or is at the last value of u64
abbrev pub RoseBy : ℕ → ℕ → ℕ → Type 0
RoseBy n before now = counted n before ≤ now

-- the count rose, or is at the last value of u64
abbrev pub Rose : ℕ → ℕ → Type 0
Rose before now = RoseBy 1 before now

-- ---- a source

pub record SourceState : Type 0 where
  -- the bytes left, where they are known
  pub left : Option (List ℕ)
  -- how many bytes it gave
  pub given : ℕ
  -- how many calls failed
  pub faults : ℕ

-- a call of `read` whose buffer then holds these bytes
pub record Reads (old new : SourceState) (buf : List ℕ) (result : Result ℕ Failed) : Type 0 where
  pub gives : IfOk result (λ n. Consumes old.left new.left (take n buf))
  pub given_ok : IfOk result (λ n. new.given ≡ counted n old.given)
  pub faults_ok : OnOk result (new.faults ≡ old.faults)
  pub ends : IfOk result (λ n. n ≡ 0 → 0 < length buf → new.left ≡ if_known old.left [])
  pub left_err : OnErr result (Keeps old.left new.left)
  pub given_err : OnErr result (new.given ≡ old.given)
  pub faults_err : OnErr result (Rose old.faults new.faults)
  pub faults_later : old.faults ≤ new.faults

-- ---- a sink

-- what is known of a borrowed sink
pub record Loan : Type 0 where
  -- of the borrow: it tells its lender from other sinks
  pub name : GName
  -- the bytes that the lender had taken when the loan began, where they are known and kept in mind
  pub began : Option (List ℕ)

pub record SinkState : Type 0 where
  -- the bytes taken, where they are known
  pub gained : Option (List ℕ)
  -- how many calls failed
  pub faults : ℕ
  -- how many calls found no memory
  pub lacks : ℕ
  -- whether bytes may wait for a flush
  pub unflushed : Bool
  -- of a sink that sends to a borrowed one
  pub loan : Option Loan

-- how a call left the counts; the loan stays
pub record Counts {T : Type 0} (old new : SinkState) (result : Result T SinkError) : Type 0 where
  pub faults_ok : OnOk result (new.faults ≡ old.faults)
  pub lacks_ok : OnOk result (new.lacks ≡ old.lacks)
  pub failed : IsErrOf result sink_error.Failed → Rose old.faults new.faults
  pub failed_lacks : IsErrOf result sink_error.Failed → new.lacks ≡ old.lacks
  pub lacking : IsErrOf result sink_error.NoMemory → Rose old.lacks new.lacks
  pub lacking_faults : IsErrOf result sink_error.NoMemory → new.faults ≡ old.faults
  pub faults_later : old.faults ≤ new.faults
  pub lacks_later : old.lacks ≤ new.lacks
  pub same_loan : new.loan ≡ old.loan

-- a call of `write`
pub record Writes (old new : SinkState) (piece : List ℕ) (result : Result ℕ SinkError) : Type 0 where
  pub progress : IfOk result (λ n. 0 < length piece → 0 < n)
  pub appends : WriteAppends old.gained new.gained result piece
  pub counts : Counts old new result

-- a call of `flush`
pub record Flushes (old new : SinkState) (result : Result (Unit {0}) SinkError) : Type 0 where
  pub keeps : Keeps old.gained new.gained
  pub flushed : OnOk result (new.unflushed ≡ false)
  pub counts : Counts old new result
