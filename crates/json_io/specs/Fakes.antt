-- What contracts see of a source and a sink in memory that fail on request.
use Rattle.std.specs.Prelude.{ℕ, List, ◌++◌, drop}
use Rattle.json_io.specs.Outside.{counted}
use Rattle.json_io.specs.declared.sink.SinkError.{SinkError}
use Rattle.json_io.specs.declared.sink.SinkError.TheVariants.{Failed, NoMemory}

pub record FakeSourceView : Type 0 where
  -- the bytes left
  pub left : List ℕ
  -- how many bytes a call gives at most
  pub most : ℕ
  -- the numbers, from 0, of the calls that fail
  pub fail : List ℕ
  -- the number of the next call
  pub calls : ℕ
  -- how many bytes were given, and how many calls failed
  pub given : ℕ
  pub faults : ℕ

-- after a call that gave n bytes
abbrev pub gave : ℕ → FakeSourceView → FakeSourceView
gave n s = record s { left = drop n s.left; calls = counted 1 s.calls; given = counted n s.given }

-- after a call that failed
abbrev pub gave_nothing : FakeSourceView → FakeSourceView
gave_nothing s = record s { calls = counted 1 s.calls; faults = counted 1 s.faults }

pub record FakeSinkView : Type 0 where
  -- the bytes taken
  pub gained : List ℕ
  -- how many bytes a call takes at most
  pub most : ℕ
  -- the numbers, from 0, of the calls that fail; writes and flushes are counted together
  pub fail : List ℕ
  -- the number of the next call
  pub calls : ℕ
  -- how many calls failed, and how many found no memory
  pub faults : ℕ
  pub lacks : ℕ

-- after a call that took these bytes
abbrev pub sink_after_taking : List ℕ → FakeSinkView → FakeSinkView
sink_after_taking bytes s = record s { gained = s.gained ++ bytes; calls = counted 1 s.calls }

-- after a call that took nothing
abbrev pub refused : SinkError → FakeSinkView → FakeSinkView
refused Failed s = record s { calls = counted 1 s.calls; faults = counted 1 s.faults }
refused NoMemory s = record s { calls = counted 1 s.calls; lacks = counted 1 s.lacks }
