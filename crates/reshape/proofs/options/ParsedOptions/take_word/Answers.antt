use Rattle.reshape.proofs.Gathering.{indent_taken, sorting_taken, unique_taken, depth_taken, edits_taken, indent_refused, sorting_refused, unique_refused, depth_refused, edits_refused}
use Rattle.reshape.proofs.options.ParsedOptions.take_word.Goals as goal
use Rattle.reshape.proofs.options.ParsedOptions.take_word.Goals.{in_default-via-in-Indent+else-is_none, in_default-via-in-SortKeys+else-not-self, in_default-via-in-UniqueKeys+else-not-self-2, in_default-via-in-Depth+else-is_none-2, in_default-via-in-EditsWord+else-is_none-3}

pub returns-in-Indent-clause-taken : goal.returns-in-Indent-clause-taken
returns-in-Indent-clause-taken c = λ ws h. let s = c.args.self in indent_taken ws c.args.word.now _ s.indent s.edits s.sorted s.unique s.depth c.in_ok-indent.ensures c.in-Indent.indent c.in-Indent.is c.if-is_none.ensures h

pub returns-in-SortKeys-clause-taken : goal.returns-in-SortKeys-clause-taken
returns-in-SortKeys-clause-taken c = λ ws h. let s = c.args.self in sorting_taken ws c.args.word.now _ s.indent s.edits s.sorted s.unique s.depth c.in_ok-indent.ensures c.in-SortKeys.is c.if-not-self.true h

pub returns-in-UniqueKeys-clause-taken : goal.returns-in-UniqueKeys-clause-taken
returns-in-UniqueKeys-clause-taken c = λ ws h. let s = c.args.self in unique_taken ws c.args.word.now _ s.indent s.edits s.sorted s.unique s.depth c.in_ok-indent.ensures c.in-UniqueKeys.is c.if-not-self-2.true h

pub returns-in-Depth-clause-taken : goal.returns-in-Depth-clause-taken
returns-in-Depth-clause-taken c = λ ws h. let s = c.args.self in depth_taken ws c.args.word.now _ s.indent s.edits s.sorted s.unique s.depth c.in_ok-indent.ensures c.in-Depth.levels c.in-Depth.is c.if-is_none-2.ensures h

pub returns-in-EditsWord-clause-taken : goal.returns-in-EditsWord-clause-taken
returns-in-EditsWord-clause-taken c = λ ws h. let s = c.args.self in edits_taken ws c.args.word.now _ s.indent s.edits s.sorted s.unique s.depth c.in_ok-indent.ensures c.in-EditsWord.edits c.in-EditsWord.is c.if-is_none-3.ensures h

pub returns-in_default-clause-refused : goal.returns-in_default-clause-refused
returns-in_default-clause-refused c =
    λ ws more h.
    let s = c.args.self in
    let role = c.in_ok-indent.ensures in
    elim c.in_default.branch [
      | in_default-via-in-Indent+else-is_none w ↦ indent_refused ws c.args.word.now _ s.indent s.edits s.sorted s.unique s.depth role more w.in-Indent.indent w.in-Indent.is w.if-is_none.ensures h
      | in_default-via-in-SortKeys+else-not-self w ↦ sorting_refused ws c.args.word.now _ s.indent s.edits s.sorted s.unique s.depth role more w.in-SortKeys.is w.if-not-self.false h
      | in_default-via-in-UniqueKeys+else-not-self-2 w ↦ unique_refused ws c.args.word.now _ s.indent s.edits s.sorted s.unique s.depth role more w.in-UniqueKeys.is w.if-not-self-2.false h
      | in_default-via-in-Depth+else-is_none-2 w ↦ depth_refused ws c.args.word.now _ s.indent s.edits s.sorted s.unique s.depth role more w.in-Depth.levels w.in-Depth.is w.if-is_none-2.ensures h
      | in_default-via-in-EditsWord+else-is_none-3 w ↦ edits_refused ws c.args.word.now _ s.indent s.edits s.sorted s.unique s.depth role more w.in-EditsWord.edits w.in-EditsWord.is w.if-is_none-3.ensures h
    ]
