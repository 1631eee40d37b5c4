use Rattle.std.proofs.Common.{length, ◌-◌, ◌≡◌, ◌++◌, ◌≤◌, take}
use Rattle.json_grammar.specs.Given.{piece}
use Rattle.json_model.specs.Print.{shown_bytes}
use Rattle.json_layout.proofs.blocks.store_blocks.Given as goal

abbrev pub invariant-fill : goal.invariant-fill
invariant-fill l = record {
  later : l.at ≤ l.next;
  within : l.next ≤ length l.text;
  room : l.to ≤ length l.room;
  size : length l.room ≡ length l.fn.room;
  begun : l.next ≡ l.at → l.to ≡ l.end;
  stored : take l.to l.room ≡ take l.end l.fn.room ++ shown_bytes (piece l.text l.at l.next);
}

abbrev pub decreases-fill : goal.decreases-fill
decreases-fill l = length l.text - l.next
