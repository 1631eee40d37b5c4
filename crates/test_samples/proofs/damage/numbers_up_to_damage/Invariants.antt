use Rattle.std.proofs.Common.{◌≡◌, ◌-◌, length, false}
use Rattle.test_samples.specs.Damage.{numbers, read_damage_number, beginning}
use Rattle.json_stream.specs.Streams.{TakesValues}
use Rattle.test_samples.proofs.damage.numbers_up_to_damage.Given as goal

abbrev pub invariant-values : goal.invariant-values
invariant-values l = TakesValues read_damage_number (beginning l.text) (numbers l.found.items) l.stream.input × (l.stream.ended ≡ false)

abbrev pub decreases-values : goal.decreases-values
decreases-values l = length l.stream.input.text - l.stream.input.index
