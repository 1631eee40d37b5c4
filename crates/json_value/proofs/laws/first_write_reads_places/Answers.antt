use Rattle.json_value.proofs.FirstWrites.{elements_are_read, members_are_read}
use Rattle.json_value.proofs.laws.first_write_reads_places.Goals as goal

pub returns-clause-elements : goal.returns-clause-elements
returns-clause-elements c = elements_are_read

pub returns-clause-members : goal.returns-clause-members
returns-clause-members c = members_are_read
