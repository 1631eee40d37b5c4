use Rattle.json_value.proofs.FirstWrites.{elements_stay, members_stay}
use Rattle.json_value.proofs.laws.first_write_keeps_own_list.Goals as goal

pub returns-clause-elements : goal.returns-clause-elements
returns-clause-elements c = elements_stay

pub returns-clause-members : goal.returns-clause-members
returns-clause-members c = members_stay
