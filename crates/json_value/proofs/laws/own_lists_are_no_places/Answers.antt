use Rattle.json_value.proofs.FirstWrites.{owned_is_no_place, places_of_elements, places_of_members}
use Rattle.json_value.proofs.laws.own_lists_are_no_places.Goals as goal

pub returns-clause-array : goal.returns-clause-array
returns-clause-array c = λ a. owned_is_no_place a.form

pub returns-clause-object : goal.returns-clause-object
returns-clause-object c = λ o. owned_is_no_place o.form

pub returns-clause-elements : goal.returns-clause-elements
returns-clause-elements c = places_of_elements

pub returns-clause-members : goal.returns-clause-members
returns-clause-members c = places_of_members
