use Rattle.json_value.proofs.FirstWrites.{packed_array_leads, packed_object_leads, array_leads_as_place, object_leads_as_place}
use Rattle.json_value.proofs.laws.packed_containers_have_positions.Goals as goal

pub returns-clause-array : goal.returns-clause-array
returns-clause-array c = packed_array_leads

pub returns-clause-object : goal.returns-clause-object
returns-clause-object c = packed_object_leads

pub returns-clause-array_only : goal.returns-clause-array_only
returns-clause-array_only c = array_leads_as_place

pub returns-clause-object_only : goal.returns-clause-object_only
returns-clause-object_only c = object_leads_as_place
