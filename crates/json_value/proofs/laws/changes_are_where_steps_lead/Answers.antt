use Rattle.json_value.proofs.WhereStepsLead.{change_is_there, change_refused_there, no_change_nowhere, steps_lead_to_parts}
use Rattle.json_value.proofs.laws.changes_are_where_steps_lead.Goals as goal

pub returns-clause-there : goal.returns-clause-there
returns-clause-there c = change_is_there

pub returns-clause-refused : goal.returns-clause-refused
returns-clause-refused c = change_refused_there

pub returns-clause-nowhere : goal.returns-clause-nowhere
returns-clause-nowhere c = no_change_nowhere

pub returns-clause-parts : goal.returns-clause-parts
returns-clause-parts c = steps_lead_to_parts
