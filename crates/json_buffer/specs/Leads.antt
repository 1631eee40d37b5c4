-- What is written before a value or a key.
use Rattle.std.specs.Prelude.{ℕ, List, [], ◌∷◌}
use Rattle.json_buffer.specs.declared.lead.Lead.{Lead}
use Rattle.json_buffer.specs.declared.lead.Lead.TheVariants.{Nothing, Comma, Colon}

abbrev pub lead_bytes : Lead → List ℕ
lead_bytes Nothing = []
lead_bytes Comma = 44 ∷ []
lead_bytes Colon = 58 ∷ []
