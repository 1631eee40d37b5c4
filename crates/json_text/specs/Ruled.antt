-- What clauses see of rules.
use Rattle.std.specs.Prelude.{false}
use Rattle.json_grammar.specs.Rules as grammar
use Rattle.json_text.specs.declared.rules.Rules.{Rules}

-- what a reader refuses by them
abbrev pub rules_of : Rules → grammar.Rules
rules_of r = record { limit = r.depth; unique = r.unique }

-- the rules of a reader that is asked for none
abbrev pub usual_rules : grammar.Rules
usual_rules = record { limit = 254; unique = false }
