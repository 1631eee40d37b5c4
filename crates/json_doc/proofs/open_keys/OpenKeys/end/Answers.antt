use Rattle.std.proofs.Common.{sym, subst, arith}
use Rattle.json_grammar.specs.Repeated.{outer_keys}
use Rattle.json_doc.specs.OpenNames.{OpenNamesHeld}
use Rattle.json_doc.proofs.NameSets.{state_ended, state_none, nothing_there}
use Rattle.json_doc.proofs.open_keys.OpenKeys.end.Goals as goal

pub returns-in-Some : goal.returns-in-Some
returns-in-Some c all h =
    let s = c.args.self.now in
    let o = c.in-Some.outer in
    subst (λ z. OpenNamesHeld z o.start o.many c.pop.new.self.items (outer_keys all)) (sym c.truncate.ensures.items)
    (state_ended s.few.items s.start s.many s.outer.items c.pop.new.self.items o all h c.in-Some.ensures.items)

pub returns-in_default : goal.returns-in_default
returns-in_default c all h =
    let s = c.args.self.now in
    let n = c.in_default.ensures.cases in
    state_none s.few.items s.start s.many s.outer.items c.pop.new.self.items all h (nothing_there s.outer.items (omega (arith, n.0, s.outer.ok.0))) (nothing_there c.pop.new.self.items (omega (arith, n.1, c.pop.new.self.ok.0)))
