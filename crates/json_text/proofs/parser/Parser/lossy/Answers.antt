use Rattle.std.proofs.Common.{◌≡◌, ◌+◌, ◌-◌, None, Option, IfSome, true, [], drop, subst, sym}
use Rattle.json_io.specs.declared.error.Error.{Error}
use Rattle.json_text.specs.Faults.{FaultFrom, IsInValue}
use Rattle.json_text.specs.Parsing.{ParserState, HasGiven}
use Rattle.json_text.proofs.Modes.{fresh_in}
use Rattle.json_text.proofs.parser.Parser.lossy.Goals as goal

pub invariant_of-result : goal.invariant_of-result
invariant_of-result c =
    let s = c.self.inside in let i = c.self.invariant in
    let q = subst (λ (p : ParserState). HasGiven p [] × (p.failure ≡ None)) (sym c.self.view_is) c.requires in
    record {
      rest_is = i.rest_is;
      given = ([], fresh_in s.lossy true s.limit (drop s.start s.text.now) ((s.start + s.at) - s.start) s.kinds s.expected q.0);
      failed = subst (λ (o : Option Error). IfSome o (λ e. FaultFrom true s.limit s.start s.text.now e.code e.place)) (sym q.1) tt;
      inside = λ n. subst (λ (o : Option Error). IfSome o (λ e. IsInValue e.code)) (sym q.1) tt;
      order = i.order;
      within = i.within;
      most = i.most;
    }

pub returns-clause-fresh : goal.returns-clause-fresh
returns-clause-fresh c =
    let s = c.self.inside in
    let q = subst (λ (p : ParserState). HasGiven p [] × (p.failure ≡ None)) (sym c.self.view_is) c.requires in
    (fresh_in s.lossy true s.limit (drop s.start s.text.now) ((s.start + s.at) - s.start) s.kinds s.expected q.0, q.1)
