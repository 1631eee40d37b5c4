use Rattle.std.proofs.Common.{◌≡◌, drop, length, length-drop, Option, None, IfSome, sym, ap, subst, ◌∙◌, arith}
use Rattle.json_io.specs.declared.error.Error.{Error}
use Rattle.json_text.specs.Faults.{IsFault, IsInValue}
use Rattle.json_text.specs.Parsing.{ParserState}
use Rattle.json_text.specs.Due.{NextNeeds}
use Rattle.json_text.proofs.Going.{step_goes, step_tight, step_stood, step_order, to_rest, within_text}
use Rattle.json_text.proofs.Needing.{needs_left}
use Rattle.json_text.proofs.parser.Parser.advance.Goals as goal

pub step-requires-clause-given : goal.step-requires-clause-given
step-requires-clause-given g c =
    let s = c.self.inside in let v = c.self.invariant in let i = v.given in
    (i.0, to_rest s.lossy s.limit s.start s.at s.text.now s.rest.now s.kinds s.expected i.0 v.rest_is i.1)

pub invariant_of-self : goal.invariant_of-self
invariant_of-self g c =
    let s = c.self.inside in let v = c.self.invariant in let r = c.in-Ok.read in let e = c.in-Ok.ensures in
    let o = step_order s.text.now s.rest.now s.start s.lossy s.limit s.failure s.at r.end s.kinds c.step.new.kinds s.expected r.expected v.rest_is r.event e.ok e.tight (omega (arith, v.within, ap length v.rest_is, length-drop s.start s.text.now)) in
    let none : s.failure ≡ None = ap (λ (p : ParserState). p.failure) c.self.view_is ∙ c.requires in
    record {
      rest_is = v.rest_is;
      given = step_stood s.text.now s.rest.now s.start s.lossy s.limit s.failure s.at r.end s.kinds c.step.new.kinds s.expected r.expected v.rest_is r.event e.ok v.given;
      failed = v.failed;
      inside = λ n. subst (λ (f : Option Error). IfSome f (λ e. IsInValue e.code)) (sym none) tt;
      order = omega arith;
      within = within_text s.text.now s.rest.now s.start r.end v.rest_is o.1 (omega (arith, v.within));
      most = v.most;
    }

pub returns-in-Ok-clause-ok : goal.returns-in-Ok-clause-ok
returns-in-Ok-clause-ok g c =
    let s = c.self.inside in let v = c.self.invariant in let r = c.in-Ok.read in
    rw (← c.self.view_is) (step_goes s.text.now s.rest.now s.start s.lossy s.limit s.failure s.at r.end s.kinds c.step.new.kinds s.expected r.expected v.rest_is r.event c.in-Ok.ensures.ok)

pub returns-in-Ok-clause-tight : goal.returns-in-Ok-clause-tight
returns-in-Ok-clause-tight g c =
    let s = c.self.inside in let v = c.self.invariant in let r = c.in-Ok.read in
    rw (← c.self.view_is) (step_tight s.text.now s.rest.now s.start s.lossy s.limit s.failure s.at r.end s.kinds c.step.new.kinds s.expected r.expected v.rest_is r.event c.in-Ok.ensures.tight)

pub returns-in-Err-clause-err : goal.returns-in-Err-clause-err
returns-in-Err-clause-err g c =
    let s = c.self.inside in let f = c.in-Err.fault in
    rw (← c.self.view_is) (subst (λ y. IsFault s.lossy s.limit y f.code f.offset) c.self.invariant.rest_is c.in-Err.ensures.err)

pub returns-in-Err-clause-needs : goal.returns-in-Err-clause-needs
returns-in-Err-clause-needs g c =
    let s = c.self.inside in let f = c.in-Err.fault in
    rw (← c.self.view_is)
    (needs_left s.lossy (drop s.start s.text.now) s.start s.at f.offset f.code (subst (λ b. NextNeeds s.lossy b s.at f.code f.offset) c.self.invariant.rest_is c.in-Err.ensures.needs))
