use Rattle.std.proofs.Common.{subst}
use Rattle.json_text.specs.declared.event.Event.{Event}
use Rattle.json_text.specs.Parsing.{AdvancesTo}
use Rattle.json_tokens.proofs.Events.{tree_over, reads_ahead, whole_over}
use Rattle.json_tokens.proofs.ValueFaults.{has_fault}
use Rattle.json_tokens.proofs.ahead.read_ahead.Goals as goal

pub unreachable-requires : goal.unreachable-requires
unreachable-requires c =
    let i = c.requires.given in
    let g = subst (λ (e : Event). AdvancesTo c.args.parser.now e c.next.new.self) c.in-End.is c.in-Ok.ensures.ok.2 in
    let t = g.1 i.0 i.1 in
    c.requires.whole (tree_over c.args.parser.now i.0 t.0 i.1 t.2)

pub returns-clause-ok : goal.returns-clause-ok
returns-clause-ok c =
    let i = c.requires.given in
    let e = c.in-Ok.ensures in
    reads_ahead c.args.parser.now c.next.new.self c.in-Ok.event i.0 i.1 c.in_default.not-End e.same e.ok.2 e.tight e.ok.1

pub returns-clause-read : goal.returns-clause-read
returns-clause-read c = λ w. c.in-Ok.ensures.reads (λ v. c.requires.whole (whole_over c.args.parser.now v)) w

pub returns-in-Err-clause-fault : goal.returns-in-Err-clause-fault
returns-in-Err-clause-fault c =
    let p = c.args.parser.now in
    has_fault p c.in-Err.error (c.in-Err.ensures.needs c.requires.fresh) (c.in-Err.ensures.inside (λ w. c.requires.whole (whole_over p w)))
