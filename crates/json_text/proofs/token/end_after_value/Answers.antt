use Rattle.std.proofs.Common.{ap, sym, subst, ◌∙◌, ◌≢◌, ◌≡◌, Some, None, get_or}
use Rattle.json_grammar.specs.Place.{end_done, closing}
use Rattle.json_grammar.specs.declared.ExpectedPart.TheVariants.{Done as done}
use Rattle.json_text.specs.Faults.{IsFault}
use Rattle.json_text.specs.Misplaced.{unexpected_after_value}
use Rattle.json_text.proofs.ReaderSteps.{misplaced_fault}
use Rattle.json_text.proofs.Tokens.{closed, some_top, no_end}
use Rattle.json_text.proofs.Needing.{needs_first}
use Rattle.json_text.proofs.token.end_after_value.Goals as goal

pub returns-then-byte_at-closing_byte-clause-ok : goal.returns-then-byte_at-closing_byte-clause-ok
returns-then-byte_at-closing_byte-clause-ok c = λ lossy n.
    let r = c.close.ensures in let k = c.in-Some.kind in
    closed lossy n k c.args.text.now c.args.at c.args.kinds.now done c.close.result.event c.close.result.end c.close.new.kinds c.close.result.expected r.event r.place.0 r.place.1 r.kinds (sym c.top.ensures ∙ c.in-Some.is) end_done
    (c.requires.within, sym c.byte_at.ensures ∙ c.if-byte_at-closing_byte.true ∙ c.closing_byte.ensures)

pub returns-else-byte_at-closing_byte-clause-err : goal.returns-else-byte_at-closing_byte-clause-err
returns-else-byte_at-closing_byte-clause-err c = λ lossy n ts s.
    let b = c.args.text.now in let at = c.args.at in let k = c.args.kinds.now in
    let o = sym c.top.ensures ∙ c.in-Some.is in
    let q : get_or b at 0 ≢ closing c.in-Some.kind = λ e. c.if-byte_at-closing_byte.false (c.byte_at.ensures ∙ e ∙ sym c.closing_byte.ensures) in
    let f = misplaced_fault lossy n b at k ts s c.requires.within c.requires.byte (λ m e. c.requires.apart (some_top k m) (c.requires.within, e)) (λ m p. no_end b at k done c.in-Some.kind o q m p end_done) in
    subst (λ o. IsFault lossy n b o at) (sym (c.unexpected_after_value.ensures ∙ ap unexpected_after_value (sym o))) f

pub returns-in-None-clause-err : goal.returns-in-None-clause-err
returns-in-None-clause-err c = λ lossy n ts s.
    let b = c.args.text.now in let at = c.args.at in let k = c.args.kinds.now in
    let o = sym c.top.ensures ∙ c.in-None.is in
    let f = misplaced_fault lossy n b at k ts s c.requires.within c.requires.byte (λ m e. absurd (some_top k m o)) (λ m p. let g : None ≡ Some m = sym o ∙ p in absurd (cc)) in
    subst (λ o. IsFault lossy n b o at) (sym (c.unexpected_after_value-in-None.ensures ∙ ap unexpected_after_value (sym o))) f

pub returns-else-byte_at-closing_byte-clause-needs : goal.returns-else-byte_at-closing_byte-clause-needs
returns-else-byte_at-closing_byte-clause-needs c lossy = needs_first lossy c.args.text.now c.args.at _

pub returns-in-None-clause-needs : goal.returns-in-None-clause-needs
returns-in-None-clause-needs c lossy = needs_first lossy c.args.text.now c.args.at _
