use Rattle.std.proofs.Common.{inr, length, map, sym, ap, ◌∙◌}
use Rattle.json_query.specs.Models.{selector_of}
use Rattle.json_query.specs.TextStates.{after_segment, outcome, with_segment}
use Rattle.json_query.specs.declared.error.QueryCode.TheVariants as code
use Rattle.json_query.proofs.TextChars.{refused_as}
use Rattle.json_query.proofs.TextParts.{dotted_halts, dotted_name}
use Rattle.json_query.proofs.parse.read_dotted.Goals as goal

pub returns-in-Letter-clause-read : goal.returns-in-Letter-clause-read
returns-in-Letter-clause-read c = λ s qs descends d.
    let pushed = rw c.new-selectors.ensures.items at c.in_ok-push-in-Letter.ensures.items in
    dotted_name s qs descends c.args.text.now c.split_class-class.result.1.now c.split_class-class.result.0 d c.split_class-class.ensures c.in-Letter.is
    ∙ c.in_ok-name-in-Letter.ensures.read qs descends
    ∙ ap (λ ss. outcome (after_segment (with_segment qs descends (map selector_of ss))) c.in_ok-name-in-Letter.after.now) (sym pushed)

pub returns : goal.returns
returns c =
    let fault = refused_as c.before-in_default.result code.ExpectedName (length c.args.text.now) c.before-in_default.ensures.code c.before-in_default.ensures.left in
    record {
      read = λ s qs descends d. inr (dotted_halts s qs descends c.args.text.now c.split_class-class.result.1.now c.split_class-class.result.0 d c.split_class-class.ensures c.in_default.not-Star c.in_default.not-Letter c.in_default.not-BeyondAscii ∙ fault);
      within = tt;
    }
