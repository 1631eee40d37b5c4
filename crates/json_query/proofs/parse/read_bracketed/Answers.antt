use Rattle.std.proofs.Common.{inr, length, map, ◌∙◌}
use Rattle.json_query.specs.Models.{selector_of}
use Rattle.json_query.specs.Reading.{holding}
use Rattle.json_query.specs.TextStates.{after_selector, before_selector, with_selector}
use Rattle.json_query.specs.declared.error.QueryCode.TheVariants as code
use Rattle.json_query.proofs.TextChars.{refused_as}
use Rattle.json_query.proofs.TextReading.{skips_after, skips_first}
use Rattle.json_query.proofs.TextParts.{end_halts}
use Rattle.json_query.proofs.parse.read_bracketed.Goals as goal

pub returns-in_default : goal.returns-in_default
returns-in_default c =
    let end = c.skip_blank-end.result.now in
    let fault = refused_as c.before-in_default.result code.ExpectedCommaOrBracket (length end) c.before-in_default.ensures.code c.before-in_default.ensures.left in
    record {
      read = λ qs descends.
          let before = holding qs descends (map selector_of c.selectors.selectors.items) in
          let o = with_selector before (selector_of c.in_ok-selector.selector) in
          inr (c.selectors.invariant.read qs descends
          ∙ c.skip_blank.ensures.skipped (before_selector before) (skips_first before)
          ∙ c.in_ok-selector.ensures.read before
          ∙ c.skip_blank-end.ensures.skipped (after_selector o) (skips_after o)
          ∙ end_halts o end c.split_class-class.result.1.now c.split_class-class.result.0 c.split_class-class.ensures c.skip_blank-end.ensures.all c.in_default.not-Comma c.in_default.not-Closing
          ∙ fault);
      within = tt;
    }
