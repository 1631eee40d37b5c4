use Rattle.std.proofs.Common.{Some, SFits, w64, sym, ap, subst, ◌∙◌, arith, rules, to_z-of_z}
use Rattle.std.proofs.lemmas.Result.{MatchResult-weaker, err_from_is_err_and}
use Rattle.json_query.specs.Query.{index_selector}
use Rattle.json_query.specs.Reading.{ClassAt}
use Rattle.json_query.specs.TextStates.{after_integer, after_selector, before_end, index_or_start, outcome, with_selector}
use Rattle.json_query.proofs.TextReading.{skips_index}
use Rattle.json_query.proofs.TextParts.{index_alone, index_colon_read}
use Rattle.json_query.proofs.parse.read_index_or_slice.Goals as goal

pub returns-in_err-index-clause-read : goal.returns-in_err-index-clause-read
returns-in_err-index-clause-read c = λ o.
    let p = err_from_is_err_and c.from_residual.result c.from_residual.ensures.1 in
    rw (p.1, p.2) (c.in_err-index.ensures.read index_or_start o)

pub returns-in-Colon-clause-read : goal.returns-in-Colon-clause-read
returns-in-Colon-clause-read c = λ o.
    let i = c.in_ok-index.index in
    let end = c.skip_blank-end.result.now in
    let fits : SFits w64 i = search rules in
    let colon = subst (λ k. ClassAt k end c.split_class-class.result.1.now) c.in-Colon.is c.split_class-class.ensures in
    let first = c.in_ok-index.ensures.read index_or_start o
    ∙ c.skip_blank-end.ensures.skipped (after_integer index_or_start o i) (skips_index o i)
    ∙ index_colon_read o i end c.split_class-class.result.1.now colon
    ∙ ap (λ i. outcome (before_end (Some i) o) c.split_class-class.result.1.now) (sym (to_z-of_z fits)) in
    MatchResult-weaker c.read_slice.result (c.read_slice.ensures.read o) (λ r e. first ∙ e) (λ f e. first ∙ e)

pub returns-in_default : goal.returns-in_default
returns-in_default c =
    let i = c.in_ok-index.index in
    let end = c.skip_blank-end.result.now in
    let fits : SFits w64 i = search rules in
    record {
      read = λ o. c.in_ok-index.ensures.read index_or_start o
          ∙ c.skip_blank-end.ensures.skipped (after_integer index_or_start o i) (skips_index o i)
          ∙ index_alone o i c.split_class-class.result.0 end c.split_class-class.result.1.now c.split_class-class.ensures c.in_default.not-Colon c.skip_blank-end.ensures.all
          ∙ ap (λ i. outcome (after_selector (with_selector o (index_selector i))) end) (sym (to_z-of_z fits));
      within = omega (arith, c.in_ok-index.ensures.within, c.skip_blank-end.ensures.within);
    }
