use Rattle.std.proofs.Common.{◌≢◌, [], map, sym, ap, ◌∙◌, rules}
use Rattle.std.proofs.lemmas.List.{map_push}
use Rattle.std.proofs.lemmas.Result.{err_from_is_err_and}
use Rattle.json_query.specs.Models.{segment_of}
use Rattle.json_query.specs.TextStates.{after_blank, after_segment, outcome}
use Rattle.json_query.proofs.TextParts.{segment_comes, skips_blank, stops_alike}
use Rattle.json_query.proofs.parse.read_segments.Goals as goal

pub returns-in_err-segment : goal.returns-in_err-segment
returns-in_err-segment c =
    let qs = map segment_of c.segments.segments.items in
    let some : c.segments.rest.now ≢ [] = λ e. let h = rw e at c.segments-test.ensures in cc in
    let first = c.segments.invariant.read ∙ segment_comes qs c.segments.rest.now some ∙ c.skip_blank.ensures.skipped (after_blank qs) (skips_blank qs) in
    let p = err_from_is_err_and c.from_residual.result c.from_residual.ensures.1 in
    rw (p.1, p.2) (stops_alike (after_segment []) (after_blank qs) c.args.text.now c.skip_blank.result.now _ first (c.in_err-segment.ensures.read qs))

pub segments-preserved : goal.segments-preserved
segments-preserved c =
    let qs = map segment_of c.segments.segments.items in
    let some : c.segments.rest.now ≢ [] = λ e. let h = rw e at c.segments-test.ensures in cc in
    let pushed = ap (map segment_of) c.in_ok-push.ensures.items ∙ map_push segment_of c.segments.segments.items c.in_ok-segment.segment in
    record {
      text = search rules;
      read = c.segments.invariant.read
          ∙ segment_comes qs c.segments.rest.now some
          ∙ c.skip_blank.ensures.skipped (after_blank qs) (skips_blank qs)
          ∙ c.in_ok-segment.ensures.read qs
          ∙ ap (λ ss. outcome (after_segment ss) c.in_ok-segment.after.now) (sym pushed);
    }
