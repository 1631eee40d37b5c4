use Rattle.std.proofs.Common.{refl}
use Rattle.json_tokens.proofs.KindTests.{is_kind-ne, no_end-kind}
use Rattle.json_data.proofs.Lists.{still_array}
use Rattle.json_data.proofs.TupleReading.{end_alone, end_peeked, no_element, too_long, reads_from, stops_from}
use Rattle.json_data.proofs.tuples.UnitReadElements.read.Goals as goal

pub returns-then-ends-clause-ok : goal.returns-then-ends-clause-ok
returns-then-ends-clause-ok g c = no_element (end_alone (c.if-ends.ensures.ended refl))

pub returns-then-ne-clause-err : goal.returns-then-ne-clause-err
returns-then-ne-clause-err g c =
    let k = c.if-ends.ensures.kept refl in
    stops_from k (too_long c.error_without_place.ensures (still_array g.T.Tokens.state k c.requires) c.in_ok-peek.ensures.ok c.in_ok-peek.ensures.none (no_end-kind _ _ c.ne.ensures c.if-ne.true) c.in_ok-leave.ensures.ok)

pub returns-clause-ok : goal.returns-clause-ok
returns-clause-ok g c =
    reads_from (c.if-ends.ensures.kept refl) (no_element (end_peeked (is_kind-ne _ _ _ c.ne.ensures c.if-ne.false) c.in_ok-peek.ensures.ok c.in_ok-peek.ensures.none c.in_ok-skip_token.ensures.ok.1))
