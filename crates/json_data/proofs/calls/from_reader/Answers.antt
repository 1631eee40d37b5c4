use Rattle.std.proofs.Common.{List, ℕ, inr, subst}
use Rattle.std.proofs.lemmas.Result.{IfErr-weaker}
use Rattle.json_data.specs.Calls.{TypedReadingFails}
use Rattle.json_data.proofs.calls.from_reader.Goals as goal

pub returns-clause-err : goal.returns-clause-err
returns-clause-err g c =
    let f = g.T.DeserializeFrom.from_tree in
    IfErr-weaker c.from_slice.result _ _
    (λ e h. inr (c.read_source.new.room.items, c.in_ok-read_source.ensures.bytes, subst (λ (b : List ℕ). TypedReadingFails 254 f b e.code e.place) c.as_slice.ensures.value h))
    c.from_slice.ensures.err
