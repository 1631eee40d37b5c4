use Rattle.std.proofs.Common.{◌≡◌, ◌∙◌, List, [], ap, sym, subst, rules}
use Rattle.std.specs.BTreeMap.{insert_entry}
use Rattle.json_grammar.specs.Tree.{pairs, no_pairs, pair_and}
use Rattle.json_model.specs.Datum.{rows_datum, Rows}
use Rattle.json_data.specs.Reading.{gives}
use Rattle.json_data.proofs.Pairs.{join_pairs, begun_pairs, ended_pairs, one_key, one_member, stop_key_of, stop_member, in_object_again}
use Rattle.json_data.proofs.Rows.{rows_of, OfText, OfTexts, put-texts, rows-more, rows-stop_key, rows-stop_value, rows-put}
use Rattle.json_data.proofs.Exits.{missed}
use Rattle.json_tokens.proofs.KindTests.{known}
use Rattle.json_data.proofs.maps.read_rows.Goals as goal

pub each-init : goal.each-init
each-init g c =
    let n : c.new-all.result.entries ≡ [] = search rules in (
      no_pairs,
      λ a h. begun_pairs h,
      c.requires,
      ap (λ (es : List (g.row.K.Denot × g.row.V.Denot)). gives (rows_datum (rows_of g.K.FromKey.key_datum g.V.DeserializeFrom.datum es))) (sym n),
      subst (λ (es : List (g.row.K.Denot × g.row.V.Denot)). OfTexts g.K.FromKey.from_text g.K.FromKey.key_datum es) (sym n) tt,
    )

pub returns-in-Err-clause-err : goal.returns-in-Err-clause-err
returns-in-Err-clause-err g c = λ a h.
    let i = c.each.invariant in
    let k = known _ c.in_ok-piece.ensures.name c.in-Some.is in
    let w = one_key (i.1 a h) k.takes in
    let es = rows_of g.K.FromKey.key_datum g.V.DeserializeFrom.datum c.each.all.entries in
    missed (stop_key_of w c.in-Err.ensures.err k.said c.leave_after.ensures.left c.leave_after.ensures.as_was
    (λ t qs h. rows-stop_key g.K.FromKey.from_text g.V.DeserializeFrom.from_tree i.0 k.name t qs c.in-Err.e.code es i.3 h))

pub returns-in-Err-deserialize-clause-err : goal.returns-in-Err-deserialize-clause-err
returns-in-Err-deserialize-clause-err g c = λ a h.
    let i = c.each.invariant in
    let k = known _ c.in_ok-piece.ensures.name c.in-Some.is in
    let w = one_key (i.1 a h) k.takes in
    let es = rows_of g.K.FromKey.key_datum g.V.DeserializeFrom.datum c.each.all.entries in
    missed (stop_member w c.in-Err-deserialize.ensures.err c.leave_after-in-Err-deserialize.ensures.left c.leave_after-in-Err-deserialize.ensures.as_was
    (λ t qs h. rows-stop_value g.K.FromKey.from_text g.V.DeserializeFrom.from_tree i.0 k.name t qs (g.K.FromKey.key_datum c.in-Ok.key) c.in-Err-deserialize.e.code es i.3 (c.in-Ok.ensures.ok k.name k.said) h))

pub each-preserved : goal.each-preserved
each-preserved g c =
    let i = c.each.invariant in
    let k = known _ c.in_ok-piece.ensures.name c.in-Some.is in
    let r = c.in-Ok-deserialize.ensures.ok in
    let kd = g.K.FromKey.key_datum in
    let vd = g.V.DeserializeFrom.datum in
    let old = c.each.all.entries in
    let t : OfText g.K.FromKey.from_text kd c.in-Ok.key = (k.name, c.in-Ok.ensures.ok k.name k.said) in
    let en : c.insert.new.self.entries ≡ insert_entry g.K.Ord.cmp old c.in-Ok.key c.in-Ok-deserialize.item = search rules in (
      join_pairs i.0 (pair_and k.name r.tree no_pairs),
      λ a h. one_member (one_key (i.1 a h) k.takes) r.takes,
      in_object_again _ _ _ k.name i.2 k.takes.moves.expected r.takes.moves.expected,
      rows-more g.K.FromKey.from_text g.V.DeserializeFrom.from_tree i.0 k.name r.tree (kd c.in-Ok.key) (vd c.in-Ok-deserialize.item) (rows_of kd vd old) i.3 (c.in-Ok.ensures.ok k.name k.said) r.answer
          ∙ ap (λ (rs : Rows). gives (rows_datum rs)) (sym (ap (rows_of kd vd) en ∙ rows-put g.K.Ord.cmp g.K.FromKey.from_text kd vd g.met.K.FromKey.orders old c.in-Ok.key c.in-Ok-deserialize.item t i.4)),
      subst (λ (es : List (g.row.K.Denot × g.row.V.Denot)). OfTexts g.K.FromKey.from_text kd es) (sym en) (put-texts g.K.Ord.cmp g.K.FromKey.from_text kd old c.in-Ok.key c.in-Ok-deserialize.item t i.4),
    )

pub returns-in-None-clause-ok : goal.returns-in-None-clause-ok
returns-in-None-clause-ok g c = λ a h.
    let i = c.each.invariant in
    record { tree = pairs i.0; takes = ended_pairs (i.1 a h) (c.in_ok-piece.ensures.end c.in-None.is); answer = i.3; some = λ e. cc }
