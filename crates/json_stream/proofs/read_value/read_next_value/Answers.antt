use Rattle.std.proofs.Common.{◌≡◌, ◌∙◌, ℕ, ◌≤◌, List, true, length, refl, sym, ap, subst}
use Rattle.std.specs.Prelude.{option_copied}
use Rattle.json_io.specs.declared.error.Error.{Error}
use Rattle.json_io.specs.Positions.{place_at}
use Rattle.json_data.specs.Reading.{gives, refuses}
use Rattle.json_tokens.specs.Refusals.{is_refusal}
use Rattle.json_stream.specs.Streams.{parser_at, input_state, in_input, PlaceIsWithin, TakesNextValue, NextValueFails}
use Rattle.json_stream.proofs.Values.{reads_from, takes_value, boundary_after, met, met_within, gave_up, tree_fails, comes_next, place_within, within_same}
use Rattle.json_stream.proofs.read_value.read_next_value.Goals as goal

pub returns-in-Ok : goal.returns-in-Ok
returns-in-Ok g c =
    let f = g.T.DeserializeFrom.from_tree in
    let s = c.tokens_at-tokens in
    let b = c.args.text.now in
    let i = c.args.at.now in
    let l = c.args.lossy in
    let o = option_copied c.args.repaired in
    let j = c.index in
    let r = c.in-Ok.ensures.ok in
    let e = reads_from b l i s.result c.deserialize.new.tokens s.ensures.text s.ensures.mode s.ensures.start r.takes.moves.input in
    let v : TakesNextValue f (input_state b l o i) (gives (g.T.DeserializeFrom.datum c.in-Ok.value)) (input_state b l o j.result) =
    takes_value f b l o i j.result s.result c.deserialize.new.tokens r.tree _ e c.utf8.text s.ensures.fresh.taken r.takes j.ensures.read j.ensures.same j.ensures.order r.answer in
    record { ok = v; place = c.in-Ok.ensures.place; err = tt; boundary = boundary_after f b l o i j.result _ c.requires.boundary v }

pub at_input_place-requires : goal.at_input_place-requires
at_input_place-requires g c =
    let s = c.tokens_at-tokens in
    let b = c.args.text.now in
    let i = c.args.at.now in
    let l = c.args.lossy in
    let m = c.deserialize.new.tokens in
    let x = c.in-Err.error in
    let u = c.in-Err.ensures.err.gave_up (sym c.is_refusal.ensures ∙ c.if-not-is_refusal.true) in
    let n = met b l i m x (reads_from b l i s.result m s.ensures.text s.ensures.mode s.ensures.start u.input) u.cause c.failure-failure.ensures.cause in
    within_same c.args.repaired b x.place c.requires.same (met_within b l i x c.requires.boundary.0 n)

pub at_input_place-requires-in-Err : goal.at_input_place-requires-in-Err
at_input_place-requires-in-Err g c =
    let b = c.args.text.now in
    let k = c.ws_run-begin.result in
    let p = c.place_of-place in
    let at : p.result ≡ place_at b k = p.ensures ∙ ap (λ (y : List ℕ). place_at y k) c.as_bytes-in-Err.ensures.value in
    let w : k ≤ length b = subst (λ (y : List ℕ). k ≤ length y) c.as_bytes.ensures.value c.ws_run-begin.ensures.ends.within in
    within_same c.args.repaired b p.result c.requires.same (subst (PlaceIsWithin b) (sym at) (place_within b k w))

pub returns-then-not-is_refusal-clause-err : goal.returns-then-not-is_refusal-clause-err
returns-then-not-is_refusal-clause-err g c =
    let f = g.T.DeserializeFrom.from_tree in
    let s = c.tokens_at-tokens in
    let b = c.args.text.now in
    let i = c.args.at.now in
    let l = c.args.lossy in
    let o = option_copied c.args.repaired in
    let m = c.deserialize.new.tokens in
    let x = c.in-Err.error in
    let u = c.in-Err.ensures.err.gave_up (sym c.is_refusal.ensures ∙ c.if-not-is_refusal.true) in
    let n = met b l i m x (reads_from b l i s.result m s.ensures.text s.ensures.mode s.ensures.start u.input) u.cause c.failure-failure.ensures.cause in
    subst (λ (y : Error). NextValueFails f (input_state b l o i) y.code y.place (input_state b l o i)) (sym c.at_input_place.ensures) (gave_up f b l o i x c.utf8.text n)

pub returns-else-not-is_refusal : goal.returns-else-not-is_refusal
returns-else-not-is_refusal g c =
    let f = g.T.DeserializeFrom.from_tree in
    let s = c.tokens_at-tokens in
    let b = c.args.text.now in
    let i = c.args.at.now in
    let l = c.args.lossy in
    let o = option_copied c.args.repaired in
    let j = c.index-in-Err in
    let k = c.ws_run-begin in
    let x = c.in-Err.error in
    let p = c.place_of-place in
    let q : is_refusal x.code ≡ true = sym c.is_refusal.ensures ∙ c.if-not-is_refusal.false in
    let r = (c.in-Err.ensures.err.refused q).1 in
    let e = reads_from b l i s.result c.deserialize.new.tokens s.ensures.text s.ensures.mode s.ensures.start r.takes.moves.input in
    let v : TakesNextValue f (input_state b l o i) (refuses x.code) (input_state b l o j.result) =
    takes_value f b l o i j.result s.result c.deserialize.new.tokens r.tree _ e c.utf8.text s.ensures.fresh.taken r.takes j.ensures.read j.ensures.same j.ensures.order r.answer in
    let n = comes_next (parser_at (input_state b l o i)) c.as_bytes.result.now i k.result c.as_bytes.ensures.value refl (k.ensures.ends.order, k.ensures.ends.within) k.ensures.ends.run k.ensures.ends.stop in
    let at : p.result ≡ place_at b k.result = p.ensures ∙ ap (λ (y : List ℕ). place_at y k.result) c.as_bytes-in-Err.ensures.value in
    let t = tree_fails f (input_state b l o i) x.code (in_input o p.result) (input_state b l o j.result) q (record { takes = v; begins = k.result; next = n; place = ap (in_input o) at }) in
    record {
      ok = tt;
      place = tt;
      err = subst (λ (y : Error). NextValueFails f (input_state b l o i) y.code y.place (input_state b l o j.result)) (sym c.at_input_place-in-Err.ensures) t;
      boundary = boundary_after f b l o i j.result _ c.requires.boundary v;
    }
